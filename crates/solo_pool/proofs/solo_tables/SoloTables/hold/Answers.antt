use Rattle.std.proofs.Common.{rules}
use Rattle.solo_pool.proofs.Found.{shown_here, shown_not, some_within, pin_more_as, frame_within, count_small}
use Rattle.solo_pool.proofs.solo_tables.SoloTables.hold.Goals as goal

pub invariant_of-self-clause-sound : goal.invariant_of-self-clause-sound
invariant_of-self-clause-sound g c = (pin_more_as g.L.Mark.TicketMark.tells c.args.at c.args.self.now.page c.args.self.now.held c.args.self.now.entries.items c.args.self.now.places.items c.args.self.now.uses.items c.args.self.now.sound c.in-Resident.frame (shown_here c.args.self.now.entries.items c.args.at c.index.result.now c.in-Resident.frame c.in-Resident.ticket (some_within c.args.self.now.entries.items c.args.at c.requires.resident) c.index.ensures c.in-Resident.is) c.index_mut.result.now c.index_mut.ensures.value).sound

pub unreachable-requires : goal.unreachable-requires
unreachable-requires g c = shown_not c.args.self.now.entries.items c.args.at c.index.result.now (some_within c.args.self.now.entries.items c.args.at c.requires.resident) c.index.ensures c.in_default.not-Resident c.requires.resident

pub index_mut-requires : goal.index_mut-requires
index_mut-requires g c = let k = frame_within c.args.at c.args.self.now.sound (shown_here c.args.self.now.entries.items c.args.at c.index.result.now c.in-Resident.frame c.in-Resident.ticket (some_within c.args.self.now.entries.items c.args.at c.requires.resident) c.index.ensures c.in-Resident.is) in search rules

pub overflow_add-index_mut : goal.overflow_add-index_mut
overflow_add-index_mut g c = let small = count_small g.L.Mark.TicketMark.tells c.args.at c.args.self.now.page c.args.self.now.held c.args.self.now.entries.items c.args.self.now.places.items c.args.self.now.uses.items c.args.self.now.sound c.in-Resident.frame (shown_here c.args.self.now.entries.items c.args.at c.index.result.now c.in-Resident.frame c.in-Resident.ticket (some_within c.args.self.now.entries.items c.args.at c.requires.resident) c.index.ensures c.in-Resident.is) c.index_mut.result.now c.index_mut.ensures.value c.requires.room c.args.self.now.most in search rules

pub returns-clause-pins : goal.returns-clause-pins
returns-clause-pins g c = pin_more_as g.L.Mark.TicketMark.tells c.args.at c.args.self.now.page c.args.self.now.held c.args.self.now.entries.items c.args.self.now.places.items c.args.self.now.uses.items c.args.self.now.sound c.in-Resident.frame (shown_here c.args.self.now.entries.items c.args.at c.index.result.now c.in-Resident.frame c.in-Resident.ticket (some_within c.args.self.now.entries.items c.args.at c.requires.resident) c.index.ensures c.in-Resident.is) c.index_mut.result.now c.index_mut.ensures.value
