use Rattle.solo_pool.proofs.Found.{shown_here, shown_not, some_within, pin_less_as, pins_some}
use Rattle.solo_pool.proofs.solo_tables.SoloTables.release.Goals as goal
use Rattle.solo_pool.specs.State.{frame_at}

pub invariant_of-self-clause-sound : goal.invariant_of-self-clause-sound
invariant_of-self-clause-sound g c = (pin_less_as g.L.Mark.TicketMark.tells c.args.at c.args.self.now.page c.args.self.now.held c.args.self.now.entries.items c.args.self.now.places.items c.args.self.now.uses.items c.args.self.now.sound c.in-Resident.frame (shown_here c.args.self.now.entries.items c.args.at c.index.result.now c.in-Resident.frame c.in-Resident.ticket (some_within c.args.self.now.entries.items c.args.at (pins_some c.args.self.now.uses.items (frame_at c.args.self.now.entries.items c.args.at) c.requires.pinned)) c.index.ensures c.in-Resident.is) c.index_mut.result.now c.index_mut.ensures.value c.requires.pinned).sound

pub unreachable-requires : goal.unreachable-requires
unreachable-requires g c = shown_not c.args.self.now.entries.items c.args.at c.index.result.now (some_within c.args.self.now.entries.items c.args.at (pins_some c.args.self.now.uses.items (frame_at c.args.self.now.entries.items c.args.at) c.requires.pinned)) c.index.ensures c.in_default.not-Resident (pins_some c.args.self.now.uses.items (frame_at c.args.self.now.entries.items c.args.at) c.requires.pinned)

pub returns-clause-unpins : goal.returns-clause-unpins
returns-clause-unpins g c = pin_less_as g.L.Mark.TicketMark.tells c.args.at c.args.self.now.page c.args.self.now.held c.args.self.now.entries.items c.args.self.now.places.items c.args.self.now.uses.items c.args.self.now.sound c.in-Resident.frame (shown_here c.args.self.now.entries.items c.args.at c.index.result.now c.in-Resident.frame c.in-Resident.ticket (some_within c.args.self.now.entries.items c.args.at (pins_some c.args.self.now.uses.items (frame_at c.args.self.now.entries.items c.args.at) c.requires.pinned)) c.index.ensures c.in-Resident.is) c.index_mut.result.now c.index_mut.ensures.value c.requires.pinned
