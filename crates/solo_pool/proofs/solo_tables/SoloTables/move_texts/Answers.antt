use Rattle.std.proofs.Common.{sym, subst}
use Rattle.row_image.specs.Bytes.{IsPage}
use Rattle.page_body.specs.Shows.{AreBases}
use Rattle.solo_pool.proofs.Moving.{row_resident, row_full, row_accepted, row_moved, row_paid, row_there, row_based}
use Rattle.solo_pool.proofs.solo_tables.SoloTables.move_texts.Goals as goal

pub move_body-requires : goal.move_body-requires
move_body-requires g c = record {
  resident = row_resident g.L.Mark.TicketMark.tells c.args.self.now.page c.args.self.now.held c.args.self.now.entries.items c.args.self.now.places.items c.args.self.now.uses.items c.args.self.now.sound c.args.page.now c.requires.live c.requires.resident c.args.layout.now c.requires.kind c.index_mut.result.now c.index_mut.ensures.value;
  page = subst IsPage (sym (row_full g.L.Mark.TicketMark.tells c.args.self.now.page c.args.self.now.held c.args.self.now.entries.items c.args.self.now.places.items c.args.self.now.uses.items c.args.self.now.sound c.args.page.now c.requires.live c.requires.resident c.args.layout.now c.requires.kind c.index_mut.result.now c.index_mut.ensures.value)) c.args.self.now.page_fits;
  accepted = row_accepted g.L.Mark.TicketMark.tells c.args.self.now.page c.args.self.now.held c.args.self.now.entries.items c.args.self.now.places.items c.args.self.now.uses.items c.args.self.now.sound c.args.page.now c.requires.live c.requires.resident c.args.layout.now c.requires.kind c.index_mut.result.now c.index_mut.ensures.value;
  bases = subst (λ z. AreBases z c.args.bases.now) (sym (row_full g.L.Mark.TicketMark.tells c.args.self.now.page c.args.self.now.held c.args.self.now.entries.items c.args.self.now.places.items c.args.self.now.uses.items c.args.self.now.sound c.args.page.now c.requires.live c.requires.resident c.args.layout.now c.requires.kind c.index_mut.result.now c.index_mut.ensures.value)) c.requires.bases;
}

pub invariant_of-self-clause-sound : goal.invariant_of-self-clause-sound
invariant_of-self-clause-sound g c = (row_moved g.L.Mark.TicketMark.tells c.args.self.now.page c.args.self.now.held c.args.self.now.entries.items c.args.self.now.places.items c.args.self.now.uses.items c.args.self.now.sound c.args.page.now c.requires.live c.requires.resident c.args.layout.now c.requires.kind c.index_mut.result.now c.index_mut.ensures.value c.move_body.new.body c.move_body.ensures.moved).sound

pub invariant_of-self-clause-paid : goal.invariant_of-self-clause-paid
invariant_of-self-clause-paid g c = row_paid g.L.Mark.TicketMark.tells c.args.self.now.page c.args.self.now.held c.args.self.now.entries.items c.args.self.now.places.items c.args.self.now.uses.items c.args.self.now.sound c.args.page.now c.requires.live c.requires.resident c.args.layout.now c.requires.kind c.index_mut.result.now c.index_mut.ensures.value c.move_body.new.body c.move_body.ensures.moved c.args.self.now.sealed c.args.self.now.wrote c.args.self.now.paid

pub returns-clause-moves : goal.returns-clause-moves
returns-clause-moves g c = row_moved g.L.Mark.TicketMark.tells c.args.self.now.page c.args.self.now.held c.args.self.now.entries.items c.args.self.now.places.items c.args.self.now.uses.items c.args.self.now.sound c.args.page.now c.requires.live c.requires.resident c.args.layout.now c.requires.kind c.index_mut.result.now c.index_mut.ensures.value c.move_body.new.body c.move_body.ensures.moved

pub returns-clause-there : goal.returns-clause-there
returns-clause-there g c = row_there g.L.Mark.TicketMark.tells c.args.self.now.page c.args.self.now.held c.args.self.now.entries.items c.args.self.now.places.items c.args.self.now.uses.items c.args.self.now.sound c.args.page.now c.requires.live c.requires.resident c.args.layout.now c.requires.kind c.index_mut.result.now c.index_mut.ensures.value c.move_body.new.body c.move_body.ensures.moved

pub returns-clause-based : goal.returns-clause-based
returns-clause-based g c = row_based g.L.Mark.TicketMark.tells c.args.self.now.page c.args.self.now.held c.args.self.now.entries.items c.args.self.now.places.items c.args.self.now.uses.items c.args.self.now.sound c.args.page.now c.requires.live c.requires.resident c.args.layout.now c.requires.kind c.index_mut.result.now c.index_mut.ensures.value c.move_body.new.body c.move_body.ensures.moved c.args.bases.now c.move_body.ensures.based
