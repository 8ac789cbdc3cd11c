use Rattle.std.proofs.Common.{rules, arith, ◌≡◌, ◌<◌, ◌≤◌, length, subst, sym, ◌∙◌, ap}
use Rattle.row_image.specs.Rules.{IsAccepted}
use Rattle.std.specs.Prelude.{IfSome, IsTrue}
use Rattle.page_body.specs.declared.body.PageBody.TheVariants.{Resting}
use Rattle.solo_pool.specs.declared.entry.Entry.{Entry}
use Rattle.solo_pool.specs.State.{opens_at, shown_in}
use Rattle.solo_pool.proofs.Turns.{one_same}
use Rattle.solo_pool.proofs.Live.{live_within, live_entry, entries_same, ticket_tells, ticket_fits, ticket_accepted, never_else, put_stands, reads_later}
use Rattle.page_body.proofs.Causes.{load_fails}
use Rattle.solo_pool.proofs.solo_tables.SoloTables.load.Goals as goal

pub index-requires : goal.index-requires
index-requires g c = let k = (live_within g.L.Mark.TicketMark.tells c.args.self.now.page c.take_frame.new.self.entries.items c.args.page.now (c.in_ok-frame.ensures.opens.lives c.args.page.now c.requires.live)) in search rules

pub index-requires-2 : goal.index-requires-2
index-requires-2 g c = let k = (live_within g.L.Mark.TicketMark.tells c.args.self.now.page c.take_frame.new.self.entries.items c.args.page.now (c.in_ok-frame.ensures.opens.lives c.args.page.now c.requires.live)) in search rules

pub load-loaded-requires-clause-tells : goal.load-loaded-requires-clause-tells
load-loaded-requires-clause-tells g c = ticket_tells g.L.Mark.TicketMark.tells c.args.self.now.page c.args.self.now.page_fits.least c.args.page.now c.index-2.result.now (live_entry g.L.Mark.TicketMark.tells c.args.self.now.page c.take_frame.new.self.entries.items c.args.page.now c.index-2.result.now (c.in_ok-frame.ensures.opens.lives c.args.page.now c.requires.live) c.index-2.ensures) c.in-Resting.ticket c.in-Resting.is

pub load-loaded-requires-clause-fits : goal.load-loaded-requires-clause-fits
load-loaded-requires-clause-fits g c = ticket_fits g.L.Mark.TicketMark.tells c.args.self.now.page c.args.self.now.page_fits.least c.args.page.now c.index-2.result.now (live_entry g.L.Mark.TicketMark.tells c.args.self.now.page c.take_frame.new.self.entries.items c.args.page.now c.index-2.result.now (c.in_ok-frame.ensures.opens.lives c.args.page.now c.requires.live) c.index-2.ensures) c.in-Resting.ticket c.in-Resting.is (length c.in_ok-frame.frame.bytes.items) c.in_ok-frame.ensures.full

pub load-loaded-requires-clause-sound : goal.load-loaded-requires-clause-sound
load-loaded-requires-clause-sound g c = subst (λ (z : Entry). IsTrue g.L.Mark.TicketMark.tells → IfSome (c.in-Resting.ticket.kept) (IsAccepted z.kind)) (entries_same c.take_frame.new.self.entries.items c.args.page.now.at c.index-2.result.now c.index.result.now (live_within g.L.Mark.TicketMark.tells c.args.self.now.page c.take_frame.new.self.entries.items c.args.page.now (c.in_ok-frame.ensures.opens.lives c.args.page.now c.requires.live)) c.index-2.ensures c.index.ensures) (ticket_accepted g.L.Mark.TicketMark.tells c.args.self.now.page c.args.self.now.page_fits.least c.args.page.now c.index-2.result.now (live_entry g.L.Mark.TicketMark.tells c.args.self.now.page c.take_frame.new.self.entries.items c.args.page.now c.index-2.result.now (c.in_ok-frame.ensures.opens.lives c.args.page.now c.requires.live) c.index-2.ensures) c.in-Resting.ticket c.in-Resting.is)

pub unreachable-requires : goal.unreachable-requires
unreachable-requires g c = never_else g.L.Mark.TicketMark.tells c.args.self.now.page c.take_frame.new.self.entries.items c.args.page.now c.index-2.result.now (c.in_ok-frame.ensures.opens.lives c.args.page.now c.requires.live) c.index-2.ensures (ap shown_in (c.in_ok-frame.ensures.others c.args.page.now.at c.requires.rests) ∙ c.requires.rests) c.in_default.not-Resting

pub put_page-requires-clause-within : goal.put_page-requires-clause-within
put_page-requires-clause-within g c = (live_within g.L.Mark.TicketMark.tells c.args.self.now.page c.take_frame.new.self.entries.items c.args.page.now (c.in_ok-frame.ensures.opens.lives c.args.page.now c.requires.live))

pub put_page-requires-clause-own : goal.put_page-requires-clause-own
put_page-requires-clause-own g c = let o = c.in_ok-frame.ensures.opens.opens c.in_ok-frame.frame.number in let k : 0 < opens_at c.take_frame.new.self.places.items c.in_ok-frame.frame.number = omega (arith, o, one_same c.in_ok-frame.frame.number) in subst (λ z. 0 < opens_at c.take_frame.new.self.places.items z) (sym c.load-loaded.ensures.number) k

pub put_page-requires-clause-stands : goal.put_page-requires-clause-stands
put_page-requires-clause-stands g c = put_stands g.L.Mark.TicketMark.tells c.take_frame.new.self.entries.items c.args.page.now.at c.index.result.now c.load-loaded.new.frame c.in-Resting.ticket (live_within g.L.Mark.TicketMark.tells c.args.self.now.page c.take_frame.new.self.entries.items c.args.page.now (c.in_ok-frame.ensures.opens.lives c.args.page.now c.requires.live)) c.index.ensures (subst (λ (z : Entry). z.body ≡ Resting c.in-Resting.ticket) (entries_same c.take_frame.new.self.entries.items c.args.page.now.at c.index-2.result.now c.index.result.now (live_within g.L.Mark.TicketMark.tells c.args.self.now.page c.take_frame.new.self.entries.items c.args.page.now (c.in_ok-frame.ensures.opens.lives c.args.page.now c.requires.live)) c.index-2.ensures c.index.ensures) c.in-Resting.is) c.in-Ok.ensures.stands

pub give-requires-clause-own : goal.give-requires-clause-own
give-requires-clause-own g c = let o = c.in_ok-frame.ensures.opens.opens c.in_ok-frame.frame.number in let k : 0 < opens_at c.take_frame.new.self.places.items c.in_ok-frame.frame.number = omega (arith, o, one_same c.in_ok-frame.frame.number) in subst (λ z. 0 < opens_at c.take_frame.new.self.places.items z) (sym c.load-loaded.ensures.number) k

pub returns-in-Err-clause-cause : goal.returns-in-Err-clause-cause
returns-in-Err-clause-cause g c = let v = (live_entry g.L.Mark.TicketMark.tells c.args.self.now.page c.take_frame.new.self.entries.items c.args.page.now c.index.result.now (c.in_ok-frame.ensures.opens.lives c.args.page.now c.requires.live) c.index.ensures) in
    let a = c.in_ok-frame.ensures.counts.faults in let b : g.L.SpillLane.faults c.load-loaded.new.lane ≤ g.L.SpillLane.faults c.load-loaded.new.lane = omega arith in
    reads_later g.L.Mark.TicketMark.tells c.args.page.now.seal.value.kind c.index.result.now.kind _ _ _ _ _ _ c.in-Err.fault v.kind c.in_ok-frame.ensures.full a b (load_fails g.L.Mark.TicketMark.tells c.index.result.now.kind _ _ _ c.in-Err.fault c.in-Err.ensures.cause)
