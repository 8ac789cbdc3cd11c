use Rattle.std.proofs.Common.{arith, ◌≡◌, subst, sym, ap, ◌∙◌, Some}
use Rattle.solo_pool.specs.State.{frame_at}
use Rattle.solo_pool.specs.Views.{LiveAt}
use Rattle.solo_pool.specs.declared.page.SoloPage.{SoloPage}
use Rattle.solo_pool.specs.Laws.{live_shown}
use Rattle.solo_pool.proofs.Live.{number_small, pins_used}
use Rattle.solo_pool.proofs.Turns.{one_same}
use Rattle.solo_pool.proofs.solo_tables.SoloTables.pin_page.Goals as goal

pub returns-clause-valid : goal.returns-clause-valid
returns-clause-valid g c = record {
  at = ap (λ (z : SoloPage). z.at) c.pin_of.ensures.page ∙ sym c.pin_of.ensures.at;
  shown = subst (λ z. frame_at c.reach.new.self.entries.items z ≡ Some c.pin_of.result.frame.value) (sym c.pin_of.ensures.at) c.pin_of.ensures.frame;
  used = pins_used c.reach.new.self.entries.items c.reach.new.self.uses.items c.args.page.now.at c.pin_of.result.frame.value c.pin_of.ensures.frame (let k = c.in_ok-reach.ensures.pinned.pins c.args.page.now.at in omega (arith, k, one_same c.args.page.now.at));
  live = subst (λ z. LiveAt g.L.Mark.TicketMark.tells c.reach.new.self.page c.reach.new.self.entries.items z) (sym c.pin_of.ensures.page) (c.in_ok-reach.ensures.lives c.args.page.now c.requires.live);
}

pub returns-clause-shows : goal.returns-clause-shows
returns-clause-shows g c = record {
  under = c.pin_of.ensures.page;
  stands = live_shown g.L.Mark.TicketMark.tells c.reach.new.self.page c.reach.new.self.entries.items c.args.page.now c.pin_of.result.frame.value (c.in_ok-reach.ensures.lives c.args.page.now c.requires.live) c.pin_of.ensures.frame;
  long = c.reach.new.self.sound.full c.args.page.now.at c.pin_of.result.frame.value c.pin_of.ensures.frame ∙ c.in_ok-reach.ensures.firm.page;
  number = number_small c.args.page.now.at c.pin_of.result.frame.value c.reach.new.self.sound c.pin_of.ensures.frame c.reach.new.self.most;
}
