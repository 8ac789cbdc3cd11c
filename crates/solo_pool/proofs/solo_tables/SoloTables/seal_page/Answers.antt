use Rattle.std.proofs.Common.{◌∙◌, subst, sym, List}
use Rattle.solo_pool.specs.declared.entry.Entry.{Entry}
use Rattle.solo_pool.specs.Views.{LiveAt}
use Rattle.solo_pool.proofs.solo_tables.SoloTables.seal_page.Goals as goal

pub returns-clause-new : goal.returns-clause-new
returns-clause-new g c = record {
  live = subst (λ z. LiveAt g.L.Mark.TicketMark.tells z c.seal_new.new.self.entries.items c.seal_new.result) (sym c.seal_new.ensures.firm.page) c.seal_new.ensures.live;
  differs = λ ends other v same. c.seal_new.ensures.differs other
      (subst (λ z. LiveAt g.L.Mark.TicketMark.tells z c.reserve.new.self.items other) (sym c.next_vacant.ensures.firm.page)
      (subst (λ (z : List Entry). LiveAt g.L.Mark.TicketMark.tells c.args.self.now.page z other) (sym (c.reserve.ensures.items ∙ c.next_vacant.ensures.same.entries)) v)) same;
  unpinned = λ ends. c.seal_new.ensures.unpinned;
}
