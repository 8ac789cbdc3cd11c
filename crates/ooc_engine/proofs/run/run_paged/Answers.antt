use Rattle.std.proofs.Common.{◌≡◌, ◌∙◌, ◌<◌, ◌-◌, ◌^◌, ℕ, ap, arith, refl, rules, subst, sym, true}
use Rattle.run_settings.specs.declared.status.Status.TheVariants.{OutOfMemory}
use Rattle.statement_run.specs.Running.{run_closing}
use Rattle.script_says.proofs.SoFar.{Appends-none}
use Rattle.script_says.proofs.LastLines.{last_line, grown_nothing, memory_not_done}
use Rattle.solo_pool.specs.View.{held_view, lane_under}
use Rattle.ooc_engine.proofs.Paying.{not_done, paid}
use Rattle.ooc_engine.proofs.Statements.{at_page, none_said}
use Rattle.ooc_engine.proofs.run.run_paged.Goals as goal

pub returns-in-Ok-clause-says : goal.returns-in-Ok-clause-says
returns-in-Ok-clause-says g c tells =
    at_page (g.F.Files.holds c.args.files.now) (g.K.Sink.written c.args.out.now) (g.K.Sink.written c.run_over.new.out) c.args.script.now c.args.statements.now c.run_over.result
    _ c.args.settings.now.page (ap (λ tables. tables.page) c.over-pages.ensures.tables ∙ c.in-Ok.ensures.opened.page_bytes') (c.run_over.ensures.says tells)

pub returns-in-Err-clause-says : goal.returns-in-Err-clause-says
returns-in-Err-clause-says g c tells =
    none_said (g.F.Files.holds c.args.files.now) (g.K.Sink.written c.args.out.now) (g.K.Sink.written c.end.new.out) c.args.script.now c.args.statements.now c.end.result c.args.settings.now.page c.end.ensures.line

pub returns-in-Err-clause-last : goal.returns-in-Err-clause-last
returns-in-Err-clause-last g c = last_line run_closing _ (g.K.Sink.written c.args.out.now) _ OutOfMemory c.end.result memory_not_done (grown_nothing _ _ (Appends-none (g.K.Sink.written c.args.out.now))) c.end.ensures.line

pub returns-in-Ok-clause-bound : goal.returns-in-Ok-clause-bound
returns-in-Ok-clause-bound g c tells done below' =
    let same : g.L.SpillLane.writes (lane_under c.run_over.new.pages) ≡ g.L.SpillLane.writes c.lane-1.given.0 = search rules in
    let below = subst (λ (n : ℕ). n < 2 ^ 64 - 1) (sym same) below' in
    let tables = c.over-pages.ensures.tables in
    let none = ap (λ t. t.wrote) tables ∙ c.in-Ok.ensures.opened.wrote in
    let grant = ap (λ t. (held_view true t).grant) tables ∙ c.in-Ok.ensures.opened.grant in
    let old = ap g.L.SpillLane.writes c.over-pages.ensures.lane in
    let least = c.run_over.ensures.changes.counted.least below in
    paid (g.F.Files.holds c.args.files.now) (g.K.Sink.written c.args.out.now) (g.K.Sink.written c.run_over.new.out) c.args.script.now c.args.statements.now c.args.settings.now _ _ _ _ _
    (ap (λ t. t.page) tables ∙ c.in-Ok.ensures.opened.page_bytes') grant (omega (arith, least, none, old, same))
    (c.run_over.ensures.bound tells refl done (omega (arith, least, none, below)))

pub returns-in-Err-clause-bound : goal.returns-in-Err-clause-bound
returns-in-Err-clause-bound g c tells done below = absurd (not_done (g.K.Sink.written c.args.out.now) (g.K.Sink.written c.end.new.out) OutOfMemory c.end.result memory_not_done c.end.ensures.line done)
