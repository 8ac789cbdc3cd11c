use Rattle.std.proofs.Common.{◌+◌, List, map, drop, subst, sym, ap, ◌∙◌}
use Rattle.sql_meaning.specs.Found.{and_then}
use Rattle.sql_meaning.specs.From.{from_behind}
use Rattle.plain_rows.specs.declared.source.Source.{Source}
use Rattle.plain_rows.specs.Answers.{found_in}
use Rattle.plain_rows.specs.Froms.{AreBehind, source_in}
use Rattle.plain_rows.proofs.Collecting.{drop-next}
use Rattle.plain_rows.proofs.Joining.{first-ready, next-behind, next-joined}
use Rattle.plain_rows.proofs.source.from_rows.Goals as goal

pub join_behind-requires : goal.join_behind-requires
join_behind-requires c =
    let rest = drop (c.loop-source.source-index + 1) c.args.sources.now in
    let rows = c.loop-source.answer.rows.items in
    first-ready rows c.source-item.result rest
    (subst (AreBehind rows) (drop-next c.args.sources.now c.loop-source.source-index c.source-item.result c.loop-source-test.true c.source-item.is) c.loop-source.invariant.fits)

pub loop-source-preserved : goal.loop-source-preserved
loop-source-preserved c =
    let rest = drop (c.loop-source.source-index + 1) c.args.sources.now in
    let old = c.loop-source.answer in
    let new = c.in_ok-answer-2.answer in
    let source = c.source-item.result in
    let here = drop-next c.args.sources.now c.loop-source.source-index source c.loop-source-test.true c.source-item.is in
    record {
      is = next-joined (found_in old) (found_in new) (source_in source) (map source_in rest) c.in_ok-answer-2.ensures
          ∙ ap (λ (sources : List Source). and_then (found_in old) (from_behind (map source_in sources))) (sym here) ∙ c.loop-source.invariant.is;
      fits = next-behind old new source rest c.in_ok-answer-2.ensures (subst (AreBehind old.rows.items) here c.loop-source.invariant.fits);
    }
