use Rattle.std.proofs.Common.{◌≡◌, false, take}
use Rattle.std.specs.List.{list_any}
use Rattle.plan_text.specs.Lines.{is_distinct_count}
use Rattle.plan_text.proofs.lines.has_distinct_count.Given as goal

abbrev pub invariant-loop-aggregate : goal.invariant-loop-aggregate
invariant-loop-aggregate l = list_any is_distinct_count (take l.aggregate-index l.aggregates) ≡ false
