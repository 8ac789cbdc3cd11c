use Rattle.std.proofs.Common.{◌≡◌, map, drop}
use Rattle.std.specs.Prelude.{nat_lt}
use Rattle.std.specs.List.{list_any}
use Rattle.sql_meaning.specs.Groups.{most_rows, rows_counted}
use Rattle.sql_meaning.specs.Statements.{aggregation_of}
use Rattle.plain_groups.proofs.noted.any_counts_too_many.Given as goal

abbrev pub invariant-loop-aggregate : goal.invariant-loop-aggregate
invariant-loop-aggregate l =
    list_any (λ aggregate. nat_lt most_rows (rows_counted l.rows aggregate)) (map aggregation_of (drop l.aggregate-index l.aggregates))
    ≡ list_any (λ aggregate. nat_lt most_rows (rows_counted l.rows aggregate)) (map aggregation_of l.aggregates)
