use Rattle.std.proofs.Common.{◌≡◌, ◌++◌, drop}
use Rattle.paged_catalog.specs.Counting.{counts_with}
use Rattle.paged_catalog.proofs.counting.counts.Given as goal

abbrev pub invariant-loop-place : goal.invariant-loop-place
invariant-loop-place g l =
    let t = g.P.Pages.terms in
    l.counts.items ++ counts_with t (drop l.place l.catalog.tables.items) (drop l.place l.catalog.rows.items) ≡ counts_with t l.catalog.tables.items l.catalog.rows.items
