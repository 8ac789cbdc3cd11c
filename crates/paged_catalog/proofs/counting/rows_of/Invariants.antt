use Rattle.std.proofs.Common.{◌≡◌, ◌+◌, ◌≤◌, min, length, drop}
use Rattle.script_says.specs.Catalog.{most_counted}
use Rattle.paged_catalog.specs.Meaning.{sets_rows}
use Rattle.paged_catalog.specs.Stands.{AllFormed}
use Rattle.paged_catalog.proofs.counting.rows_of.Given as goal

abbrev pub invariant-loop-set : goal.invariant-loop-set
invariant-loop-set g l =
    let t = g.P.Pages.terms in
    record {
      so_far : min (l.rows + length (sets_rows t (drop l.set-index l.sets))) most_counted ≡ min (length (sets_rows t l.sets)) most_counted;
      few : l.rows ≤ most_counted;
      formed : AllFormed t (g.P.Pages.view l.pages).page_bytes (drop l.set-index l.sets);
    }
