-- The first and the last of some columns.
use Rattle.std.specs.Prelude.{ℕ, min, max, List, [], ◌∷◌, Option, Some, None}
use Rattle.sql_plan.specs.declared.span.Span.{Span}

abbrev pub wider : Option Span → Option Span → Option Span
wider None b = b
wider (Some a) None = Some a
wider (Some a) (Some b) = Some (record { first = min a.first b.first; last = max a.last b.last })

abbrev pub span_of : List ℕ → Option Span
span_of [] = None
span_of (place ∷ places) = wider (Some (record { first = place; last = place })) (span_of places)
