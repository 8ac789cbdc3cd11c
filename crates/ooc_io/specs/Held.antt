-- Files by their names.
use Rattle.std.specs.Prelude.{ℕ, List}
use Rattle.std.specs.Ordering.{nat_cmp}
use Rattle.std.specs.Cmp.Lexicographic.{slice_cmp}
use Rattle.std.specs.FinMap.{FinMap}

-- the bytes under each name
abbrev pub Held : Type 0
Held = FinMap (slice_cmp nat_cmp) (List ℕ)
