-- Rows of the same types: all columns in the strict order are all columns in the order of values.
use Rattle.std.proofs.Common.{◌≡◌, ℕ, List, [], ◌∷◌, refl, ap₂}
use Rattle.std.specs.Ordering.{ordering_then}
use Rattle.std.specs.Cmp.Lexicographic.{slice_cmp}
use Rattle.ooc_types.specs.declared.schema.SqlType.{SqlType}
use Rattle.ooc_types.specs.Meets.{Meets}
use Rattle.ooc_types.specs.Order.{value_cmp}
use Rattle.ooc_types.proofs.Ties.{strict-of-kind}
use Rattle.sql_meaning.specs.Found.{Row}
use Rattle.sql_meaning.specs.Ordered.{columns_cmp}

-- rows that meet the same types
pub columns-of-kinds : (limit : ℕ) (kinds : List SqlType) (x y : Row) → Meets limit kinds x → Meets limit kinds y → columns_cmp x y ≡ slice_cmp value_cmp x y
columns-of-kinds limit [] [] [] p q = refl
columns-of-kinds limit [] (v ∷ x) y p q = absurd p
columns-of-kinds limit [] [] (w ∷ y) p q = absurd q
columns-of-kinds limit (kind ∷ kinds) [] y p q = absurd p
columns-of-kinds limit (kind ∷ kinds) (v ∷ x) [] p q = absurd q
columns-of-kinds limit (kind ∷ kinds) (v ∷ x) (w ∷ y) p q = ap₂ ordering_then (strict-of-kind limit kind v w p.0 q.0) (columns-of-kinds limit kinds x y p.1 q.1)
