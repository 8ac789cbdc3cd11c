-- Worked rows of the definitions, by computing.
use Rattle.std.proofs.Common.{◌≡◌, ℕ, pos, negsuc, true, List, [], ◌∷◌, refl}
use Rattle.ooc_types.specs.declared.truth.Truth.TheVariants.{Yes, Unknown}
use Rattle.ooc_types.specs.declared.value.Value.{Value}
use Rattle.ooc_types.specs.declared.value.Value.TheVariants.{Null, Number}
use Rattle.ooc_types.specs.Order.{value_cmp, in_units}
use Rattle.sql_meaning.specs.declared.kinds.AggKind.TheVariants.{Count, Sum, Min}
use Rattle.sql_meaning.specs.Found.{Row}
use Rattle.ooc_bags.specs.Firsts.{firsts}
use Rattle.sql_meaning.specs.Ordered.{sorted, row_cmp}
use Rattle.sql_meaning.specs.Aggregates.{state_of, finished}
use Rattle.sql_meaning.specs.Sets.{combined, except_all, intersect_all, union, member}

abbrev n : ℕ → Value
n k = Number (pos k) 0

abbrev one : Value → Row
one v = v ∷ []

abbrev left : List Row
left = one (n 1) ∷ one (n 1) ∷ one (n 2) ∷ one Null ∷ []

abbrev right : List Row
right = one (n 1) ∷ one (n 2) ∷ one (n 2) ∷ one Null ∷ []

distinct_rows : firsts (one (n 1) ∷ one Null ∷ one (n 1) ∷ one Null ∷ []) ≡ (one (n 1) ∷ one Null ∷ [])
distinct_rows = refl

except_rows : combined except_all left right ≡ (one (n 1) ∷ [])
except_rows = refl

intersect_rows : combined intersect_all left right ≡ (one (n 1) ∷ one (n 2) ∷ one Null ∷ [])
intersect_rows = refl

union_rows : combined union left right ≡ (one (n 1) ∷ one (n 2) ∷ one Null ∷ [])
union_rows = refl

descending_rows : sorted (row_cmp (record { place = 0; descending = true } ∷ [])) (one (n 1) ∷ one Null ∷ one (n 3) ∷ one (n 2) ∷ []) ≡ (one (n 3) ∷ one (n 2) ∷ one (n 1) ∷ one Null ∷ [])
unfolding value_cmp in_units
descending_rows = refl

sum_and_counts : (s : Value) → finished Sum 0 (state_of (n 1 ∷ Null ∷ Number (negsuc 4) 0 ∷ [])) ≡ Number (negsuc 3) 0
unfolding value_cmp in_units
sum_and_counts s = refl

counts : finished Count 0 (state_of (n 1 ∷ Null ∷ n 5 ∷ [])) ≡ n 2
unfolding value_cmp in_units
counts = refl

least_value : finished Min 0 (state_of (n 4 ∷ Null ∷ n 2 ∷ n 5 ∷ [])) ≡ n 2
unfolding value_cmp in_units
least_value = refl

sum_of_none : finished Sum 0 (state_of (Null ∷ [])) ≡ Null
sum_of_none = refl

not_in_null : member (n 3) (n 1 ∷ Null ∷ []) ≡ Unknown
unfolding value_cmp in_units
not_in_null = refl

in_values : member (n 1) (Null ∷ n 1 ∷ []) ≡ Yes
unfolding value_cmp in_units
in_values = refl
