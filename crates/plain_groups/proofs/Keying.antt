-- Groups of keys, one key more.
use Rattle.std.proofs.Common.{◌≡◌, ℕ, ◌+◌, ◌<◌, List, [], ◌∷◌, ◌++◌, take, get_or, length, map, refl, subst, sym, ap, ◌∙◌, append_assoc, All}
use Rattle.std.specs.Prelude.{flat_map}
use Rattle.bound_tree.specs.declared.select.Aggregate.{Aggregate}
use Rattle.bound_tree.specs.declared.select.Grouping.{Grouping}
use Rattle.sql_expr.specs.declared.fault.ValueFault.{ValueFault}
use Rattle.sql_meaning.specs.Found.{Found, Row}
use Rattle.sql_meaning.specs.Groups.{Keyed, grouped, keyed, keys_of}
use Rattle.sql_meaning.specs.Statements.{aggregation_of, grouping_of, row_value_of}
use Rattle.plain_rows.proofs.Collecting.{flat-next}
use Rattle.plain_groups.specs.Grouped.{groups_of_keys}

-- what holds of all holds of one
pub at-item : {A : Type 0} (P : A → Type 0) (xs : List A) (i : ℕ) (x : A) → All P xs → i < length xs → x ≡ get_or xs i x → P x
at-item P xs i x all within is = subst P (sym is) (all i x within)

-- one item more, behind what was there
pub flat-behind : {A B : Type 0} (f : A → List B) (xs : List A) (i : ℕ) (x : A) (start old new : List B) → i < length xs → x ≡ get_or xs i x
    → old ≡ start ++ flat_map f (take i xs) → new ≡ old ++ f x → new ≡ start ++ flat_map f (take (i + 1) xs)
flat-behind f xs i x start old new within is before e =
    e ∙ ap (λ l. l ++ f x) before ∙ append_assoc start (flat_map f (take i xs)) (f x)
    ∙ ap (λ l. start ++ l) (flat-next f xs i x (flat_map f (take i xs)) (flat_map f (take i xs) ++ f x) within is refl refl)

pub back-empty : {A : Type 0} (xs ys : List A) → xs ++ ys ≡ [] → ys ≡ []
back-empty [] ys is = is
back-empty (x ∷ xs) ys is = cc

abbrev pub keyed_of : List Keyed → List ValueFault → Found Keyed
keyed_of ones noted = record { rows = ones; faults = noted }

-- the groups of all keys are the grouping
pub regrouped : (grouping : Grouping) (rows : List Row) (aggregates : List Aggregate) (ones : List Keyed) (noted : List ValueFault) (keys : List Row) → aggregates ≡ grouping.aggregates
    → keyed_of ones noted ≡ keyed (map row_value_of grouping.keys) rows → keys ≡ keys_of (map row_value_of grouping.keys) ones
    → groups_of_keys (map aggregation_of aggregates) ones noted keys ≡ grouped (grouping_of grouping) rows
regrouped grouping rows aggregates ones noted keys are found is =
    ap (groups_of_keys (map aggregation_of aggregates) ones noted) is
    ∙ ap (λ (a : List Aggregate). groups_of_keys (map aggregation_of a) ones noted (keys_of (map row_value_of grouping.keys) ones)) are
    ∙ ap (λ (f : Found Keyed). groups_of_keys (map aggregation_of grouping.aggregates) f.rows f.faults (keys_of (map row_value_of grouping.keys) f.rows)) found
