-- The tests of values and rows are true exactly at equal ones.
use Rattle.std.proofs.Common.{◌≡◌, true, false, List, refl}
use Rattle.std.specs.Prelude.{nat_eq}
use Rattle.std.specs.Bool.{Decides}
use Rattle.std.specs.Ordering.{int_eq}
use Rattle.std.proofs.lemmas.Bool.Decides.{Decides-eqb, Decides-int_eq, Decides-and, Decides-like}
use Rattle.std.proofs.lemmas.Slice.Eq.{slice_eq-Decides, bytes_eq-Decides}
use Rattle.ooc_types.specs.declared.value.Value.{Value}
use Rattle.ooc_types.specs.declared.value.Value.TheVariants.{Null, Truth, Number, Day, Text}
use Rattle.ooc_bags.specs.Rows.{value_eq, row_eq}

pub value_eq-Decides : (a b : Value) → Decides (value_eq a b) (a ≡ b)
value_eq-Decides Null Null = (λ e. refl, λ e. refl)
value_eq-Decides (Truth true) (Truth true) = (λ e. refl, λ e. refl)
value_eq-Decides (Truth false) (Truth false) = (λ e. refl, λ e. refl)
value_eq-Decides (Number digits scale) (Number others place) =
    Decides-like _ (λ h. let d = h.0 in let s = h.1 in cc) (λ e. (cc, (cc)))
    (Decides-and (int_eq digits others) (nat_eq scale place) (Decides-int_eq digits others) (Decides-eqb scale place))
value_eq-Decides (Day day) (Day other) = Decides-like _ (λ e. cc) (λ e. cc) (Decides-int_eq day other)
value_eq-Decides (Text bytes) (Text others) = Decides-like _ (λ e. cc) (λ e. cc) (bytes_eq-Decides bytes others)
value_eq-Decides a b = (λ e. cc, λ e. cc)

pub row_eq-Decides : (xs ys : List Value) → Decides (row_eq xs ys) (xs ≡ ys)
row_eq-Decides xs ys = slice_eq-Decides value_eq-Decides xs ys (row_eq xs ys) refl
