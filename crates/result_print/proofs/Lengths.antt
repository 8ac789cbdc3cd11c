-- Lengths of printed fields and lines.
use Rattle.std.proofs.Common.{◌≡◌, ℕ, suc, ◌+◌, ◌<◌, List, [], ◌∷◌, map, length, get_or, refl, ap, arith, length-append}
use Rattle.std.specs.List.{flat_map}
use Prim.Native.Nat.{zero}
use Rattle.ooc_types.specs.declared.value.Value.{Value}
use Rattle.ooc_types.specs.declared.value.Value.TheVariants.{Null, Truth, Number, Day, Text}
use Rattle.ooc_types.specs.declared.schema.SqlType.{SqlType}
use Rattle.ooc_types.specs.Meets.{Meets, HasForm}
use Rattle.result_print.specs.Printed.{joined, quoted, doubled, line_text, IsShort}
use Rattle.result_print.proofs.Joined.{from_first, none}

pub length_quoted : (bytes : List ℕ) → length (quoted bytes) ≡ length (flat_map doubled bytes) + 2
unfolding quoted
length_quoted bytes = omega (arith, length-append (flat_map doubled bytes) (34 ∷ []))

-- each field has a byte behind it: a comma, or at the last one the line feed
pub length_line : {A : Type 0} (f : A → List ℕ) (fields : List A) → (length fields ≡ 0 → ⊥) → length (flat_map (λ v. 44 ∷ f v) fields) ≡ length (line_text (map f fields))
length_line f [] some = absurd (some refl)
length_line f (x ∷ xs) some =
    omega (arith, length-append (f x) (flat_map (λ v. 44 ∷ f v) xs), ap length (from_first f x xs), length-append (joined (map f (x ∷ xs))) (10 ∷ []))

pub length_empty : {A : Type 0} (f : A → List ℕ) → 1 ≡ length (line_text (map f []))
length_empty f = omega (arith, ap length (none f), length-append (joined (map f [])) (10 ∷ []))

short_form : (kind : SqlType) (value : Value) → HasForm 4095 kind value → IsShort value
short_form kind (Text bytes) form = form.1
short_form kind (Number digits scale) form = tt
short_form kind (Truth truth) form = tt
short_form kind (Day day) form = tt
short_form kind Null form = tt

pub all_short : (kinds : List SqlType) (row : List Value) → Meets 4095 kinds row → (k : ℕ) (d : Value) → k < length row → IsShort (get_or row k d)
all_short [] [] meets k d inside = absurd (omega arith)
all_short [] (value ∷ values) meets k d inside = absurd meets
all_short (kind ∷ kinds) [] meets k d inside = absurd (omega arith)
all_short (kind ∷ kinds) (value ∷ values) meets zero d inside = short_form kind value meets.0
all_short (kind ∷ kinds) (value ∷ values) meets (suc k) d inside = all_short kinds values meets.1 k d (omega arith)

pub as_many : (kinds : List SqlType) (row : List Value) → Meets 4095 kinds row → length row ≡ length kinds
as_many [] [] meets = refl
as_many [] (value ∷ values) meets = absurd meets
as_many (kind ∷ kinds) [] meets = absurd meets
as_many (kind ∷ kinds) (value ∷ values) meets = ap suc (as_many kinds values meets.1)
