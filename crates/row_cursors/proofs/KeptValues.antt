-- Rows of SQL values and their cells.
use Rattle.std.proofs.Common.{◌≡◌, ℕ, ◌≤ℤ◌, pos, Bool, true, false, cond, leb, List, [], ◌∷◌, length, map, ℤ, refl, sym, ap, subst, arith}
use Rattle.std.specs.Int.{w64, w128}
use Rattle.std.specs.Int.RustNames.{FitsSigned}
use Rattle.std.proofs.lemmas.Int.{ints}
use Rattle.ooc_types.specs.Meets.{HasForm, IsNumberOf, Meets}
use Rattle.ooc_types.specs.declared.value.Value.{Value}
use Rattle.ooc_types.specs.declared.value.Value.TheVariants.{Null, Truth, Number, Day, Text}
use Rattle.ooc_types.specs.declared.schema.SqlType.{SqlType}
use Rattle.ooc_types.specs.declared.schema.SqlType.TheVariants.{Boolean, Integer, BigInt, HugeInt, Decimal, Date, Varchar}
use Rattle.row_image.specs.declared.layout.CellKind.TheVariants as cell
use Rattle.row_image.specs.Texts.{CellValue, NullValue, NumberValue, TextValue}
use Rattle.rebase_pins.specs.Fits.{Fits, RowFits}
use Rattle.row_sets.specs.SetRows.{cell_kind, cell_kinds, number_as, value_as, values_as, kept_as}
use Rattle.row_cursors.specs.DayCells.{HasDay, HaveDays}

-- what a value is kept as is read as that value
kept_number : (kind : SqlType) (z : ℤ) (scale : ℕ) → IsNumberOf kind z scale → number_as kind z ≡ Number z scale
kept_number Boolean z scale h = absurd h
kept_number Integer z scale h = ap (Number z) (sym h.1)
kept_number BigInt z scale h = ap (Number z) (sym h.1)
kept_number HugeInt z scale h = ap (Number z) (sym h.1)
kept_number (Decimal width places) z scale h = ap (Number z) (sym h.1)
kept_number Date z scale h = absurd h
kept_number Varchar z scale h = absurd h

kept_one : (limit : ℕ) (kind : SqlType) (value : Value) → HasForm limit kind value → value_as kind (kept_as value) ≡ value
kept_one limit kind Null h = refl
kept_one limit kind (Truth true) h = ap (λ k. number_as k (pos 1)) h
kept_one limit kind (Truth false) h = ap (λ k. number_as k (pos 0)) h
kept_one limit kind (Number z scale) h = kept_number kind z scale h
kept_one limit kind (Day day) h = ap (λ k. number_as k day) h.0
kept_one limit kind (Text text) h = refl

pub kept_back : (limit : ℕ) (kinds : List SqlType) (row : List Value) → Meets limit kinds row → values_as kinds (map kept_as row) ≡ row
kept_back limit [] [] h = refl
kept_back limit [] (value ∷ row) h = absurd h
kept_back limit (kind ∷ kinds) [] h = absurd h
kept_back limit (kind ∷ kinds) (value ∷ row) h = let one = kept_one limit kind value h.0 in let all = kept_back limit kinds row h.1 in λ i. one i ∷ all i

-- a number of a decimal's cell
decimal_fits : (b : Bool) (limit : ℕ) (z : ℤ) → FitsSigned (cond b w64 w128) z → Fits (cond b cell.Eight cell.Sixteen) limit (NumberValue z)
decimal_fits true limit z h = h
decimal_fits false limit z h = h

fits_decimal : (b : Bool) (limit : ℕ) (z : ℤ) → Fits (cond b cell.Eight cell.Sixteen) limit (NumberValue z) → FitsSigned (cond b w64 w128) z
fits_decimal true limit z h = h
fits_decimal false limit z h = h

no_text : (b : Bool) (limit : ℕ) (text : List ℕ) → Fits (cond b cell.Eight cell.Sixteen) limit (TextValue text) → ⊥
no_text true limit text h = h
no_text false limit text h = h

-- what a value is kept as fits its column
number_fits : (limit : ℕ) (kind : SqlType) (z : ℤ) (scale : ℕ) → IsNumberOf kind z scale → Fits (cell_kind kind) limit (NumberValue z)
number_fits limit Boolean z scale h = absurd h
number_fits limit Integer z scale h = h.0
number_fits limit BigInt z scale h = h.0
number_fits limit HugeInt z scale h = h.0
number_fits limit (Decimal width places) z scale h = decimal_fits (leb width 18) limit z h.0
number_fits limit Date z scale h = absurd h
number_fits limit Varchar z scale h = absurd h

kept_fits_one : (limit : ℕ) (kind : SqlType) (value : Value) → HasForm limit kind value → Fits (cell_kind kind) limit (kept_as value)
kept_fits_one limit kind Null h = tt
kept_fits_one limit kind (Truth true) h = subst (λ k. Fits (cell_kind k) limit (NumberValue (pos 1))) (sym h) ((let low : pos 0 ≤ℤ pos 1 = omega (arith, ints) in low), (let high : pos 1 ≤ℤ pos 1 = omega (arith, ints) in high))
kept_fits_one limit kind (Truth false) h = subst (λ k. Fits (cell_kind k) limit (NumberValue (pos 0))) (sym h) ((let low : pos 0 ≤ℤ pos 0 = omega (arith, ints) in low), (let high : pos 0 ≤ℤ pos 1 = omega (arith, ints) in high))
kept_fits_one limit kind (Number z scale) h = number_fits limit kind z scale h
kept_fits_one limit kind (Day day) h = subst (λ k. Fits (cell_kind k) limit (NumberValue day)) (sym h.0) h.1
kept_fits_one limit kind (Text text) h = subst (λ k. Fits (cell_kind k) limit (TextValue text)) (sym h.0) h.1

pub kept_fits : (limit : ℕ) (kinds : List SqlType) (row : List Value) → Meets limit kinds row → RowFits (cell_kinds kinds) limit (map kept_as row)
kept_fits limit [] [] h = tt
kept_fits limit [] (value ∷ row) h = absurd h
kept_fits limit (kind ∷ kinds) [] h = absurd h
kept_fits limit (kind ∷ kinds) (value ∷ row) h = (kept_fits_one limit kind value h.0, kept_fits limit kinds row h.1)

pub meets_long : (limit : ℕ) (kinds : List SqlType) (row : List Value) → Meets limit kinds row → length row ≡ length kinds
meets_long limit [] [] h = refl
meets_long limit [] (value ∷ row) h = absurd h
meets_long limit (kind ∷ kinds) [] h = absurd h
meets_long limit (kind ∷ kinds) (value ∷ row) h = let all = meets_long limit kinds row h.1 in omega (arith, all)

-- what fits a column has the form of its type
number_form : (limit : ℕ) (kind : SqlType) (z : ℤ) → Fits (cell_kind kind) limit (NumberValue z) → HasForm limit kind (number_as kind z)
number_form limit Boolean z h = refl
number_form limit Integer z h = (h, refl)
number_form limit BigInt z h = (h, refl)
number_form limit HugeInt z h = (h, refl)
number_form limit (Decimal width places) z h = (fits_decimal (leb width 18) limit z h, refl)
number_form limit Date z h = (refl, h)
number_form limit Varchar z h = absurd h

text_form : (limit : ℕ) (kind : SqlType) (text : List ℕ) → Fits (cell_kind kind) limit (TextValue text) → HasForm limit kind (Text text)
text_form limit Boolean text h = absurd h
text_form limit Integer text h = absurd h
text_form limit BigInt text h = absurd h
text_form limit HugeInt text h = absurd h
text_form limit (Decimal width places) text h = absurd (no_text (leb width 18) limit text h)
text_form limit Date text h = absurd h
text_form limit Varchar text h = (refl, h)

form_of : (limit : ℕ) (kind : SqlType) (value : CellValue) → Fits (cell_kind kind) limit value → HasForm limit kind (value_as kind value)
form_of limit kind NullValue h = tt
form_of limit kind (NumberValue z) h = number_form limit kind z h
form_of limit kind (TextValue text) h = text_form limit kind text h

pub fits_meet : (limit : ℕ) (kinds : List SqlType) (values : List CellValue) → RowFits (cell_kinds kinds) limit values → Meets limit kinds (values_as kinds values)
fits_meet limit [] [] h = tt
fits_meet limit [] (value ∷ values) h = absurd h
fits_meet limit (kind ∷ kinds) [] h = absurd h
fits_meet limit (kind ∷ kinds) (value ∷ values) h = (form_of limit kind value h.0, fits_meet limit kinds values h.1)

-- and a number in a column of dates is that of a day
day_of : (limit : ℕ) (kind : SqlType) (value : CellValue) → Fits (cell_kind kind) limit value → HasDay kind value
day_of limit kind NullValue h = tt
day_of limit kind (NumberValue z) h = λ date. subst (λ k. Fits (cell_kind k) limit (NumberValue z)) date h
day_of limit kind (TextValue text) h = tt

pub fits_days : (limit : ℕ) (kinds : List SqlType) (values : List CellValue) → RowFits (cell_kinds kinds) limit values → HaveDays kinds values
fits_days limit [] values h = tt
fits_days limit (kind ∷ kinds) [] h = absurd h
fits_days limit (kind ∷ kinds) (value ∷ values) h = (day_of limit kind value h.0, fits_days limit kinds values h.1)
