-- Rows of a table, and the cells that they are kept in.
use Rattle.std.proofs.Common.{◌≡◌, ◌<◌, ℕ, suc, zero, ◌+◌, Bool, true, false, List, [], ◌∷◌, ◌++◌, length, map, set, take, get_or, add-one, refl, sym, ap, subst, ◌∙◌, arith, ℤ, pos}
use Rattle.std.specs.Prelude.{nat_le, if◌then◌else◌, FitsSigned, ◌≤ℤ◌}
use Rattle.std.specs.Int.{w64, w128}
use Rattle.std.proofs.lemmas.Int.{ints}
use Rattle.std.proofs.Math.Seq.{take-suc}
use Rattle.ooc_types.specs.declared.value.Value.{Value}
use Rattle.ooc_types.specs.declared.value.Value.TheVariants.{Null, Truth, Number, Day, Text}
use Rattle.ooc_types.specs.declared.schema.Column.{Column}
use Rattle.ooc_types.specs.declared.schema.SqlType.{SqlType}
use Rattle.ooc_types.specs.declared.schema.SqlType.TheVariants.{Boolean, Integer, BigInt, HugeInt, Decimal, Date, Varchar}
use Rattle.ooc_types.specs.Meets.{AllMeet, HasForm}
use Rattle.row_image.specs.declared.layout.CellKind.TheVariants as cell
use Rattle.row_image.specs.Texts.{NullValue, NumberValue, TextValue}
use Rattle.rebase_pins.specs.Fits.{Fits, RowFits}
use Rattle.row_sets.specs.SetRows.{cell_kind, cell_kinds, number_as, value_as, values_as, row_as, kept_as}
use Rattle.csv_tables.specs.Stored.{kinds_of, stored, stored_row, kept_row, AreOf}

truth-fits : (b : Bool) → (pos 0 ≤ℤ (if b then pos 1 else pos 0)) × ((if b then pos 1 else pos 0) ≤ℤ pos 1)
truth-fits true = (omega (arith, ints), omega (arith, ints))
truth-fits false = (omega (arith, ints), omega (arith, ints))

decimal-fits : (b : Bool) (limit : ℕ) (z : ℤ) → FitsSigned (if b then w64 else w128) z → Fits (if b then cell.Eight else cell.Sixteen) limit (NumberValue z)
decimal-fits true limit z h = h
decimal-fits false limit z h = h

null-fits : (limit : ℕ) (kind : SqlType) → Fits (cell_kind kind) limit NullValue
null-fits limit Boolean = tt
null-fits limit Integer = tt
null-fits limit BigInt = tt
null-fits limit HugeInt = tt
null-fits limit (Decimal width scale) = by (nat_le width 18)
  where
    by : (b : Bool) → Fits (if b then cell.Eight else cell.Sixteen) limit NullValue
    by true = tt
    by false = tt
null-fits limit Date = tt
null-fits limit Varchar = tt

-- a value of a type's form fits its cell
value-fits : (limit : ℕ) (kind : SqlType) (value : Value) → HasForm limit kind value → Fits (cell_kind kind) limit (kept_as value)
value-fits limit kind Null h = null-fits limit kind
value-fits limit kind (Truth b) h = subst (λ k. Fits (cell_kind k) limit (kept_as (Truth b))) (sym h) (truth-fits b)
value-fits limit Boolean (Number digits scale) h = absurd h
value-fits limit Integer (Number digits scale) h = h.0
value-fits limit BigInt (Number digits scale) h = h.0
value-fits limit HugeInt (Number digits scale) h = h.0
value-fits limit (Decimal width places) (Number digits scale) h = decimal-fits (nat_le width 18) limit digits h.0
value-fits limit Date (Number digits scale) h = absurd h
value-fits limit Varchar (Number digits scale) h = absurd h
value-fits limit kind (Day day) h = subst (λ k. Fits (cell_kind k) limit (NumberValue day)) (sym h.0) h.1
value-fits limit kind (Text bytes) h = subst (λ k. Fits (cell_kind k) limit (TextValue bytes)) (sym h.0) h.1

pub row-fits : (limit : ℕ) (kinds : List SqlType) (row : List Value) → AllMeet (HasForm limit) kinds row → RowFits (cell_kinds kinds) limit (map kept_as row)
row-fits limit [] [] h = tt
row-fits limit [] (value ∷ row) h = absurd h
row-fits limit (kind ∷ kinds) [] h = absurd h
row-fits limit (kind ∷ kinds) (value ∷ row) h = (value-fits limit kind value h.0, row-fits limit kinds row h.1)

truth-back : (b : Bool) → number_as Boolean (if b then pos 1 else pos 0) ≡ Truth b
truth-back true = refl
truth-back false = refl

-- and is read back from it
value-back : (limit : ℕ) (kind : SqlType) (value : Value) → HasForm limit kind value → value_as kind (kept_as value) ≡ value
value-back limit kind Null h = refl
value-back limit kind (Truth b) h = ap (λ k. value_as k (kept_as (Truth b))) h ∙ truth-back b
value-back limit Boolean (Number digits scale) h = absurd h
value-back limit Integer (Number digits scale) h = ap (Number digits) (sym h.1)
value-back limit BigInt (Number digits scale) h = ap (Number digits) (sym h.1)
value-back limit HugeInt (Number digits scale) h = ap (Number digits) (sym h.1)
value-back limit (Decimal width places) (Number digits scale) h = ap (Number digits) (sym h.1)
value-back limit Date (Number digits scale) h = absurd h
value-back limit Varchar (Number digits scale) h = absurd h
value-back limit kind (Day day) h = ap (λ k. value_as k (NumberValue day)) h.0
value-back limit kind (Text bytes) h = refl

values-back : (limit : ℕ) (kinds : List SqlType) (row : List Value) → AllMeet (HasForm limit) kinds row → values_as kinds (map kept_as row) ≡ row
values-back limit [] [] h = refl
values-back limit [] (value ∷ row) h = absurd h
values-back limit (kind ∷ kinds) [] h = absurd h
values-back limit (kind ∷ kinds) (value ∷ row) h = let head = value-back limit kind value h.0 in let tail = values-back limit kinds row h.1 in λ i. head i ∷ tail i

row-back : (limit : ℕ) (kinds : List SqlType) (row : List Value) → AllMeet (HasForm limit) kinds row → row_as kinds (kept_row row) ≡ stored_row row
row-back limit kinds row h = ap stored_row (values-back limit kinds row h)

-- the rows of a table are read back as they were stored
pub rows-back : (limit : ℕ) (columns : List Column) (rows : List (List Value)) → AreOf limit columns rows → map (row_as (kinds_of columns)) (map kept_row rows) ≡ stored rows
rows-back limit columns [] h = refl
rows-back limit columns (row ∷ rows) h = let head = row-back limit (kinds_of columns) row h.0.0 in let tail = rows-back limit columns rows h.1 in λ i. head i ∷ tail i

-- a list that is filled from its front
pub set-more : {A : Type 0} (xs : List A) (i : ℕ) (x : A) → i < length xs → take (i + 1) (set xs i x) ≡ take i xs ++ x ∷ []
set-more [] i x h = absurd (omega (arith, h))
set-more (y ∷ ys) zero x h = refl
set-more (y ∷ ys) (suc i) x h = rw add-one (ap (λ l. y ∷ l) (rw add-one at (set-more ys i x (omega (arith, h)))))

pub set-long : {A : Type 0} (xs : List A) (i : ℕ) (x : A) → length (set xs i x) ≡ length xs
set-long [] i x = refl
set-long (y ∷ ys) zero x = refl
set-long (y ∷ ys) (suc i) x = ap suc (set-long ys i x)

pub fill-more : {A : Type 0} (xs ys : List A) (i : ℕ) (x d : A) → i < length xs → i < length ys → x ≡ get_or ys i d → take i xs ≡ take i ys → take (i + 1) (set xs i x) ≡ take (i + 1) ys
fill-more xs ys i x d h k is so_far =
    set-more xs i x h ∙ ap (λ l. l ++ x ∷ []) so_far ∙ ap (λ y. take i ys ++ y ∷ []) is ∙ sym (take-suc ys i d k) ∙ ap (λ n. take n ys) (sym (add-one i))
