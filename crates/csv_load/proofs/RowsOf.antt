-- The row of a record is a row of a table with its columns.
use Rattle.std.proofs.Common.{◌≡◌, ◌≤◌, ◌<◌, ℕ, zero, suc, ◌+◌, ◌^◌, inl, inr, Bool, true, false, Option, Some, None, List, [], ◌∷◌, length, map, refl, sym, subst, ◌∙◌, arith, ℤ, pos, negsuc}
use Rattle.std.specs.Prelude.{Result, Ok, Err, nat_le, nat_lt, if◌then◌else◌, ⊤, FitsSigned, ◌<ℤ◌, ◌≤ℤ◌, ◌+ℤ◌, IsUtf8}
use Rattle.std.specs.Int.{w32, w64, w128}
use Rattle.std.specs.Str.{is_utf8, bytes_eq}
use Rattle.std.proofs.lemmas.Str.{IsUtf8-from_is_utf8}
use Rattle.std.proofs.lemmas.Int.{ints}
use Rattle.std.proofs.lemmas.Bool.{and_parts}
use Rattle.std.proofs.lemmas.Bool.Decides.{leb_tells}
use Rattle.ooc_types.specs.declared.value.Value.{Value}
use Rattle.ooc_types.specs.declared.value.Value.TheVariants.{Null, Truth, Number, Day, Text}
use Rattle.ooc_types.specs.declared.schema.Column.{Column}
use Rattle.ooc_types.specs.declared.schema.SqlType.{SqlType}
use Rattle.ooc_types.specs.declared.schema.SqlType.TheVariants.{Boolean, Integer, BigInt, HugeInt, Decimal, Date, Varchar}
use Rattle.ooc_types.specs.declared.refusal.RefusalKind.{RefusalKind}
use Rattle.ooc_types.specs.Meets.{AllMeet, HasForm, IsInRange, IsValueOf, IsDay, IsOf}
use Rattle.ooc_decimal.specs.Numeric.{IsNumeric}
use Rattle.csv_load.specs.declared.fault.Reason.{Reason}
use Rattle.csv_load.specs.Values.{field_value, typed_value, text_value, value_or_bad, is_column_type, are_typed}
use Rattle.csv_load.specs.Rows.{Reading, with_value, column_values, row_of_fields, record_reason, row_of}
use Rattle.csv_load.proofs.Ranges.{range_tells}
use Rattle.ooc_types.specs.declared.refusal.RefusalKind.TheVariants.{TextTooLong, BadUtf8, NullRefused, FieldCount}
use Rattle.ooc_types.specs.Meets.{first_day, last_day}
use Rattle.ooc_decimal.specs.Numeral.{spelled, trimmed}
use Rattle.date_values.specs.DateText.{day_text}
use Rattle.csv_records.specs.Fields.{fields}
use Rattle.csv_load.specs.Words.{truth_of}
use Rattle.csv_load.specs.Numbers.{is_in_range, number_of}
use Rattle.csv_load.specs.Dates.{day_after, day_within, day_of}
use Rattle.csv_load.specs.Rows.{reason}
use Rattle.csv_load.proofs.Days.{day_in_range}
use Rattle.csv_load.proofs.Given.{row-read, reason-row}
use Rattle.csv_load.proofs.Columns.{column-type, fields-same, fields-count}
use Rattle.std.proofs.lemmas.Bool.{ltb-false}
use Rattle.std.proofs.lemmas.Bool.Decides.{eqb_tells}
use Rattle.std.proofs.Math.Nat.{pow-le-pow_right}

-- a value of a column: it has the form of its type, and is one that the column may hold
abbrev pub Holds : ℕ → Column → Value → Type 0
Holds limit column value = HasForm limit column.kind value × IsValueOf column value

-- what a value that isn't NULL is in a column of a type
abbrev OfKind : SqlType → Value → Type 0
OfKind kind Null = ⊥
OfKind kind (Truth truth) = ⊤
OfKind kind (Number digits scale) = IsInRange kind digits
OfKind kind (Day day) = IsDay day
OfKind kind (Text bytes) = IsUtf8 bytes

of-column : (column : Column) (value : Value) → OfKind column.kind value → IsValueOf column value
of-column column Null h = absurd h
of-column column (Truth truth) h = tt
of-column column (Number digits scale) h = h
of-column column (Day day) h = h
of-column column (Text bytes) h = h

value-known : {A : Type 0} (make : A → Value) (o : Option A) (value : Value) (P : Value → Type 0) → ((a : A) → o ≡ Some a → P (make a)) → value_or_bad make o ≡ Ok value → P value
value-known make None value P h e = cc e
value-known make (Some a) value P h e = let same : make a ≡ value = cc e in subst P same (h a refl)

number-known : (kind : SqlType) → IsNumeric kind → (field : List ℕ) (z : ℤ) → number_of kind field ≡ Some z → IsInRange kind z
unfolding number_of
number-known kind numeric field z e = by (spelled kind field) e
  where
    by : (o : Option ℤ) → ◌≡◌ {A = Option ℤ} (elim o [ None ↦ None | Some n ↦ if is_in_range kind n then Some n else None ]) (Some z) → IsInRange kind z
    by None e = cc e
    by (Some n) e = elim (range_tells kind numeric n) [
      | inl t ↦ let some : ◌≡◌ {A = Option ℤ} (Some n) (Some z) = rw t.0 at e in let same : n ≡ z = cc some in subst (IsInRange kind) same t.1
      | inr f ↦ let none : ◌≡◌ {A = Option ℤ} None (Some z) = rw f.0 at e in cc none
    ]

-- a number of a decimal of at most 18 digits fits 64 bits, and one of at most 38 digits 128
fits-narrow : (p : ℕ) → p ≤ 10 ^ 18 → (z : ℤ) → z <ℤ pos p → pos 0 <ℤ (z +ℤ pos p) → FitsSigned w64 z
fits-narrow p low (pos n) a b = let k : n < p = omega (arith, ints) in record { sfits = let l : p ≤ 10 ^ 18 = low in omega arith }
fits-narrow p low (negsuc n) a b = let k : n + 1 < p = omega (arith, ints) in record { sfits = let l : p ≤ 10 ^ 18 = low in omega arith }

fits-wide : (p : ℕ) → p ≤ 10 ^ 38 → (z : ℤ) → z <ℤ pos p → pos 0 <ℤ (z +ℤ pos p) → FitsSigned w128 z
fits-wide p low (pos n) a b = let k : n < p = omega (arith, ints) in record { sfits = let l : p ≤ 10 ^ 38 = low in omega arith }
fits-wide p low (negsuc n) a b = let k : n + 1 < p = omega (arith, ints) in record { sfits = let l : p ≤ 10 ^ 38 = low in omega arith }

fits-cell : (width : ℕ) → width ≤ 38 → (z : ℤ) → z <ℤ pos (10 ^ width) → pos 0 <ℤ (z +ℤ pos (10 ^ width)) → FitsSigned (if nat_le width 18 then w64 else w128) z
fits-cell width most z high low = elim (leb_tells width 18) [
  | inl narrow ↦ rw narrow.0 (fits-narrow (10 ^ width) (pow-le-pow_right {n = 10} (omega arith) narrow.1) z high low)
  | inr wide ↦ rw wide.0 (fits-wide (10 ^ width) (pow-le-pow_right {n = 10} (omega arith) most) z high low)
]

day-known : (n : ℕ) (bytes : List ℕ) (day : ℤ) → n ≤ 3652059 → day_within n bytes ≡ Some day → IsDay day
unfolding day_within
day-known zero bytes day most e = cc e
day-known (suc n) bytes day most e = by (bytes_eq (day_text (day_after n)) bytes) e (day-known n bytes day (omega arith))
  where
    by : (b : Bool) → ◌≡◌ {A = Option ℤ} (if b then Some (day_after n) else day_within n bytes) (Some day) → (day_within n bytes ≡ Some day → IsDay day) → IsDay day
    by true e more = let same : day_after n ≡ day = cc e in subst IsDay same (day_in_range n (omega arith))
    by false e more = more e

day-fits : (day : ℤ) → IsDay day → FitsSigned w32 day
day-fits (pos k) h = let top : pos k ≤ℤ last_day = h.1 in record { sfits = let l : k ≤ 2932896 = omega (arith, ints) in omega arith }
day-fits (negsuc k) h = let low : first_day ≤ℤ negsuc k = h.0 in record { sfits = let l : k ≤ 719161 = omega (arith, ints) in omega arith }

abbrev HoldsIn : ℕ → SqlType → Value → Type 0
HoldsIn limit kind value = HasForm limit kind value × OfKind kind value

text-of : (limit : ℕ) (field : List ℕ) (value : Value) → text_value limit field ≡ Ok value → HoldsIn limit Varchar value
text-of limit field value e = by (is_utf8 field) refl e
  where
    fits : (b : Bool) → nat_lt limit (length field) ≡ b → is_utf8 field ≡ true → ◌≡◌ {A = Result Value RefusalKind} (if b then Err TextTooLong else Ok (Text field)) (Ok value) → HoldsIn limit Varchar value
    fits true long is e = cc e
    fits false long is e = let same : Text field ≡ value = cc e in subst (HoldsIn limit Varchar) same ((refl, ltb-false limit (length field) long), IsUtf8-from_is_utf8 field is)

    by : (b : Bool) → is_utf8 field ≡ b → ◌≡◌ {A = Result Value RefusalKind} (if b then (if nat_lt limit (length field) then Err TextTooLong else Ok (Text field)) else Err BadUtf8) (Ok value) → HoldsIn limit Varchar value
    by true is e = fits (nat_lt limit (length field)) refl is e
    by false is e = cc e

typed-of : (limit : ℕ) (kind : SqlType) (field : List ℕ) (value : Value) → is_column_type kind ≡ true → typed_value limit kind field ≡ Ok value → HoldsIn limit kind value
unfolding typed_value day_of
typed-of limit Boolean field value typed e = value-known Truth (truth_of (trimmed field)) value (HoldsIn limit Boolean) (λ b is. (refl, tt)) e
typed-of limit Integer field value typed e = value-known (λ n. Number n 0) (number_of Integer field) value (HoldsIn limit Integer) (λ n is. let r = number-known Integer tt field n is in ((r, refl), r)) e
typed-of limit BigInt field value typed e = value-known (λ n. Number n 0) (number_of BigInt field) value (HoldsIn limit BigInt) (λ n is. let r = number-known BigInt tt field n is in ((r, refl), r)) e
typed-of limit HugeInt field value typed e = value-known (λ n. Number n 0) (number_of HugeInt field) value (HoldsIn limit HugeInt) (λ n is. let r = number-known HugeInt tt field n is in ((r, refl), r)) e
typed-of limit (Decimal width scale) field value typed e =
    let numeric = column-type (Decimal width scale) typed in
    value-known (λ n. Number n scale) (number_of (Decimal width scale) field) value (HoldsIn limit (Decimal width scale))
    (λ n is. let r = number-known (Decimal width scale) numeric field n is in ((fits-cell width numeric.1 n r.0 r.1, refl), r)) e
typed-of limit Date field value typed e = value-known Day (day_within 3652059 (trimmed field)) value (HoldsIn limit Date) (λ d is. let r = day-known 3652059 (trimmed field) d (omega arith) is in ((refl, day-fits d r), r)) e
typed-of limit Varchar field value typed e = text-of limit field value e

field-of : (limit : ℕ) (null : List ℕ) (column : Column) (field : List ℕ) (value : Value) → is_column_type column.kind ≡ true → field_value limit null column field ≡ Ok value → Holds limit column value
unfolding field_value
field-of limit null column field value typed e = by (bytes_eq field null) e
  where
    null-of : (b : Bool) → column.nullable ≡ b → ◌≡◌ {A = Result Value RefusalKind} (if b then Ok Null else Err NullRefused) (Ok value) → Holds limit column value
    null-of true is e = let same : Null ≡ value = cc e in subst (Holds limit column) same (tt, is)
    null-of false is e = cc e

    by : (b : Bool) → ◌≡◌ {A = Result Value RefusalKind} (if b then (if column.nullable then Ok Null else Err NullRefused) else typed_value limit column.kind field) (Ok value) → Holds limit column value
    by true e = null-of column.nullable refl e
    by false e = let t = typed-of limit column.kind field value typed e in (t.0, of-column column value t.1)

-- all columns
abbrev AllHold : ℕ → List Column → List Value → Type 0
AllHold limit columns row = AllMeet (HasForm limit) (map (λ column. column.kind) columns) row × AllMeet IsValueOf columns row

columns-of : (r : Reading) (columns : List Column) (n : ℕ) (parts : List (List ℕ)) (row : List Value) → are_typed columns ≡ true → length parts ≡ length columns → column_values r columns n parts ≡ Ok row → AllHold r.limit columns row
unfolding column_values
columns-of r [] n parts row typed long e = let same : [] ≡ row = cc e in subst (AllHold r.limit []) same (tt, tt)
columns-of r (column ∷ columns) n [] row typed long e = absurd (omega (arith, long))
columns-of r (column ∷ columns) n (field ∷ parts) row typed long e =
    let both = and_parts (is_column_type column.kind) (are_typed columns) typed in
    by (field_value r.limit r.null column field) refl (λ rest is. columns-of r columns (n + 1) parts rest both.1 (omega (arith, long)) is) both.0 e
  where
    more : (value : Value) (o : Result (List Value) Reason) → Holds r.limit column value → ((rest : List Value) → o ≡ Ok rest → AllHold r.limit columns rest) → with_value value o ≡ Ok row → AllHold r.limit (column ∷ columns) row
    more value (Err why) holds rest e = cc e
    more value (Ok values) holds rest e = let all = rest values refl in let same : value ∷ values ≡ row = cc e in subst (AllHold r.limit (column ∷ columns)) same ((holds.0, all.0), (holds.1, all.1))

    by : (o : Result Value RefusalKind) → field_value r.limit r.null column field ≡ o → ((rest : List Value) → column_values r columns (n + 1) parts ≡ Ok rest → AllHold r.limit columns rest) → is_column_type column.kind ≡ true
        → ◌≡◌ {A = Result (List Value) Reason} (elim o [ Err kind ↦ Err (reason n kind) | Ok value ↦ with_value value (column_values r columns (n + 1) parts) ]) (Ok row) → AllHold r.limit (column ∷ columns) row
    by (Err kind) is rest typed e = cc e
    by (Ok value) is rest typed e = more value (column_values r columns (n + 1) parts) (field-of r.limit r.null column field value typed is) rest e

fields-of : (r : Reading) (parts : List (List ℕ)) (row : List Value) → are_typed r.columns ≡ true → row_of_fields r parts ≡ Ok row → AllHold r.limit r.columns row
fields-of r parts row typed e = elim (eqb_tells (length parts) (length r.columns)) [
  | inl same ↦ columns-of r r.columns 1 parts row typed same.1 (sym (fields-same r parts same.1) ∙ e)
  | inr other ↦ let wrong : ◌≡◌ {A = Result (List Value) Reason} (Err (reason 0 FieldCount)) (Ok row) = sym (fields-count r parts other.1) ∙ e in cc wrong
]

-- each row of a record is of the columns
pub row-is-of : (r : Reading) (bytes : List ℕ) (row : List Value) → are_typed r.columns ≡ true → row_of r bytes ≡ Ok row → IsOf r.limit r.columns row
row-is-of r bytes row typed e = by (record_reason r.delimiter bytes) refl
  where
    by : (o : Option Reason) → record_reason r.delimiter bytes ≡ o → IsOf r.limit r.columns row
    by None is = fields-of r (fields r.delimiter bytes) row typed (sym (row-read r bytes is) ∙ e)
    by (Some why) is = let wrong : ◌≡◌ {A = Result (List Value) Reason} (Err why) (Ok row) = sym (reason-row r bytes why is) ∙ e in cc wrong
