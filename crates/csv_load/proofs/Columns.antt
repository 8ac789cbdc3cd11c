-- Column by column.
use Rattle.std.proofs.Common.{◌≡◌, ◌≢◌, ◌≤◌, ◌<◌, ℕ, zero, suc, ◌+◌, ◌++◌, ◌==◌, inl, inr, Bool, true, false, Some, None, List, [], ◌∷◌, take, drop, set, length, map, get_or, refl, sym, ap, ◌∙◌, arith, append_assoc, add-one, drop-cons}
use Rattle.std.proofs.lemmas.List.{append-nil, drop_all, map-set, length-map}
use Rattle.std.proofs.lemmas.Bool.{eq-eqb, ne_eqb, leb-true, and_parts}
use Rattle.std.proofs.lemmas.Bool.Decides.{eqb_tells}
use Rattle.std.specs.Prelude.{Result, Ok, Err}
use Rattle.csv.specs.Records.{field_at}
use Rattle.ooc_types.specs.declared.value.Value.{Value}
use Rattle.ooc_types.specs.declared.schema.Column.{Column}
use Rattle.ooc_types.specs.declared.schema.SqlType.{SqlType}
use Rattle.ooc_types.specs.declared.schema.SqlType.TheVariants.{Boolean, Integer, BigInt, HugeInt, Decimal, Date, Varchar}
use Rattle.ooc_types.specs.declared.refusal.RefusalKind.{RefusalKind}
use Rattle.ooc_types.specs.declared.refusal.RefusalKind.TheVariants.{FieldCount}
use Rattle.csv_load.specs.declared.fault.Reason.{Reason}
use Rattle.csv_load.specs.declared.field_read.FieldRead.{FieldRead}
use Rattle.csv_load.specs.FieldReads.{value_in}
use Rattle.csv_load.specs.Reasons.{reason_at}
use Rattle.csv_load.specs.Values.{field_value, IsColumnType, is_column_type, are_typed}
use Rattle.csv_load.specs.Rows.{Reading, reason, with_value, column_values, row_of_fields}

-- values in front of those that are meant
abbrev pub onto_values : List Value → Result (List Value) Reason → Result (List Value) Reason
onto_values before (Err why) = Err why
onto_values before (Ok values) = Ok (before ++ values)

onto-with : (before : List Value) (value : Value) (r : Result (List Value) Reason) → onto_values before (with_value value r) ≡ onto_values (before ++ value ∷ []) r
onto-with before value (Ok values) = ap Ok (sym (append_assoc before (value ∷ []) values))
onto-with before value (Err why) = refl

pub onto-none : (before : List Value) (r : Result (List Value) Reason) → before ≡ [] → r ≡ onto_values before r
onto-none before (Ok values) none = rw none refl
onto-none before (Err why) none = refl

-- one more column that takes its field
pub columns-step : (r : Reading) (columns : List Column) (i : ℕ) (column : Column) (before after : List Value) (value : Value) (field : List ℕ) (parts : List (List ℕ)) (meant : Result (List Value) Reason)
    → drop i columns ≡ column ∷ drop (i + 1) columns → field_value r.limit r.null column field ≡ Ok value → after ≡ before ++ value ∷ []
    → meant ≡ onto_values before (column_values r (drop i columns) (i + 1) (field ∷ parts))
    → meant ≡ onto_values after (column_values r (drop (i + 1) columns) (i + 1 + 1) parts)
unfolding column_values
columns-step r columns i column before after value field parts meant at e now h =
    h ∙ ap (λ cs. onto_values before (column_values r cs (i + 1) (field ∷ parts))) at
    ∙ rw (e, column_values) (onto-with before value (column_values r (drop (i + 1) columns) (i + 1 + 1) parts))
    ∙ ap (λ vs. onto_values vs (column_values r (drop (i + 1) columns) (i + 1 + 1) parts)) (sym now)

-- a column that doesn't take its field
pub columns-bad : (r : Reading) (columns : List Column) (i : ℕ) (column : Column) (before : List Value) (kind : RefusalKind) (field : List ℕ) (parts : List (List ℕ)) (meant : Result (List Value) Reason)
    → drop i columns ≡ column ∷ drop (i + 1) columns → field_value r.limit r.null column field ≡ Err kind
    → meant ≡ onto_values before (column_values r (drop i columns) (i + 1) (field ∷ parts)) → meant ≡ Err (reason (i + 1) kind)
unfolding column_values
columns-bad r columns i column before kind field parts meant at e h =
    h ∙ ap (λ cs. onto_values before (column_values r cs (i + 1) (field ∷ parts))) at ∙ rw (e, column_values) refl

-- each column took its field
pub columns-end : (r : Reading) (columns : List Column) (i : ℕ) (before : List Value) (parts : List (List ℕ)) (meant : Result (List Value) Reason) → length columns ≤ i
    → meant ≡ onto_values before (column_values r (drop i columns) (i + 1) parts) → meant ≡ Ok before
unfolding column_values
columns-end r columns i before parts meant h e = e ∙ rw (drop_all i columns h) (ap Ok (append-nil before))

pub fields-count : (r : Reading) (parts : List (List ℕ)) → length parts ≢ length r.columns → row_of_fields r parts ≡ Err (reason 0 FieldCount)
unfolding row_of_fields
fields-count r parts h = rw (ne_eqb (length parts) (length r.columns) h) refl

pub fields-same : (r : Reading) (parts : List (List ℕ)) → length parts ≡ length r.columns → row_of_fields r parts ≡ column_values r r.columns 1 parts
unfolding row_of_fields
fields-same r parts h = rw (eq-eqb (length parts) (length r.columns) h) refl

pub column-at : (columns : List Column) (i : ℕ) (column : Column) → i < length columns → column ≡ get_or columns i column → drop i columns ≡ column ∷ drop (i + 1) columns
column-at columns i column h e = drop-cons columns i column h ∙ ap (λ n. get_or columns i column ∷ drop n columns) (sym (add-one i)) ∙ ap (λ (c : Column). c ∷ drop (i + 1) columns) (sym e)

-- the values before a place and the one that was put there
pub values-more : (values : List Value) (i : ℕ) (value : Value) → i < length values → take (i + 1) (set values i value) ≡ take i values ++ value ∷ []
values-more [] i value h = absurd (omega arith)
values-more (v ∷ vs) zero value h = refl
values-more (v ∷ vs) (suc i) value h = rw add-one (ap (λ l. v ∷ l) (rw add-one at (values-more vs i value (omega arith))))

pub length-values : (values : List Value) (i : ℕ) (value : Value) → length (set values i value) ≡ length values
length-values [] i value = refl
length-values (v ∷ vs) zero value = refl
length-values (v ∷ vs) (suc i) value = ap suc (length-values vs i value)

pub column-type : (kind : SqlType) → is_column_type kind ≡ true → IsColumnType kind
column-type Boolean h = tt
column-type Integer h = tt
column-type BigInt h = tt
column-type HugeInt h = tt
column-type (Decimal width scale) h =
    let low = and_parts _ _ h in
    let high = and_parts _ _ low.1 in
    (leb-true 1 width low.0, leb-true width 38 high.0, leb-true scale width high.1)
column-type Date h = tt
column-type Varchar h = tt

pub type-at : (columns : List Column) (i : ℕ) (column : Column) → are_typed columns ≡ true → i < length columns → column ≡ get_or columns i column → IsColumnType column.kind
type-at [] i column typed h e = absurd (omega arith)
type-at (c ∷ cs) zero column typed h e = column-type column.kind (ap (λ (d : Column). is_column_type d.kind) e ∙ (and_parts _ _ typed).0)
type-at (c ∷ cs) (suc i) column typed h e = type-at cs i column (and_parts _ _ typed).1 (omega arith) e

-- the fields of csv's record, one by one
pub field-here : (parts : List (List ℕ)) (i : ℕ) (field : List ℕ) → Some field ≡ field_at parts i → drop i parts ≡ field ∷ drop (i + 1) parts
unfolding field_at
field-here [] i field e = cc e
field-here (x ∷ parts) zero field e = let same : field ≡ x = cc e in rw same refl
field-here (x ∷ parts) (suc i) field e = rw add-one (field-here parts i field e ∙ ap (λ n. field ∷ drop n parts) (add-one i))

pub field-none : (parts : List (List ℕ)) (i : ℕ) → None ≡ field_at parts i → length parts ≤ i
unfolding field_at
field-none [] i e = omega arith
field-none (x ∷ parts) zero e = cc e
field-none (x ∷ parts) (suc i) e = let h = field-none parts i e in omega (arith, h)

-- why a record is refused whose column doesn't take its field
pub bad-row : (r : Reading) (parts : List (List ℕ)) (column : ℕ) (kind : RefusalKind) (counted : Bool) → counted ≡ (length parts == length r.columns)
    → column_values r r.columns 1 parts ≡ Err (reason column kind) → row_of_fields r parts ≡ Err (reason_at counted column kind)
bad-row r parts column kind true e bad = elim (eqb_tells (length parts) (length r.columns)) [
  | inl same ↦ fields-same r parts same.1 ∙ bad
  | inr other ↦ let wrong : true ≡ false = e ∙ other.0 in cc wrong
]
bad-row r parts column kind false e bad = elim (eqb_tells (length parts) (length r.columns)) [
  | inl same ↦ let wrong : false ≡ true = e ∙ same.0 in cc wrong
  | inr other ↦ fields-count r parts other.1
]

-- the values of a list that is read, one more of which was put
pub read-more : (fields : List FieldRead) (i : ℕ) (field : FieldRead) → i < length fields → take (i + 1) (map value_in (set fields i field)) ≡ take i (map value_in fields) ++ value_in field ∷ []
read-more fields i field h = ap (take (i + 1)) (map-set value_in fields i field) ∙ values-more (map value_in fields) i (value_in field) (let long = length-map fields value_in in omega (arith, long, h))
