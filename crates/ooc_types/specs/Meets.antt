-- When a row meets a list of types, and when it is of a schema.
use Rattle.std.specs.Prelude.{ℕ, ℤ, pos, ◌≡◌, ◌≤◌, ◌^◌, ◌<ℤ◌, ◌≤ℤ◌, ◌+ℤ◌, true, if◌then◌else◌, nat_le, List, [], ◌∷◌, length, map, ⊤, FitsSigned, IsUtf8, neg_ℤ}
use Rattle.std.specs.Int.{w32, w64, w128}
use Rattle.ooc_types.specs.declared.value.Value.{Value}
use Rattle.ooc_types.specs.declared.value.Value.TheVariants.{Null, Truth, Number, Day, Text}
use Rattle.ooc_types.specs.declared.schema.Column.{Column}
use Rattle.ooc_types.specs.declared.schema.SqlType.{SqlType}
use Rattle.ooc_types.specs.declared.schema.SqlType.TheVariants.{Boolean, Integer, BigInt, HugeInt, Decimal, Date, Varchar}

-- Each value of a row and the fact that its own item of the list asks of it; both lists are equally long.
abbrev pub AllMeet : {A : Type 0} → (A → Value → Type 0) → List A → List Value → Type 0
AllMeet Fact [] [] = ⊤
AllMeet Fact [] (value ∷ values) = ⊥
AllMeet Fact (item ∷ items) [] = ⊥
AllMeet Fact (item ∷ items) (value ∷ values) = Fact item value × AllMeet Fact items values

-- a number that fits the bytes of its type's cell, at the type's scale
abbrev pub IsNumberOf : SqlType → ℤ → ℕ → Type 0
IsNumberOf Boolean digits scale = ⊥
IsNumberOf Integer digits scale = FitsSigned w32 digits × (scale ≡ 0)
IsNumberOf BigInt digits scale = FitsSigned w64 digits × (scale ≡ 0)
IsNumberOf HugeInt digits scale = FitsSigned w128 digits × (scale ≡ 0)
IsNumberOf (Decimal width places) digits scale = FitsSigned (if nat_le width 18 then w64 else w128) digits × (scale ≡ places)
IsNumberOf Date digits scale = ⊥
IsNumberOf Varchar digits scale = ⊥

-- NULL, or a value of the type's form: a truth, a number that fits the type's cell, a day number of 32 bits, or a
-- text within the limit
abbrev pub HasForm : ℕ → SqlType → Value → Type 0
HasForm limit kind Null = ⊤
HasForm limit kind (Truth truth) = kind ≡ Boolean
HasForm limit kind (Number digits scale) = IsNumberOf kind digits scale
HasForm limit kind (Day day) = (kind ≡ Date) × FitsSigned w32 day
HasForm limit kind (Text bytes) = (kind ≡ Varchar) × (length bytes ≤ limit)

-- a row whose values have the forms of these types, with texts of at most `limit` bytes
abbrev pub Meets : ℕ → List SqlType → List Value → Type 0
Meets limit kinds row = AllMeet (HasForm limit) kinds row

-- a number in the range of its type
abbrev pub IsInRange : SqlType → ℤ → Type 0
IsInRange Boolean digits = ⊥
IsInRange Integer digits = FitsSigned w32 digits
IsInRange BigInt digits = FitsSigned w64 digits
IsInRange HugeInt digits = FitsSigned w128 digits
IsInRange (Decimal width places) digits = (digits <ℤ pos (10 ^ width)) × (pos 0 <ℤ (digits +ℤ pos (10 ^ width)))
IsInRange Date digits = ⊥
IsInRange Varchar digits = ⊥

-- the days 0001-01-01 and 9999-12-31, counted from 1970-01-01
abbrev pub first_day : ℤ
first_day = neg_ℤ (pos 719162)

abbrev pub last_day : ℤ
last_day = pos 2932896

-- a day that a DATE may be
abbrev pub IsDay : ℤ → Type 0
IsDay day = (first_day ≤ℤ day) × (day ≤ℤ last_day)

-- a value that a table's column may hold
abbrev pub IsValueOf : Column → Value → Type 0
IsValueOf column Null = column.nullable ≡ true
IsValueOf column (Truth truth) = ⊤
IsValueOf column (Number digits scale) = IsInRange column.kind digits
IsValueOf column (Day day) = IsDay day
IsValueOf column (Text bytes) = IsUtf8 bytes

-- A row of a table with these columns: it meets their types, each number is in its type's range, each day is one
-- of the years 1 to 9999, each text is UTF-8, and NULL stands only in a column that allows it.
abbrev pub IsOf : ℕ → List Column → List Value → Type 0
IsOf limit columns row = Meets limit (map (λ column. column.kind) columns) row × AllMeet IsValueOf columns row
