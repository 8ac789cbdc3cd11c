-- What a column's and a literal's value is, by its type.
use Rattle.std.proofs.Common.{◌≡◌, ℕ, refl, sym, ap}
use Rattle.std.specs.Prelude.{ℤ, pos, negsuc}
use Rattle.ooc_types.specs.declared.value.Value.{Value}
use Rattle.ooc_types.specs.declared.value.Value.TheVariants.{Null, Truth, Number, Day, Text}
use Rattle.ooc_types.specs.declared.schema.SqlType.{SqlType}
use Rattle.ooc_types.specs.declared.schema.SqlType.TheVariants.{Boolean, Integer, BigInt, HugeInt, Decimal, Date, Varchar}
use Rattle.ooc_types.specs.Meets.{HasForm, IsNumberOf}
use Rattle.sql_expr.specs.Arithmetic.{amount}
use Rattle.sql_expr.specs.Outcomes.{amount_value, digits_of}
use Rattle.sql_expr.specs.Operations.{IsAmount, family}
use Rattle.sql_expr.specs.Typing.{IsLiteral, IsNumberLiteral}
use Rattle.sql_expr.proofs.Nodes.{amount_no_truth, amount_no_text}

number_amount : (kind : SqlType) (a : ℤ) (m : ℕ) → IsNumberOf kind a m → Number a m ≡ amount kind a
number_amount Boolean a m h = absurd h
number_amount Integer a m h = ap (Number a) h.1
number_amount BigInt a m h = ap (Number a) h.1
number_amount HugeInt a m h = ap (Number a) h.1
number_amount (Decimal w s) a m h = ap (Number a) h.1
number_amount Date a m h = absurd h
number_amount Varchar a m h = absurd h

pub amount_form : (limit : ℕ) (kind : SqlType) (v : Value) → HasForm limit kind v → IsAmount kind → v ≡ amount_value kind (digits_of v)
amount_form limit kind Null form is = refl
amount_form limit kind (Truth b) form is = absurd (amount_no_truth kind is form)
amount_form limit kind (Number a m) form is = number_amount kind a m form
amount_form limit kind (Day d) form is = ap (λ (k : SqlType). amount k d) (sym form.0)
amount_form limit kind (Text bytes) form is = absurd (amount_no_text kind is (ap family form.0))

literal_amount : (kind : SqlType) (n m : ℕ) → IsNumberLiteral kind n m → Number (pos n) m ≡ amount kind (pos n)
literal_amount Boolean n m h = absurd h
literal_amount Integer n m h = ap (Number (pos n)) h.0
literal_amount BigInt n m h = ap (Number (pos n)) h.0
literal_amount HugeInt n m h = ap (Number (pos n)) h.0
literal_amount (Decimal w s) n m h = ap (Number (pos n)) h.0
literal_amount Date n m h = absurd h
literal_amount Varchar n m h = absurd h

pub amount_literal : (kind : SqlType) (v : Value) → IsLiteral kind v → IsAmount kind → v ≡ amount_value kind (digits_of v)
amount_literal kind Null form is = absurd form
amount_literal kind (Truth b) form is = absurd (amount_no_truth kind is form)
amount_literal kind (Number (pos n) m) form is = literal_amount kind n m form
amount_literal kind (Day d) form is = ap (λ (k : SqlType). amount k d) (sym form.0)
amount_literal kind (Number (negsuc n) m) form is = absurd form
amount_literal kind (Text bytes) form is = absurd (amount_no_text kind is (ap family form))
