-- What an operation asks of its operands' types.
use Rattle.std.specs.Prelude.{ℕ, Bool, true, false}
use Rattle.ooc_types.specs.declared.schema.SqlType.{SqlType}
use Rattle.sql_expr.specs.declared.tree.ChainSign.{ChainSign}
use Rattle.sql_expr.specs.declared.families.Family.{Family}
use Rattle.sql_expr.specs.declared.families.Family.TheVariants.{Truths, Numbers, Texts, Dates}
use Rattle.sql_expr.specs.Operations.{family, result_type, mismatch}
use Rattle.sql_scope.specs.Answer.{Answer, or_refuse}

abbrev pub are_truths : Family → Bool
are_truths Truths = true
are_truths Numbers = false
are_truths Texts = false
are_truths Dates = false

abbrev pub are_numbers : Family → Bool
are_numbers Truths = false
are_numbers Numbers = true
are_numbers Texts = false
are_numbers Dates = false

abbrev pub are_texts : Family → Bool
are_texts Truths = false
are_texts Numbers = false
are_texts Texts = true
are_texts Dates = false

abbrev pub are_dates : Family → Bool
are_dates Truths = false
are_dates Numbers = false
are_dates Texts = false
are_dates Dates = true

abbrev pub is_boolean : SqlType → Bool
is_boolean kind = are_truths (family kind)

abbrev pub is_number : SqlType → Bool
is_number kind = are_numbers (family kind)

abbrev pub is_text : SqlType → Bool
is_text kind = are_texts (family kind)

abbrev pub is_date : SqlType → Bool
is_date kind = are_dates (family kind)

-- values of one family compare
abbrev pub are_of_one : Family → Family → Bool
are_of_one Truths f = are_truths f
are_of_one Numbers f = are_numbers f
are_of_one Texts f = are_texts f
are_of_one Dates f = are_dates f

abbrev pub are_comparable : SqlType → SqlType → Bool
are_comparable k l = are_of_one (family k) (family l)

abbrev pub linked_type : ℕ → ChainSign → SqlType → SqlType → Answer SqlType
linked_type place sign k l = or_refuse (result_type sign k l) place (mismatch sign k l)
