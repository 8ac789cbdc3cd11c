-- How deep rules nest.
use Rattle.std.specs.Prelude.{ℕ, zero, suc, Some, None}
use Rattle.sql_grammar.specs.Form.{Sort, Value, Form, an_expr, a_neg, a_unary, an_argument, a_select}
use Rattle.sql_grammar.specs.Derives.{Inner, derives}
use Rattle.sql_grammar.specs.Reading.{Readers, read}
use Rattle.sql_grammar.specs.Expressions.{expr, neg, unary, argument}
use Rattle.sql_grammar.specs.Selects.{select}

-- the rules that nest
abbrev pub body : (s : Sort) → Form (Value s)
body an_expr = expr
body a_neg = neg
body a_unary = unary
body an_argument = argument
body a_select = select

-- what nests, within so many levels
abbrev pub nested : ℕ → Inner
nested zero s = λ value w. ⊥
nested (suc depth) s = derives (nested depth) (body s)

-- how it is read
unfoldable pub readers : ℕ → Readers
readers zero s = None
readers (suc depth) s = Some (read (readers depth) (body s))
