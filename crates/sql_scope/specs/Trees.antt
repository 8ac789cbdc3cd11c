-- The typed tree of an operation over typed operands, or the refusal at the operation's place.
use Rattle.std.specs.Prelude.{ℕ, Bool, true, ◌&&◌, List, [], ◌∷◌, ◌++◌, Option, Some, None, Ok}
use Rattle.ooc_types.specs.declared.schema.SqlType.{SqlType}
use Rattle.ooc_types.specs.declared.refusal.RefusalKind.TheVariants.{TypeMismatch}
use Rattle.sql_expr.specs.declared.tree.ChainSign.{ChainSign}
use Rattle.sql_expr.specs.declared.tree.ChainSign.TheVariants as sign
use Rattle.sql_expr.specs.declared.tree.CompareSign.{CompareSign}
use Rattle.sql_expr.specs.declared.tree.CompareSign.TheVariants as comparing
use Rattle.sql_expr.specs.declared.tree.Expr.{Expr as Tree}
use Rattle.sql_expr.specs.declared.tree.Expr.TheVariants as typed
use Rattle.sql_expr.specs.Kinds.{kind_of}
use Rattle.sql_grammar.specs.declared.tree.expr.ChainSign.{ChainSign as WrittenSign}
use Rattle.sql_grammar.specs.declared.tree.expr.ChainSign.TheVariants as written
use Rattle.sql_grammar.specs.declared.tree.expr.CompareSign.{CompareSign as WrittenCompare}
use Rattle.sql_grammar.specs.declared.tree.expr.CompareSign.TheVariants as compare
use Rattle.sql_grammar.specs.declared.tree.expr.Span.{Span}
use Rattle.sql_grammar.specs.declared.tree.expr.Constant.{Constant}
use Rattle.sql_scope.specs.declared.fault.BindFault.{BindFault}
use Rattle.sql_scope.specs.declared.fault.BindFault.TheVariants.{Refused}
use Rattle.sql_scope.specs.Answer.{Answer, unless, ◌>>=◌}
use Rattle.sql_scope.specs.Scopes.{View}
use Rattle.sql_scope.specs.Literals.{literal, text_literal}
use Rattle.sql_scope.specs.Operations.{is_boolean, is_number, is_text, are_comparable}

abbrev pub mismatch_at : ℕ → BindFault
mismatch_at place = Refused place TypeMismatch

abbrev pub minus : ℕ → Tree → Answer Tree
minus place of = unless (is_number (kind_of of)) place TypeMismatch (typed.Minus of (kind_of of))

abbrev pub negation : ℕ → Tree → Answer Tree
negation place of = unless (is_boolean (kind_of of)) place TypeMismatch (typed.Not of)

abbrev pub compare_sign : WrittenCompare → CompareSign
compare_sign compare.Equal = comparing.Equal
compare_sign compare.Unequal = comparing.Unequal
compare_sign compare.Less = comparing.Less
compare_sign compare.AtMost = comparing.AtMost
compare_sign compare.Greater = comparing.Greater
compare_sign compare.AtLeast = comparing.AtLeast

abbrev pub comparison : ℕ → WrittenCompare → Tree → Tree → Answer Tree
comparison place sign left right =
    unless (are_comparable (kind_of left) (kind_of right)) place TypeMismatch (typed.Compare (compare_sign sign) left right)

abbrev pub like : View → ℕ → Bool → Span → Tree → Answer Tree
like view place negated pattern of = do
  text ← text_literal view pattern
  unless (is_text (kind_of of)) place TypeMismatch (typed.Like of text negated)

abbrev pub between : ℕ → Bool → Tree → Tree → Tree → Answer Tree
between place negated of low high =
    unless (are_comparable (kind_of of) (kind_of low) && are_comparable (kind_of of) (kind_of high)) place TypeMismatch (typed.Between of low high negated)

abbrev pub constant_behind : Option ℕ → Tree → Answer Tree
constant_behind None of = Ok of
constant_behind (Some place) of = minus place of

abbrev pub constant : View → Constant → Answer Tree
constant view written = literal view written.literal >>= constant_behind written.minus

abbrev pub one_more : List Tree → Tree → Answer (List Tree)
one_more trees tree = Ok (trees ++ tree ∷ [])

-- constants behind those that were bound
abbrev pub constants_from : View → Answer (List Tree) → List Constant → Answer (List Tree)
constants_from view bound [] = bound
constants_from view bound (written ∷ list) =
    constants_from view (bound >>= (λ trees. constant view written >>= one_more trees)) list

abbrev pub all_comparable : SqlType → List Tree → Bool
all_comparable kind [] = true
all_comparable kind (tree ∷ trees) = are_comparable kind (kind_of tree) && all_comparable kind trees

abbrev pub one_of : ℕ → Bool → Tree → List Tree → Answer Tree
one_of place negated of list = unless (all_comparable (kind_of of) list) place TypeMismatch (typed.OneOf of list negated)

abbrev pub chain_sign : WrittenSign → ChainSign
chain_sign written.Plus = sign.Plus
chain_sign written.Minus = sign.Minus
chain_sign written.Times = sign.Times
chain_sign written.Quotient = sign.Quotient
chain_sign written.Remainder = sign.Remainder
