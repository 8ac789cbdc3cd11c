-- The rules of expressions: the calls of what each derives stand where its tokens begin.
use Rattle.std.proofs.Common.{◌≡◌, ℕ, Bool, List, [], ◌∷◌, Some, None, refl, arith}
use Rattle.sql_grammar.specs.declared.tree.expr.Argument.TheVariants as a
use Rattle.sql_grammar.specs.declared.tree.expr.CompareSign.{CompareSign}
use Rattle.sql_grammar.specs.declared.tree.expr.Expr.{Expr}
use Rattle.sql_grammar.specs.declared.tree.expr.Expr.TheVariants as e
use Rattle.sql_grammar.specs.declared.tree.expr.Link.{Link}
use Rattle.sql_grammar.specs.declared.tree.expr.Literal.TheVariants as l
use Rattle.sql_grammar.specs.declared.tree.expr.Operand.{Operand}
use Rattle.sql_grammar.specs.declared.tree.expr.Span.{Span}
use Rattle.sql_grammar.specs.declared.tree.select.Select.{Select}
use Rattle.sql_grammar.specs.Classes.{word_class, sign_class, query_class, opens, other_names, date_class}
use Rattle.sql_grammar.specs.Combinators.{span_of}
use Rattle.sql_grammar.specs.Derives.{Inner, derives}
use Rattle.sql_grammar.specs.Expressions as g
use Rattle.sql_grammar.specs.Form.{Form, Sort, Value, an_argument, an_expr, a_neg, a_select, a_unary}
use Rattle.sql_lex.specs.declared.token.Word.TheVariants as w
use Rattle.sql_lex.specs.declared.token.Sign.TheVariants as s
use Rattle.apart_calls.proofs.Fits.{Places, Within, none, wider}
use Rattle.apart_calls.proofs.Keeping.{Any, Each, Keeps, Pair, Told, Turns, a-level, a-token, anything, applied, behind, constant, each-of, ended, of-wider, one-or, turns-wider}
use Rattle.apart_calls.proofs.NodeLemmas.{Named, OfArgument, OfExpr, OfLink, OfOperand, OfSelect, between-node, call-node, chain-node, column-node, compare-node, distinct-argument, either-node, every-node, like-node, literal-node, member-node, minus-node, not-node, null-node, of-link, of-operand, one-of-node, star-argument, value-argument}
use Rattle.formed_binding.specs.Placed.{expr_places}

-- what is told of what nests
abbrev pub OfSort : (s : Sort) → Told (Value s)
OfSort an_expr = OfExpr
OfSort a_neg = OfExpr
OfSort a_unary = OfExpr
OfSort an_argument = OfArgument
OfSort a_select = OfSelect

-- what becomes of a name, of an operand, and of an operand behind NOT
abbrev OfEnd : Told (Span → Expr)
OfEnd = Turns Named OfExpr

abbrev OfTest : Told (Expr → Expr)
OfTest = Turns OfExpr OfExpr

abbrev OfNegatable : Told (Bool → Expr → Expr)
OfNegatable = Turns Any OfTest

abbrev OfPlaced : Told (ℕ → Bool → Expr → Expr)
OfPlaced = Turns Any OfNegatable

expr-wider : (x : Expr) (n m : Places) → Within n m → OfExpr x n → OfExpr x m
expr-wider x n m in_m of = wider (expr_places x) n m in_m of

-- ---- what the rules make

chain-told : Turns OfExpr (Turns (Each OfLink) OfExpr) g.chain_of none
chain-told first i j of room [] m k more also = expr-wider first i k (λ place. omega (arith, room place, also place)) of
chain-told first i j of room (link ∷ links) m k more also = chain-node first (link ∷ links) i m k of more (λ place. omega (arith, room place, also place))

every-told : Turns OfExpr (Turns (Each OfOperand) OfExpr) g.every_of none
every-told first i j of room [] m k more also = expr-wider first i k (λ place. omega (arith, room place, also place)) of
every-told first i j of room (operand ∷ others) m k more also = every-node first (operand ∷ others) i m k of more (λ place. omega (arith, room place, also place))

either-told : Turns OfExpr (Turns (Each OfOperand) OfExpr) g.either_of none
either-told first i j of room [] m k more also = expr-wider first i k (λ place. omega (arith, room place, also place)) of
either-told first i j of room (operand ∷ others) m k more also = either-node first (operand ∷ others) i m k of more (λ place. omega (arith, room place, also place))

-- a part, and what is made of it
pub follows-told : {A B : Type 0} (S : Told A) (U : Told B) → Turns S (Turns (Turns S U) U) (g.follows {A = A} {B = B}) none
follows-told S U x i j of room f m k turns also = turns x i k of (λ place. omega (arith, room place, also place))

link-told : {A : Type 0} (make : A → Expr → Link) → ((x : A) (right : Expr) → (make x right).right ≡ right) → Turns Any (Turns OfExpr OfLink) make none
link-told make is x i j of room right m k right_of also = of-link (make x right) k (rw (is x right) (expr-wider right m k (λ place. omega (arith, also place)) right_of))

operand-told : (make : ℕ → Expr → Operand) → ((x : ℕ) (right : Expr) → (make x right).right ≡ right) → Turns Any (Turns OfExpr OfOperand) make none
operand-told make is x i j of room right m k right_of also = of-operand (make x right) k (rw (is x right) (expr-wider right m k (λ place. omega (arith, also place)) right_of))

module _ (n : Inner) (inner : (s : Sort) → Keeps (n s) (OfSort s)) where
  name-one : (classes : List ℕ) → Keeps (derives n (Form.one classes span_of)) Named
  name-one classes = a-token classes span_of Named (λ x n in_n. in_n)

  called-keeps : Keeps (derives n g.called) OfEnd
  called-keeps = ended OfEnd (turns-wider Named OfExpr)
      (a-level opens (λ _ argument name. e.Call name argument) OfArgument OfEnd (inner an_argument)
      (λ x argument i j of in_j name m k named room. call-node name argument m i k named of (λ place. omega (arith, in_j place, room place))))

  column-end-keeps : Keeps (derives n g.column_end) OfEnd
  column-end-keeps = one-or OfEnd
      (applied Any OfEnd (constant (Turns Any OfEnd) (λ second first. e.Column (record { source = Some first; name = second })) (λ second i j of room first m k named also. column-node (record { source = Some first; name = second }) k)) (anything _))
      (constant OfEnd (λ first. e.Column (record { source = None; name = first })) (λ first m k named also. column-node (record { source = None; name = first }) k))

  name-end-keeps : Keeps (derives n g.name_end) OfEnd
  unfolding g.name_end
  name-end-keeps = one-or OfEnd called-keeps column-end-keeps

  followed : (classes : List ℕ) (ends : Form (Span → Expr)) → Keeps (derives n ends) OfEnd → Keeps (derives n (Form.both (λ f a. f a) (Form.both (λ f a. f a) (Form.empty g.follows) (Form.one classes span_of)) ends)) OfExpr
  followed classes ends keeps = applied OfEnd OfExpr (applied Named (Turns OfEnd OfExpr) (constant (Turns Named (Turns OfEnd OfExpr)) g.follows (follows-told Named OfExpr)) (name-one classes)) keeps

  named-keeps : Keeps (derives n g.named) OfExpr
  unfolding g.named
  named-keeps = followed other_names g.name_end name-end-keeps

  date-end-keeps : Keeps (derives n g.date_end) OfEnd
  date-end-keeps = applied Any OfEnd (constant (Turns Any OfEnd) (λ text _. e.Literal (l.Date text)) (λ text i j of room name m k named also. literal-node (l.Date text) k)) (anything _)

  dated-keeps : Keeps (derives n g.dated) OfExpr
  unfolding g.dated
  dated-keeps = followed (date_class ∷ []) (Form.either g.date_end g.name_end) (one-or OfEnd date-end-keeps name-end-keeps)

  group-keeps : Keeps (derives n g.group) OfExpr
  unfolding g.group
  group-keeps = ended OfExpr (of-wider expr_places) (a-level opens (λ _ value. value) OfExpr OfExpr (inner an_expr) (λ x value i j of in_j. expr-wider value i j in_j of))

  atom-keeps : Keeps (derives n g.atom) OfExpr
  unfolding g.atom
  atom-keeps = one-or OfExpr named-keeps (one-or OfExpr dated-keeps (one-or OfExpr group-keeps
      (applied Any OfExpr (constant (Turns Any OfExpr) e.Literal (λ written i j of room. literal-node written j)) (anything _))))

  pub unary-keeps : Keeps (derives n g.unary) OfExpr
  unfolding g.unary
  unary-keeps = one-or OfExpr
      (a-level (sign_class s.Minus ∷ []) (λ x operand. e.Minus x.start operand) OfExpr OfExpr (inner a_unary) (λ x operand i j of in_j. minus-node x.start operand j (expr-wider operand i j in_j of)))
      atom-keeps

  term-link-keeps : Keeps (derives n g.term_link) OfLink
  unfolding g.term_link
  term-link-keeps = applied OfExpr OfLink (applied Any (Turns OfExpr OfLink) (constant (Turns Any (Turns OfExpr OfLink)) _ (link-told _ (λ x right. refl))) (anything _)) unary-keeps

  term-keeps : Keeps (derives n g.term) OfExpr
  unfolding g.term
  term-keeps = applied (Each OfLink) OfExpr (applied OfExpr (Turns (Each OfLink) OfExpr) (constant (Turns OfExpr (Turns (Each OfLink) OfExpr)) g.chain_of chain-told) unary-keeps) (each-of OfLink term-link-keeps)

  sum-link-keeps : Keeps (derives n g.sum_link) OfLink
  unfolding g.sum_link
  sum-link-keeps = applied OfExpr OfLink (applied Any (Turns OfExpr OfLink) (constant (Turns Any (Turns OfExpr OfLink)) _ (link-told _ (λ x right. refl))) (anything _)) term-keeps

  sum-keeps : Keeps (derives n g.sum) OfExpr
  unfolding g.sum
  sum-keeps = applied (Each OfLink) OfExpr (applied OfExpr (Turns (Each OfLink) OfExpr) (constant (Turns OfExpr (Turns (Each OfLink) OfExpr)) g.chain_of chain-told) term-keeps) (each-of OfLink sum-link-keeps)

  comparison-told : Turns Any (Turns OfExpr OfTest) (λ (sign : CompareSign × ℕ) right left. e.Compare sign.1 sign.0 left right) none
  comparison-told sign i j of room right m k right_of also left a b left_of more =
      compare-node sign.1 sign.0 left right a m b left_of right_of (λ place. omega (arith, also place, more place))

  comparison-keeps : Keeps (derives n g.comparison) OfTest
  unfolding g.comparison
  comparison-keeps = applied OfExpr OfTest (applied Any (Turns OfExpr OfTest) (constant (Turns Any (Turns OfExpr OfTest)) (λ (sign : CompareSign × ℕ) right left. e.Compare sign.1 sign.0 left right) comparison-told) (anything _)) sum-keeps

  null-told : Turns Any (Turns Any OfTest) (λ place negated left. e.IsNull place negated left) none
  null-told place i j of room negated m k _ also left a b left_of more = null-node place negated left b (expr-wider left a b (λ place. omega (arith, more place)) left_of)

  null-keeps : Keeps (derives n g.null_test) OfTest
  unfolding g.null_test
  null-keeps = ended OfTest (turns-wider OfExpr OfExpr)
      (applied Any OfTest (applied Any (Turns Any OfTest) (constant (Turns Any (Turns Any OfTest)) (λ place negated left. e.IsNull place negated left) null-told) (anything _)) (anything _))

  like-told : Turns Any (Turns Any OfNegatable) (λ place pattern negated left. e.Like place negated left pattern) none
  like-told place i j of room pattern m k _ also negated p q _ next left a b left_of more = like-node place negated left pattern b (expr-wider left a b (λ place. omega (arith, more place)) left_of)

  like-keeps : Keeps (derives n g.like) OfNegatable
  unfolding g.like
  like-keeps = applied Any OfNegatable (applied Any (Turns Any OfNegatable) (constant (Turns Any (Turns Any OfNegatable)) (λ place pattern negated left. e.Like place negated left pattern) like-told) (anything _)) (anything _)

  member-told : (query : Select) (i j : Places) → OfSelect query i → Within i j → OfPlaced (λ place negated left. e.Member place negated left query) j
  member-told query i j of in_j place m k _ room negated p q _ also left a b left_of more =
      member-node place negated left query a i b left_of of (λ place. omega (arith, in_j place, room place, also place, more place))

  member-keeps : Keeps (derives n g.member) OfPlaced
  unfolding g.member
  member-keeps = ended OfPlaced (turns-wider Any OfNegatable)
      (a-level (query_class ∷ []) (λ _ query place negated left. e.Member place negated left query) OfSelect OfPlaced (inner a_select) (λ x. member-told))

  one-of-told : Turns Any OfPlaced (λ list place negated left. e.OneOf place negated left list) none
  one-of-told list i j of room place m k _ also negated p q _ next left a b left_of more = one-of-node place negated left list b (expr-wider left a b (λ place. omega (arith, more place)) left_of)

  one-of-keeps : Keeps (derives n g.one_of) OfPlaced
  unfolding g.one_of
  one-of-keeps = ended OfPlaced (turns-wider Any OfNegatable)
      (applied Any OfPlaced (constant (Turns Any OfPlaced) (λ list place negated left. e.OneOf place negated left list) one-of-told) (anything _))

  in-keeps : Keeps (derives n g.in_test) OfNegatable
  unfolding g.in_test
  in-keeps = applied OfPlaced OfNegatable
      (applied Any (Turns OfPlaced OfNegatable) (constant (Turns Any (Turns OfPlaced OfNegatable)) g.follows (follows-told Any OfNegatable)) (anything _))
      (one-or OfPlaced member-keeps one-of-keeps)

  upper-keeps : Keeps (derives n g.upper) OfExpr
  upper-keeps = behind OfExpr (of-wider expr_places) sum-keeps

  abbrev OfBounds : Told (ℕ × Expr × Expr)
  OfBounds bounds = Pair OfExpr OfExpr (bounds.1, bounds.2)

  bounds-told : Turns Any (Turns OfExpr (Turns OfExpr OfBounds)) (λ place low high. (place, low, high)) none
  bounds-told place i j of room low m k low_of also high a b high_of more = (m, a, low_of, high_of, λ place. omega (arith, also place, more place))

  bounds-keeps : Keeps (derives n g.bounds) OfBounds
  bounds-keeps = applied OfExpr OfBounds
      (applied OfExpr (Turns OfExpr OfBounds) (applied Any (Turns OfExpr (Turns OfExpr OfBounds)) (constant (Turns Any (Turns OfExpr (Turns OfExpr OfBounds))) (λ place low high. (place, low, high)) bounds-told) (anything _)) sum-keeps)
      upper-keeps

  between-told : Turns OfBounds OfNegatable (λ bounds negated left. e.Between bounds.0 negated left bounds.1 bounds.2) none
  between-told bounds i j of room negated m k _ also left a b left_of more =
      between-node bounds.0 negated left bounds.1 bounds.2 a of.0 of.1 i b left_of of.2 of.3 of.4 (λ place. omega (arith, room place, also place, more place))

  between-keeps : Keeps (derives n g.between) OfNegatable
  unfolding g.between
  between-keeps = applied OfBounds OfNegatable (constant (Turns OfBounds OfNegatable) (λ bounds negated left. e.Between bounds.0 negated left bounds.1 bounds.2) between-told) bounds-keeps

  range-told : Turns Any (Turns OfNegatable OfTest) (λ negated test. test negated) none
  range-told negated i j of room test m k turns also = turns negated none k tt (λ place. omega (arith, also place))

  range-keeps : Keeps (derives n g.range_test) OfTest
  unfolding g.range_test
  range-keeps = applied OfNegatable OfTest
      (applied Any (Turns OfNegatable OfTest) (constant (Turns Any (Turns OfNegatable OfTest)) (λ negated test. test negated) range-told) (anything _))
      (one-or OfNegatable like-keeps (one-or OfNegatable in-keeps between-keeps))

  after-keeps : Keeps (derives n g.after_sum) OfTest
  unfolding g.after_sum
  after-keeps = one-or OfTest comparison-keeps (one-or OfTest null-keeps (one-or OfTest range-keeps
      (constant OfTest (λ left. left) (λ left a b left_of more. expr-wider left a b (λ place. omega (arith, more place)) left_of))))

  pred-told : Turns OfExpr (Turns OfTest OfExpr) (λ left test. test left) none
  pred-told left i j left_of room test m k turns also = turns left i k left_of (λ place. omega (arith, room place, also place))

  pred-keeps : Keeps (derives n g.pred) OfExpr
  unfolding g.pred
  pred-keeps = applied OfTest OfExpr (applied OfExpr (Turns OfTest OfExpr) (constant (Turns OfExpr (Turns OfTest OfExpr)) (λ left test. test left) pred-told) sum-keeps) after-keeps

  pub neg-keeps : Keeps (derives n g.neg) OfExpr
  unfolding g.neg
  neg-keeps = one-or OfExpr
      (a-level (word_class w.Not ∷ []) (λ x operand. e.Not x.start operand) OfExpr OfExpr (inner a_neg) (λ x operand i j of in_j. not-node x.start operand j (expr-wider operand i j in_j of)))
      pred-keeps

  and-keeps : Keeps (derives n g.and_operand) OfOperand
  unfolding g.and_operand
  and-keeps = applied OfExpr OfOperand (applied Any (Turns OfExpr OfOperand) (constant (Turns Any (Turns OfExpr OfOperand)) _ (operand-told _ (λ x right. refl))) (anything _)) neg-keeps

  conj-keeps : Keeps (derives n g.conj) OfExpr
  unfolding g.conj
  conj-keeps = applied (Each OfOperand) OfExpr (applied OfExpr (Turns (Each OfOperand) OfExpr) (constant (Turns OfExpr (Turns (Each OfOperand) OfExpr)) g.every_of every-told) neg-keeps) (each-of OfOperand and-keeps)

  or-keeps : Keeps (derives n g.or_operand) OfOperand
  unfolding g.or_operand
  or-keeps = applied OfExpr OfOperand (applied Any (Turns OfExpr OfOperand) (constant (Turns Any (Turns OfExpr OfOperand)) _ (operand-told _ (λ x right. refl))) (anything _)) conj-keeps

  pub expr-keeps : Keeps (derives n g.expr) OfExpr
  unfolding g.expr
  expr-keeps = applied (Each OfOperand) OfExpr (applied OfExpr (Turns (Each OfOperand) OfExpr) (constant (Turns OfExpr (Turns (Each OfOperand) OfExpr)) g.either_of either-told) conj-keeps) (each-of OfOperand or-keeps)

  pub argument-keeps : Keeps (derives n g.argument) OfArgument
  unfolding g.argument
  argument-keeps = one-or OfArgument
      (a-token (sign_class s.Star ∷ []) (λ _. a.Star) OfArgument (λ x i in_i. star-argument i))
      (one-or OfArgument
      (applied OfExpr OfArgument (constant (Turns OfExpr OfArgument) a.Distinct (λ value i j of room. distinct-argument value j (expr-wider value i j (λ place. omega (arith, room place)) of))) (behind OfExpr (of-wider expr_places) expr-keeps))
      (applied OfExpr OfArgument (constant (Turns OfExpr OfArgument) a.Value (λ value i j of room. value-argument value j (expr-wider value i j (λ place. omega (arith, room place)) of))) expr-keeps))
