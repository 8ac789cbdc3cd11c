-- What an operation makes of its operands: the tree, the first column that no key of GROUP BY covers, and the aggregates.
use Rattle.std.specs.Prelude.{ℕ, Bool, false, ◌||◌, ◌&&◌, List, [], ◌∷◌, ◌++◌, Option, Some, None, Ok, if◌then◌else◌}
use Rattle.ooc_types.specs.declared.schema.SqlType.{SqlType}
use Rattle.ooc_types.specs.declared.schema.SqlType.TheVariants.{Boolean}
use Rattle.ooc_types.specs.declared.refusal.RefusalKind.TheVariants.{TypeMismatch}
use Rattle.sql_expr.specs.declared.tree.Expr.{Expr as Tree}
use Rattle.sql_expr.specs.declared.tree.Expr.TheVariants as typed
use Rattle.sql_expr.specs.declared.tree.Link.{Link}
use Rattle.sql_expr.specs.declared.tree.ChainSign.{ChainSign}
use Rattle.sql_expr.specs.Kinds.{kind_of}
use Rattle.sql_scope.specs.Equality.{same}
use Rattle.sql_grammar.specs.declared.tree.expr.ChainSign.{ChainSign as WrittenSign}
use Rattle.sql_grammar.specs.declared.tree.expr.CompareSign.{CompareSign as WrittenCompare}
use Rattle.sql_grammar.specs.declared.tree.expr.Span.{Span}
use Rattle.sql_grammar.specs.declared.tree.expr.Literal.{Literal}
use Rattle.sql_grammar.specs.declared.tree.expr.ColumnName.{ColumnName}
use Rattle.sql_scope.specs.declared.part.Part.{Part}
use Rattle.sql_scope.specs.declared.part.Call.{Call}
use Rattle.sql_scope.specs.declared.chain.Chain.{Chain}
use Rattle.sql_scope.specs.declared.chain.Conditions.{Conditions}
use Rattle.sql_scope.specs.Answer.{Answer, unless, ◌>>=◌}
use Rattle.sql_scope.specs.Scopes.{View, named_column, first_token}
use Rattle.sql_scope.specs.Operations.{is_boolean, linked_type}
use Rattle.sql_scope.specs.Literals as literals
use Rattle.sql_scope.specs.Trees as trees

-- ---- nodes

abbrev pub is_key : List Tree → Tree → Bool
is_key [] tree = false
is_key (key ∷ keys) tree = same key tree || is_key keys tree

-- An expression that is a key has no column that isn't covered.
abbrev pub uncovered : List Tree → Tree → Option ℕ → Option ℕ
uncovered keys tree None = None
uncovered keys tree (Some place) = if is_key keys tree then None else Some place

abbrev pub first_of : Option ℕ → Option ℕ → Option ℕ
first_of None other = other
first_of (Some place) other = Some place

-- a node over operands whose first uncovered column and aggregates are these
abbrev pub part_of : View → Tree → Option ℕ → List Call → Part
part_of view tree bare calls = record { tree = tree; bare = uncovered view.keys tree bare; calls = calls }

-- a constant has no column
abbrev pub constant_part : View → Tree → Answer Part
constant_part view tree = Ok (part_of view tree None [])

-- a column stands at the first token of its name
abbrev pub column_part : View → ColumnName → Tree → Answer Part
column_part view written tree = Ok (part_of view tree (Some (first_token written.source written.name)) [])

abbrev pub literal : View → Literal → Answer Part
literal view written = literals.literal view written >>= constant_part view

abbrev pub column : View → ColumnName → Answer Part
column view written = named_column view written.source written.name >>= column_part view written

-- over one operand
abbrev pub over_one : View → Part → Tree → Answer Part
over_one view of tree = Ok (part_of view tree of.bare of.calls)

-- over two
abbrev pub over_two : View → Part → Part → Tree → Answer Part
over_two view left right tree = Ok (part_of view tree (first_of left.bare right.bare) (left.calls ++ right.calls))

-- over three
abbrev pub over_three : View → Part → Part → Part → Tree → Answer Part
over_three view of low high tree =
    Ok (part_of view tree (first_of of.bare (first_of low.bare high.bare)) (of.calls ++ (low.calls ++ high.calls)))

abbrev pub minus : View → ℕ → Part → Answer Part
minus view place of = trees.minus place of.tree >>= over_one view of

abbrev pub negation : View → ℕ → Part → Answer Part
negation view place of = trees.negation place of.tree >>= over_one view of

abbrev pub comparison : View → ℕ → WrittenCompare → Part → Part → Answer Part
comparison view place sign left right = trees.comparison place sign left.tree right.tree >>= over_two view left right

abbrev pub null_test : View → Bool → Part → Answer Part
null_test view negated of = over_one view of (typed.IsNull of.tree negated)

abbrev pub like : View → ℕ → Bool → Span → Part → Answer Part
like view place negated pattern of = trees.like view place negated pattern of.tree >>= over_one view of

abbrev pub one_of : View → ℕ → Bool → Part → List Tree → Answer Part
one_of view place negated of list = trees.one_of place negated of.tree list >>= over_one view of

abbrev pub between : View → ℕ → Bool → Part → Part → Part → Answer Part
between view place negated of low high = trees.between place negated of.tree low.tree high.tree >>= over_three view of low high

-- ---- chains act from left to right

abbrev pub begun : Part → Chain
begun first = record { first = first.tree; links = []; kind = kind_of first.tree; bare = first.bare; calls = first.calls }

abbrev pub extended : Chain → ChainSign → Part → SqlType → Chain
extended chain sign right kind = record {
  first = chain.first;
  links = chain.links ++ record { sign = sign; right = right.tree; kind = kind } ∷ [];
  kind = kind;
  bare = first_of chain.bare right.bare;
  calls = chain.calls ++ right.calls;
}

abbrev pub linked : ℕ → WrittenSign → Chain → Part → Answer Chain
linked place sign chain right = do
  kind ← linked_type place (trees.chain_sign sign) chain.kind (kind_of right.tree)
  Ok (extended chain (trees.chain_sign sign) right kind)

-- one operand alone is itself
abbrev pub chain_tree : Tree → List Link → Tree
chain_tree first [] = first
chain_tree first (link ∷ links) = typed.Chain first (link ∷ links)

abbrev pub ended : View → Chain → Answer Part
ended view chain = Ok (part_of view (chain_tree chain.first chain.links) chain.bare chain.calls)

-- operands under AND or OR
abbrev pub started : Part → Conditions
started first = record { list = first.tree ∷ []; kind = kind_of first.tree; bare = first.bare; calls = first.calls }

abbrev pub joined : ℕ → Conditions → Part → Answer Conditions
joined place conditions right =
    unless (is_boolean conditions.kind && is_boolean (kind_of right.tree)) place TypeMismatch (record {
      list = conditions.list ++ right.tree ∷ [];
      kind = Boolean;
      bare = first_of conditions.bare right.bare;
      calls = conditions.calls ++ right.calls;
    })

abbrev pub every_tree : List Tree → Tree
every_tree [] = typed.Every []
every_tree (one ∷ []) = one
every_tree (one ∷ other ∷ more) = typed.Every (one ∷ other ∷ more)

abbrev pub either_tree : List Tree → Tree
either_tree [] = typed.Either []
either_tree (one ∷ []) = one
either_tree (one ∷ other ∷ more) = typed.Either (one ∷ other ∷ more)

abbrev pub every : View → Conditions → Answer Part
every view c = Ok (part_of view (every_tree c.list) c.bare c.calls)

abbrev pub either : View → Conditions → Answer Part
either view c = Ok (part_of view (either_tree c.list) c.bare c.calls)
