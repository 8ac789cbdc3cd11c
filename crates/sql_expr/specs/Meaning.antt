-- The value of an expression over a row, or its fault.
use Rattle.std.specs.Prelude.{ℕ, Bool, true, false, List, [], ◌∷◌, map, slice_index_or, Ok, Err, if◌then◌else◌, not}
use Rattle.ooc_types.specs.declared.truth.Truth.{Truth as Ternary}
use Rattle.ooc_types.specs.declared.truth.Truth.TheVariants.{Yes, No, Unknown}
use Rattle.ooc_types.specs.declared.value.Value.{Value}
use Rattle.ooc_types.specs.declared.value.Value.TheVariants.{Null, Truth, Text}
use Rattle.ooc_types.specs.declared.schema.SqlType.{SqlType}
use Rattle.sql_expr.specs.declared.tree.ChainSign.{ChainSign}
use Rattle.sql_expr.specs.declared.tree.CompareSign.{CompareSign}
use Rattle.sql_expr.specs.declared.tree.CompareSign.TheVariants.{Equal, AtMost, AtLeast}
use Rattle.sql_expr.specs.declared.tree.Expr.{Expr}
use Rattle.sql_expr.specs.declared.tree.Link.{Link}
use Rattle.sql_expr.specs.declared.tree.Expr.TheOpen.{Expr-F, Link-F}
use Rattle.sql_expr.specs.declared.tree.Expr.TheFolds.{fold-Expr, fold-Link}
use Rattle.sql_expr.specs.Logic.{and_truth, or_truth, truth_value, truth_in, negated_if}
use Rattle.sql_expr.specs.Comparison.{compared, is_null}
use Rattle.sql_expr.specs.Characters.{characters}
use Rattle.sql_expr.specs.Like.{is_like}
use Rattle.sql_expr.specs.Arithmetic.{Meaning, applied, opposite}

-- the first fault is the fault of the whole
abbrev pub then_value : Meaning → (Value → Meaning) → Meaning
then_value (Err fault) f = Err fault
then_value (Ok v) f = f v

-- the truth of a value, negated where `negated` says so
abbrev pub perhaps_not : Bool → Value → Meaning
perhaps_not negated v = Ok (truth_value (negated_if negated (truth_in v)))

-- AND behind a left operand of this truth: where it is false the right operand isn't evaluated
abbrev pub and_behind : Ternary → Meaning → Meaning
and_behind No m = Ok (Truth false)
and_behind Yes m = then_value m (λ w. Ok (truth_value (and_truth Yes (truth_in w))))
and_behind Unknown m = then_value m (λ w. Ok (truth_value (and_truth Unknown (truth_in w))))

abbrev pub and_also : Meaning → Meaning → Meaning
and_also m n = then_value m (λ v. and_behind (truth_in v) n)

-- OR behind a left operand of this truth: where it is true the right operand isn't evaluated
abbrev pub or_behind : Ternary → Meaning → Meaning
or_behind Yes m = Ok (Truth true)
or_behind No m = then_value m (λ w. Ok (truth_value (or_truth No (truth_in w))))
or_behind Unknown m = then_value m (λ w. Ok (truth_value (or_truth Unknown (truth_in w))))

-- `m AND n1 AND n2 ..`, from left to right
abbrev pub every_from : Meaning → List Meaning → Meaning
every_from (Err fault) ns = Err fault
every_from (Ok v) [] = Ok v
every_from (Ok v) (n ∷ ns) = every_from (and_behind (truth_in v) n) ns

-- `m OR n1 OR n2 ..`, from left to right
abbrev pub either_from : Meaning → List Meaning → Meaning
either_from (Err fault) ns = Err fault
either_from (Ok v) [] = Ok v
either_from (Ok v) (n ∷ ns) = either_from (or_behind (truth_in v) n) ns

-- a sign, its type, and the meaning to its right
pub record LinkMeaning : Type 0 where
  pub sign : ChainSign
  pub kind : SqlType
  pub right : Meaning

abbrev pub linked : Meaning → LinkMeaning → Meaning
linked m link = then_value m (λ v. then_value link.right (λ w. applied link.sign link.kind v w))

-- a chain acts from left to right
abbrev pub chain_from : Meaning → List LinkMeaning → Meaning
chain_from (Err fault) links = Err fault
chain_from (Ok v) [] = Ok v
chain_from (Ok v) (link ∷ links) = chain_from (linked (Ok v) link) links

abbrev pub comparison : CompareSign → Meaning → Meaning → Meaning
comparison sign m n = then_value m (λ v. then_value n (λ w. Ok (compared sign v w)))

-- the OR chain of equalities of a value, which is evaluated first
abbrev pub one_of : Meaning → List Meaning → Meaning
one_of m constants = then_value m (λ v. either_from (Ok (Truth false)) (map (comparison Equal (Ok v)) constants))

-- `a >= x AND a <= y`
abbrev pub between : Meaning → Meaning → Meaning → Meaning
between m low high = and_also (comparison AtLeast m low) (comparison AtMost m high)

abbrev pub liked : List ℕ → Value → Value
liked pattern (Text bytes) = Truth (is_like (characters pattern) (characters bytes))
liked pattern v = Null

-- what IS NULL says where it is known whether the operand is NULL
abbrev pub tested_null : Bool → Bool → Value
tested_null negated null = Truth (if negated then not null else null)

abbrev pub null_test : Bool → Value → Value
null_test negated v = tested_null negated (is_null v)

abbrev pub link_step : Link-F Meaning LinkMeaning → LinkMeaning
link_step link = record { sign = link.sign; kind = link.kind; right = link.right }

-- One node, with the meaning of each operand in its place.
abbrev pub value_step : List Value → Expr-F Meaning LinkMeaning → Meaning
value_step row (Expr-F.Constant value kind) = Ok value
value_step row (Expr-F.Column place kind) = Ok (slice_index_or row place Null)
value_step row (Expr-F.Not of) = then_value of (perhaps_not true)
value_step row (Expr-F.Minus of kind) = then_value of (opposite kind)
value_step row (Expr-F.Every list) = every_from (Ok (Truth true)) list
value_step row (Expr-F.Either list) = either_from (Ok (Truth false)) list
value_step row (Expr-F.Chain first links) = chain_from first links
value_step row (Expr-F.Compare sign left right) = comparison sign left right
value_step row (Expr-F.IsNull of negated) = then_value of (λ v. Ok (null_test negated v))
value_step row (Expr-F.Like of pattern negated) = then_value of (λ v. perhaps_not negated (liked pattern v))
value_step row (Expr-F.OneOf of list negated) = then_value (one_of of list) (perhaps_not negated)
value_step row (Expr-F.Between of low high negated) = then_value (between of low high) (perhaps_not negated)

-- the value of an expression over a row, or its fault
abbrev pub value_of : List Value → Expr → Meaning
value_of row = fold-Expr Meaning LinkMeaning (value_step row) link_step

abbrev pub link_meaning : List Value → Link → LinkMeaning
link_meaning row = fold-Link Meaning LinkMeaning (value_step row) link_step

-- the same, with the link's parts in view
abbrev pub plain_link : List Value → Link → LinkMeaning
plain_link row link = record { sign = link.sign; kind = link.kind; right = value_of row link.right }
