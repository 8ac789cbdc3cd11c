-- Conditions, and the conjuncts of WHERE.
use Rattle.std.specs.Prelude.{ℕ, ◌&&◌, List, [], ◌∷◌, ◌++◌, Ok}
use Rattle.ooc_types.specs.declared.schema.SqlType.TheVariants.{Boolean}
use Rattle.ooc_types.specs.declared.refusal.RefusalKind.TheVariants.{TypeMismatch}
use Rattle.sql_expr.specs.declared.tree.Expr.{Expr as Tree}
use Rattle.sql_expr.specs.declared.tree.Link.{Link}
use Rattle.sql_expr.specs.declared.tree.Expr.TheOpen.{Expr-F}
use Rattle.sql_expr.specs.declared.tree.Expr.TheViews.{out-Expr}
use Rattle.sql_expr.specs.Kinds.{kind_of}
use Rattle.bound_tree.specs.declared.select.Conjunct.{Conjunct}
use Rattle.bound_tree.specs.declared.select.Conjunct.TheVariants.{Condition}
use Rattle.sql_scope.specs.declared.part.Part.{Part}
use Rattle.sql_scope.specs.declared.fault.BindFault.{BindFault}
use Rattle.sql_scope.specs.declared.fault.BindFault.TheVariants.{Refused}
use Rattle.sql_scope.specs.Answer.{Answer, unless, ◌>>=◌}
use Rattle.sql_scope.specs.Operations.{is_boolean}
use Rattle.sql_clauses.specs.declared.conditions.FilterOperand.{FilterOperand}
use Rattle.sql_clauses.specs.declared.conditions.Filter.{Filter}

abbrev pub mismatch_at : ℕ → BindFault
mismatch_at place = Refused place TypeMismatch

-- a condition is BOOLEAN; its place is that of its first token
abbrev pub condition : ℕ → Part → Answer Part
condition place part = unless (is_boolean (kind_of part.tree)) place TypeMismatch part

abbrev pub operands_in : Tree → Expr-F Tree Link → List Tree
operands_in whole (Expr-F.Every list) = list
operands_in whole node = whole ∷ []

-- the operands of the outermost AND
abbrev pub conjuncts : Tree → List Tree
conjuncts tree = operands_in tree (out-Expr tree)

abbrev pub conjuncts_of : Part → Answer (List Tree)
conjuncts_of part = Ok (conjuncts part.tree)

-- the condition of ON
abbrev pub on_condition : ℕ → Part → Answer (List Tree)
on_condition place part = condition place part >>= conjuncts_of

-- ---- WHERE, whose operands may be IN with a subquery

abbrev pub plain_operand : Part → Answer FilterOperand
plain_operand part = Ok (record { conjunct = Condition part.tree; kind = kind_of part.tree })

abbrev pub begun : FilterOperand → Answer Filter
begun operand = Ok (record { conjuncts = operand.conjunct ∷ []; kind = operand.kind })

-- one more operand, behind an AND at this place
abbrev pub joined : ℕ → Filter → FilterOperand → Answer Filter
joined place filter operand =
    unless (is_boolean filter.kind && is_boolean operand.kind) place TypeMismatch
    (record { conjuncts = filter.conjuncts ++ operand.conjunct ∷ []; kind = Boolean })

abbrev pub ended : ℕ → Filter → Answer (List Conjunct)
ended place filter = unless (is_boolean filter.kind) place TypeMismatch filter.conjuncts
