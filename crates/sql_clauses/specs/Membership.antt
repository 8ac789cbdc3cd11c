-- IN with a subquery.
use Rattle.std.specs.Prelude.{ℕ, Bool, List, [], ◌∷◌, Ok}
use Rattle.ooc_types.specs.declared.schema.SqlType.{SqlType}
use Rattle.ooc_types.specs.declared.schema.SqlType.TheVariants.{Boolean}
use Rattle.ooc_types.specs.declared.schema.Column.{Column}
use Rattle.ooc_types.specs.declared.refusal.RefusalKind.TheVariants.{ColumnCount, TypeMismatch, InHere}
use Rattle.sql_expr.specs.declared.tree.Expr.{Expr as Tree}
use Rattle.sql_expr.specs.Kinds.{kind_of}
use Rattle.bound_tree.specs.declared.select.BoundSelect.{BoundSelect}
use Rattle.bound_tree.specs.declared.select.BoundRows.TheViews.{out-BoundSelect}
use Rattle.bound_tree.specs.declared.select.Conjunct.TheVariants.{Member}
use Rattle.sql_scope.specs.declared.part.Part.{Part}
use Rattle.sql_scope.specs.Answer.{Answer, refuse, unless, ◌>>=◌}
use Rattle.sql_scope.specs.Operations.{are_comparable}
use Rattle.sql_clauses.specs.declared.conditions.FilterOperand.{FilterOperand}

-- a subquery of one column
abbrev pub only_type : ℕ → List Column → Answer SqlType
only_type place [] = refuse place ColumnCount
only_type place (column ∷ []) = Ok column.kind
only_type place (column ∷ other ∷ more) = refuse place ColumnCount

-- Behind its operand and its subquery: at the subquery's SELECT, that it has one column, and at IN, that the types compare.
abbrev pub matched : ℕ → ℕ → Tree → BoundSelect → Answer SqlType
matched place select of query =
    only_type select (out-BoundSelect query).columns >>= (λ kind. unless (are_comparable (kind_of of) kind) place TypeMismatch kind)

-- as a conjunct of WHERE
abbrev pub member : ℕ → ℕ → Bool → Part → BoundSelect → Answer FilterOperand
member place select negated of query =
    matched place select of.tree query >>= (λ kind. Ok (record { conjunct = Member of.tree query negated; kind = Boolean }))

-- elsewhere
abbrev pub misplaced : ℕ → ℕ → Part → BoundSelect → Answer Part
misplaced place select of query = matched place select of.tree query >>= (λ kind. refuse place InHere)
