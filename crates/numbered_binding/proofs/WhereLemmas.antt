-- The operands of WHERE.
use Rattle.std.proofs.Common.{ℕ, Bool, [], ◌∷◌, ◌++◌, subst, Ok}
use Rattle.std.specs.Prelude.{⊤, ◌&&◌}
use Rattle.std.specs.List.{AllByRecursion}
use Rattle.ooc_types.specs.declared.schema.SqlType.{SqlType}
use Rattle.ooc_types.specs.declared.schema.SqlType.TheVariants.{Boolean}
use Rattle.ooc_types.specs.declared.refusal.RefusalKind.TheVariants.{TypeMismatch}
use Rattle.bound_tree.specs.declared.select.BoundSelect.{BoundSelect}
use Rattle.bound_tree.specs.declared.select.Conjunct.TheVariants.{Member, rolls-Condition, rolls-Member}
use Rattle.bound_tree.specs.declared.select.BoundRows.TheOpen.{Conjunct-F}
use Rattle.sql_plan.specs.Numbered.{AreNumbered, AreNumberedConjunct, IsNumberedCore}
use Rattle.sql_scope.specs.declared.part.Part.{Part}
use Rattle.sql_scope.specs.Answer.{Answer, ◌>>=◌}
use Rattle.sql_scope.specs.Operations.{is_boolean}
use Rattle.sql_clauses.specs.declared.conditions.FilterOperand.{FilterOperand}
use Rattle.sql_clauses.specs.declared.conditions.Filter.{Filter}
use Rattle.sql_clauses.specs.Conditions.{begun, ended, joined, plain_operand}
use Rattle.sql_clauses.specs.Membership.{matched, member}
use Rattle.well_formed.proofs.Parts.{part_made}
use Rattle.numbered_binding.specs.Kept.{IsFilter, IsOperand, OfAnswer}
use Rattle.numbered_binding.proofs.AnswerLemmas.{all-behind, asked-for, behind-any, on-answer}

pub plain-kept : (m : Answer Part) → OfAnswer IsOperand (m >>= plain_operand)
plain-kept m = behind-any IsOperand m plain_operand
    (λ part. subst AreNumberedConjunct (rolls-Condition part.tree) (part_made (λ x. ⊤) (λ x. ⊤) (λ x. ⊤) IsNumberedCore (λ x. ⊤) (λ x. ⊤) (Conjunct-F.Condition part.tree) tt tt))

pub member-kept : (place at : ℕ) (negated : Bool) (of : Part) (query : BoundSelect) → AreNumbered query → OfAnswer IsOperand (member place at negated of query)
member-kept place at negated of query numbered =
    behind-any IsOperand (matched place at of.tree query) (λ (k : SqlType). Ok (record { conjunct = Member of.tree query negated; kind = Boolean }))
    (λ k. subst AreNumberedConjunct (rolls-Member of.tree query negated)
    (part_made (λ x. ⊤) (λ x. ⊤) (λ x. ⊤) IsNumberedCore (λ x. ⊤) (λ x. ⊤) (Conjunct-F.Member of.tree query negated) numbered tt))

pub begun-kept : (m : Answer FilterOperand) → OfAnswer IsOperand m → OfAnswer IsFilter (m >>= begun)
begun-kept m h = on-answer IsOperand IsFilter m begun h (λ operand is. (is, tt))

pub joined-kept : (place : ℕ) (filter : Filter) (operand : FilterOperand) → IsFilter filter → IsOperand operand → OfAnswer IsFilter (joined place filter operand)
joined-kept place filter operand f o =
    asked-for IsFilter (is_boolean filter.kind && is_boolean operand.kind) place TypeMismatch (record { conjuncts = filter.conjuncts ++ operand.conjunct ∷ []; kind = Boolean })
    (λ e. all-behind AreNumberedConjunct filter.conjuncts operand.conjunct f o)

pub ended-kept : (place : ℕ) (filter : Filter) → IsFilter filter → OfAnswer (AllByRecursion AreNumberedConjunct) (ended place filter)
ended-kept place filter f = asked-for (AllByRecursion AreNumberedConjunct) (is_boolean filter.kind) place TypeMismatch filter.conjuncts (λ e. f)
