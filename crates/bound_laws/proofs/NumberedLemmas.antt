-- The columns of a well-formed SELECT have numbers of 32 bits.
use Rattle.std.proofs.Common.{ℕ, ◌<◌, sym, subst, arith}
use Rattle.std.specs.Prelude.{⊤}
use Rattle.bound_tree.specs.declared.select.BoundCore.{BoundCore}
use Rattle.bound_tree.specs.declared.select.BoundRows.{BoundRows}
use Rattle.bound_tree.specs.declared.select.BoundSelect.{BoundSelect}
use Rattle.bound_tree.specs.declared.select.BoundSource.{BoundSource}
use Rattle.bound_tree.specs.declared.select.Conjunct.{Conjunct}
use Rattle.bound_tree.specs.declared.select.SourceRows.{SourceRows}
use Rattle.bound_tree.specs.declared.select.BoundRows.TheOpen.{BoundCore-F}
use Rattle.sql_plan.specs.Chosen.{columns_limit}
use Rattle.sql_plan.specs.Numbered.{AreNumbered, AreNumberedConjunct, AreNumberedCore, AreNumberedInput, AreNumberedRows, AreNumberedSource, IsNumberedCore}
use Rattle.well_formed.specs.Cores.{IsCoreNode}
use Rattle.well_formed.specs.From.{IsSourceNode}
use Rattle.well_formed.specs.Given.{Schemas}
use Rattle.well_formed.specs.Rows.{AnyConjunct, AnyInput, IsRowsNode, IsSelectNode, IsWellFormedSelect}
use Rattle.well_formed.proofs.Parts.{rows_made, part_made, input_made, core_made, whole_made, from_made, whole_brings}
use Rattle.bound_laws.proofs.PlannableLemmas.{columns-are}

core-numbered : (limit : ℕ) (x : BoundCore-F BoundRows Conjunct SourceRows BoundCore BoundSelect BoundSource) → IsCoreNode limit x → IsNumberedCore x
unfolding columns_limit
core-numbered limit x node =
    subst (λ (n : ℕ). n < columns_limit) (sym (columns-are x.sources)) (let narrow = node.from.narrow in omega arith)

pub well-formed-numbered : (limit : ℕ) (schemas : Schemas) (select : BoundSelect) → IsWellFormedSelect limit schemas select → AreNumbered select
well-formed-numbered limit schemas = whole_brings IsRowsNode AnyConjunct AnyInput (IsCoreNode limit) IsSelectNode (IsSourceNode schemas)
    AreNumberedRows AreNumberedConjunct AreNumberedInput AreNumberedCore AreNumbered AreNumberedSource
    (λ x node well held. rows_made (λ x. ⊤) (λ x. ⊤) (λ x. ⊤) IsNumberedCore (λ x. ⊤) (λ x. ⊤) x held tt)
    (λ x node well held. part_made (λ x. ⊤) (λ x. ⊤) (λ x. ⊤) IsNumberedCore (λ x. ⊤) (λ x. ⊤) x held tt)
    (λ x node well held. input_made (λ x. ⊤) (λ x. ⊤) (λ x. ⊤) IsNumberedCore (λ x. ⊤) (λ x. ⊤) x held tt)
    (λ x node well held. core_made (λ x. ⊤) (λ x. ⊤) (λ x. ⊤) IsNumberedCore (λ x. ⊤) (λ x. ⊤) x held (core-numbered limit x node))
    (λ x node well held. whole_made (λ x. ⊤) (λ x. ⊤) (λ x. ⊤) IsNumberedCore (λ x. ⊤) (λ x. ⊤) x held tt)
    (λ x node well held. from_made (λ x. ⊤) (λ x. ⊤) (λ x. ⊤) IsNumberedCore (λ x. ⊤) (λ x. ⊤) x held tt)
