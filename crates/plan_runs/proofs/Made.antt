-- A SELECT has numbered columns where its parts have.
use Rattle.std.proofs.Common.{◌≡◌, ℕ, ◌+◌, ◌<◌, Bool, true, List, [], sym, ap, ◌∙◌, subst, length, get_or, drop}
use Rattle.std.specs.Prelude.{⊤, ◌&&◌}
use Rattle.std.specs.List.{AllByRecursion}
use Rattle.std.proofs.lemmas.Bool.{and_parts}
use Rattle.ooc_types.specs.declared.schema.SqlType.{SqlType}
use Rattle.sql_expr.specs.declared.tree.Expr.{Expr}
use Rattle.bound_tree.specs.declared.kinds.SetKind.{SetKind}
use Rattle.bound_tree.specs.declared.select.BoundCore.{BoundCore}
use Rattle.bound_tree.specs.declared.select.BoundRows.{BoundRows}
use Rattle.bound_tree.specs.declared.select.BoundSelect.{BoundSelect}
use Rattle.bound_tree.specs.declared.select.BoundSource.{BoundSource}
use Rattle.bound_tree.specs.declared.select.Conjunct.{Conjunct}
use Rattle.bound_tree.specs.declared.select.SourceRows.{SourceRows}
use Rattle.bound_tree.specs.declared.select.BoundRows.TheOpen.{BoundRows-F, Conjunct-F, SourceRows-F}
use Rattle.bound_tree.specs.declared.select.BoundRows.TheViews.{out-BoundRows, out-Conjunct, out-SourceRows, out-BoundCore, out-BoundSelect, out-BoundSource, roll-BoundRows, roll-Conjunct, roll-SourceRows, roll-out-BoundRows, roll-out-Conjunct, roll-out-SourceRows, roll-out-BoundCore, roll-out-BoundSelect, roll-out-BoundSource}
use Rattle.plan_tree.specs.Plannable.{columns_of_sources}
use Rattle.sql_plan.specs.Chosen.{columns_limit}
use Rattle.sql_plan.specs.Numbered.{IsNumberedCore, AreNumbered, AreNumberedConjunct, AreNumberedCore, AreNumberedInput, AreNumberedRows, AreNumberedSource}
use Rattle.sql_plan.proofs.Lists.{drop_is}
use Rattle.well_formed.proofs.Parts.{rows_made, part_made, input_made, core_made, whole_made, from_made}

pub rows-core : (t : BoundRows) (core : BoundCore) → out-BoundRows t ≡ BoundRows-F.Core core → AreNumberedCore core → AreNumberedRows t
rows-core t core is held =
    subst AreNumberedRows (ap roll-BoundRows (sym is) ∙ roll-out-BoundRows t) (rows_made (λ x. ⊤) (λ x. ⊤) (λ x. ⊤) IsNumberedCore (λ x. ⊤) (λ x. ⊤) (BoundRows-F.Core core) held tt)

pub rows-set : (t : BoundRows) (kind : SetKind) (all : Bool) (left right : BoundRows) (kinds : List SqlType) → out-BoundRows t ≡ BoundRows-F.Set kind all left right kinds
    → AreNumberedRows left → AreNumberedRows right → AreNumberedRows t
rows-set t kind all left right kinds is l r =
    subst AreNumberedRows (ap roll-BoundRows (sym is) ∙ roll-out-BoundRows t)
    (rows_made (λ x. ⊤) (λ x. ⊤) (λ x. ⊤) IsNumberedCore (λ x. ⊤) (λ x. ⊤) (BoundRows-F.Set kind all left right kinds) (l, r) tt)

pub input-table : (t : SourceRows) (name : List ℕ) → out-SourceRows t ≡ SourceRows-F.Table name → AreNumberedInput t
input-table t name is =
    subst AreNumberedInput (ap roll-SourceRows (sym is) ∙ roll-out-SourceRows t) (input_made (λ x. ⊤) (λ x. ⊤) (λ x. ⊤) IsNumberedCore (λ x. ⊤) (λ x. ⊤) (SourceRows-F.Table name) tt tt)

pub input-query : (t : SourceRows) (select : BoundSelect) → out-SourceRows t ≡ SourceRows-F.Query select → AreNumbered select → AreNumberedInput t
input-query t select is held =
    subst AreNumberedInput (ap roll-SourceRows (sym is) ∙ roll-out-SourceRows t) (input_made (λ x. ⊤) (λ x. ⊤) (λ x. ⊤) IsNumberedCore (λ x. ⊤) (λ x. ⊤) (SourceRows-F.Query select) held tt)

pub conjunct-condition : (t : Conjunct) (expr : Expr) → out-Conjunct t ≡ Conjunct-F.Condition expr → AreNumberedConjunct t
conjunct-condition t expr is =
    subst AreNumberedConjunct (ap roll-Conjunct (sym is) ∙ roll-out-Conjunct t) (part_made (λ x. ⊤) (λ x. ⊤) (λ x. ⊤) IsNumberedCore (λ x. ⊤) (λ x. ⊤) (Conjunct-F.Condition expr) tt tt)

pub conjunct-member : (t : Conjunct) (of : Expr) (query : BoundSelect) (negated : Bool) → out-Conjunct t ≡ Conjunct-F.Member of query negated → AreNumbered query → AreNumberedConjunct t
conjunct-member t of query negated is held =
    subst AreNumberedConjunct (ap roll-Conjunct (sym is) ∙ roll-out-Conjunct t) (part_made (λ x. ⊤) (λ x. ⊤) (λ x. ⊤) IsNumberedCore (λ x. ⊤) (λ x. ⊤) (Conjunct-F.Member of query negated) held tt)

pub core-made : (t : BoundCore) → columns_of_sources (out-BoundCore t).sources < columns_limit → AllByRecursion AreNumberedSource (out-BoundCore t).sources
    → AllByRecursion AreNumberedConjunct (out-BoundCore t).conjuncts → AreNumberedCore t
core-made t few sources conjuncts =
    subst AreNumberedCore (roll-out-BoundCore t) (core_made (λ x. ⊤) (λ x. ⊤) (λ x. ⊤) IsNumberedCore (λ x. ⊤) (λ x. ⊤) (out-BoundCore t) (sources, conjuncts) few)

pub select-made : (t : BoundSelect) → AreNumberedRows (out-BoundSelect t).rows → AreNumbered t
select-made t held = subst AreNumbered (roll-out-BoundSelect t) (whole_made (λ x. ⊤) (λ x. ⊤) (λ x. ⊤) IsNumberedCore (λ x. ⊤) (λ x. ⊤) (out-BoundSelect t) held tt)

pub source-made : (t : BoundSource) → AreNumberedInput (out-BoundSource t).rows → AreNumberedSource t
source-made t held = subst AreNumberedSource (roll-out-BoundSource t) (from_made (λ x. ⊤) (λ x. ⊤) (λ x. ⊤) IsNumberedCore (λ x. ⊤) (λ x. ⊤) (out-BoundSource t) held tt)

-- ---- the items of a list one after another

-- what a walk over a list says: where all were so far and those that are left are, the whole list is
pub record SoFar {A : Type 0} (P : A → Type 0) (list : List A) (i : ℕ) (all : Bool) : Type 0 where
  pub whole : all ≡ true → AllByRecursion P (drop i list) → AllByRecursion P list

pub begins : {A : Type 0} → (P : A → Type 0) (list : List A) (all : Bool) → SoFar P list 0 all
begins P list all = record { whole = λ h rest. rest }

pub goes_on : {A : Type 0} → (P : A → Type 0) (list : List A) (i : ℕ) (x : A) (all one both : Bool) → i < length list → x ≡ get_or list i x
    → SoFar P list i all → (one ≡ true → P x) → both ≡ all && one → SoFar P list (i + 1) both
goes_on P list i x all one both h is far holds e = record {
  whole =
      λ t rest.
      let parts : (all ≡ true) × (one ≡ true) = and_parts all one (sym e ∙ t) in
      far.whole parts.0 (subst (AllByRecursion P) (sym (drop_is list i x h is)) (holds parts.1, rest));
}

pub ends : {A : Type 0} → (P : A → Type 0) (list : List A) (i : ℕ) (all : Bool) → drop i list ≡ [] → SoFar P list i all → all ≡ true → AllByRecursion P list
ends P list i all none far t = far.whole t (subst (AllByRecursion P) (sym none) tt)
