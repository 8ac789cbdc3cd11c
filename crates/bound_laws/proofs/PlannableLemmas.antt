-- A well-formed SELECT is plannable.
use Rattle.std.proofs.Common.{◌≡◌, ℕ, ◌+◌, ◌≤◌, List, [], ◌∷◌, ◌++◌, length, refl, sym, ap, ◌∙◌, subst, arith}
use Rattle.std.specs.Prelude.{⊤}
use Rattle.std.specs.List.{AllByRecursion}
use Rattle.ooc_types.specs.declared.schema.SqlType.{SqlType}
use Rattle.sql_expr.specs.declared.tree.Expr.{Expr}
use Rattle.bound_tree.specs.declared.select.BoundCore.{BoundCore}
use Rattle.bound_tree.specs.declared.select.BoundRows.{BoundRows}
use Rattle.bound_tree.specs.declared.select.BoundSelect.{BoundSelect}
use Rattle.bound_tree.specs.declared.select.BoundSource.{BoundSource}
use Rattle.bound_tree.specs.declared.select.Conjunct.{Conjunct}
use Rattle.bound_tree.specs.declared.select.SourceRows.{SourceRows}
use Rattle.bound_tree.specs.declared.select.BoundRows.TheOpen.{BoundCore-F, Conjunct-F}
use Rattle.bound_tree.specs.declared.select.BoundRows.TheFolds.{every-BoundRows, every-Conjunct, every-SourceRows, every-BoundCore, every-BoundSelect, every-BoundSource}
use Rattle.bound_tree.specs.declared.select.BoundRows.TheViews.{out-BoundSource, out-Conjunct}
use Rattle.sql_meaning.specs.Statements.{Tables}
use Rattle.plan_tree.specs.Plannable.{AreJoinable, IsPlannable, IsPlannableCore, IsSure, IsWithin, IsWithinNode, columns_of_source, columns_of_sources}
use Rattle.plan_tree.specs.Split.{top}
use Rattle.plan_tree.proofs.JoinLemmas.{all-on}
use Rattle.well_formed.specs.Cores.{IsConjunct, IsConjunctIn, IsCoreNode}
use Rattle.well_formed.specs.Exprs.{IsCondition}
use Rattle.well_formed.specs.From.{AreJoined, IsSourceNode}
use Rattle.well_formed.specs.Given.{Schemas, kinds_of_source, kinds_of_sources}
use Rattle.well_formed.specs.Rows.{AnyConjunct, AnyInput, IsRowsNode, IsSelectNode, IsWellFormedSelect, IsWellFormedSource}
use Rattle.well_formed.proofs.Parts.{rows_made, part_made, input_made, core_made, whole_made, from_made, whole_brings}
use Rattle.bound_laws.specs.Meeting.{MeetSchemas}
use Rattle.bound_laws.proofs.ColumnLemmas.{typed-sure, typed-top}
use Rattle.bound_laws.proofs.RowLemmas.{source-wide}

length-append : {A : Type 0} (xs ys : List A) → length (xs ++ ys) ≡ length xs + length ys
length-append [] ys = omega arith
length-append (x ∷ xs) ys = let h = length-append xs ys in omega arith

pub columns-are : (sources : List BoundSource) → columns_of_sources sources ≡ length (kinds_of_sources sources)
columns-are [] = refl
columns-are (source ∷ sources) =
    ap (λ n. columns_of_source source + n) (columns-are sources) ∙ sym (length-append (kinds_of_source source) (kinds_of_sources sources))

condition-sure : (limit : ℕ) (columns : List SqlType) (e : Expr) → IsCondition limit columns e → IsSure e
condition-sure limit columns e is = typed-sure columns e is.whole.typed

condition-top : (limit : ℕ) (columns : List SqlType) (e : Expr) → IsCondition limit columns e → top e ≤ length columns
condition-top limit columns e is = typed-top columns e is.whole.typed

module _ (limit : ℕ) (schemas : Schemas) (tables : Tables) (meet : MeetSchemas limit schemas tables) where
  joinable : (columns : List SqlType) (sources : List BoundSource) → AreJoined limit columns sources → AllByRecursion (IsWellFormedSource limit schemas) sources → AreJoinable tables (length columns) sources
  joinable columns [] joined well = tt
  joinable columns (source ∷ sources) joined well =
      let seen = columns ++ kinds_of_source source in
      let on = (out-BoundSource source).on in
      let width : length seen ≡ length columns + columns_of_source source = length-append columns (kinds_of_source source) in (
        source-wide limit schemas tables meet source well.0,
        (
          subst (λ (n : ℕ). AllByRecursion (λ (e : Expr). top e ≤ n) on) width
              (all-on (IsCondition limit seen) (λ e. top e ≤ length seen) (condition-top limit seen) on joined.0.conditions),
          (
            all-on (IsCondition limit seen) IsSure (condition-sure limit seen) on joined.0.conditions,
            subst (λ (n : ℕ). AreJoinable tables n sources) width (joinable seen sources joined.1 well.1),
          ),
        ),
      )

  within-node : (columns : List SqlType) (x : Conjunct-F BoundRows Conjunct SourceRows BoundCore BoundSelect BoundSource) → IsConjunctIn limit columns x → IsWithinNode (length columns) x
  within-node columns (Conjunct-F.Condition expr) is = (condition-top limit columns expr is, condition-sure limit columns expr is)
  within-node columns (Conjunct-F.Member of query negated) is = tt

  core-plannable : (x : BoundCore-F BoundRows Conjunct SourceRows BoundCore BoundSelect BoundSource) → IsCoreNode limit x → AllByRecursion (IsWellFormedSource limit schemas) x.sources → IsPlannableCore tables x
  core-plannable x node well = (
    joinable [] x.sources node.from.joined well,
    subst (λ (n : ℕ). AllByRecursion (IsWithin n) x.conjuncts) (sym (columns-are x.sources))
        (all-on (IsConjunct limit (kinds_of_sources x.sources)) (IsWithin (length (kinds_of_sources x.sources)))
        (λ conjunct is. within-node (kinds_of_sources x.sources) (out-Conjunct conjunct) is) x.conjuncts node.conjuncts),
  )

  abbrev Cores : BoundCore-F BoundRows Conjunct SourceRows BoundCore BoundSelect BoundSource → Type 0
  Cores = IsPlannableCore tables

  select-plannable : (select : BoundSelect) → IsWellFormedSelect limit schemas select → IsPlannable tables select
  select-plannable = whole_brings IsRowsNode AnyConjunct AnyInput (IsCoreNode limit) IsSelectNode (IsSourceNode schemas)
      (every-BoundRows (λ x. ⊤) (λ x. ⊤) (λ x. ⊤) Cores (λ x. ⊤) (λ x. ⊤))
      (every-Conjunct (λ x. ⊤) (λ x. ⊤) (λ x. ⊤) Cores (λ x. ⊤) (λ x. ⊤))
      (every-SourceRows (λ x. ⊤) (λ x. ⊤) (λ x. ⊤) Cores (λ x. ⊤) (λ x. ⊤))
      (every-BoundCore (λ x. ⊤) (λ x. ⊤) (λ x. ⊤) Cores (λ x. ⊤) (λ x. ⊤))
      (every-BoundSelect (λ x. ⊤) (λ x. ⊤) (λ x. ⊤) Cores (λ x. ⊤) (λ x. ⊤))
      (every-BoundSource (λ x. ⊤) (λ x. ⊤) (λ x. ⊤) Cores (λ x. ⊤) (λ x. ⊤))
      (λ x node well held. rows_made (λ x. ⊤) (λ x. ⊤) (λ x. ⊤) Cores (λ x. ⊤) (λ x. ⊤) x held tt)
      (λ x node well held. part_made (λ x. ⊤) (λ x. ⊤) (λ x. ⊤) Cores (λ x. ⊤) (λ x. ⊤) x held tt)
      (λ x node well held. input_made (λ x. ⊤) (λ x. ⊤) (λ x. ⊤) Cores (λ x. ⊤) (λ x. ⊤) x held tt)
      (λ x node well held. core_made (λ x. ⊤) (λ x. ⊤) (λ x. ⊤) Cores (λ x. ⊤) (λ x. ⊤) x held (core-plannable x node well.0))
      (λ x node well held. whole_made (λ x. ⊤) (λ x. ⊤) (λ x. ⊤) Cores (λ x. ⊤) (λ x. ⊤) x held tt)
      (λ x node well held. from_made (λ x. ⊤) (λ x. ⊤) (λ x. ⊤) Cores (λ x. ⊤) (λ x. ⊤) x held tt)

pub well-formed-plannable : (limit : ℕ) (schemas : Schemas) (tables : Tables) (select : BoundSelect) → IsWellFormedSelect limit schemas select → MeetSchemas limit schemas tables → IsPlannable tables select
well-formed-plannable limit schemas tables select well meet = select-plannable limit schemas tables meet select well
