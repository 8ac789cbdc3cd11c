-- What a bound statement does.
use Rattle.std.proofs.Common.{◌≡◌, ℕ, inl, inr, List, [], ◌∷◌, ◌++◌, Result, Ok, Err, Vec, refl, ap, sym, ◌∙◌, subst, ◌⊎◌, lit<}
use Rattle.std.specs.Result.{IfOk}
use Rattle.bound_tree.specs.declared.statement.Bound.{Bound}
use Rattle.bound_tree.specs.declared.statement.Bound.TheVariants.{CreateTable, DropTable, Copy, Explain, Select}
use Rattle.bound_tree.specs.declared.select.BoundSelect.{BoundSelect}
use Rattle.plan_tree.specs.Planned.{plan_of_select}
use Rattle.plan_text.specs.Explained.{plan_text}
use Rattle.run_settings.specs.declared.status.Status.{Status}
use Rattle.run_settings.specs.declared.status.Place.TheVariants.{Byte}
use Rattle.sql_grammar.specs.declared.tree.statement.Statement.{Statement}
use Rattle.sql_scope.specs.declared.scope.TableColumns.{TableColumns}
use Rattle.sql_scope.specs.Answer.{Answer, refuse}
use Rattle.bind_rules.specs.Bound.{bound_of}
use Rattle.ooc_types.specs.declared.refusal.RefusalKind.{RefusalKind}
use Rattle.script_opening.specs.Reading.{result_items}
use Rattle.script_opening.specs.Trees.{MayCut}
use Rattle.script_says.specs.Catalog.{Catalog, with_table, without_table, schemas_of}
use Rattle.script_says.specs.Block.{Block, no_block}
use Rattle.script_says.specs.Outcome.{Outcome, Gives, Stops, refusal_at, once_bound}
use Rattle.script_says.specs.Checking.{plan_block, checked, check_statement}
use Rattle.script_says.specs.Ends.{IsStep}
use Rattle.script_says.specs.LastLine.{IsBlock}
use Rattle.std.specs.List.{Contains}
use Rattle.script_check.specs.Tables.{catalog_in, Acts}
use Rattle.script_check.proofs.Dropping.{put_behind, seen_columns}

only : (x : Status) → Contains (x ∷ []) x
only x = (0, lit< tt, refl)

module _ (bound : Bound) (ts now : List TableColumns) (text : List ℕ) (none : text ≡ []) where
  pub acts_create : (t : TableColumns) → bound ≡ CreateTable t.name t.columns → now ≡ ts ++ t ∷ [] → Acts {E = Unit {0}} (checked (catalog_in ts) bound) (catalog_in now) (Ok text)
  acts_create t is put = rw (is, put) (no_block, ap (λ c. Gives c no_block) (sym (put_behind ts t)), none)

  pub acts_drop : (name : List ℕ) → bound ≡ DropTable name → catalog_in now ≡ without_table (catalog_in ts) name → Acts {E = Unit {0}} (checked (catalog_in ts) bound) (catalog_in now) (Ok text)
  acts_drop name is dropped = rw is (no_block, ap (λ c. Gives c no_block) (sym dropped), none)

module _ {A E : Type 0} (ts : List TableColumns) (bound : Bound) (select : BoundSelect) (which : (bound ≡ Explain select) ⊎ (bound ≡ Select select)) where
  pub acts_planned : (r : Result (Vec ℕ A) E) → IfOk r (λ text. text.items ≡ plan_text (plan_of_select (λ name. 0) select)) → Acts (checked (catalog_in ts) bound) (catalog_in ts) (result_items r)
  acts_planned (Err e) h = tt
  acts_planned (Ok text) h = of which
    where
      of : (bound ≡ Explain select) ⊎ (bound ≡ Select select) → Acts {E = E} (checked (catalog_in ts) bound) (catalog_in ts) (Ok text.items)
      of (inl is) = rw is (plan_block select, refl, h)
      of (inr is) = rw is (plan_block select, refl, h)

pub plan_is_block : {A E : Type 0} (select : BoundSelect) (r : Result (Vec ℕ A) E) → IfOk r (λ text. text.items ≡ plan_text (plan_of_select (λ name. 0) select)) → IfOk r (λ text. IsBlock text.items)
plan_is_block select (Err e) h = tt
plan_is_block select (Ok text) h = inr (inr (plan_of_select (λ name. 0) select, h))

module _ (script : List ℕ) (limit number : ℕ) (ts : List TableColumns) (statement : Statement) where
  binds : (answer : Answer Bound) → bound_of statement script ts limit ≡ answer → check_statement script limit number (catalog_in ts) statement ≡ once_bound (checked (catalog_in ts)) number answer
  unfolding check_statement
  binds answer is = ap (once_bound (checked (catalog_in ts)) number) (ap (λ seen. bound_of statement script seen limit) (seen_columns ts) ∙ is)

  -- it was bound, and acted
  pub step_acted : (bound : Bound) (new : Catalog) (text : List ℕ) → bound_of statement script ts limit ≡ Ok bound → Acts {E = Unit {0}} (checked (catalog_in ts) bound) new (Ok text) → IsStep (check_statement script limit number (catalog_in ts) statement) new (Ok text)
  step_acted bound new text is acts = rw (binds (Ok bound) is) acts

  -- it isn't bound, and the refusal tells where and why
  pub step_refused : (seen place : ℕ) (named kind : RefusalKind) (new : Catalog) → bound_of statement script ts limit ≡ refuse place kind → seen ≡ place → named ≡ kind → IsStep (check_statement script limit number (catalog_in ts) statement) new (Err (refusal_at number (Byte seen) named))
  step_refused seen place named kind new is at why =
      rw (binds (refuse place kind) is, at, why) (inl (refusal_at number (Byte place) kind ∷ [], refl, only (refusal_at number (Byte place) kind)))
