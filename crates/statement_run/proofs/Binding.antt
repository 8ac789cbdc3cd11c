-- A statement that is bound, and acts or is refused.
use Rattle.std.proofs.Common.{◌≡◌, ℕ, List, Option, Some, None, Result, Ok, Err, ap, ap₂, sym, ◌∙◌, subst}
use Rattle.std.specs.Prelude.{IfSome}
use Rattle.ooc_io.specs.Held.{Held}
use Rattle.ooc_types.specs.declared.refusal.RefusalKind.{RefusalKind}
use Rattle.row_image.specs.Rules.{text_limit}
use Rattle.run_settings.specs.declared.status.Status.{Status}
use Rattle.run_settings.specs.declared.status.Place.TheVariants.{Byte}
use Rattle.bound_tree.specs.declared.statement.Bound.{Bound}
use Rattle.sql_grammar.specs.declared.tree.statement.Statement.{Statement}
use Rattle.sql_scope.specs.declared.scope.TableColumns.{TableColumns}
use Rattle.sql_scope.specs.Answer.{Answer, refuse}
use Rattle.bind_rules.specs.Bound.{bound_of}
use Rattle.script_says.specs.Catalog.{Catalog, schemas_of}
use Rattle.script_says.specs.Ends.{IsStep}
use Rattle.script_says.specs.Outcome.{once_bound, refusal_at}
use Rattle.statement_run.specs.Running.{run_statement, running}
use Rattle.statement_run.proofs.Steps.{step_stops, whatever}

module _ (page number : ℕ) (script : List ℕ) (catalog : Catalog) (statement : Statement) (seen : List TableColumns) (limit : ℕ) (tables_are : seen ≡ schemas_of catalog) (limit_is : limit ≡ text_limit page) where
  pub bound_here : (answer : Answer Bound) → bound_of statement script seen limit ≡ answer → bound_of statement script (schemas_of catalog) (text_limit page) ≡ answer
  bound_here answer is = ap₂ (λ (ts : List TableColumns) (n : ℕ). bound_of statement script ts n) (sym tables_are) (sym limit_is) ∙ is

  binds : (held : Held) (answer : Answer Bound) → bound_of statement script seen limit ≡ answer → run_statement held page script number catalog statement ≡ once_bound (running held (text_limit page) number catalog) number answer
  unfolding run_statement
  binds held answer is = ap (once_bound (running held (text_limit page) number catalog) number) (bound_here answer is)

  -- it was bound, and acted
  pub step_acted : (holds : Option Held) (bound : Bound) (new : Catalog) (result : Result (List ℕ) Status) → bound_of statement script seen limit ≡ Ok bound
      → IfSome holds (λ held. IsStep (running held (text_limit page) number catalog bound) new result) → IfSome holds (λ held. IsStep (run_statement held page script number catalog statement) new result)
  step_acted None bound new result is acts = tt
  step_acted (Some held) bound new result is acts = rw (binds held (Ok bound) is) acts

  -- it isn't bound, and the refusal tells where and why
  pub step_refused : (holds : Option Held) (at place : ℕ) (named kind : RefusalKind) (new : Catalog) → bound_of statement script seen limit ≡ refuse place kind → at ≡ place → named ≡ kind
      → IfSome holds (λ held. IsStep (run_statement held page script number catalog statement) new (Err (refusal_at number (Byte at) named)))
  step_refused None at place named kind new is same why = tt
  step_refused (Some held) at place named kind new is same why =
      rw (binds held (refuse place kind) is) (step_stops new (refusal_at number (Byte place) kind) (refusal_at number (Byte at) named) (ap₂ (λ (n : ℕ) (k : RefusalKind). refusal_at number (Byte n) k) same why))

-- what a bound statement is does the same as it
pub step_of : (holds : Option Held) (limit number : ℕ) (catalog new : Catalog) (bound is : Bound) (result : Result (List ℕ) Status) → bound ≡ is
    → ((held : Held) → IsStep (running held limit number catalog is) new result) → IfSome holds (λ held. IsStep (running held limit number catalog bound) new result)
step_of holds limit number catalog new bound is result same steps =
    whatever holds (λ held. IsStep (running held limit number catalog bound) new result) (λ held. subst (λ (b : Bound). IsStep (running held limit number catalog b) new result) (sym same) (steps held))
