-- What the statements of a script write, as the script's own.
use Rattle.std.proofs.Common.{◌≡◌, ℕ, inl, inr, List, [], Option, Some, None, Ok, subst}
use Rattle.std.specs.FinMap.{get}
use Rattle.std.specs.Option.{IfSome}
use Rattle.std.specs.Io.KnownBytes.{Appends}
use Rattle.ooc_io.specs.Held.{Held}
use Rattle.run_settings.specs.declared.settings.Settings.{Settings}
use Rattle.run_settings.specs.declared.status.Status.{Status}
use Rattle.run_settings.specs.declared.status.Status.TheVariants.{OutOfMemory}
use Rattle.sql_grammar.specs.declared.tree.statement.Statement.{Statement}
use Rattle.script_opening.specs.Opened.{ScriptText, IsScriptIn}
use Rattle.script_says.specs.Catalog.{no_tables}
use Rattle.script_says.specs.Ends.{EndsBy}
use Rattle.script_says.specs.Runs.{Run, IsWritten}
use Rattle.script_says.proofs.RunLemmas.{Run-cut, ends_run}
use Rattle.script_says.proofs.SoFar.{Appends-none}
use Rattle.statement_run.specs.Running.{run_statement, run_outcome, run_closing}
use Rattle.ooc_engine.proofs.Told.{IsSaid}
use Rattle.ooc_engine.proofs.Stopped.{if_some}

-- what the statements of a script write, over pages of so many bytes
abbrev pub AreSaid : Option Held → Option (List ℕ) → Option (List ℕ) → ℕ → List ℕ → List Statement → Status → Type 0
AreSaid holds old new page script ss status = IfSome holds (λ held. (more : List ℕ) × Appends old new more × IsWritten (Run (run_statement held page script) run_closing 1 no_tables ss) more status)

module _ (holds : Option Held) (old new : Option (List ℕ)) (script : List ℕ) (ss : List Statement) (result : Status) where
  -- over the pages that are set
  pub at_page : (page wanted : ℕ) → page ≡ wanted → AreSaid holds old new page script ss result → AreSaid holds old new wanted script ss result
  at_page page wanted is said = subst (λ (n : ℕ). AreSaid holds old new n script ss result) is said

  -- memory ran out before the first one
  pub none_said : (page : ℕ) → EndsBy old new OutOfMemory result → AreSaid holds old new page script ss result
  none_said page line = if_some holds (λ held.
      ends_run (Run (run_statement held page script) run_closing 1 no_tables ss) old old new [] _ OutOfMemory result (Appends-none old)
      (Run-cut (run_statement held page script) run_closing 1 no_tables ss OutOfMemory tt) (Run-cut (run_statement held page script) run_closing 1 no_tables ss OutOfMemory tt) line)

-- They are those of the script that the settings name: the files held it before and after it was read.
pub script_ran : (s : Settings) (text : ScriptText) (name : List ℕ) (holds later : Option Held) (old new : Option (List ℕ)) (status : Status) → name ≡ s.script → later ≡ holds → IfSome holds (λ held. IsScriptIn (get held name) text) → AreSaid later old new s.page text.bytes text.script.statements status → IsSaid run_outcome run_closing (Ok s) holds old new status
script_ran s text name holds later old new status named same opened said = ran holds (subst (λ (n : List ℕ). IfSome holds (λ held. IsScriptIn (get held n) text)) named opened) (subst (λ (h : Option Held). AreSaid h old new s.page text.bytes text.script.statements status) same said)
  where
    ran : (holds : Option Held) → IfSome holds (λ held. IsScriptIn (get held s.script) text) → AreSaid holds old new s.page text.bytes text.script.statements status → IsSaid run_outcome run_closing (Ok s) holds old new status
    ran None is said = tt
    ran (Some held) is said = (said.0, said.1, record { whole = said.2.whole; lost = said.2.lost; allowed = inr (inl (text, is, said.2.allowed)); ends = said.2.ends })
