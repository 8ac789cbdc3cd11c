-- What a run that is done wrote, from the pool's count to that of the lane.
use Rattle.std.proofs.Common.{◌≡◌, ◌≢◌, ◌⊎◌, inl, inr, ℕ, ◌+◌, ◌≤◌, List, Option, Some, None, Result, Ok, arith, sym, ◌∙◌, subst}
use Rattle.std.specs.FinMap.{get}
use Rattle.std.specs.Option.{IfSome}
use Rattle.std.specs.Io.KnownBytes.{Appends}
use Rattle.ooc_io.specs.Held.{Held}
use Rattle.run_settings.specs.declared.settings.Settings.{Settings}
use Rattle.run_settings.specs.declared.status.Status.{Status}
use Rattle.run_settings.specs.declared.status.Status.TheVariants.{Done, OutOfMemory, WriteFault}
use Rattle.run_settings.specs.declared.status.UsageFault.{UsageFault}
use Rattle.sql_grammar.specs.declared.tree.statement.Statement.{Statement}
use Rattle.script_opening.specs.Opened.{ScriptText, IsScriptIn}
use Rattle.script_says.specs.Catalog.{Catalog, no_tables}
use Rattle.script_says.specs.Ends.{EndsBy}
use Rattle.statement_run.specs.Running.{run_statement, run_outcome}
use Rattle.catalog_bound.specs.Bound.{catalog_need}
use Rattle.script_run.specs.Ran.{Ran}
use Rattle.ooc_engine.specs.Written.{PaidFor, PaidForScript, PaidForWords}

-- a run that ends by a line isn't done
ended_open : (status result whole : Status) (A B C : Type 0) → status ≢ Done → ((whole ≡ status) × A) ⊎ ((whole ≡ OutOfMemory) × B) → ((result ≡ whole) × C) ⊎ (result ≡ WriteFault) → result ≢ Done
ended_open status result whole A B C other which (inr lost) is = let h = sym lost ∙ is in absurd (cc h)
ended_open status result whole A B C other (inl which) (inl ends) is = other (sym which.0 ∙ sym ends.0 ∙ is)
ended_open status result whole A B C other (inr which) (inl ends) is = let h = sym which.0 ∙ sym ends.0 ∙ is in absurd (cc h)

pub not_done : (old new : Option (List ℕ)) (status result : Status) → status ≢ Done → EndsBy old new status result → result ≢ Done
not_done old new status result other e = ended_open status result e.whole _ _ _ other e.which e.ends

-- what `run_over` says of a pool that is opened
abbrev pub IsBound : Option Held → Option (List ℕ) → Option (List ℕ) → List ℕ → List Statement → ℕ → ℕ → ℕ → Type 0
IsBound holds old new script ss page grant wrote = IfSome holds (λ held. (last : Catalog) × (blocks : List ℕ)
    × Appends old new blocks × Ran (run_statement held page script) 1 no_tables ss blocks last × (catalog_need page last ≤ grant + wrote))

module _ (holds : Option Held) (old new : Option (List ℕ)) (script : List ℕ) (ss : List Statement) where
  settled : (page wanted grant frames wrote : ℕ) → page ≡ wanted → grant ≡ frames → IsBound holds old new script ss page grant wrote → IsBound holds old new script ss wanted frames wrote
  settled page wanted grant frames wrote is same bound =
      subst (λ (n : ℕ). IsBound holds old new script ss wanted n wrote) same (subst (λ (n : ℕ). IsBound holds old new script ss n grant wrote) is bound)

  pub paid : (s : Settings) (page grant wrote before now : ℕ) → page ≡ s.page → grant ≡ s.frames → before + wrote ≤ now → IsBound holds old new script ss page grant wrote
      → IfSome holds (λ held. PaidFor old new (run_outcome held s script) ss s.page s.frames before now)
  paid s page grant wrote before now is same counted bound = of holds (settled page s.page grant s.frames wrote is same bound)
    where
      of : (h : Option Held) → IsBound h old new script ss s.page s.frames wrote → IfSome h (λ held. PaidFor old new (run_outcome held s script) ss s.page s.frames before now)
      of None bound = tt
      of (Some held) bound = let need = bound.4 in (bound.0, bound.1, bound.2, bound.3, omega (arith, need, counted))

-- of the script that the settings name
pub script_paid : (s : Settings) (text : ScriptText) (name : List ℕ) (holds later : Option Held) (old new : Option (List ℕ)) (before now : ℕ) → name ≡ s.script → later ≡ holds → IfSome holds (λ held. IsScriptIn (get held name) text)
    → IfSome later (λ held. PaidFor old new (run_outcome held s text.bytes) text.script.statements s.page s.frames before now)
    → IfSome holds (λ held. PaidForScript old new (run_outcome held) s held before now)
script_paid s text name holds later old new before now named same opened paid =
    of holds (subst (λ (n : List ℕ). IfSome holds (λ held. IsScriptIn (get held n) text)) named opened) (subst (λ (h : Option Held). IfSome h (λ held. PaidFor old new (run_outcome held s text.bytes) text.script.statements s.page s.frames before now)) same paid)
  where
    of : (h : Option Held) → IfSome h (λ held. IsScriptIn (get held s.script) text) → IfSome h (λ held. PaidFor old new (run_outcome held s text.bytes) text.script.statements s.page s.frames before now)
        → IfSome h (λ held. PaidForScript old new (run_outcome held) s held before now)
    of None is paid = tt
    of (Some held) is paid = (text, is, paid)

-- of the words
pub words_paid : (set : Result Settings UsageFault) (s : Settings) (holds : Option Held) (old new : Option (List ℕ)) (before now : ℕ) → set ≡ Ok s → IfSome holds (λ held. PaidForScript old new (run_outcome held) s held before now)
    → IfSome holds (λ held. PaidForWords old new (run_outcome held) set held before now)
words_paid set s None old new before now is paid = tt
words_paid set s (Some held) old new before now is paid = (s, is, paid)
