-- What a run may write, and the status with which it ends.
use Rattle.std.specs.Prelude.{ℕ, ◌≡◌, ◌⊎◌, ◌+◌, List, [], ◌∷◌, ◌++◌, Option, Result, Ok, Err, Contains}
use Rattle.std.specs.FinMap.{get}
use Rattle.ooc_io.specs.Held.{Held}
use Rattle.sql_grammar.specs.declared.tree.statement.Statement.{Statement}
use Rattle.run_settings.specs.declared.settings.Settings.{Settings}
use Rattle.run_settings.specs.declared.status.Status.{Status}
use Rattle.run_settings.specs.declared.status.Status.TheVariants.{Done, Usage, WriteFault}
use Rattle.run_settings.specs.declared.status.UsageFault.{UsageFault}
use Rattle.run_settings.specs.Lines.{line_of}
use Rattle.script_opening.specs.Trees.{IsTree, MayCut, ScriptRefusal, script_refusal}
use Rattle.script_opening.specs.Opened.{IsScriptIn, ScriptText}
use Rattle.script_says.specs.Catalog.{Catalog, no_tables}
use Rattle.script_says.specs.Block.{IsPrinted}
use Rattle.script_says.specs.Outcome.{Outcome, Gives, Stops, Does}

-- A statement either stops the run with one of its refusals, or prints its block, and `rest` says what follows.
abbrev pub Goes : Outcome → (Catalog → List ℕ → Type 0) → List ℕ → Status → Type 0
Goes (Stops stops) rest out status = Contains stops status × (out ≡ line_of status)
Goes (Gives next block) rest out status = (text more : List ℕ) × IsPrinted block text × (out ≡ text ++ more) × rest next more

-- What a run of these statements writes where the output takes all: the blocks of the statements that ran, and then the
-- line of its status. The first statement has the number `number`, `does` is what a statement does, and `closing` comes
-- after the last one.
abbrev pub Run : Does → List ℕ → ℕ → Catalog → List Statement → List ℕ → Status → Type 0
Run does closing number catalog [] out status =
    ((status ≡ Done) × (out ≡ closing)) ⊎ (MayCut status × (out ≡ line_of status))
Run does closing number catalog (s ∷ ss) out status =
    Goes (does number catalog s) (λ next more. Run does closing (number + 1) next ss more status) out status
    ⊎ (MayCut status × (out ≡ line_of status))

-- what a run writes of the script in this file: the line of its refusal, or its statements; or it is cut before them
abbrev pub WritesScript : (List ℕ → Does) → List ℕ → Option (List ℕ) → List ℕ → Status → Type 0
WritesScript does closing file out status =
    ((refusal : ScriptRefusal) × IsTree file (Err refusal) × (status ≡ script_refusal refusal) × (out ≡ line_of status))
    ⊎ (((text : ScriptText) × IsScriptIn file text × Run (does text.bytes) closing 1 no_tables text.script.statements out status)
    ⊎ (MayCut status × (out ≡ line_of status)))

-- the same from the words on, of which these are the settings
abbrev pub Writes : (Settings → List ℕ → Does) → List ℕ → Result Settings UsageFault → Held → List ℕ → Status → Type 0
Writes does closing (Err fault) held out status = ((status ≡ Usage fault) ⊎ MayCut status) × (out ≡ line_of status)
Writes does closing (Ok s) held out status = WritesScript (does s) closing (get held s.script) out status

-- What a run appends to its output, where `may` says what it may write: all of that; or, where the output failed, a front
-- of it.
pub record IsWritten (may : List ℕ → Status → Type 0) (out : List ℕ) (status : Status) : Type 0 where
  -- how the run ends where the output takes all
  pub whole : Status
  -- what the output didn't take
  pub lost : List ℕ
  pub allowed : may (out ++ lost) whole
  pub ends : ((status ≡ whole) × (lost ≡ [])) ⊎ (status ≡ WriteFault)

-- How a run without a fault or want of memory may end: with one of these.
abbrev pub ends_after : Outcome → (Catalog → List Status) → List Status
ends_after (Stops stops) rest = stops
ends_after (Gives next block) rest = rest next

abbrev pub run_ends : Does → ℕ → Catalog → List Statement → List Status
run_ends does number catalog [] = Done ∷ []
run_ends does number catalog (s ∷ ss) = ends_after (does number catalog s) (λ next. run_ends does (number + 1) next ss)

abbrev pub EndsScript : (List ℕ → Does) → Option (List ℕ) → Status → Type 0
EndsScript does file status =
    ((refusal : ScriptRefusal) × IsTree file (Err refusal) × (status ≡ script_refusal refusal))
    ⊎ ((text : ScriptText) × IsScriptIn file text × Contains (run_ends (does text.bytes) 1 no_tables text.script.statements) status)

-- the status is one with which the definition ends the script
abbrev pub Ends : (Settings → List ℕ → Does) → Result Settings UsageFault → Held → Status → Type 0
Ends does (Err fault) held status = status ≡ Usage fault
Ends does (Ok s) held status = EndsScript (does s) (get held s.script) status

-- or a fault from outside or want of memory came in its place
abbrev pub EndsOrCut : (Settings → List ℕ → Does) → Result Settings UsageFault → Held → Status → Type 0
EndsOrCut does set held status = Ends does set held status ⊎ (MayCut status ⊎ (status ≡ WriteFault))
