-- How much a run that is done wrote to its lane.
use Rattle.std.specs.Prelude.{◌≡◌, ℕ, ◌+◌, ◌≤◌, List, Option, Result, Ok}
use Rattle.std.specs.FinMap.{get}
use Rattle.std.specs.Io.KnownBytes.{Appends}
use Rattle.ooc_io.specs.Held.{Held}
use Rattle.sql_grammar.specs.declared.tree.statement.Statement.{Statement}
use Rattle.run_settings.specs.declared.settings.Settings.{Settings}
use Rattle.run_settings.specs.declared.status.UsageFault.{UsageFault}
use Rattle.script_opening.specs.Opened.{ScriptText, IsScriptIn}
use Rattle.script_says.specs.Catalog.{Catalog, no_tables}
use Rattle.script_says.specs.Outcome.{Does}
use Rattle.catalog_bound.specs.Bound.{catalog_need}
use Rattle.script_run.specs.Ran.{Ran}

-- The statements ran from no tables to some last ones and printed what was appended, and the pages that the last tables need
-- are at most the frames and the writes of the lane, from `before` to `now`.
abbrev pub PaidFor : Option (List ℕ) → Option (List ℕ) → Does → List Statement → ℕ → ℕ → ℕ → ℕ → Type 0
PaidFor old new does ss page frames before now =
    (last : Catalog) × (blocks : List ℕ) × Appends old new blocks × Ran does 1 no_tables ss blocks last × (catalog_need page last + before ≤ frames + now)

-- the same of the script that the settings name
abbrev pub PaidForScript : Option (List ℕ) → Option (List ℕ) → (Settings → List ℕ → Does) → Settings → Held → ℕ → ℕ → Type 0
PaidForScript old new does s held before now =
    (text : ScriptText) × IsScriptIn (get held s.script) text × PaidFor old new (does s text.bytes) text.script.statements s.page s.frames before now

-- and from the words on
abbrev pub PaidForWords : Option (List ℕ) → Option (List ℕ) → (Settings → List ℕ → Does) → Result Settings UsageFault → Held → ℕ → ℕ → Type 0
PaidForWords old new does set held before now = (s : Settings) × (set ≡ Ok s) × PaidForScript old new does s held before now
