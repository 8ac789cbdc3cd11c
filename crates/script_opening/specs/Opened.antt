-- What the words open over the files.
use Rattle.std.specs.Prelude.{ℕ, ◌≡◌, ◌⊎◌, List, Option, Some, Result, Ok, Err}
use Rattle.std.specs.FinMap.{get}
use Rattle.ooc_io.specs.Held.{Held}
use Rattle.sql_grammar.specs.declared.tree.statement.Script.{Script}
use Rattle.run_settings.specs.declared.status.Status.{Status}
use Rattle.script_opening.specs.declared.opening.OpenedScript.{OpenedScript}
use Rattle.script_opening.specs.Trees.{IsTree, MayCut, ScriptRefusal, script_refusal}

-- a script: its bytes, and its statements
pub record ScriptText : Type 0 where
  pub bytes : List ℕ
  pub script : Script

-- the script that stands in a file
pub record IsScriptIn (file : Option (List ℕ)) (opened : ScriptText) : Type 0 where
  pub there : file ≡ Some opened.bytes
  pub is : IsTree file (Ok opened.script)

abbrev pub text_of : OpenedScript → ScriptText
text_of opened = record { bytes = opened.bytes.items; script = opened.script }

-- the script of that file, its refusal, or what may cut the run
abbrev pub IsOpenedAs : Option (List ℕ) → Result OpenedScript Status → Type 0
IsOpenedAs file (Ok opened) = IsScriptIn file (text_of opened)
IsOpenedAs file (Err status) = ((refusal : ScriptRefusal) × IsTree file (Err refusal) × (status ≡ script_refusal refusal)) ⊎ MayCut status
