-- A script's file, read.
use Rattle.std.specs.Prelude.{ℕ, ◌≡◌, ◌≤◌, ◌⊎◌, List, [], ◌++◌, length, Option, Some, Result, Ok, Err, Vec, ⊤}
use Rattle.run_settings.specs.declared.status.Status.{Status}
use Rattle.run_settings.specs.declared.status.Status.TheVariants.{Done, Refused, Usage, ReadFault, WriteFault, SpillFault, SpillDamaged, OutOfMemory}
use Rattle.script_opening.specs.Limits.{most_script}
use Rattle.script_opening.specs.Trees.{ScriptRefusal, IsTree, MayCut, script_refusal}

-- text is a front of the bytes, and all of them unless it is longer than most
abbrev pub IsReadUpTo : ℕ → List ℕ → List ℕ → Type 0
IsReadUpTo most bytes text = (rest : List ℕ) × (bytes ≡ text ++ rest) × (length text ≤ most → rest ≡ [])

abbrev pub result_items : {X E A : Type 0} → Result (Vec X A) E → Result (List X) E
result_items (Err e) = Err e
result_items (Ok v) = Ok v.items

-- the whole file; or why the script is refused, or what may cut the run
abbrev pub IsScriptRead : Option (List ℕ) → Result (List ℕ) Status → Type 0
IsScriptRead file (Ok bytes) = (file ≡ Some bytes) × (length bytes ≤ most_script)
IsScriptRead file (Err status) = ((refusal : ScriptRefusal) × IsTree file (Err refusal) × (status ≡ script_refusal refusal)) ⊎ MayCut status

-- what a call over files may be refused with: neither wrong words nor a fault of the sink or of a lane
abbrev pub IsOfFiles : Status → Type 0
IsOfFiles (Refused r) = ⊤
IsOfFiles ReadFault = ⊤
IsOfFiles OutOfMemory = ⊤
IsOfFiles Done = ⊥
IsOfFiles (Usage fault) = ⊥
IsOfFiles WriteFault = ⊥
IsOfFiles SpillFault = ⊥
IsOfFiles (SpillDamaged damage) = ⊥

-- and one over texts
abbrev pub IsOfTexts : Status → Type 0
IsOfTexts (Refused r) = ⊤
IsOfTexts OutOfMemory = ⊤
IsOfTexts ReadFault = ⊥
IsOfTexts Done = ⊥
IsOfTexts (Usage fault) = ⊥
IsOfTexts WriteFault = ⊥
IsOfTexts SpillFault = ⊥
IsOfTexts (SpillDamaged damage) = ⊥
