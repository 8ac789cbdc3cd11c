-- What a run writes, whatever its files tell: blocks, and then what ends it.
use Rattle.std.specs.Prelude.{ℕ, ◌≡◌, ◌≢◌, ◌⊎◌, List, [], ◌++◌, Option}
use Rattle.std.specs.Io.KnownBytes.{Appends}
use Rattle.ooc_types.specs.declared.schema.Column.{Column}
use Rattle.ooc_types.specs.declared.value.Value.{Value}
use Rattle.result_print.specs.Printed.{block_text}
use Rattle.plan_tree.specs.declared.stages.PlanSelect.{PlanSelect}
use Rattle.plan_text.specs.Explained.{plan_text}
use Rattle.run_settings.specs.declared.status.Status.{Status}
use Rattle.run_settings.specs.declared.status.Status.TheVariants.{Done, WriteFault}
use Rattle.run_settings.specs.Lines.{line_of}

-- What one statement prints: nothing; or the line of some columns, the lines of some rows, and an empty line; or a plan.
abbrev pub IsBlock : List ℕ → Type 0
IsBlock text = (text ≡ []) ⊎ (((columns : List Column) × (rows : List (List Value)) × (text ≡ block_text columns rows)) ⊎ ((plan : PlanSelect) × (text ≡ plan_text plan)))

-- some blocks, one behind the other
pub data AreBlocks : List ℕ → Type 0 where
  NoBlock : AreBlocks []
  OneMore : (front block : List ℕ) → AreBlocks front → IsBlock block → AreBlocks (front ++ block)

-- what ends a run: its closing text where it is done, else the line of its status
abbrev pub Closes : List ℕ → Status → List ℕ → Type 0
Closes closing status text = ((status ≡ Done) × (text ≡ closing)) ⊎ ((status ≢ Done) × (text ≡ line_of status))

-- some blocks were appended, and what ends the run behind them; or the output failed
abbrev pub EndsInLine : List ℕ → Option (List ℕ) → Option (List ℕ) → Status → Type 0
EndsInLine closing old new status =
    (status ≡ WriteFault) ⊎ ((blocks text : List ℕ) × AreBlocks blocks × Closes closing status text × Appends old new (blocks ++ text))
