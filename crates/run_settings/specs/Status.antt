-- The exit status of the program, by how its run ends.
use Rattle.std.specs.Prelude.{ℕ}
use Rattle.run_settings.specs.declared.status.Status.{Status}
use Rattle.run_settings.specs.declared.status.Status.TheVariants.{Done, Refused, Usage, ReadFault, WriteFault, SpillFault, SpillDamaged, OutOfMemory}

abbrev pub code_of : Status → ℕ
code_of Done = 0
code_of (Refused refusal) = 1
code_of (Usage fault) = 2
code_of ReadFault = 3
code_of WriteFault = 4
code_of SpillFault = 5
code_of (SpillDamaged damage) = 5
code_of OutOfMemory = 7
