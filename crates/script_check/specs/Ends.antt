-- How the statements of a check end.
use Rattle.std.specs.Prelude.{⊤}
use Rattle.run_settings.specs.declared.status.Status.{Status}
use Rattle.run_settings.specs.declared.status.Status.TheVariants.{Done, Refused, Usage, ReadFault, WriteFault, SpillFault, SpillDamaged, OutOfMemory}

-- by being done, a refusal, a fault of the output or want of memory: no file is read, and no lane used
abbrev pub IsOfRun : Status → Type 0
IsOfRun Done = ⊤
IsOfRun (Refused r) = ⊤
IsOfRun WriteFault = ⊤
IsOfRun OutOfMemory = ⊤
IsOfRun (Usage fault) = ⊥
IsOfRun ReadFault = ⊥
IsOfRun SpillFault = ⊥
IsOfRun (SpillDamaged damage) = ⊥

-- no lane is used
abbrev pub IsOfCheck : Status → Type 0
IsOfCheck SpillFault = ⊥
IsOfCheck (SpillDamaged damage) = ⊥
IsOfCheck Done = ⊤
IsOfCheck (Refused r) = ⊤
IsOfCheck (Usage fault) = ⊤
IsOfCheck ReadFault = ⊤
IsOfCheck WriteFault = ⊤
IsOfCheck OutOfMemory = ⊤
