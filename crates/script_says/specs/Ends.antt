-- What the calls below the top call tell of the way a run ends.
use Rattle.std.specs.Prelude.{ℕ, ◌≡◌, ◌≢◌, ◌⊎◌, List, [], ◌++◌, Option, Result, Ok, Err, Contains}
use Rattle.std.specs.Io.KnownBytes.{Appends}
use Rattle.ooc_io.specs.Counts.{Rose}
use Rattle.run_settings.specs.declared.status.Status.{Status}
use Rattle.run_settings.specs.declared.status.Status.TheVariants.{WriteFault, OutOfMemory}
use Rattle.run_settings.specs.Lines.{line_of}
use Rattle.script_opening.specs.Trees.{MayCut}
use Rattle.script_says.specs.Catalog.{Catalog}
use Rattle.script_says.specs.Block.{Block, IsPrinted}
use Rattle.script_says.specs.Outcome.{Outcome, Gives, Stops}

-- the bytes were appended; or a front of them, at an Err
abbrev pub WritesAll : {X E : Type 0} → Option (List ℕ) → Option (List ℕ) → Result X E → List ℕ → Type 0
WritesAll old new (Ok x) bytes = Appends old new bytes
WritesAll old new (Err e) bytes = (front rest : List ℕ) × (front ++ rest ≡ bytes) × Appends old new front

-- the sink's count of faults rose at the status `WriteFault`, and else it is as it was
pub record HasWriteCause (before now : ℕ) (status : Status) : Type 0 where
  pub rose : status ≡ WriteFault → Rose before now
  pub same : status ≢ WriteFault → now ≡ before

-- A call that was to end so: it did, unless memory ran out or the output failed.
abbrev pub EndsAs : Status → Status → Type 0
EndsAs status result = (result ≡ status) ⊎ ((result ≡ OutOfMemory) ⊎ (result ≡ WriteFault))

-- The text that ends a run was appended, or the line of want of memory; or, where the output failed, a front of it.
pub record EndsWith (old new : Option (List ℕ)) (text : List ℕ) (status result : Status) : Type 0 where
  pub whole : Status
  pub all : List ℕ
  pub which : ((whole ≡ status) × (all ≡ text)) ⊎ ((whole ≡ OutOfMemory) × (all ≡ line_of OutOfMemory))
  pub front : List ℕ
  pub lost : List ℕ
  pub parts : front ++ lost ≡ all
  pub appended : Appends old new front
  pub ends : ((result ≡ whole) × (lost ≡ [])) ⊎ (result ≡ WriteFault)

-- the same with the line of the status
abbrev pub EndsBy : Option (List ℕ) → Option (List ℕ) → Status → Status → Type 0
EndsBy old new status result = EndsWith old new (line_of status) status result

-- What a statement's call answers: its block and the tables that it leaves, one of its refusals, or what may cut the run.
abbrev pub IsStep : Outcome → Catalog → Result (List ℕ) Status → Type 0
IsStep outcome new (Ok text) = (block : Block) × (outcome ≡ Gives new block) × IsPrinted block text
IsStep outcome new (Err status) = ((stops : List Status) × (outcome ≡ Stops stops) × Contains stops status) ⊎ MayCut status
