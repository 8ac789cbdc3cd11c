-- What contracts see of the real files.
use Rattle.std.specs.Prelude.{ℕ, Bool}
use Rattle.std.specs.declared.io.ErrorKind.{ErrorKind}
use Rattle.std.specs.declared.io.ErrorKind.TheVariants.{NotFound}
use Rattle.ooc_io.specs.declared.fault.OpenFault.{OpenFault}
use Rattle.ooc_io.specs.declared.fault.OpenFault.TheVariants.{Missing, Failed}

-- whether one is open, and how often a call failed
pub record RealState : Type 0 where
  pub opened : Bool
  pub faults : ℕ

-- a file is missing where the system says "not found", and nowhere else
abbrev pub open_fault : ErrorKind → OpenFault
open_fault NotFound = Missing
open_fault _ = Failed
