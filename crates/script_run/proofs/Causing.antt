-- The causes of a run's status.
use Rattle.std.proofs.Common.{◌≢◌, ℕ, ◌≤◌, inl, inr, List, Option, sym, subst, arith}
use Rattle.std.specs.Prelude.{Bool}
use Rattle.run_settings.specs.Lines.{line_of}
use Rattle.run_settings.specs.declared.status.Status.{Status}
use Rattle.run_settings.specs.declared.status.Status.TheVariants.{Done, Refused, Usage, ReadFault, WriteFault, SpillFault, SpillDamaged, OutOfMemory}
use Rattle.script_says.specs.Ends.{EndsAs, EndsBy}
use Rattle.script_says.proofs.RunLemmas.{ends_as}
use Rattle.statement_run.specs.Causes.{HasStatementCause}
use Rattle.script_run.specs.Causes.{HasRunCause}

-- the cause of a statement's status in the run
pub cause_in : (told : Bool) (first f g least k m : ℕ) (status : Status) → first ≤ f → least ≤ k → HasStatementCause told f g k m status → HasRunCause told first g least m status
cause_in told first f g least k m ReadFault low bottom rose = omega (arith, rose, low)
cause_in told first f g least k m SpillFault low bottom rose = omega (arith, rose, bottom)
cause_in told first f g least k m (SpillDamaged damage) low bottom none = none
cause_in told first f g least k m (Refused r) low bottom free = tt
cause_in told first f g least k m OutOfMemory low bottom free = tt
cause_in told first f g least k m Done low bottom not = absurd not
cause_in told first f g least k m (Usage fault) low bottom not = absurd not
cause_in told first f g least k m WriteFault low bottom not = absurd not

-- the lane's count may rise further
pub cause_later : (told : Bool) (f g k m most : ℕ) (status : Status) → m ≤ most → HasRunCause told f g k m status → HasRunCause told f g k most status
cause_later told f g k m most ReadFault high rose = rose
cause_later told f g k m most SpillFault high rose = omega (arith, rose, high)
cause_later told f g k m most (SpillDamaged damage) high none = none
cause_later told f g k m most (Refused r) high free = tt
cause_later told f g k m most OutOfMemory high free = tt
cause_later told f g k m most Done high free = tt
cause_later told f g k m most WriteFault high free = tt
cause_later told f g k m most (Usage fault) high not = absurd not

-- the line of the status was to be written
pub cause_ends : (told : Bool) (f g k m : ℕ) (old new : Option (List ℕ)) (status result : Status) → EndsBy old new status result → HasRunCause told f g k m status → HasRunCause told f g k m result
cause_ends told f g k m old new status result line cause = at (ends_as old new (line_of status) status result line)
  where
    at : EndsAs status result → HasRunCause told f g k m result
    at (inl is) = subst (HasRunCause told f g k m) (sym is) cause
    at (inr (inl is)) = subst (HasRunCause told f g k m) (sym is) tt
    at (inr (inr is)) = subst (HasRunCause told f g k m) (sym is) tt

-- a refused statement isn't done, and its refusal none of the output
pub not_done : (told : Bool) (f g k m : ℕ) (status : Status) → HasStatementCause told f g k m status → status ≢ Done
not_done told f g k m status cause is = subst (HasStatementCause told f g k m) is cause

pub not_written : (told : Bool) (f g k m : ℕ) (status : Status) → HasStatementCause told f g k m status → status ≢ WriteFault
not_written told f g k m status cause is = subst (HasStatementCause told f g k m) is cause
