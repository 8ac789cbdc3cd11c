-- What a told run tells of its status.
use Rattle.std.proofs.Common.{◌≡◌, ℕ, ◌⊎◌, inl, inr, List, Option, Result, refl}
use Rattle.std.specs.Option.{IfSome}
use Rattle.std.specs.Io.KnownBytes.{Appends}
use Rattle.std.proofs.lemmas.Option.{IfSome_then}
use Rattle.ooc_io.specs.Held.{Held}
use Rattle.row_image.specs.declared.image.Damage.{Damage}
use Rattle.run_settings.specs.declared.settings.Settings.{Settings}
use Rattle.run_settings.specs.declared.status.Status.{Status}
use Rattle.run_settings.specs.declared.status.Status.TheVariants.{Done, Refused, Usage, ReadFault, WriteFault, SpillFault, SpillDamaged, OutOfMemory}
use Rattle.run_settings.specs.declared.status.UsageFault.{UsageFault}
use Rattle.script_opening.specs.Trees.{MayCut}
use Rattle.script_says.specs.Outcome.{Does}
use Rattle.script_says.specs.Runs.{Writes, IsWritten, Ends, EndsOrCut}
use Rattle.script_says.proofs.RunLemmas.{ended}

-- no fault from outside ended the run
pub record IsUncut (status : Status) : Type 0 where
  pub read : status ≡ ReadFault → ⊥
  pub spill : status ≡ SpillFault → ⊥
  pub damaged : (damage : Damage) → status ≡ SpillDamaged damage → ⊥
  pub write : status ≡ WriteFault → ⊥

only_memory : (status : Status) → IsUncut status → MayCut status → status ≡ OutOfMemory
only_memory ReadFault uncut may = absurd (uncut.read refl)
only_memory SpillFault uncut may = absurd (uncut.spill refl)
only_memory (SpillDamaged damage) uncut may = absurd (uncut.damaged damage refl)
only_memory OutOfMemory uncut may = refl
only_memory Done uncut may = absurd may
only_memory (Refused r) uncut may = absurd may
only_memory (Usage u) uncut may = absurd may
only_memory WriteFault uncut may = absurd may

module _ (does : Held → Settings → List ℕ → Does) (closing : List ℕ) (set : Result Settings UsageFault) where
  abbrev pub IsSaid : Option Held → Option (List ℕ) → Option (List ℕ) → Status → Type 0
  IsSaid holds old new status = IfSome holds (λ held. (more : List ℕ) × Appends old new more × IsWritten (Writes (does held) closing set held) more status)

  pub said_ends : (holds : Option Held) (old new : Option (List ℕ)) (status : Status) → IsSaid holds old new status → IfSome holds (λ held. EndsOrCut (does held) set held status)
  said_ends holds old new status says = IfSome_then holds says (λ held h. ended (does held) closing set held h.0 status h.2)

  whole : (held : Held) (status : Status) → IsUncut status → EndsOrCut (does held) set held status → Ends (does held) set held status ⊎ (status ≡ OutOfMemory)
  whole held status uncut (inl ends) = inl ends
  whole held status uncut (inr (inl may)) = inr (only_memory status uncut may)
  whole held status uncut (inr (inr is)) = absurd (uncut.write is)

  -- where no fault came
  pub said_complete : (holds : Option Held) (old new : Option (List ℕ)) (status : Status) → IsUncut status → IsSaid holds old new status → IfSome holds (λ held. Ends (does held) set held status ⊎ (status ≡ OutOfMemory))
  said_complete holds old new status uncut says = IfSome_then holds (said_ends holds old new status says) (λ held h. whole held status uncut h)
