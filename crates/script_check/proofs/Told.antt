-- What a told run tells of its status.
use Rattle.std.proofs.Common.{◌≡◌, ◌≢◌, ℕ, ◌≤◌, ◌⊎◌, inl, inr, List, Option, None, Some, Result, Ok, Err, refl, sym, ◌∙◌, arith, subst}
use Rattle.std.specs.Option.{IfSome}
use Rattle.std.specs.Io.KnownBytes.{Appends}
use Rattle.std.proofs.lemmas.Option.{IfSome_then}
use Rattle.ooc_io.specs.Held.{Held}
use Rattle.ooc_io.specs.Counts.{Rose, Stayed}
use Rattle.run_settings.specs.declared.settings.Settings.{Settings}
use Rattle.run_settings.specs.declared.status.Status.{Status}
use Rattle.run_settings.specs.declared.status.Status.TheVariants.{Done, Refused, Usage, ReadFault, WriteFault, SpillFault, SpillDamaged, OutOfMemory}
use Rattle.run_settings.specs.declared.status.UsageFault.{UsageFault}
use Rattle.run_settings.specs.Settings.{IsSettings}
use Rattle.script_opening.specs.Reading.{IsOfFiles, IsOfTexts}
use Rattle.script_opening.specs.Trees.{MayCut}
use Rattle.script_says.specs.Outcome.{Does}
use Rattle.script_says.specs.Runs.{Writes, IsWritten, Ends, EndsOrCut}
use Rattle.script_says.proofs.RunLemmas.{ended}
use Rattle.script_check.specs.Ends.{IsOfCheck}

module _ (does : Settings → List ℕ → Does) (closing : List ℕ) (set : Result Settings UsageFault) where
  abbrev pub IsSaid : Option Held → Option (List ℕ) → Option (List ℕ) → Status → Type 0
  IsSaid holds old new status = IfSome holds (λ held. (more : List ℕ) × Appends old new more × IsWritten (Writes does closing set held) more status)

  pub told_ends : (holds : Option Held) (old new : Option (List ℕ)) (status : Status) → IsSaid holds old new status → IfSome holds (λ held. EndsOrCut does set held status)
  told_ends holds old new status says = IfSome_then holds says (λ held h. ended does closing set held h.0 status h.2)

  cut_by : (status : Status) → IsOfCheck status → MayCut status → (status ≡ ReadFault → ⊥) → status ≡ OutOfMemory
  cut_by ReadFault of may no_read = absurd (no_read refl)
  cut_by OutOfMemory of may no_read = refl
  cut_by SpillFault of may no_read = absurd of
  cut_by (SpillDamaged damage) of may no_read = absurd of
  cut_by Done of may no_read = absurd may
  cut_by (Refused r) of may no_read = absurd may
  cut_by (Usage u) of may no_read = absurd may
  cut_by WriteFault of may no_read = absurd may

  whole : (held : Held) (status : Status) → IsOfCheck status → (status ≡ WriteFault → ⊥) → (status ≡ ReadFault → ⊥) → EndsOrCut does set held status → Ends does set held status ⊎ (status ≡ OutOfMemory)
  whole held status of no_write no_read (inl ends) = inl ends
  whole held status of no_write no_read (inr (inl may)) = inr (cut_by status of may no_read)
  whole held status of no_write no_read (inr (inr is)) = absurd (no_write is)

  -- where no fault came
  pub told_complete : (holds : Option Held) (old new : Option (List ℕ)) (status : Status) → IsOfCheck status → (status ≡ WriteFault → ⊥) → (status ≡ ReadFault → ⊥) → IsSaid holds old new status → IfSome holds (λ held. Ends does set held status ⊎ (status ≡ OutOfMemory))
  told_complete holds old new status of no_write no_read says = IfSome_then holds (told_ends holds old new status says) (λ held h. whole held status of no_write no_read h)

-- a count that stayed didn't rise
pub stayed_not : {before now : ℕ} → Stayed before now → Rose before now → ⊥
stayed_not {before} {now} stayed rose =
    let same = stayed.0 in
    let low = stayed.1 in
    absurd (omega arith)

-- what a call over texts or files is refused with isn't done
pub texts_open : (status : Status) → IsOfTexts status → status ≢ Done
texts_open status of is = subst IsOfTexts is of

pub files_open : (status : Status) → IsOfFiles status → status ≢ Done
files_open status of is = subst IsOfFiles is of

-- nor are wrong words and want of memory
pub words_open : (wanted : Result Settings UsageFault) (status : Status) → IsSettings wanted (Err status) → status ≢ Done
words_open wanted status (inl wrong) is = let h = sym is ∙ wrong.2 in absurd (cc h)
words_open wanted status (inr memory) is = let h = sym is ∙ memory in absurd (cc h)
