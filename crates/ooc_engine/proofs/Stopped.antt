-- A run that is ended before its first statement.
use Rattle.std.proofs.Common.{◌≡◌, ℕ, inl, inr, List, [], Option, Some, None, Result, Ok, Err, refl, sym, subst, Bool}
use Rattle.std.specs.FinMap.{get}
use Rattle.std.specs.Option.{IfSome}
use Rattle.std.specs.Io.KnownBytes.{Appends}
use Rattle.std.proofs.lemmas.Option.{IfSome_then}
use Rattle.ooc_io.specs.Counts.{Rose}
use Rattle.ooc_io.specs.Held.{Held}
use Rattle.run_settings.specs.declared.settings.Settings.{Settings}
use Rattle.run_settings.specs.declared.status.Status.{Status}
use Rattle.run_settings.specs.declared.status.Status.TheVariants.{Done, Refused, Usage, ReadFault, WriteFault, SpillFault, SpillDamaged, OutOfMemory}
use Rattle.run_settings.specs.declared.status.UsageFault.{UsageFault}
use Rattle.run_settings.specs.Lines.{line_of}
use Rattle.run_settings.specs.Settings.{IsSettings}
use Rattle.script_opening.specs.Opened.{IsOpenedAs}
use Rattle.script_opening.specs.Reading.{IsOfFiles}
use Rattle.script_run.specs.Causes.{HasRunCause}
use Rattle.script_says.specs.Outcome.{Does}
use Rattle.script_says.specs.Runs.{Writes, IsWritten}
use Rattle.script_says.specs.Ends.{EndsAs, EndsBy}
use Rattle.script_says.proofs.RunLemmas.{ends_as, ends_run}
use Rattle.script_says.proofs.SoFar.{Appends-none}
use Rattle.ooc_engine.proofs.Told.{IsSaid}

-- what holds of anything holds of what is there
pub if_some : {A : Type 0} (o : Option A) {P : A → Type 0} → ((x : A) → P x) → IfSome o P
if_some None f = tt
if_some (Some x) f = f x

-- want of memory may end any run before its first statement
memory_writes : (does : Settings → List ℕ → Does) (closing : List ℕ) (set : Result Settings UsageFault) (held : Held) → Writes does closing set held (line_of OutOfMemory) OutOfMemory
memory_writes does closing (Ok s) held = inr (inr (tt, refl))
memory_writes does closing (Err fault) held = (inr tt, refl)

-- the line of a status that may end the run was written
stopped : (does : Settings → List ℕ → Does) (closing : List ℕ) (set : Result Settings UsageFault) (held : Held) (old new : Option (List ℕ)) (status result : Status) → Writes does closing set held (line_of status) status → EndsBy old new status result → (more : List ℕ) × Appends old new more × IsWritten (Writes does closing set held) more result
stopped does closing set held old new status result may line =
    ends_run (Writes does closing set held) old old new [] (line_of status) status result (Appends-none old) may (memory_writes does closing set held) line

-- the words are wrong, or memory ran out
words_write : (does : Settings → List ℕ → Does) (closing : List ℕ) (set : Result Settings UsageFault) (held : Held) (status : Status) → IsSettings set (Err status) → Writes does closing set held (line_of status) status
words_write does closing set held status (inl wrong) = subst (λ (r : Result Settings UsageFault). Writes does closing r held (line_of status) status) (sym wrong.1) (inl wrong.2, refl)
words_write does closing set held status (inr memory) = subst (λ (s : Status). Writes does closing set held (line_of s) s) (sym memory) (memory_writes does closing set held)

-- the script is refused, or the run is cut before it is there
script_writes : (does : Settings → List ℕ → Does) (closing : List ℕ) (s : Settings) (held : Held) (status : Status) → IsOpenedAs (get held s.script) (Err status) → Writes does closing (Ok s) held (line_of status) status
script_writes does closing s held status (inl refused) = inl (refused.0, refused.1, refused.2, refl)
script_writes does closing s held status (inr may) = inr (inr (may, refl))

module _ (does : Held → Settings → List ℕ → Does) (closing : List ℕ) (holds : Option Held) (old new : Option (List ℕ)) (status result : Status) (line : EndsBy old new status result) where
  pub words_said : (set : Result Settings UsageFault) → IsSettings set (Err status) → IsSaid does closing set holds old new result
  words_said set is = if_some holds (λ held. stopped (does held) closing set held old new status result (words_write (does held) closing set held status is) line)

  pub script_said : (s : Settings) → IfSome holds (λ held. IsOpenedAs (get held s.script) (Err status)) → IsSaid does closing (Ok s) holds old new result
  script_said s opened = IfSome_then holds opened (λ held is. stopped (does held) closing (Ok s) held old new status result (script_writes (does held) closing s held status is) line)

-- ---- the cause

-- what a call over files is refused with has its cause, also where its line was lost or memory ran out for it
of_files : (told : Bool) (f g k m : ℕ) (status : Status) → IsOfFiles status → (status ≡ ReadFault → Rose f g) → HasRunCause told f g k m status
of_files told f g k m (Refused r) of rose = tt
of_files told f g k m ReadFault of rose = rose refl
of_files told f g k m OutOfMemory of rose = tt
of_files told f g k m Done of rose = absurd of
of_files told f g k m (Usage fault) of rose = absurd of
of_files told f g k m WriteFault of rose = absurd of
of_files told f g k m SpillFault of rose = absurd of
of_files told f g k m (SpillDamaged damage) of rose = absurd of

pub stopped_cause : (told : Bool) (f g k m : ℕ) (status result : Status) → HasRunCause told f g k m status → EndsAs status result → HasRunCause told f g k m result
stopped_cause told f g k m status result cause (inl is) = subst (HasRunCause told f g k m) (sym is) cause
stopped_cause told f g k m status result cause (inr (inl memory)) = subst (HasRunCause told f g k m) (sym memory) tt
stopped_cause told f g k m status result cause (inr (inr failed)) = subst (HasRunCause told f g k m) (sym failed) tt

pub files_cause : (told : Bool) (f g k m : ℕ) (old new : Option (List ℕ)) (status result : Status) → IsOfFiles status → (status ≡ ReadFault → Rose f g) → EndsBy old new status result → HasRunCause told f g k m result
files_cause told f g k m old new status result of rose line = stopped_cause told f g k m status result (of_files told f g k m status of rose) (ends_as old new (line_of status) status result line)
