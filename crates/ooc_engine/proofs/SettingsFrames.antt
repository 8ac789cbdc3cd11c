-- The frames that a command line sets are neither too few nor too many.
use Rattle.std.proofs.Common.{◌≡◌, ℕ, ◌≤◌, Bool, true, false, nat_lt, List, Option, None, Some, Result, Ok, Err, refl, ap, sym, ◌∙◌, subst, ltb-false}
use Rattle.std.specs.Prelude.{if◌then◌else◌, ◌/◌}
use Rattle.run_settings.specs.declared.settings.Settings.{Settings}
use Rattle.run_settings.specs.declared.sizes.Sizes.{Sizes}
use Rattle.run_settings.specs.declared.status.UsageFault.{UsageFault}
use Rattle.run_settings.specs.declared.status.UsageFault.TheVariants.{TooFewFrames, TooManyFrames}
use Rattle.run_settings.specs.Limits.{least_frames, most_frames}
use Rattle.run_settings.specs.Numbers.{sizes_of}
use Rattle.run_settings.specs.Settings.{settings, settings_with, settings_from, settings_at, settings_asked}
use Rattle.run_settings.specs.Words.{Word, Asked, asked}

pub record AreEnough (frames : ℕ) : Type 0 where
  pub least : least_frames ≤ frames
  pub most : frames ≤ most_frames

abbrev frames_in : Result Settings UsageFault → ℕ
frames_in (Ok s) = s.frames
frames_in (Err fault) = 0

no_settings : (fault : UsageFault) (s : Settings) → Err fault ≡ Ok s → ⊥
no_settings fault s h = cc h

case_frames : (frames : ℕ) (few many : Bool) (e f : UsageFault) (r s : Settings) → (if few then Err e else if many then Err f else Ok r) ≡ Ok s → r.frames ≡ frames → nat_lt frames least_frames ≡ few → nat_lt most_frames frames ≡ many → AreEnough s.frames
case_frames frames true many e f r s h is below above = absurd (no_settings e s h)
case_frames frames false true e f r s h is below above = absurd (no_settings f s h)
case_frames frames false false e f r s h is below above =
    let same : s.frames ≡ frames = sym (ap frames_in h) ∙ is in
    record { least = subst (λ (n : ℕ). least_frames ≤ n) (sym same) (ltb-false frames least_frames below); most = subst (λ (n : ℕ). n ≤ most_frames) (sym same) (ltb-false most_frames frames above) }

with_frames : (frames : ℕ) (script : Word) (sizes : Sizes) (s : Settings) → settings_with frames script sizes ≡ Ok s → AreEnough s.frames
with_frames frames script sizes s h = case_frames frames (nat_lt frames least_frames) (nat_lt most_frames frames) (TooFewFrames frames) (TooManyFrames frames) _ s h refl refl refl

at_frames : (script : Word) (o : Option Sizes) (s : Settings) → settings_at script o ≡ Ok s → AreEnough s.frames
unfolding settings_from
at_frames script None s h = absurd (cc h)
at_frames script (Some sizes) s h = with_frames (sizes.limit / sizes.page) script sizes s h

asked_frames : (o : Option Asked) (s : Settings) → settings_asked o ≡ Ok s → AreEnough s.frames
asked_frames None s h = absurd (cc h)
asked_frames (Some a) s h = at_frames a.script (sizes_of a) s h

pub settings_frames : (words : List Word) (s : Settings) → settings words ≡ Ok s → AreEnough s.frames
unfolding settings
settings_frames words s h = asked_frames (asked words) s h
