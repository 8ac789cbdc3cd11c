-- The text that ends a run, written or not.
use Rattle.std.proofs.Common.{◌≡◌, ℕ, inl, inr, List, [], ◌++◌, Option, append-nil, refl}
use Rattle.std.specs.Io.KnownBytes.{Appends}
use Rattle.run_settings.specs.declared.status.Status.{Status}
use Rattle.run_settings.specs.declared.status.Status.TheVariants.{WriteFault}
use Rattle.script_says.specs.Ends.{EndsWith}

pub text_written : (old new : Option (List ℕ)) (text : List ℕ) (status : Status) → Appends old new text → EndsWith old new text status status
text_written old new text status appended = record { whole = status; all = text; which = inl (refl, refl); front = text; lost = []; parts = append-nil text; appended = appended; ends = inl (refl, refl) }

pub text_lost : (old new : Option (List ℕ)) (text : List ℕ) (status : Status) → (front rest : List ℕ) × (front ++ rest ≡ text) × Appends old new front → EndsWith old new text status WriteFault
text_lost old new text status broken = record { whole = status; all = text; which = inl (refl, refl); front = broken.0; lost = broken.1; parts = broken.2; appended = broken.3; ends = inr refl }
