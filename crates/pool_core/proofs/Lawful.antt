-- What every state of a run keeps.
use Rattle.std.proofs.Common.{◌≡◌, subst}
use Rattle.std.specs.Prelude.{Result, Ok, Err, OnOk}
use Rattle.pool_core.specs.declared.event.Event.{Event}
use Rattle.pool_core.specs.State.{State}
use Rattle.pool_core.specs.Enabled.{Enabled}
use Rattle.pool_core.specs.Effects.{Acts}
use Rattle.pool_core.specs.Sound.{Sound}
use Rattle.pool_core.specs.Laws.{IsLawful, KeepsRead}
use Rattle.pool_core.proofs.FramesInUse.{frames_apart, frames_few}
use Rattle.pool_core.proofs.Reading.{step_same}
use Rattle.pool_core.proofs.TextsStand.{texts_stand}

pub lawful : (s : State) → Sound s → IsLawful s
lawful s sound = record {
  apart = frames_apart s.page s.turns s.pages sound.pages;
  few = frames_few s.page s.turns s.pages sound.pages;
  alone = λ page p there writer. (sound.stand page p there).claimed writer;
  stand = λ page p there. (sound.stand page p there).stands;
  looked = sound.marks;
  texts = texts_stand s sound;
}

-- over a step that acts, a page that is read keeps its body
pub read_after : {T E : Type 0} (r : Result T E) (old new view : State) (event : Event) → old ≡ view → Sound old → Enabled old event → OnOk r (Acts old event new) → OnOk r (KeepsRead view.pages new.pages)
read_after (Ok x) old new view event same sound enabled acts = let P : State → Type 0 = λ s. KeepsRead s.pages new.pages in subst P same (step_same old event new sound enabled acts)
read_after (Err e) old new view event same sound enabled acts = tt
