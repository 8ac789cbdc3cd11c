use Rattle.std.proofs.Common.{ℕ, subst}
use Rattle.pool_core.specs.Sound.{MarksHold}
use Rattle.pool_core.proofs.Runs.{run_sound}
use Rattle.pool_core.proofs.Shape.{run_shape}
use Rattle.pool_core.proofs.TextsStand.{texts_stand}
use Rattle.pool_core.proofs.laws.looked_texts_are_the_stored_ones.Goals as goal

pub returns-clause-looked : goal.returns-clause-looked
returns-clause-looked c bytes frames count events s run =
    let P : ℕ → Type 0 = λ n. MarksHold n s.pages s.marks in
    subst P (run_shape bytes frames count events s run).0 (run_sound bytes frames count events s run).marks

pub returns-clause-texts : goal.returns-clause-texts
returns-clause-texts c bytes frames count events s run = texts_stand s (run_sound bytes frames count events s run)
