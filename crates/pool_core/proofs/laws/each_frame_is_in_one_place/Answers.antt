use Rattle.std.proofs.Common.{◌≤◌, ℕ, length, subst}
use Rattle.pool_core.specs.Sound.{TurnsLie, PagesLie}
use Rattle.pool_core.specs.Laws.{frames_in_use}
use Rattle.pool_core.proofs.Runs.{run_sound}
use Rattle.pool_core.proofs.Shape.{run_shape}
use Rattle.pool_core.proofs.FramesInUse.{frames_apart, frames_few}
use Rattle.pool_core.proofs.laws.each_frame_is_in_one_place.Goals as goal

pub returns-clause-count : goal.returns-clause-count
returns-clause-count c = run_shape

pub returns-clause-turns : goal.returns-clause-turns
returns-clause-turns c bytes frames count events s run =
    let P : ℕ → Type 0 = λ n. TurnsLie n s.turns s.pages in
    subst P (run_shape bytes frames count events s run).0 (run_sound bytes frames count events s run).turns

pub returns-clause-pages : goal.returns-clause-pages
returns-clause-pages c bytes frames count events s run =
    let P : ℕ → Type 0 = λ n. PagesLie n s.turns s.pages in
    subst P (run_shape bytes frames count events s run).0 (run_sound bytes frames count events s run).pages

pub returns-clause-apart : goal.returns-clause-apart
returns-clause-apart c bytes frames count events s run = frames_apart s.page s.turns s.pages (run_sound bytes frames count events s run).pages

pub returns-clause-few : goal.returns-clause-few
returns-clause-few c bytes frames count events s run =
    let P : ℕ → Type 0 = λ n. length (frames_in_use s.pages) ≤ n in
    subst P (run_shape bytes frames count events s run).1 (frames_few s.page s.turns s.pages (run_sound bytes frames count events s run).pages)
