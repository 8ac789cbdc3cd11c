-- What came of pages that were to be moved or retired.
use Rattle.std.specs.Prelude.{◌≡◌, true, false, ⊤}
use Rattle.page_body.specs.declared.body.PageBody.{PageBody}
use Rattle.page_body.specs.Bodies.{killed}
use Rattle.page_pool.specs.Bodies.{is_living}
use Rattle.page_pool.specs.Words.{ShowsClaim}
use Rattle.page_pool.specs.declared.changes.Rebase.{Rebase}
use Rattle.page_pool.specs.declared.changes.Rebase.TheVariants as rebase
use Rattle.page_pool.specs.declared.changes.Retire.{Retire}
use Rattle.page_pool.specs.declared.changes.Retire.TheVariants as retire

-- a busy page's word shows a claim
abbrev pub RebaseIs : Rebase → Type 0
RebaseIs rebase.Rebased = ⊤
RebaseIs (rebase.Busy word) = ShowsClaim word
RebaseIs rebase.Resting = ⊤
RebaseIs rebase.Dead = ⊤

abbrev pub RetireIs : Retire → Type 0
RetireIs retire.Retired = ⊤
RetireIs (retire.Busy word) = ShowsClaim word
RetireIs retire.Dead = ⊤

-- a body that lived is killed, and a dead one stays as it was
abbrev pub Retires : PageBody → PageBody → Retire → Type 0
Retires old new retire.Retired = (is_living old ≡ true) × (new ≡ killed old)
Retires old new (retire.Busy word) = ⊥
Retires old new retire.Dead = (is_living old ≡ false) × (new ≡ old)
