use Rattle.std.proofs.Common.{◌≡◌, subst}
use Rattle.std.specs.Prelude.{Some}
use Rattle.pool_core.specs.declared.event.Change.{Change}
use Rattle.pool_core.specs.State.{state_of, OnPage}
use Rattle.pool_core.specs.Enabled.{CanChange}
use Rattle.pool_core.proofs.Ready.{can_install, can_rest, can_rebase}
use Rattle.pool_core.proofs.step.put.Goals as goal

pub install-requires : goal.install-requires
install-requires c =
    let s = state_of c.args.state.now in
    let P : Change → Type 0 = λ change. OnPage s.pages c.args.page (λ p. (p.writer ≡ Some c.args.actor) × CanChange s.page s.turns c.args.actor p change) in
    record { turn = can_install s c.requires.sound c.args.actor c.args.page c.in-Install.frame (subst P c.in-Install.is c.requires.can) }

pub rest-requires : goal.rest-requires
rest-requires c =
    let s = state_of c.args.state.now in
    let P : Change → Type 0 = λ change. OnPage s.pages c.args.page (λ p. (p.writer ≡ Some c.args.actor) × CanChange s.page s.turns c.args.actor p change) in
    can_rest s c.args.actor c.args.page (subst P c.in-Rest.is c.requires.can)

pub rebase-requires-clause-there : goal.rebase-requires-clause-there
rebase-requires-clause-there c =
    let s = state_of c.args.state.now in
    let P : Change → Type 0 = λ change. OnPage s.pages c.args.page (λ p. (p.writer ≡ Some c.args.actor) × CanChange s.page s.turns c.args.actor p change) in
    (can_rebase s c.requires.sound c.args.actor c.args.page c.in-Rebase.part c.in-Rebase.base (subst P c.in-Rebase.is c.requires.can)).0
