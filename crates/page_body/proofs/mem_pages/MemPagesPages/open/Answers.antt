use Rattle.std.proofs.Common.{sym, subst, arith, ℕ, ◌≡◌, ◌+◌, length}
use Rattle.std.specs.Prelude.{List}
use Rattle.page_body.specs.Keeps.{OneOpen}
use Rattle.page_body.specs.declared.slot.Slot.{Slot}
use Rattle.page_body.specs.Slots.{LiveAt, IsPin, slots_view}
use Rattle.page_body.proofs.SlotSteps.{push_open, push_lives, push_valid}
use Rattle.page_body.proofs.mem_pages.MemPagesPages.open.Goals as goal

pub returns-clause-counted : goal.returns-clause-counted
returns-clause-counted c =
    let slots = c.args.self.now.slots.items in
    let held = c.args.self.now.held in
    let page = c.args.self.now.page in
    let grant = c.args.self.now.grant in
    let items = c.in_ok-push.ensures.items in
    let k = push_open slots page grant held in
    let whole = c.args.self.now.slots.ok.0 in
    let number = c.len-number.ensures in
    let place : length slots ≡ c.len-number.result = omega (arith, whole, number) in
    subst (λ (n : ℕ). OneOpen n (slots_view page grant held slots) (slots_view page grant (held + 1) c.push.new.self.items)) place
    (subst (λ (ss : List Slot). OneOpen (length slots) (slots_view page grant held slots) (slots_view page grant (held + 1) ss)) (sym items) k)

pub returns-clause-lives : goal.returns-clause-lives
returns-clause-lives c =
    let slots = c.args.self.now.slots.items in
    let held = c.args.self.now.held in
    let page = c.args.self.now.page in
    let grant = c.args.self.now.grant in
    let items = c.in_ok-push.ensures.items in
    λ p live. subst (λ (ss : List Slot). LiveAt page ss p) (sym items) (push_lives slots page p live)

pub returns-clause-pins : goal.returns-clause-pins
returns-clause-pins c =
    let slots = c.args.self.now.slots.items in
    let held = c.args.self.now.held in
    let page = c.args.self.now.page in
    let grant = c.args.self.now.grant in
    let items = c.in_ok-push.ensures.items in
    λ q valid. subst (λ (ss : List Slot). IsPin page ss q) (sym items) (push_valid slots page q valid)
