use Rattle.std.proofs.Common.{refl, ap, subst, arith, ◌∙◌}
use Rattle.std.specs.Prelude.{slice_get}
use Rattle.std.proofs.Common.{◌-◌}
use Rattle.page_body.specs.declared.slot.Slot.TheVariants.{Open, Sealed}
use Rattle.page_body.specs.Slots.{LiveIn}
use Rattle.page_body.specs.declared.mem_page.MemPage.{MemPage}
use Rattle.page_body.proofs.SlotSteps.{open_there, new_live, sealed_frame, pins_there, some_held, total_less, open_less, lives_on, valid_on}
use Rattle.page_body.proofs.mem_pages.MemPagesPages.seal.Goals as goal

pub overflow_sub-self : goal.overflow_sub-self
overflow_sub-self c =
    let slots = c.args.self.now.slots.items in
    let held = c.args.self.now.held in
    let page = c.args.self.now.page in
    let grant = c.args.self.now.grant in
    let at = c.args.page.frame.number in
    let was = open_there slots at c.requires.own.own in
    some_held slots at Open (Sealed c.args.page.frame 0 c.of-seal.result) was held (omega arith) c.args.self.now.total

pub invariant_of-self : goal.invariant_of-self
invariant_of-self c =
    let slots = c.args.self.now.slots.items in
    let held = c.args.self.now.held in
    let page = c.args.self.now.page in
    let grant = c.args.self.now.grant in
    let at = c.args.page.frame.number in
    let was = open_there slots at c.requires.own.own in
    let total = total_less slots at Open (Sealed c.args.page.frame 0 c.of-seal.result) was held refl c.args.self.now.total in
    let within = c.args.self.now.within in
    record { page_fits = c.args.self.now.page_fits; least = c.args.self.now.least; most = c.args.self.now.most; within = omega (arith, within); total = total }

pub returns-clause-counted : goal.returns-clause-counted
returns-clause-counted c =
    let slots = c.args.self.now.slots.items in
    let held = c.args.self.now.held in
    let page = c.args.self.now.page in
    let grant = c.args.self.now.grant in
    let at = c.args.page.frame.number in
    let was = open_there slots at c.requires.own.own in
    let one = some_held slots at Open (Sealed c.args.page.frame 0 c.of-seal.result) was held (omega arith) c.args.self.now.total in
    open_less slots at Open (Sealed c.args.page.frame 0 c.of-seal.result) was page grant held (held - 1) refl refl (omega (arith, one))

pub returns-clause-lives : goal.returns-clause-lives
returns-clause-lives c =
    let slots = c.args.self.now.slots.items in
    let held = c.args.self.now.held in
    let page = c.args.self.now.page in
    let grant = c.args.self.now.grant in
    let at = c.args.page.frame.number in
    let was = open_there slots at c.requires.own.own in
    lives_on slots at Open (Sealed c.args.page.frame 0 c.of-seal.result) was page (λ p live. absurd live)

pub returns-clause-pins : goal.returns-clause-pins
returns-clause-pins c =
    let slots = c.args.self.now.slots.items in
    let held = c.args.self.now.held in
    let page = c.args.self.now.page in
    let grant = c.args.self.now.grant in
    let at = c.args.page.frame.number in
    let was = open_there slots at c.requires.own.own in
    valid_on slots at Open (Sealed c.args.page.frame 0 c.of-seal.result) was page (λ q v. absurd v)

pub returns-clause-new : goal.returns-clause-new
returns-clause-new c =
    let slots = c.args.self.now.slots.items in
    let held = c.args.self.now.held in
    let page = c.args.self.now.page in
    let grant = c.args.self.now.grant in
    let at = c.args.page.frame.number in
    let was = open_there slots at c.requires.own.own in
    let p : MemPage = record { at = at; seal = c.of.result } in
    record {
      live = new_live slots at Open (Sealed c.args.page.frame 0 c.of-seal.result) was page p refl (sealed_frame page p c.args.page c.of-seal.result.value c.of.ensures c.of-seal.ensures c.requires.accepted c.requires.own.long c.requires.own.number);
      differs = λ ends other live same. subst (LiveIn page other) (ap (slice_get slots) same ∙ was) live;
      unpinned = λ ends. pins_there slots at Open (Sealed c.args.page.frame 0 c.of-seal.result) was;
    }
