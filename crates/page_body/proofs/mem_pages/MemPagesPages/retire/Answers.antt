use Rattle.std.proofs.Common.{refl, sym, ap, arith, ◌≡◌, ◌∙◌}
use Rattle.page_body.specs.declared.slot.Slot.TheVariants.{Gone}
use Rattle.page_body.specs.Slots.{pins_of, in_slot}
use Rattle.page_body.proofs.SlotSteps.{live_read, live_slot, opens_none, total_same, held_same, gone_ends, others_live_on, valid_on, unpinned_none}
use Rattle.page_body.proofs.mem_pages.MemPagesPages.retire.Goals as goal

pub invariant_of-self : goal.invariant_of-self
invariant_of-self c =
    let slots = c.args.self.now.slots.items in
    let held = c.args.self.now.held in
    let page = c.args.self.now.page in
    let grant = c.args.self.now.grant in
    let at = c.args.page.at in
    let s = c.index_mut.result.now in
    let was = live_read page slots c.args.page s c.requires.live c.index_mut.ensures.value in
    let none : pins_of s ≡ 0 = sym (ap (in_slot pins_of) was) ∙ c.requires.alone refl in
    let opens = opens_none page c.args.page s (live_slot page slots c.args.page s c.requires.live was) in
    let total = total_same slots at s Gone was held (omega (arith, none, opens)) c.args.self.now.total in
    record { page_fits = c.args.self.now.page_fits; least = c.args.self.now.least; most = c.args.self.now.most; within = c.args.self.now.within; total = total }

pub returns-clause-ended : goal.returns-clause-ended
returns-clause-ended c =
    let slots = c.args.self.now.slots.items in
    let held = c.args.self.now.held in
    let page = c.args.self.now.page in
    let grant = c.args.self.now.grant in
    let at = c.args.page.at in
    let s = c.index_mut.result.now in
    let was = live_read page slots c.args.page s c.requires.live c.index_mut.ensures.value in
    let none : pins_of s ≡ 0 = sym (ap (in_slot pins_of) was) ∙ c.requires.alone refl in
    let opens = opens_none page c.args.page s (live_slot page slots c.args.page s c.requires.live was) in
    λ ends live. gone_ends slots at s was page c.args.page refl live

pub returns-clause-held : goal.returns-clause-held
returns-clause-held c =
    let slots = c.args.self.now.slots.items in
    let held = c.args.self.now.held in
    let page = c.args.self.now.page in
    let grant = c.args.self.now.grant in
    let at = c.args.page.at in
    let s = c.index_mut.result.now in
    let was = live_read page slots c.args.page s c.requires.live c.index_mut.ensures.value in
    let none : pins_of s ≡ 0 = sym (ap (in_slot pins_of) was) ∙ c.requires.alone refl in
    let opens = opens_none page c.args.page s (live_slot page slots c.args.page s c.requires.live was) in
    held_same slots at s Gone was page grant held held (sym opens) (sym none) refl

pub returns-clause-lives : goal.returns-clause-lives
returns-clause-lives c =
    let slots = c.args.self.now.slots.items in
    let held = c.args.self.now.held in
    let page = c.args.self.now.page in
    let grant = c.args.self.now.grant in
    let at = c.args.page.at in
    let s = c.index_mut.result.now in
    let was = live_read page slots c.args.page s c.requires.live c.index_mut.ensures.value in
    let none : pins_of s ≡ 0 = sym (ap (in_slot pins_of) was) ∙ c.requires.alone refl in
    let opens = opens_none page c.args.page s (live_slot page slots c.args.page s c.requires.live was) in
    λ p live other. others_live_on slots at s Gone was page p live (other refl)

pub returns-clause-pins : goal.returns-clause-pins
returns-clause-pins c =
    let slots = c.args.self.now.slots.items in
    let held = c.args.self.now.held in
    let page = c.args.self.now.page in
    let grant = c.args.self.now.grant in
    let at = c.args.page.at in
    let s = c.index_mut.result.now in
    let was = live_read page slots c.args.page s c.requires.live c.index_mut.ensures.value in
    let none : pins_of s ≡ 0 = sym (ap (in_slot pins_of) was) ∙ c.requires.alone refl in
    let opens = opens_none page c.args.page s (live_slot page slots c.args.page s c.requires.live was) in
    valid_on slots at s Gone was page (λ q v. absurd (unpinned_none slots at s Gone was page none q v))
