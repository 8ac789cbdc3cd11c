use Rattle.std.proofs.Common.{sym, ap, subst, arith, ◌≡◌, ◌+◌, ◌∙◌, Some}
use Rattle.std.specs.Prelude.{slice_get, slice_set}
use Rattle.std.proofs.Common.{◌-◌}
use Rattle.page_body.specs.Keeps.{OnePin}
use Rattle.page_body.specs.SlotLaws.{pinned_in}
use Rattle.page_body.specs.Slots.{pins_of, opens_of, LiveIn, ValidIn, slots_view}
use Rattle.page_body.proofs.SlotSteps.{valid_read, pinned_has, pins_with, opens_with, live_with, valid_with, some_held, total_less, pin_less, lives_on, pinned_on}
use Rattle.page_body.proofs.mem_pages.MemPagesPages.unpin.Goals as goal

pub overflow_sub-self : goal.overflow_sub-self
overflow_sub-self c =
    let slots = c.args.self.now.slots.items in
    let held = c.args.self.now.held in
    let page = c.args.self.now.page in
    let grant = c.args.self.now.grant in
    let at = c.args.pin.at in
    let there = c.args.pin.there in
    let s = c.index_mut.result.now in
    let valid = subst (λ z. ValidIn page c.args.pin (slice_get slots z)) there c.requires in
    let was = valid_read page slots at c.args.pin s valid c.index_mut.ensures.value in
    let used = pinned_in page c.args.pin (Some s) (subst (ValidIn page c.args.pin) was valid) in
    some_held slots at s s was held (omega (arith, used)) c.args.self.now.total

pub invariant_of-self : goal.invariant_of-self
invariant_of-self c =
    let slots = c.args.self.now.slots.items in
    let held = c.args.self.now.held in
    let page = c.args.self.now.page in
    let grant = c.args.self.now.grant in
    let at = c.args.pin.at in
    let there = c.args.pin.there in
    let s = c.index_mut.result.now in
    let valid = subst (λ z. ValidIn page c.args.pin (slice_get slots z)) there c.requires in
    let was = valid_read page slots at c.args.pin s valid c.index_mut.ensures.value in
    let used = pinned_in page c.args.pin (Some s) (subst (ValidIn page c.args.pin) was valid) in
    let s' = c.release.new.self in
    let is = c.release.ensures in
    let has = pinned_has s used in
    let less : pins_of s ≡ pins_of s' + 1 = let k = ap pins_of is ∙ pins_with s (pins_of s - 1) has in omega (arith, k, used) in
    let opens = ap opens_of is ∙ opens_with s (pins_of s - 1) in
    let total = total_less slots at s s' was held (omega (arith, less, opens)) c.args.self.now.total in
    let within = c.args.self.now.within in
    record { page_fits = c.args.self.now.page_fits; least = c.args.self.now.least; most = c.args.self.now.most; within = omega (arith, within); total = total }

pub returns-clause-counted : goal.returns-clause-counted
returns-clause-counted c =
    let slots = c.args.self.now.slots.items in
    let held = c.args.self.now.held in
    let page = c.args.self.now.page in
    let grant = c.args.self.now.grant in
    let at = c.args.pin.at in
    let there = c.args.pin.there in
    let s = c.index_mut.result.now in
    let valid = subst (λ z. ValidIn page c.args.pin (slice_get slots z)) there c.requires in
    let was = valid_read page slots at c.args.pin s valid c.index_mut.ensures.value in
    let used = pinned_in page c.args.pin (Some s) (subst (ValidIn page c.args.pin) was valid) in
    let s' = c.release.new.self in
    let is = c.release.ensures in
    let has = pinned_has s used in
    let less : pins_of s ≡ pins_of s' + 1 = let k = ap pins_of is ∙ pins_with s (pins_of s - 1) has in omega (arith, k, used) in
    let opens = ap opens_of is ∙ opens_with s (pins_of s - 1) in
    let one = some_held slots at s s was held (omega (arith, used)) c.args.self.now.total in
    let k = pin_less slots at s s' was page grant held (held - 1) less opens (omega (arith, one)) in
    subst (λ z. OnePin z (slots_view page grant (held - 1) (slice_set slots at s')) (slots_view page grant held slots)) (sym there) k

pub returns-clause-lives : goal.returns-clause-lives
returns-clause-lives c =
    let slots = c.args.self.now.slots.items in
    let held = c.args.self.now.held in
    let page = c.args.self.now.page in
    let grant = c.args.self.now.grant in
    let at = c.args.pin.at in
    let there = c.args.pin.there in
    let s = c.index_mut.result.now in
    let valid = subst (λ z. ValidIn page c.args.pin (slice_get slots z)) there c.requires in
    let was = valid_read page slots at c.args.pin s valid c.index_mut.ensures.value in
    let used = pinned_in page c.args.pin (Some s) (subst (ValidIn page c.args.pin) was valid) in
    let s' = c.release.new.self in
    let is = c.release.ensures in
    let has = pinned_has s used in
    let less : pins_of s ≡ pins_of s' + 1 = let k = ap pins_of is ∙ pins_with s (pins_of s - 1) has in omega (arith, k, used) in
    let opens = ap opens_of is ∙ opens_with s (pins_of s - 1) in
    lives_on slots at s s' was page (λ p live. subst (λ z. LiveIn page p (Some z)) (sym is) (live_with page p s (pins_of s - 1) live))

pub returns-clause-pins : goal.returns-clause-pins
returns-clause-pins c =
    let slots = c.args.self.now.slots.items in
    let held = c.args.self.now.held in
    let page = c.args.self.now.page in
    let grant = c.args.self.now.grant in
    let at = c.args.pin.at in
    let there = c.args.pin.there in
    let s = c.index_mut.result.now in
    let valid = subst (λ z. ValidIn page c.args.pin (slice_get slots z)) there c.requires in
    let was = valid_read page slots at c.args.pin s valid c.index_mut.ensures.value in
    let used = pinned_in page c.args.pin (Some s) (subst (ValidIn page c.args.pin) was valid) in
    let s' = c.release.new.self in
    let is = c.release.ensures in
    let has = pinned_has s used in
    let less : pins_of s ≡ pins_of s' + 1 = let k = ap pins_of is ∙ pins_with s (pins_of s - 1) has in omega (arith, k, used) in
    let opens = ap opens_of is ∙ opens_with s (pins_of s - 1) in
    let kept = ap pins_of is ∙ pins_with s (pins_of s - 1) has in
    pinned_on slots at s s' was page (λ q some v. subst (λ z. ValidIn page q (Some z)) (sym is) (valid_with page q s (pins_of s - 1) (omega (arith, some, kept)) v))
