use Rattle.std.proofs.Common.{refl, sym, ap, subst, arith, ◌+◌, ◌<◌, ◌∙◌, Some}
use Rattle.std.specs.Prelude.{slice_set}
use Rattle.page_body.specs.Slots.{HasPage, pins_of, opens_of, pins_at, LiveIn, ValidIn}
use Rattle.page_body.proofs.SlotSteps.{live_read, live_slot, live_has, has_frame, has_with, pins_with, opens_with, live_with, valid_with, new_valid, new_shows, total_more, pins_small, pin_more, frame_there, pins_there, lives_on, valid_on}
use Rattle.page_body.proofs.mem_pages.MemPagesPages.pin.Goals as goal

pub hold-requires-clause-few : goal.hold-requires-clause-few
hold-requires-clause-few c =
    let slots = c.args.self.now.slots.items in
    let held = c.args.self.now.held in
    let page = c.args.self.now.page in
    let at = c.args.page.now.at in
    let s = c.index_mut.result.now in
    let was = live_read page slots c.args.page.now s c.requires.live c.index_mut.ensures.value in
    let k = pins_small slots at s s was held c.args.self.now.total in
    let most = c.args.self.now.most in
    omega (arith, k, c.requires.room, most)

pub invariant_of-self : goal.invariant_of-self
invariant_of-self c =
    let slots = c.args.self.now.slots.items in
    let held = c.args.self.now.held in
    let page = c.args.self.now.page in
    let grant = c.args.self.now.grant in
    let at = c.args.page.now.at in
    let s = c.index_mut.result.now in
    let s' = c.hold.new.self in
    let was = live_read page slots c.args.page.now s c.requires.live c.index_mut.ensures.value in
    let there = live_slot page slots c.args.page.now s c.requires.live was in
    let has = live_has page c.args.page.now s there in
    let is = c.hold.ensures in
    let more = ap pins_of is ∙ pins_with s (pins_of s + 1) has in
    let opens = ap opens_of is ∙ opens_with s (pins_of s + 1) in
    let lives = lives_on slots at s s' was page (λ p live. subst (λ z. LiveIn page p (Some z)) (sym is) (live_with page p s (pins_of s + 1) live)) in
    let total = total_more slots at s s' was held (omega (arith, more, opens)) c.args.self.now.total in
    record { page_fits = c.args.self.now.page_fits; least = c.args.self.now.least; most = c.args.self.now.most; within = omega (arith, c.requires.room); total = total }

pub pin_of-requires : goal.pin_of-requires
pin_of-requires c =
    let slots = c.args.self.now.slots.items in
    let held = c.args.self.now.held in
    let page = c.args.self.now.page in
    let grant = c.args.self.now.grant in
    let at = c.args.page.now.at in
    let s = c.index_mut.result.now in
    let s' = c.hold.new.self in
    let was = live_read page slots c.args.page.now s c.requires.live c.index_mut.ensures.value in
    let there = live_slot page slots c.args.page.now s c.requires.live was in
    let has = live_has page c.args.page.now s there in
    let is = c.hold.ensures in
    let more = ap pins_of is ∙ pins_with s (pins_of s + 1) has in
    let opens = ap opens_of is ∙ opens_with s (pins_of s + 1) in
    let lives = lives_on slots at s s' was page (λ p live. subst (λ z. LiveIn page p (Some z)) (sym is) (live_with page p s (pins_of s + 1) live)) in
    frame_there slots at s s' was (has_frame s' (subst HasPage (sym is) (has_with s (pins_of s + 1) has)))

pub returns-clause-valid : goal.returns-clause-valid
returns-clause-valid c =
    let slots = c.args.self.now.slots.items in
    let held = c.args.self.now.held in
    let page = c.args.self.now.page in
    let grant = c.args.self.now.grant in
    let at = c.args.page.now.at in
    let s = c.index_mut.result.now in
    let s' = c.hold.new.self in
    let was = live_read page slots c.args.page.now s c.requires.live c.index_mut.ensures.value in
    let there = live_slot page slots c.args.page.now s c.requires.live was in
    let has = live_has page c.args.page.now s there in
    let is = c.hold.ensures in
    let more = ap pins_of is ∙ pins_with s (pins_of s + 1) has in
    let opens = ap opens_of is ∙ opens_with s (pins_of s + 1) in
    let lives = lives_on slots at s s' was page (λ p live. subst (λ z. LiveIn page p (Some z)) (sym is) (live_with page p s (pins_of s + 1) live)) in
    let some : 0 < pins_at (slice_set slots at s') at = let k = pins_there slots at s s' was in omega (arith, k, more) in
    let valid = new_valid page (slice_set slots at s') c.args.page.now c.pin_of.result c.pin_of.ensures.page c.pin_of.ensures.frame some (lives c.args.page.now c.requires.live) in
    valid

pub returns-clause-shows : goal.returns-clause-shows
returns-clause-shows c =
    let slots = c.args.self.now.slots.items in
    let held = c.args.self.now.held in
    let page = c.args.self.now.page in
    let grant = c.args.self.now.grant in
    let at = c.args.page.now.at in
    let s = c.index_mut.result.now in
    let s' = c.hold.new.self in
    let was = live_read page slots c.args.page.now s c.requires.live c.index_mut.ensures.value in
    let there = live_slot page slots c.args.page.now s c.requires.live was in
    let has = live_has page c.args.page.now s there in
    let is = c.hold.ensures in
    let more = ap pins_of is ∙ pins_with s (pins_of s + 1) has in
    let opens = ap opens_of is ∙ opens_with s (pins_of s + 1) in
    let lives = lives_on slots at s s' was page (λ p live. subst (λ z. LiveIn page p (Some z)) (sym is) (live_with page p s (pins_of s + 1) live)) in
    let some : 0 < pins_at (slice_set slots at s') at = let k = pins_there slots at s s' was in omega (arith, k, more) in
    let valid = new_valid page (slice_set slots at s') c.args.page.now c.pin_of.result c.pin_of.ensures.page c.pin_of.ensures.frame some (lives c.args.page.now c.requires.live) in
    new_shows page (slice_set slots at s') c.args.page.now c.pin_of.result c.pin_of.ensures.page valid

pub returns-clause-counted : goal.returns-clause-counted
returns-clause-counted c =
    let slots = c.args.self.now.slots.items in
    let held = c.args.self.now.held in
    let page = c.args.self.now.page in
    let grant = c.args.self.now.grant in
    let at = c.args.page.now.at in
    let s = c.index_mut.result.now in
    let s' = c.hold.new.self in
    let was = live_read page slots c.args.page.now s c.requires.live c.index_mut.ensures.value in
    let there = live_slot page slots c.args.page.now s c.requires.live was in
    let has = live_has page c.args.page.now s there in
    let is = c.hold.ensures in
    let more = ap pins_of is ∙ pins_with s (pins_of s + 1) has in
    let opens = ap opens_of is ∙ opens_with s (pins_of s + 1) in
    let lives = lives_on slots at s s' was page (λ p live. subst (λ z. LiveIn page p (Some z)) (sym is) (live_with page p s (pins_of s + 1) live)) in
    pin_more slots at s s' was page grant held (held + 1) more opens refl

pub returns-clause-lives : goal.returns-clause-lives
returns-clause-lives c =
    let slots = c.args.self.now.slots.items in
    let held = c.args.self.now.held in
    let page = c.args.self.now.page in
    let grant = c.args.self.now.grant in
    let at = c.args.page.now.at in
    let s = c.index_mut.result.now in
    let s' = c.hold.new.self in
    let was = live_read page slots c.args.page.now s c.requires.live c.index_mut.ensures.value in
    let there = live_slot page slots c.args.page.now s c.requires.live was in
    let has = live_has page c.args.page.now s there in
    let is = c.hold.ensures in
    let more = ap pins_of is ∙ pins_with s (pins_of s + 1) has in
    let opens = ap opens_of is ∙ opens_with s (pins_of s + 1) in
    let lives = lives_on slots at s s' was page (λ p live. subst (λ z. LiveIn page p (Some z)) (sym is) (live_with page p s (pins_of s + 1) live)) in
    lives

pub returns-clause-pins : goal.returns-clause-pins
returns-clause-pins c =
    let slots = c.args.self.now.slots.items in
    let held = c.args.self.now.held in
    let page = c.args.self.now.page in
    let grant = c.args.self.now.grant in
    let at = c.args.page.now.at in
    let s = c.index_mut.result.now in
    let s' = c.hold.new.self in
    let was = live_read page slots c.args.page.now s c.requires.live c.index_mut.ensures.value in
    let there = live_slot page slots c.args.page.now s c.requires.live was in
    let has = live_has page c.args.page.now s there in
    let is = c.hold.ensures in
    let more = ap pins_of is ∙ pins_with s (pins_of s + 1) has in
    let opens = ap opens_of is ∙ opens_with s (pins_of s + 1) in
    let lives = lives_on slots at s s' was page (λ p live. subst (λ z. LiveIn page p (Some z)) (sym is) (live_with page p s (pins_of s + 1) live)) in
    valid_on slots at s s' was page (λ q v. subst (λ z. ValidIn page q (Some z)) (sym is) (valid_with page q s (pins_of s + 1) (omega arith) v))
