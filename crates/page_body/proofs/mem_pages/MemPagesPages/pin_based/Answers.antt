use Rattle.std.proofs.Common.{refl, sym, ap, subst, arith, ◌≡◌, ◌+◌, ◌<◌, ◌∙◌}
use Rattle.std.specs.Prelude.{slice_set}
use Rattle.page_body.specs.Slots.{pins_of, pins_at, in_slot, bytes_of}
use Rattle.row_image.specs.Rules.{IsAccepted}
use Rattle.row_image.specs.Bytes.{IsPage}
use Rattle.page_body.specs.Shows.{AreBases}
use Rattle.page_body.proofs.SlotSteps.{live_read, live_slot, live_has, live_accepted, live_long, has_frame, moved_pins, moved_opens, moved_has, moved_based, moved_others, new_valid, new_shows, total_more, pins_small, pin_more, frame_there, frame_is, pins_there, lives_on, valid_on, unpinned_none}
use Rattle.page_body.proofs.mem_pages.MemPagesPages.pin_based.Goals as goal

pub hold_at-requires-clause-page : goal.hold_at-requires-clause-page
hold_at-requires-clause-page c =
    let slots = c.args.self.now.slots.items in
    let held = c.args.self.now.held in
    let page = c.args.self.now.page in
    let grant = c.args.self.now.grant in
    let at = c.args.page.now.at in
    let s = c.index_mut.result.now in
    let was = live_read page slots c.args.page.now s c.requires.live c.index_mut.ensures.value in
    let there = live_slot page slots c.args.page.now s c.requires.live was in
    live_has page c.args.page.now s there

pub hold_at-requires-clause-few : goal.hold_at-requires-clause-few
hold_at-requires-clause-few c =
    let slots = c.args.self.now.slots.items in
    let held = c.args.self.now.held in
    let page = c.args.self.now.page in
    let grant = c.args.self.now.grant in
    let at = c.args.page.now.at in
    let s = c.index_mut.result.now in
    let was = live_read page slots c.args.page.now s c.requires.live c.index_mut.ensures.value in
    let there = live_slot page slots c.args.page.now s c.requires.live was in
    let k = pins_small slots at s s was held c.args.self.now.total in
    let most = c.args.self.now.most in
    omega (arith, k, c.requires.room, most)

pub hold_at-requires-clause-long : goal.hold_at-requires-clause-long
hold_at-requires-clause-long c =
    let slots = c.args.self.now.slots.items in
    let held = c.args.self.now.held in
    let page = c.args.self.now.page in
    let grant = c.args.self.now.grant in
    let at = c.args.page.now.at in
    let s = c.index_mut.result.now in
    let was = live_read page slots c.args.page.now s c.requires.live c.index_mut.ensures.value in
    let there = live_slot page slots c.args.page.now s c.requires.live was in
    subst IsPage (sym (live_long page c.args.page.now s there)) c.args.self.now.page_fits

pub hold_at-requires-clause-accepted : goal.hold_at-requires-clause-accepted
hold_at-requires-clause-accepted c =
    let slots = c.args.self.now.slots.items in
    let held = c.args.self.now.held in
    let page = c.args.self.now.page in
    let grant = c.args.self.now.grant in
    let at = c.args.page.now.at in
    let s = c.index_mut.result.now in
    let was = live_read page slots c.args.page.now s c.requires.live c.index_mut.ensures.value in
    let there = live_slot page slots c.args.page.now s c.requires.live was in
    subst (λ k. IsAccepted k (bytes_of s)) c.requires.kind (live_accepted page c.args.page.now s there)

pub hold_at-requires-clause-bases : goal.hold_at-requires-clause-bases
hold_at-requires-clause-bases c =
    let slots = c.args.self.now.slots.items in
    let held = c.args.self.now.held in
    let page = c.args.self.now.page in
    let grant = c.args.self.now.grant in
    let at = c.args.page.now.at in
    let s = c.index_mut.result.now in
    let was = live_read page slots c.args.page.now s c.requires.live c.index_mut.ensures.value in
    let there = live_slot page slots c.args.page.now s c.requires.live was in
    subst (λ n. AreBases n c.args.bases.now) (sym (live_long page c.args.page.now s there)) c.requires.bases

pub invariant_of-self : goal.invariant_of-self
invariant_of-self c =
    let slots = c.args.self.now.slots.items in
    let held = c.args.self.now.held in
    let page = c.args.self.now.page in
    let grant = c.args.self.now.grant in
    let at = c.args.page.now.at in
    let s = c.index_mut.result.now in
    let was = live_read page slots c.args.page.now s c.requires.live c.index_mut.ensures.value in
    let there = live_slot page slots c.args.page.now s c.requires.live was in
    let kinds = c.args.layout.now in
    let bases = c.args.bases.now in
    let s' = c.hold_at.new.self in
    let moved = c.hold_at.ensures in
    let more = moved_pins kinds bases s s' moved in
    let opens = moved_opens kinds bases s s' moved in
    let lives = lives_on slots at s s' was page (λ p live. moved_others page c.args.page.now p kinds bases s s' c.requires.kind there moved live) in
    let total = total_more slots at s s' was held (omega (arith, more, opens)) c.args.self.now.total in
    record { page_fits = c.args.self.now.page_fits; least = c.args.self.now.least; most = c.args.self.now.most; within = omega (arith, c.requires.room); total = total }

pub pin_of-requires : goal.pin_of-requires
pin_of-requires c =
    let slots = c.args.self.now.slots.items in
    let held = c.args.self.now.held in
    let page = c.args.self.now.page in
    let grant = c.args.self.now.grant in
    let at = c.args.page.now.at in
    let s = c.index_mut.result.now in
    let was = live_read page slots c.args.page.now s c.requires.live c.index_mut.ensures.value in
    let there = live_slot page slots c.args.page.now s c.requires.live was in
    let kinds = c.args.layout.now in
    let bases = c.args.bases.now in
    let s' = c.hold_at.new.self in
    let moved = c.hold_at.ensures in
    let more = moved_pins kinds bases s s' moved in
    let opens = moved_opens kinds bases s s' moved in
    let lives = lives_on slots at s s' was page (λ p live. moved_others page c.args.page.now p kinds bases s s' c.requires.kind there moved live) in
    frame_there slots at s s' was (has_frame s' (moved_has kinds bases s s' moved))

pub returns-clause-valid : goal.returns-clause-valid
returns-clause-valid c =
    let slots = c.args.self.now.slots.items in
    let held = c.args.self.now.held in
    let page = c.args.self.now.page in
    let grant = c.args.self.now.grant in
    let at = c.args.page.now.at in
    let s = c.index_mut.result.now in
    let was = live_read page slots c.args.page.now s c.requires.live c.index_mut.ensures.value in
    let there = live_slot page slots c.args.page.now s c.requires.live was in
    let kinds = c.args.layout.now in
    let bases = c.args.bases.now in
    let s' = c.hold_at.new.self in
    let moved = c.hold_at.ensures in
    let more = moved_pins kinds bases s s' moved in
    let opens = moved_opens kinds bases s s' moved in
    let lives = lives_on slots at s s' was page (λ p live. moved_others page c.args.page.now p kinds bases s s' c.requires.kind there moved live) in
    let some : 0 < pins_at (slice_set slots at s') at = let k = pins_there slots at s s' was in omega (arith, k, more) in
    let valid = new_valid page (slice_set slots at s') c.args.page.now c.pin_of.result c.pin_of.ensures.page c.pin_of.ensures.frame some (lives c.args.page.now c.requires.live) in
    valid

pub returns-clause-shows : goal.returns-clause-shows
returns-clause-shows c =
    let slots = c.args.self.now.slots.items in
    let held = c.args.self.now.held in
    let page = c.args.self.now.page in
    let grant = c.args.self.now.grant in
    let at = c.args.page.now.at in
    let s = c.index_mut.result.now in
    let was = live_read page slots c.args.page.now s c.requires.live c.index_mut.ensures.value in
    let there = live_slot page slots c.args.page.now s c.requires.live was in
    let kinds = c.args.layout.now in
    let bases = c.args.bases.now in
    let s' = c.hold_at.new.self in
    let moved = c.hold_at.ensures in
    let more = moved_pins kinds bases s s' moved in
    let opens = moved_opens kinds bases s s' moved in
    let lives = lives_on slots at s s' was page (λ p live. moved_others page c.args.page.now p kinds bases s s' c.requires.kind there moved live) in
    let some : 0 < pins_at (slice_set slots at s') at = let k = pins_there slots at s s' was in omega (arith, k, more) in
    let valid = new_valid page (slice_set slots at s') c.args.page.now c.pin_of.result c.pin_of.ensures.page c.pin_of.ensures.frame some (lives c.args.page.now c.requires.live) in
    new_shows page (slice_set slots at s') c.args.page.now c.pin_of.result c.pin_of.ensures.page valid

pub returns-clause-based : goal.returns-clause-based
returns-clause-based c =
    let slots = c.args.self.now.slots.items in
    let held = c.args.self.now.held in
    let page = c.args.self.now.page in
    let grant = c.args.self.now.grant in
    let at = c.args.page.now.at in
    let s = c.index_mut.result.now in
    let was = live_read page slots c.args.page.now s c.requires.live c.index_mut.ensures.value in
    let there = live_slot page slots c.args.page.now s c.requires.live was in
    let kinds = c.args.layout.now in
    let bases = c.args.bases.now in
    let s' = c.hold_at.new.self in
    let moved = c.hold_at.ensures in
    let more = moved_pins kinds bases s s' moved in
    let opens = moved_opens kinds bases s s' moved in
    let lives = lives_on slots at s s' was page (λ p live. moved_others page c.args.page.now p kinds bases s s' c.requires.kind there moved live) in
    moved_based kinds bases s s' c.pin_of.result.frame.value moved (frame_is slots at s s' was c.pin_of.result.frame.value c.pin_of.ensures.frame)

pub returns-clause-counted : goal.returns-clause-counted
returns-clause-counted c =
    let slots = c.args.self.now.slots.items in
    let held = c.args.self.now.held in
    let page = c.args.self.now.page in
    let grant = c.args.self.now.grant in
    let at = c.args.page.now.at in
    let s = c.index_mut.result.now in
    let was = live_read page slots c.args.page.now s c.requires.live c.index_mut.ensures.value in
    let there = live_slot page slots c.args.page.now s c.requires.live was in
    let kinds = c.args.layout.now in
    let bases = c.args.bases.now in
    let s' = c.hold_at.new.self in
    let moved = c.hold_at.ensures in
    let more = moved_pins kinds bases s s' moved in
    let opens = moved_opens kinds bases s s' moved in
    let lives = lives_on slots at s s' was page (λ p live. moved_others page c.args.page.now p kinds bases s s' c.requires.kind there moved live) in
    pin_more slots at s s' was page grant held (held + 1) more opens refl

pub returns-clause-lives : goal.returns-clause-lives
returns-clause-lives c =
    let slots = c.args.self.now.slots.items in
    let held = c.args.self.now.held in
    let page = c.args.self.now.page in
    let grant = c.args.self.now.grant in
    let at = c.args.page.now.at in
    let s = c.index_mut.result.now in
    let was = live_read page slots c.args.page.now s c.requires.live c.index_mut.ensures.value in
    let there = live_slot page slots c.args.page.now s c.requires.live was in
    let kinds = c.args.layout.now in
    let bases = c.args.bases.now in
    let s' = c.hold_at.new.self in
    let moved = c.hold_at.ensures in
    let more = moved_pins kinds bases s s' moved in
    let opens = moved_opens kinds bases s s' moved in
    let lives = lives_on slots at s s' was page (λ p live. moved_others page c.args.page.now p kinds bases s s' c.requires.kind there moved live) in
    lives

pub returns-clause-pins : goal.returns-clause-pins
returns-clause-pins c =
    let slots = c.args.self.now.slots.items in
    let held = c.args.self.now.held in
    let page = c.args.self.now.page in
    let grant = c.args.self.now.grant in
    let at = c.args.page.now.at in
    let s = c.index_mut.result.now in
    let was = live_read page slots c.args.page.now s c.requires.live c.index_mut.ensures.value in
    let there = live_slot page slots c.args.page.now s c.requires.live was in
    let kinds = c.args.layout.now in
    let bases = c.args.bases.now in
    let s' = c.hold_at.new.self in
    let moved = c.hold_at.ensures in
    let more = moved_pins kinds bases s s' moved in
    let opens = moved_opens kinds bases s s' moved in
    let lives = lives_on slots at s s' was page (λ p live. moved_others page c.args.page.now p kinds bases s s' c.requires.kind there moved live) in
    let none : pins_of s ≡ 0 = sym (ap (in_slot pins_of) was) ∙ c.requires.alone refl in
    valid_on slots at s s' was page (λ q v. absurd (unpinned_none slots at s s' was page none q v))
