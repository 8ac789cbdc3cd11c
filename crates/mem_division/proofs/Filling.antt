-- The division by steps stands at a level.
use Rattle.std.proofs.Common.{◌≡◌, ℕ, zero, suc, ◌+◌, ◌-◌, ◌<◌, ◌≤◌, min, max, Bool, true, false, cond, ◌&&◌, nat_lt, nat_eq, List, [], ◌∷◌, map, length, get_or, drop, refl, sym, ap, ◌∙◌, subst, arith, inl, inr}
use Rattle.std.specs.Prelude.{◌⊎◌, ◌==◌, All, Option, Some, None, ⊤, sum}
use Rattle.std.proofs.lemmas.Bool.Decides.{Decides-ltb, nat_tests}
use Rattle.std.proofs.lemmas.List.Sums.{sum_by-cons}
use Rattle.std.proofs.lemmas.List.Elements.{All-head, All-tail}
use Rattle.mem_division.specs.Division.{Place, Want, IsWant, smaller, smallest, with_one_more, one_more_at, one_more_of, one_more, more, least_of, first_places, division}
use Rattle.mem_division.specs.Level.{grant_at, rises, sum_at, count_rising, standing, filled, AllBelow}

-- a place that rises stands at the level, below its most
pub record Rising (level : ℕ) (want : Want) : Type 0 where
  pub low : want.0 ≤ level
  pub room : level < want.1

pub rising : (level : ℕ) (want : Want) → rises level want.0 want.1 ≡ true → Rising level want
unfolding rises
rising level want h = record { low = grind (arith, nat_tests); room = grind (arith, nat_tests) }

pub resting : (level : ℕ) (want : Want) → rises level want.0 want.1 ≡ false → (level < want.0) ⊎ (want.1 ≤ level)
unfolding rises
resting level want h = grind (arith, nat_tests)

by_rise : {P : Type 0} → (b : Bool) → (b ≡ true → P) → (b ≡ false → P) → P
by_rise true if_so if_not = if_so refl
by_rise false if_so if_not = if_not refl

-- the smallest grant isn't below the level
AtLeast : ℕ → Option ℕ → Type 0
AtLeast level None = ⊤
AtLeast level (Some grant) = level ≤ grant

smaller_at_least : (level grant : ℕ) (o : Option ℕ) → level ≤ grant → AtLeast level o → AtLeast level (smaller grant o)
unfolding AtLeast
smaller_at_least level grant None h g = h
smaller_at_least level grant (Some n) h g = omega arith

add_at_least : (level : ℕ) (place : Place) (o : Option ℕ) → (place.grant < place.most → level ≤ place.grant) → AtLeast level o
    → AtLeast level (cond (nat_lt place.grant place.most) (smaller place.grant o) o)
add_at_least level place o h g =
    elim (nat_lt place.grant place.most) as (λ (b : Bool). nat_lt place.grant place.most ≡ b → AtLeast level (cond b (smaller place.grant o) o)) [
      | true ↦ λ e. smaller_at_least level place.grant o (h ((Decides-ltb place.grant place.most).0 e)) g
      | false ↦ λ e. g
    ] refl

standing_high : (level least most : ℕ) → grant_at level least most < most → level ≤ grant_at level least most
standing_high level least most h = omega arith

rising_high : (level least most : ℕ) → level < most → level ≤ grant_at level least most + 1
rising_high level least most h = omega arith

smallest_from : (level rest : ℕ) (wants : List Want) → AtLeast level (smallest (filled level rest wants))
unfolding AtLeast
smallest_from level rest [] = tt
smallest_from level zero (want ∷ wants) =
    add_at_least level (standing level want) (smallest (filled level zero wants)) (standing_high level want.0 want.1) (smallest_from level zero wants)
smallest_from level (suc rest) (want ∷ wants) =
    by_rise (rises level want.0 want.1)
    (λ h. let r = rising level want h in
    rw h (add_at_least level (with_one_more (standing level want)) (smallest (filled level rest wants)) (λ room. rising_high level want.0 want.1 r.room) (smallest_from level rest wants)))
    (λ h. rw h (add_at_least level (standing level want) (smallest (filled level (suc rest) wants)) (standing_high level want.0 want.1) (smallest_from level (suc rest) wants)))

level_first : (level : ℕ) (o : Option ℕ) → AtLeast level o → smaller level o ≡ Some level
unfolding AtLeast
level_first level None h = refl
level_first level (Some n) h = ap Some (omega arith)

keep_level : (place : Place) (o : Option ℕ) (level : ℕ) → (place.grant < place.most → level ≤ place.grant) → o ≡ Some level
    → cond (nat_lt place.grant place.most) (smaller place.grant o) o ≡ Some level
keep_level place o level h is =
    elim (nat_lt place.grant place.most) as (λ (b : Bool). nat_lt place.grant place.most ≡ b → cond b (smaller place.grant o) o ≡ Some level) [
      | true ↦ λ e. let high = h ((Decides-ltb place.grant place.most).0 e) in ap (smaller place.grant) is ∙ ap Some (omega arith)
      | false ↦ λ e. is
    ] refl

take_level : (place : Place) (o : Option ℕ) (level : ℕ) → place.grant ≡ level → level < place.most → AtLeast level o
    → cond (nat_lt place.grant place.most) (smaller place.grant o) o ≡ Some level
take_level place o level is room h =
    let e : nat_lt place.grant place.most ≡ true = (Decides-ltb place.grant place.most).1 (omega arith) in
    ap (λ (b : Bool). cond b (smaller place.grant o) o) e ∙ ap (λ n. smaller n o) is ∙ level_first level o h

at_level : (level least most : ℕ) → least ≤ level → level < most → grant_at level least most ≡ level
at_level level least most h g = omega arith

-- while places rise, the smallest grant is the level
pub smallest_is : (level rest : ℕ) (wants : List Want) → rest < count_rising level wants → smallest (filled level rest wants) ≡ Some level
smallest_is level rest [] h = absurd (omega arith)
smallest_is level zero (want ∷ wants) h =
    by_rise (rises level want.0 want.1)
    (λ e. let r = rising level want e in
    take_level (standing level want) (smallest (filled level zero wants)) level (at_level level want.0 want.1 r.low r.room) r.room (smallest_from level zero wants))
    (λ e. let g : 0 < count_rising level wants = rw e at h in
    keep_level (standing level want) (smallest (filled level zero wants)) level (standing_high level want.0 want.1) (smallest_is level zero wants g))
smallest_is level (suc rest) (want ∷ wants) h =
    by_rise (rises level want.0 want.1)
    (λ e. let r = rising level want e in
    let g : suc rest < suc (count_rising level wants) = rw e at h in
    rw e (keep_level (with_one_more (standing level want)) (smallest (filled level rest wants)) level (λ room. rising_high level want.0 want.1 r.room)
    (smallest_is level rest wants (omega arith))))
    (λ e. let g : suc rest < count_rising level wants = rw e at h in
    rw e (keep_level (standing level want) (smallest (filled level (suc rest) wants)) level (standing_high level want.0 want.1) (smallest_is level (suc rest) wants g)))

-- a place that isn't the one
skipped : (level : ℕ) (place : Place) (places : List Place) → (place.grant ≡ level → place.grant < place.most → ⊥)
    → one_more_at level (place ∷ places) ≡ place ∷ one_more_at level places
skipped level place places h =
    let e : ((place.grant == level) && nat_lt place.grant place.most) ≡ false = grind (arith, nat_tests, h) in
    ap (λ (b : Bool). cond b (with_one_more place ∷ places) (place ∷ one_more_at level places)) e

taken : (level : ℕ) (place : Place) (places : List Place) → place.grant ≡ level → place.grant < place.most
    → one_more_at level (place ∷ places) ≡ with_one_more place ∷ places
taken level place places is room =
    let e : ((place.grant == level) && nat_lt place.grant place.most) ≡ true = grind (arith, nat_tests) in
    ap (λ (b : Bool). cond b (with_one_more place ∷ places) (place ∷ one_more_at level places)) e

at_rest : (level least most : ℕ) → (level < least) ⊎ (most ≤ level) → grant_at level least most ≡ level → grant_at level least most < most → ⊥
at_rest level least most (inl h) is room = omega arith
at_rest level least most (inr h) is room = omega arith

above : (level least most : ℕ) → least ≤ level → level < most → grant_at level least most + 1 ≡ level → ⊥
above level least most h g is = omega arith

-- a place that doesn't rise stays
pub stays : (level rest : ℕ) (want : Want) (wants : List Want) → rises level want.0 want.1 ≡ false
    → filled level rest (want ∷ wants) ≡ standing level want ∷ filled level rest wants
stays level zero want wants h = refl
stays level (suc rest) want wants h = rw h refl

goes_up : (level rest : ℕ) (want : Want) (wants : List Want) → rises level want.0 want.1 ≡ true
    → filled level (suc rest) (want ∷ wants) ≡ with_one_more (standing level want) ∷ filled level rest wants
goes_up level rest want wants h = rw h refl

pub one_above : (level rest : ℕ) (wants : List Want) → rest < count_rising level wants → one_more_at level (filled level rest wants) ≡ filled level (suc rest) wants
one_above level rest [] h = absurd (omega arith)
one_above level zero (want ∷ wants) h =
    by_rise (rises level want.0 want.1)
    (λ e. let r = rising level want e in
    rw e (taken level (standing level want) (filled level zero wants) (at_level level want.0 want.1 r.low r.room)
    (let i = at_level level want.0 want.1 r.low r.room in let o = r.room in omega arith)))
    (λ e. let g : 0 < count_rising level wants = rw e at h in
    skipped level (standing level want) (filled level zero wants) (at_rest level want.0 want.1 (resting level want e))
    ∙ ap (λ ps. standing level want ∷ ps) (one_above level zero wants g) ∙ sym (stays level 1 want wants e))
one_above level (suc rest) (want ∷ wants) h =
    by_rise (rises level want.0 want.1)
    (λ e. let r = rising level want e in
    let g : suc rest < suc (count_rising level wants) = rw e at h in
    rw e (skipped level (with_one_more (standing level want)) (filled level rest wants) (λ is room. above level want.0 want.1 r.low r.room is)
    ∙ ap (λ ps. with_one_more (standing level want) ∷ ps) (one_above level rest wants (omega arith))))
    (λ e. let g : suc rest < count_rising level wants = rw e at h in
    ap (one_more_at level) (stays level (suc rest) want wants e)
    ∙ skipped level (standing level want) (filled level (suc rest) wants) (at_rest level want.0 want.1 (resting level want e))
    ∙ ap (λ ps. standing level want ∷ ps) (one_above level (suc rest) wants g) ∙ sym (stays level (suc (suc rest)) want wants e))

-- so many steps from a level, as long as places rise
pub steps : (count level rest : ℕ) (wants : List Want) → count + rest ≤ count_rising level wants
    → more count (filled level rest wants) ≡ filled level (count + rest) wants
steps zero level rest wants h = ap (λ n. filled level n wants) (omega arith)
steps (suc count) level rest wants h =
    ap (more count) (ap (λ (o : Option ℕ). one_more_of o (filled level rest wants)) (smallest_is level rest wants (omega arith)) ∙ one_above level rest wants (omega arith))
    ∙ steps count level (suc rest) wants (omega arith) ∙ ap (λ n. filled level n wants) (omega arith)

next_level : (level least most : ℕ) → least ≤ level → level < most → grant_at level least most + 1 ≡ grant_at (suc level) least most
next_level level least most h g = omega arith

same_level : (level least most : ℕ) → (level < least) ⊎ (most ≤ level) → grant_at level least most ≡ grant_at (suc level) least most
same_level level least most (inl h) = omega arith
same_level level least most (inr h) = omega arith

-- where all that rise got one more, the next level is reached
pub level_full : (level : ℕ) (wants : List Want) → filled level (count_rising level wants) wants ≡ filled (suc level) zero wants
level_full level [] = refl
level_full level (want ∷ wants) =
    by_rise (rises level want.0 want.1)
    (λ e. let r = rising level want e in
    let at : count_rising level (want ∷ wants) ≡ suc (count_rising level wants) = rw e refl in
    ap (λ n. filled level n (want ∷ wants)) at ∙ goes_up level (count_rising level wants) want wants e
    ∙ ap (λ n. record { grant = n; most = want.1 } ∷ filled level (count_rising level wants) wants) (next_level level want.0 want.1 r.low r.room)
    ∙ ap (λ ps. standing (suc level) want ∷ ps) (level_full level wants))
    (λ e. let at : count_rising level (want ∷ wants) ≡ count_rising level wants = rw e refl in
    ap (λ n. filled level n (want ∷ wants)) at ∙ stays level (count_rising level wants) want wants e
    ∙ ap (λ n. record { grant = n; most = want.1 } ∷ filled level (count_rising level wants) wants) (same_level level want.0 want.1 (resting level want e))
    ∙ ap (λ ps. standing (suc level) want ∷ ps) (level_full level wants))

sum_more : (a b s t c d : ℕ) → a ≡ b + 1 → s ≡ t + c → d ≡ suc c → a + s ≡ (b + t) + d
sum_more a b s t c d h g i = omega arith

sum_same : (a b s t c d : ℕ) → a ≡ b → s ≡ t + c → d ≡ c → a + s ≡ (b + t) + d
sum_same a b s t c d h g i = omega arith

pub sum_next : (level : ℕ) (wants : List Want) → sum_at (suc level) wants ≡ sum_at level wants + count_rising level wants
sum_next level [] = refl
sum_next level (want ∷ wants) =
    let next = sum_next level wants in
    by_rise (rises level want.0 want.1)
    (λ e. let r = rising level want e in
    let n = next_level level want.0 want.1 r.low r.room in
    let at : count_rising level (want ∷ wants) ≡ suc (count_rising level wants) = rw e refl in
    sum_more (grant_at (suc level) want.0 want.1) (grant_at level want.0 want.1) (sum_at (suc level) wants) (sum_at level wants) (count_rising level wants) (count_rising level (want ∷ wants)) (sym n) next at)
    (λ e. let n = same_level level want.0 want.1 (resting level want e) in
    let at : count_rising level (want ∷ wants) ≡ count_rising level wants = rw e refl in
    sum_same (grant_at (suc level) want.0 want.1) (grant_at level want.0 want.1) (sum_at (suc level) wants) (sum_at level wants) (count_rising level wants) (count_rising level (want ∷ wants)) (sym n) next at)

more_apart : (n a b : ℕ) (places : List Place) → n ≡ a + b → more n places ≡ more b (more a places)
more_apart n zero b places h = let e : n ≡ b = omega arith in ap (λ k. more k places) e
more_apart n (suc a) b places h =
    let e : n ≡ suc (a + b) = omega arith in
    ap (λ k. more k places) e ∙ more_apart (a + b) a b (one_more places) refl

pub sum_grows : (level : ℕ) (wants : List Want) → sum_at 0 wants ≤ sum_at level wants
sum_grows zero wants = omega arith
sum_grows (suc level) wants = let h = sum_grows level wants in let e = sum_next level wants in omega arith

-- so many steps from the least to a level
to_level : (level n : ℕ) (wants : List Want) → n + sum_at 0 wants ≡ sum_at level wants → more n (filled 0 zero wants) ≡ filled level zero wants
to_level zero n wants h = let e : n ≡ 0 = omega arith in ap (λ k. more k (filled 0 zero wants)) e
to_level (suc level) n wants h =
    let grows = sum_grows level wants in
    let next = sum_next level wants in
    let m = sum_at level wants - sum_at 0 wants in
    let all : count_rising level wants + 0 ≡ count_rising level wants = omega arith in
    let parts : n ≡ (sum_at level wants - sum_at 0 wants) + count_rising level wants = omega arith in
    let back : (sum_at level wants - sum_at 0 wants) + sum_at 0 wants ≡ sum_at level wants = omega arith in
    more_apart n m (count_rising level wants) (filled 0 zero wants) parts
    ∙ ap (more (count_rising level wants)) (to_level level m wants back)
    ∙ steps (count_rising level wants) level 0 wants (omega arith)
    ∙ ap (λ k. filled level k wants) all ∙ level_full level wants

-- ---- places that have their most

closed : (level : ℕ) (want : Want) → want.1 ≤ level → rises level want.0 want.1 ≡ false
unfolding rises
closed level want h = grind (arith, nat_tests)

full : (a b : ℕ) → a ≡ b → nat_lt a b ≡ false
full a b h = grind (arith, nat_tests)

at_most : (level least most : ℕ) → least ≤ most → most ≤ level → grant_at level least most ≡ most
at_most level least most h g = omega arith

all_closed : (level rest : ℕ) (wants : List Want) → AllBelow level wants → filled level rest wants ≡ filled level zero wants
all_closed level rest [] h = refl
all_closed level rest (want ∷ wants) h = stays level rest want wants (closed level want h.0) ∙ ap (λ ps. standing level want ∷ ps) (all_closed level rest wants h.1)

none_open : (level : ℕ) (wants : List Want) → All IsWant wants → AllBelow level wants → smallest (filled level zero wants) ≡ None
none_open level [] all h = refl
none_open level (want ∷ wants) all h =
    let least = All-head IsWant want wants all in
    let is = at_most level want.0 want.1 least h.0 in
    let e : nat_lt (grant_at level want.0 want.1) want.1 ≡ false = full (grant_at level want.0 want.1) want.1 is in
    ap (λ (b : Bool). cond b (smaller (grant_at level want.0 want.1) (smallest (filled level zero wants))) (smallest (filled level zero wants))) e
    ∙ none_open level wants (All-tail IsWant want wants all) h.1

stays_full : (n level : ℕ) (wants : List Want) → All IsWant wants → AllBelow level wants → more n (filled level zero wants) ≡ filled level zero wants
stays_full zero level wants all h = refl
stays_full (suc n) level wants all h =
    ap (more n) (ap (λ (o : Option ℕ). one_more_of o (filled level zero wants)) (none_open level wants all h)) ∙ stays_full n level wants all h

-- ---- the whole

pub least_sum : (wants : List Want) → All IsWant wants → sum (least_of wants) ≡ sum_at 0 wants
least_sum [] all = refl
least_sum (want ∷ wants) all =
    let h : want.0 ≤ want.1 = All-head IsWant want wants all in
    let e : want.0 ≡ grant_at 0 want.0 want.1 = omega arith in
    let next = least_sum wants (All-tail IsWant want wants all) in
    let parts : sum (least_of (want ∷ wants)) ≡ want.0 + sum (least_of wants) = sum_by-cons (λ n. n) want.0 (least_of wants) in
    parts ∙ ap (λ n. n + sum (least_of wants)) e ∙ ap (λ n. grant_at 0 want.0 want.1 + n) next

first_filled : (wants : List Want) → All IsWant wants → first_places wants ≡ filled 0 zero wants
first_filled [] all = refl
first_filled (want ∷ wants) all =
    let h : want.0 ≤ want.1 = All-head IsWant want wants all in
    let e : want.0 ≡ grant_at 0 want.0 want.1 = omega arith in
    ap (λ n. record { grant = n; most = want.1 } ∷ first_places wants) e ∙ ap (λ ps. standing 0 want ∷ ps) (first_filled wants (All-tail IsWant want wants all))

last_steps : (level rest : ℕ) (wants : List Want) → All IsWant wants → (rest < count_rising level wants) ⊎ AllBelow level wants
    → more rest (filled level zero wants) ≡ filled level rest wants
last_steps level rest wants all (inl h) = let e : rest + 0 ≡ rest = omega arith in steps rest level 0 wants (omega arith) ∙ ap (λ k. filled level k wants) e
last_steps level rest wants all (inr h) = stays_full rest level wants all h ∙ sym (all_closed level rest wants h)

open_or_full : (total level : ℕ) (wants : List Want) → sum_at level wants ≤ total → (total < sum_at (suc level) wants) ⊎ AllBelow level wants
    → (total - sum_at level wants < count_rising level wants) ⊎ AllBelow level wants
open_or_full total level wants reached (inl h) = inl (let e = sum_next level wants in omega arith)
open_or_full total level wants reached (inr h) = inr h

pub division_is : (total level : ℕ) (wants : List Want) → All IsWant wants → sum_at level wants ≤ total
    → (total < sum_at (suc level) wants) ⊎ AllBelow level wants
    → division total wants ≡ map (λ place. place.grant) (filled level (total - sum_at level wants) wants)
unfolding division
division_is total level wants all reached top =
    let rest = total - sum_at level wants in
    let grows = sum_grows level wants in
    let least = least_sum wants all in
    let parts : total - sum_at 0 wants ≡ (sum_at level wants - sum_at 0 wants) + (total - sum_at level wants) = omega arith in
    let back : (sum_at level wants - sum_at 0 wants) + sum_at 0 wants ≡ sum_at level wants = omega arith in
    ap (map (λ place. place.grant))
    (ap (λ n. more (total - n) (first_places wants)) least
    ∙ ap (more (total - sum_at 0 wants)) (first_filled wants all)
    ∙ more_apart (total - sum_at 0 wants) (sum_at level wants - sum_at 0 wants) rest (filled 0 zero wants) parts
    ∙ ap (more rest) (to_level level (sum_at level wants - sum_at 0 wants) wants back)
    ∙ last_steps level rest wants all (open_or_full total level wants reached top))

-- ---- what the loops keep

pub drop_below : (n i : ℕ) (wants : List Want) (d : Want) → i < length wants → (get_or wants i d).1 ≤ n → AllBelow n (drop (i + 1) wants) → AllBelow n (drop i wants)
drop_below n i [] d h high all = absurd (omega arith)
drop_below n zero (w ∷ wants) d h high all = (high, all)
drop_below n (suc i) (w ∷ wants) d h high all =
    let next : suc i + 1 ≡ suc (i + 1) = omega arith in
    drop_below n i wants d (omega arith) high (subst (λ k. AllBelow n (drop k (w ∷ wants))) next all)

-- a place that rises gets no more than its most
pub risen_fits : (level least most bound : ℕ) → true ≡ rises level least most → most < bound → grant_at level least most + 1 < bound
unfolding rises
risen_fits level least most bound h fits =
    let r = rising level (least, most) (sym h) in
    let low = r.low in
    let high = r.room in
    omega arith
