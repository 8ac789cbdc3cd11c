-- Each grant is within what its place wants, and all are within the total.
use Rattle.std.proofs.Common.{◌≡◌, ℕ, zero, suc, ◌+◌, ◌-◌, ◌<◌, ◌≤◌, Bool, true, false, cond, ◌&&◌, nat_lt, List, [], ◌∷◌, map, refl, sym, ap, ◌∙◌, arith}
use Rattle.std.specs.Prelude.{◌==◌, All, Option, Some, None, ⊤, sum}
use Rattle.std.proofs.lemmas.Bool.Decides.{Decides-ltb, nat_tests}
use Rattle.std.proofs.lemmas.List.Sums.{sum_by-cons}
use Rattle.std.proofs.lemmas.List.Elements.{All-head, All-tail}
use Rattle.mem_division.specs.Division.{Place, Want, IsWant, with_one_more, one_more_at, one_more_of, smallest, one_more, more, least_of, first_places, division, AreWithin}

-- the place of a want, with a grant that it allows
pub record Holds (want : Want) (place : Place) : Type 0 where
  pub most : place.most ≡ want.1
  pub low : want.0 ≤ place.grant
  pub high : place.grant ≤ want.1

abbrev AllHold : List Want → List Place → Type 0
AllHold [] [] = ⊤
AllHold [] (place ∷ places) = ⊥
AllHold (want ∷ wants) [] = ⊥
AllHold (want ∷ wants) (place ∷ places) = Holds want place × AllHold wants places

open_place : (grant : ℕ) (place : Place) → ((place.grant == grant) && nat_lt place.grant place.most) ≡ true → place.grant < place.most
open_place grant place h = grind (arith, nat_tests)

one_holds : (grant : ℕ) (wants : List Want) (places : List Place) → AllHold wants places → AllHold wants (one_more_at grant places)
one_holds grant [] [] all = tt
one_holds grant [] (place ∷ places) all = absurd all
one_holds grant (want ∷ wants) [] all = absurd all
one_holds grant (want ∷ wants) (place ∷ places) all =
    elim ((place.grant == grant) && nat_lt place.grant place.most)
    as (λ (b : Bool). ((place.grant == grant) && nat_lt place.grant place.most) ≡ b
    → AllHold (want ∷ wants) (cond b (with_one_more place ∷ places) (place ∷ one_more_at grant places))) [
      | true ↦ λ h.
          let room = open_place grant place h in
          let most = all.0.most in
          let low = all.0.low in
          (record { most = most; low = omega arith; high = omega arith }, all.1)
      | false ↦ λ h. (all.0, one_holds grant wants places all.1)
    ] refl

step_holds : (o : Option ℕ) (wants : List Want) (places : List Place) → AllHold wants places → AllHold wants (one_more_of o places)
step_holds None wants places all = all
step_holds (Some grant) wants places all = one_holds grant wants places all

more_holds : (count : ℕ) (wants : List Want) (places : List Place) → AllHold wants places → AllHold wants (more count places)
more_holds zero wants places all = all
more_holds (suc count) wants places all = more_holds count wants (one_more places) (step_holds (smallest places) wants places all)

first_holds : (wants : List Want) → All IsWant wants → AllHold wants (first_places wants)
first_holds [] all = tt
first_holds (want ∷ wants) all =
    let h : want.0 ≤ want.1 = All-head IsWant want wants all in
    (record { most = refl; low = omega arith; high = h }, first_holds wants (All-tail IsWant want wants all))

within_of : (wants : List Want) (places : List Place) → AllHold wants places → AreWithin wants (map (λ place. place.grant) places)
within_of [] [] all = tt
within_of [] (place ∷ places) all = absurd all
within_of (want ∷ wants) [] all = absurd all
within_of (want ∷ wants) (place ∷ places) all = ((all.0.low, all.0.high), within_of wants places all.1)

pub division_within : (total : ℕ) (wants : List Want) → All IsWant wants → AreWithin wants (division total wants)
unfolding division
division_within total wants all =
    within_of wants (more (total - sum (least_of wants)) (first_places wants)) (more_holds (total - sum (least_of wants)) wants (first_places wants) (first_holds wants all))

abbrev granted : List Place → ℕ
granted places = sum (map (λ place. place.grant) places)

raised : (n m a b : ℕ) → n ≡ a + 1 + b → m ≡ a + b → n ≤ m + 1
raised n m a b h g = omega arith

carried : (n m a b c : ℕ) → n ≡ a + b → m ≡ a + c → b ≤ c + 1 → n ≤ m + 1
carried n m a b c h g i = omega arith

granted_cons : (place : Place) (places : List Place) → granted (place ∷ places) ≡ place.grant + granted places
granted_cons place places = sum_by-cons (λ n. n) place.grant (map (λ place. place.grant) places)

one_granted : (grant : ℕ) (places : List Place) → granted (one_more_at grant places) ≤ granted places + 1
one_granted grant [] = omega arith
one_granted grant (place ∷ places) =
    let whole = granted_cons place places in
    elim ((place.grant == grant) && nat_lt place.grant place.most)
    as (λ (b : Bool). granted (cond b (with_one_more place ∷ places) (place ∷ one_more_at grant places)) ≤ granted (place ∷ places) + 1) [
      | true ↦ raised (granted (with_one_more place ∷ places)) (granted (place ∷ places)) place.grant (granted places) (granted_cons (with_one_more place) places) whole
      | false ↦ carried (granted (place ∷ one_more_at grant places)) (granted (place ∷ places)) place.grant (granted (one_more_at grant places)) (granted places)
          (granted_cons place (one_more_at grant places)) whole (one_granted grant places)
    ]

step_granted : (o : Option ℕ) (places : List Place) → granted (one_more_of o places) ≤ granted places + 1
step_granted None places = omega arith
step_granted (Some grant) places = one_granted grant places

more_granted : (count : ℕ) (places : List Place) → granted (more count places) ≤ granted places + count
more_granted zero places = omega arith
more_granted (suc count) places =
    let one = step_granted (smallest places) places in
    let next = more_granted count (one_more places) in
    omega arith

first_granted : (wants : List Want) → granted (first_places wants) ≡ sum (least_of wants)
first_granted [] = refl
first_granted (want ∷ wants) =
    granted_cons (record { grant = want.0; most = want.1 }) (first_places wants) ∙ ap (λ n. want.0 + n) (first_granted wants)
    ∙ sym (sum_by-cons (λ n. n) want.0 (least_of wants))

pub division_fits : (total : ℕ) (wants : List Want) → All IsWant wants → sum (least_of wants) ≤ total → sum (division total wants) ≤ total
unfolding division
division_fits total wants all enough =
    let first = first_granted wants in
    let whole = more_granted (total - sum (least_of wants)) (first_places wants) in
    omega arith
