-- The part of a row, among those that a view keeps.
use Rattle.std.proofs.Common.{◌≡◌, ◌≢◌, ℕ, ◌+◌, ◌<◌, ◌≤◌, List, [], get_or, sym, ap, subst, inl, inr, ◌∙◌, arith}
use Rattle.std.proofs.lemmas.Bool.{cases_lt}
use Rattle.row_image.specs.Image.{part_count, part_at}
use Rattle.row_image.proofs.AcceptedLemmas.{sound_of}
use Rattle.row_image.proofs.WrittenAccepted.{parts_most}
use Rattle.rebase_pins.specs.Rows.{part_number}
use Rattle.rebase_pins.specs.Parts.{IsPartSight, IsKnownPart}
use Rattle.rebase_pins.specs.Images.{Seen}
use Rattle.rebase_pins.specs.Sight.{seen_in, IsSight}
use Rattle.rebase_pins.specs.declared.view.RowView.TheInside.{Inside}
use Rattle.rebase_pins.proofs.Numbers.{before_number, behind_number}

-- which part it is, by the ends that are kept
pub record Chosen (v : Inside) (row : ℕ) : Type 0 where
  pub at0 : row < v.part0.end → part_number v.image.now row ≡ 0
  pub at1 : v.part0.end ≤ row → row < v.part1.end → part_number v.image.now row ≡ 1
  pub at2 : v.part0.end ≤ row → v.part1.end ≤ row → row < v.part2.end → part_number v.image.now row ≡ 2
  pub at3 : v.part0.end ≤ row → v.part1.end ≤ row → v.part2.end ≤ row → part_number v.image.now row ≡ 3

module _ (image : List ℕ) (row : ℕ) (few : part_count image ≤ 4) (known : IsKnownPart image row) where
  -- a part that ends before the row isn't its part
  pub not_here : (k end base : ℕ) → IsPartSight image k end base → end ≤ row → part_number image row ≢ k
  not_here k end base sight past e =
      let behind = behind_number image row few known in
      let is = sight.end_is (omega (arith, e, known)) in
      let same = ap (λ n. (part_at image n).first + (part_at image n).rows) e in
      omega (arith, behind, is, same, past)

  -- and no part behind one that ends behind the row
  pub not_behind : (k end base : ℕ) → IsPartSight image k end base → row < end → part_number image row ≤ k
  not_behind k end base sight here = elim (cases_lt k (part_number image row)) [
    | inr low ↦ low
    | inl high ↦
        let before = before_number image row known k high in
        let is = sight.end_is (omega (arith, high, known)) in
        absurd (omega (arith, before, is, here))
  ]

-- the part of a row, by the first that ends behind it
pub number_in : (v : Inside) (row : ℕ) → IsSight v → IsKnownPart v.image.now row → Chosen v row
number_in v row good known =
    let few = parts_most v.layout.now v.image.now (sound_of v.layout.now v.image.now good.accepted).parts in
    let not0 = not_here v.image.now row few known 0 v.part0.end v.part0.base good.part0 in
    let not1 = not_here v.image.now row few known 1 v.part1.end v.part1.base good.part1 in
    let not2 = not_here v.image.now row few known 2 v.part2.end v.part2.base good.part2 in
    let most0 = not_behind v.image.now row few known 0 v.part0.end v.part0.base good.part0 in
    let most1 = not_behind v.image.now row few known 1 v.part1.end v.part1.base good.part1 in
    let most2 = not_behind v.image.now row few known 2 v.part2.end v.part2.base good.part2 in
    record {
      at0 = λ here. let m = most0 here in omega (arith, m);
      at1 = λ past here. let n = not0 past in let m = most1 here in omega (arith, n, m);
      at2 = λ past past1 here. let n = not0 past in let o = not1 past1 in let m = most2 here in omega (arith, n, o, m);
      at3 = λ past past1 past2. let n = not0 past in let o = not1 past1 in let p = not2 past2 in omega (arith, n, o, p, few, known);
    }

-- what is kept of that part
pub kept_part : (v : Inside) (s : Seen) (row k base : ℕ) (heap : List ℕ) → seen_in v ≡ s → (IsKnownPart v.image.now row → part_number v.image.now row ≡ k) → heap ≡ get_or (seen_in v).heaps k [] → IsKnownPart s.image row → heap ≡ get_or s.heaps (part_number s.image row) []
kept_part v s row k base heap is number at known =
    let n = number (subst (λ (z : Seen). IsKnownPart z.image row) (sym is) known) in
    at ∙ ap (λ j. get_or (seen_in v).heaps j []) (sym n) ∙ ap (λ (z : Seen). get_or z.heaps (part_number z.image row) []) is

pub kept_base : (v : Inside) (s : Seen) (row k end base : ℕ) → seen_in v ≡ s → (IsKnownPart v.image.now row → part_number v.image.now row ≡ k) → IsPartSight v.image.now k end base → IsKnownPart s.image row → base ≡ (part_at s.image (part_number s.image row)).base
kept_base v s row k end base is number sight known =
    let here = subst (λ (z : Seen). IsKnownPart z.image row) (sym is) known in
    let n = number here in
    sight.base_is (omega (arith, n, here)) ∙ ap (λ j. (part_at v.image.now j).base) (sym n) ∙ ap (λ (z : Seen). (part_at z.image (part_number z.image row)).base) is
