-- The rule: the draws of all seats are the numbers below the word, each once. A slot from the word on is at home with its item; one below it is out with a seat, or at home and empty.
use Rattle.std.specs.Prelude.{◌≡◌, ℕ, ◌+◌, ◌-◌, ◌^◌, ◌<◌, ◌≤◌, Bool, true, false, List, [], ◌∷◌, ◌++◌, length, sum_by, ◌||◌, Option, Some, None}
use mathlib.Core.Option.{some}
use lib.ListN.{get_elem?}
use Rattle.atomic_table.specs.Table.{State, Me, Step, rest}
use Rattle.number_bags.specs.Bags.{times}
use Rattle.claim_counter.specs.Once.{IsOnce, over_if}
use Rattle.claim_counter.specs.declared.hand_rule.HandView.{HandView}
use Rattle.claim_counter.specs.declared.hand_rule.HandTerms.{HandTerms}

abbrev pub tail : List ℕ → List ℕ
tail [] = []
tail (n ∷ ns) = ns

module _ {H : Type 0} where
  abbrev pub view : ℕ → ℕ → Bool → List ℕ → List ℕ → List H → HandView H
  view count parts ended draws out items = record { count = count; parts = parts; ended = ended; draws = draws; out = out; items = items }

  abbrev pub opened : HandTerms H → HandView H
  opened k = view k.count k.parts false [] [] k.items.value.items

  abbrev pub spent : HandView H
  spent = view 0 0 false [] [] []

  abbrev pub over : HandView H → ℕ
  over v = over_if v.ended v.parts

  -- how many seats hold the slot
  abbrev pub outs : ℕ → List (HandView H) → ℕ
  outs j vs = sum_by (λ v. times v.out j) vs

  -- a seat that isn't spent knows the count and the items, and one that is has no draws and no slot
  abbrev pub Fits : ℕ → List H → HandView H → Type 0
  Fits count items v = (0 < v.parts → (v.count ≡ count) × (v.items ≡ items)) × (v.parts ≡ 0 → (v.draws ≡ []) × (v.out ≡ []))

  pub record Dealt (k : HandTerms H) (s : State (Option H) (HandView H)) : Type 0 where
    pub next : ℕ
    pub word : s.words ≡ next ∷ []
    pub once : (x : ℕ) → IsOnce x next (sum_by (λ v. times v.draws x) s.views)
    pub steps : sum_by (λ v. length v.draws) s.views ≡ next
    pub parts : sum_by (λ v. v.parts) s.views ≤ k.parts
    pub bound : next ≤ k.count + sum_by over s.views
    pub seats : (j : ℕ) (v : HandView H) → get_elem? s.views j ≡ some v → Fits k.count k.items.value.items v
    pub small : k.count + k.parts < 2 ^ 64
    pub long : length k.items.value.items ≡ k.count
    pub homes : length s.homes ≡ k.count
    pub full : (j : ℕ) (x : H) → next ≤ j → get_elem? k.items.value.items j ≡ some x → get_elem? s.homes j ≡ some (some (Some x))
    pub empty : (j : ℕ) → j < next → j < k.count → outs j s.views ≡ 0 → get_elem? s.homes j ≡ some (some None)

  -- a draw of the number n, and the slot of that number is taken
  abbrev pub taken : HandView H → ℕ → HandView H
  taken v n = view v.count v.parts false (v.draws ++ n ∷ []) (n ∷ v.out) v.items

  -- a draw of a number that isn't below the count
  abbrev pub past : HandView H → ℕ → HandView H
  past v n = view v.count v.parts true (v.draws ++ n ∷ []) v.out v.items

  abbrev pub back : HandView H → HandView H
  back v = view v.count v.parts v.ended v.draws (tail v.out) v.items

  abbrev pub DrewItem : Step (Option H) → Me (Option H) (HandView H) → ℕ → Me (Option H) (HandView H) → Type 0
  DrewItem s v n w = (n < v.0.count → (x : H) × (get_elem? v.0.items n ≡ some x) × (w ≡ (taken v.0 n, (n, Some x) ∷ v.1))) × (v.0.count ≤ n → w ≡ (past v.0 n, v.1))

  abbrev pub GaveBack : Step (Option H) → Me (Option H) (HandView H) → ℕ → Me (Option H) (HandView H) → Type 0
  GaveBack s v n w = w ≡ (back v.0, rest v.1)

  abbrev pub fewer : HandView H → HandView H
  fewer v = view v.count (v.parts - 1) v.ended v.draws v.out v.items

  abbrev pub one_part : HandView H → HandView H
  one_part v = view v.count 1 v.ended [] [] v.items

  abbrev pub together : HandView H → HandView H → HandView H
  together v w = view v.count (v.parts + w.parts) (v.ended || w.ended) (v.draws ++ w.draws) (v.out ++ w.out) v.items
