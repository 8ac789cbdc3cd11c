-- The rule: the draws of all seats are the numbers below the word, each once.
use Rattle.std.specs.Prelude.{◌≡◌, ℕ, ◌+◌, ◌-◌, ◌^◌, ◌<◌, ◌≤◌, Bool, true, false, List, [], ◌∷◌, ◌++◌, length, sum_by, ◌||◌}
use mathlib.Core.Option.{some}
use lib.ListN.{get_elem?}
use Rattle.atomic_table.specs.Table.{State, Me, Step}
use Rattle.number_bags.specs.Bags.{times}
use Rattle.claim_counter.specs.Once.{IsOnce, over_if}
use Rattle.claim_counter.specs.declared.claim_rule.ClaimView.{ClaimView}
use Rattle.claim_counter.specs.declared.claim_rule.ClaimTerms.{ClaimTerms}

abbrev pub view : ℕ → ℕ → Bool → List ℕ → ClaimView
view count parts ended draws = record { count = count; parts = parts; ended = ended; draws = draws }

abbrev pub opened : ClaimTerms → ClaimView
opened k = view k.count k.parts false []

abbrev pub spent : ClaimView
spent = view 0 0 false []

-- the parts of a seat that is ended
abbrev pub over : ClaimView → ℕ
over v = over_if v.ended v.parts

-- a seat that isn't spent knows the count, and one that is has no draws
abbrev pub Fits : ℕ → ClaimView → Type 0
Fits count v = (0 < v.parts → v.count ≡ count) × (v.parts ≡ 0 → v.draws ≡ [])

pub record Counted (k : ClaimTerms) (s : State ℕ ClaimView) : Type 0 where
  pub next : ℕ
  pub word : s.words ≡ next ∷ []
  pub once : (x : ℕ) → IsOnce x next (sum_by (λ v. times v.draws x) s.views)
  pub steps : sum_by (λ v. length v.draws) s.views ≡ next
  pub parts : sum_by (λ v. v.parts) s.views ≤ k.parts
  pub bound : next ≤ k.count + sum_by over s.views
  pub seats : (j : ℕ) (v : ClaimView) → get_elem? s.views j ≡ some v → Fits k.count v
  pub small : k.count + k.parts < 2 ^ 64

-- a draw of the number n
abbrev pub drawn : ClaimView → ℕ → Bool → ClaimView
drawn v n ended = view v.count v.parts ended (v.draws ++ n ∷ [])

abbrev pub Drew : Step ℕ → Me ℕ ClaimView → ℕ → Me ℕ ClaimView → Type 0
Drew s v n w = (n < v.0.count → w ≡ (drawn v.0 n false, v.1)) × (v.0.count ≤ n → w ≡ (drawn v.0 n true, v.1))

abbrev pub fewer : ClaimView → ClaimView
fewer v = view v.count (v.parts - 1) v.ended v.draws

abbrev pub one_part : ClaimView → ClaimView
one_part v = view v.count 1 v.ended []

abbrev pub together : ClaimView → ClaimView → ClaimView
together v w = view v.count (v.parts + w.parts) (v.ended || w.ended) (v.draws ++ w.draws)
