-- The rule: word 0 counts the moves of the hand. Word i + 1 is 1 where turn i is out with a seat, and else 0, and then slot i has the turn.
use Rattle.std.specs.Prelude.{◌≡◌, ◌≢◌, ℕ, ◌+◌, ◌%◌, ◌^◌, ◌<◌, ◌≤◌, List, [], ◌∷◌, ◌++◌, length, sum_by, Option, Some, slice_index}
use mathlib.Core.Option.{some}
use lib.ListN.{get_elem?}
use Rattle.atomic_table.specs.Table.{State, Me, Step, rest}
use Rattle.number_bags.specs.Bags.{times, without}
use Rattle.evict_ring.specs.declared.rule.View.{View}
use Rattle.evict_ring.specs.declared.turn.Turn.{Turn}
use Rattle.evict_ring.specs.Home.{IsHome}

abbrev pub view : List ℕ → List ℕ → List ℕ → List ℕ → View
view about held refused starts = record { about = about; held = held; refused = refused; starts = starts }

abbrev pub nobody : List ℕ → View
nobody about = view about [] [] []

-- a seat with what another, which holds no turn, saw
abbrev pub both : View → View → View
both v w = view v.about v.held (v.refused ++ w.refused) (v.starts ++ w.starts)

-- how many seats have turn i
abbrev pub outs : ℕ → List View → ℕ
outs i views = sum_by (λ v. times v.held i) views

-- how often the hand was moved on
abbrev pub moves : List View → ℕ
moves views = sum_by (λ v. length v.starts) views

-- a seat's view and slots
abbrev pub Sat : Type 0 → Type 0
Sat H = Me (Option (Turn H)) View

module _ {H : Type 0} where
  abbrev pub HasTurn : (Turn H → Type 0) → List (mathlib.Core.Option.Option (Option (Turn H))) → ℕ → Type 0
  HasTurn holds homes i = (t : Turn H) × (get_elem? homes i ≡ some (some (Some t))) × IsHome holds i t

  pub record HasTurns (holds : Turn H → Type 0) (turns : ℕ) (s : State (Option (Turn H)) View) : Type 0 where
    pub long : length s.words ≡ turns + 1
    pub hand : slice_index s.words 0 ≡ moves s.views % 2 ^ 64
    pub bits : (i : ℕ) → i < turns → slice_index s.words (i + 1) ≡ outs i s.views
    pub once : (i : ℕ) → i < turns → outs i s.views ≤ 1
    pub full : (i : ℕ) → i < turns → outs i s.views ≡ 0 → HasTurn holds s.homes i

  -- the hand was found there
  abbrev pub Started : Step (Option (Turn H)) → Sat H → ℕ → Sat H → Type 0
  Started st m hand n = n ≡ (view m.0.about m.0.held m.0.refused (m.0.starts ++ hand ∷ []), m.1)

  -- where the word was 0 the turn is taken, and else it was out
  abbrev pub Took : (List ℕ → Turn H → Type 0) → Step (Option (Turn H)) → Sat H → ℕ → Sat H → Type 0
  Took holds st m r n =
      (r ≡ 0 → (i : ℕ) × (t : Turn H) × (i + 1 ≡ st.word) × IsHome (holds m.0.about) i t × (times m.0.held i ≡ 0) × (n ≡ (view m.0.about (i ∷ m.0.held) m.0.refused m.0.starts, (i, Some t) ∷ m.1)))
      × (r ≢ 0 → (i : ℕ) × (i + 1 ≡ st.word) × (n ≡ (view m.0.about m.0.held (m.0.refused ++ i ∷ []) m.0.starts, m.1)))

  abbrev pub Gave : Step (Option (Turn H)) → Sat H → ℕ → Sat H → Type 0
  Gave st m r n = (i : ℕ) × (i + 1 ≡ st.word) × (n ≡ (view m.0.about (without i m.0.held) m.0.refused m.0.starts, rest m.1))
