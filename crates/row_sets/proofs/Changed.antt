-- Changes one after the other, beside others, and by single calls of a pool.
use Rattle.std.proofs.Common.{◌≡◌, ◌≢◌, ℕ, ◌+◌, ◌≤◌, List, [], ◌∷◌, refl, ap, sym, ◌∙◌, arith, ◌⊎◌, inl, inr}
use Rattle.std.specs.Prelude.{IsTrue}
use Rattle.std.proofs.Math.Decide.{dec_le}
use mathlib.Core.Logic.{dite}
use Rattle.page_body.specs.View.{PoolTerms, PoolView}
use Rattle.number_bags.specs.Bags.{one_of}
use Rattle.page_body.specs.Keeps.{Steady, SameHeld, OnePin, OneOpen, LiveOn, OthersLiveOn, ValidOn, PinnedOn, Kept}
use Rattle.page_body.specs.Shows.{IsNew}
use Rattle.number_bags.proofs.Bags.{one_same, one_other}
use Rattle.page_body.specs.PageLists.{ids_of, Differ, AllLive}
use Rattle.row_sets.specs.Holds.{Holding, nothing, both, a_page, a_pin, an_open, SameHolding, IsOwned, Unpinned}
use Rattle.page_body.proofs.Kept.{counted_same, counted_then}
use Rattle.row_sets.specs.Changes.{Changes}

pub same_or : (x y : ℕ) → (x ≡ y) ⊎ (x ≢ y)
same_or x y =
    dite (dec_le x y)
    (λ low. dite (dec_le y x) (λ high. inl (omega (arith, low, high))) (λ n. inr (λ e. n (omega (arith, e)))))
    (λ n. inr (λ e. n (omega (arith, e))))

module _ {Page Pin : Type 0} (t : PoolTerms Page Pin) where
  pub changes_none : (h : Holding) (a : PoolView Page Pin) → Changes t h h a a
  changes_none h a = record {
    pins = λ y. refl;
    opens = λ y. refl;
    held = refl;
    grant = refl;
    page_bytes = refl;
    lane = refl;
    counted = counted_same a.writes a.wrote;
    faults = omega arith;
    lives = λ p live _. live;
    new = λ ends p live none. none;
    valid = λ q valid _. valid;
  }

  pub changes_then : (h k l : Holding) (a b c : PoolView Page Pin) → Changes t h k a b → Changes t k l b c → Changes t h l a c
  changes_then h k l a b c first second = record {
    pins = λ y. let x = first.pins y in let z = second.pins y in omega (arith, x, z);
    opens = λ y. let x = first.opens y in let z = second.opens y in omega (arith, x, z);
    held = let x = first.held in let z = second.held in omega (arith, x, z);
    grant = second.grant ∙ first.grant;
    page_bytes = second.page_bytes ∙ first.page_bytes;
    lane = second.lane ∙ first.lane;
    counted = counted_then a.writes b.writes c.writes a.wrote b.wrote c.wrote first.counted second.counted;
    faults = let x = first.faults in let z = second.faults in omega (arith, x, z);
    lives = λ p live none. second.lives p (first.lives p live none) (λ ends. first.new ends p live (none ends));
    new = λ ends p live none. second.new ends p (first.lives p live (λ _. none)) (first.new ends p live none);
    valid = λ q valid more. let x = first.pins (t.id (t.under q)) in second.valid q (first.valid q valid more) (omega (arith, x, more));
  }

  -- other values stay as they are
  pub changes_beside : (h k r : Holding) (a b : PoolView Page Pin) → Changes t h k a b → Changes t (both h r) (both k r) a b
  changes_beside h k r a b c = record {
    pins = λ y. let x = c.pins y in omega (arith, x);
    opens = λ y. let x = c.opens y in omega (arith, x);
    held = let x = c.held in omega (arith, x);
    grant = c.grant;
    page_bytes = c.page_bytes;
    lane = c.lane;
    counted = c.counted;
    faults = c.faults;
    lives = λ p live none. c.lives p live (λ ends. let x = none ends in omega (arith, x));
    new = λ ends p live none. let x = c.new ends p live (omega (arith, none)) in omega (arith, x, none);
    valid = λ q valid more. c.valid q valid (omega (arith, more));
  }

  -- the same numbers, written otherwise
  pub changes_as : (h h' k k' : Holding) (a b : PoolView Page Pin) → SameHolding h h' → SameHolding k k' → Changes t h k a b → Changes t h' k' a b
  changes_as h h' k k' a b s r c = record {
    pins = λ y. let x = c.pins y in let u = s.pins y in let v = r.pins y in omega (arith, x, u, v);
    opens = λ y. let x = c.opens y in let u = s.opens y in let v = r.opens y in omega (arith, x, u, v);
    held = let x = c.held in let u = s.held in let v = r.held in omega (arith, x, u, v);
    grant = c.grant;
    page_bytes = c.page_bytes;
    lane = c.lane;
    counted = c.counted;
    faults = c.faults;
    lives = λ p live none. c.lives p live (λ ends. s.pages (t.id p) ∙ none ends);
    new = λ ends p live none. sym (r.pages (t.id p)) ∙ c.new ends p live (s.pages (t.id p) ∙ none);
    valid = λ q valid more. let u = s.pins (t.id (t.under q)) in c.valid q valid (omega (arith, u, more));
  }

  -- of a call that keeps all
  pub changes_kept : (h : Holding) (a b : PoolView Page Pin) → Kept a b → Changes t h h a b
  changes_kept h a b c = record {
    pins = λ y. let x = c.pins y in omega (arith, x);
    opens = λ y. let x = c.opens y in omega (arith, x);
    held = let x = c.held in omega (arith, x);
    grant = c.grant;
    page_bytes = c.page_bytes;
    lane = c.lane;
    counted = c.counted;
    faults = c.faults;
    lives = λ p live _. c.lives p live;
    new = λ ends p live none. none;
    valid = λ q valid _. c.valid q valid;
  }

  -- a page opened, discarded, sealed; a pin taken and given back; a page retired
  pub changes_open : (x : ℕ) (a b : PoolView Page Pin) → OneOpen x a b → Steady a b → LiveOn a b → ValidOn a b → Changes t nothing (an_open x) a b
  changes_open x a b one steady lives valid = record {
    pins = λ y. let e = one.pins y in omega (arith, e);
    opens = λ y. let e = one.opens y in omega (arith, e);
    held = let e = one.held in omega (arith, e);
    grant = steady.grant;
    page_bytes = steady.page_bytes;
    lane = steady.lane;
    counted = steady.counted;
    faults = steady.faults;
    lives = λ p live _. lives p live;
    new = λ ends p live none. refl;
    valid = λ q pin _. valid q pin;
  }

  pub changes_discard : (x : ℕ) (a b : PoolView Page Pin) → OneOpen x b a → Steady a b → LiveOn a b → ValidOn a b → Changes t (an_open x) nothing a b
  changes_discard x a b one steady lives valid = record {
    pins = λ y. let e = one.pins y in omega (arith, e);
    opens = λ y. let e = one.opens y in omega (arith, e);
    held = let e = one.held in omega (arith, e);
    grant = steady.grant;
    page_bytes = steady.page_bytes;
    lane = steady.lane;
    counted = steady.counted;
    faults = steady.faults;
    lives = λ p live _. lives p live;
    new = λ ends p live none. refl;
    valid = λ q pin _. valid q pin;
  }

  pub changes_seal : (x : ℕ) (page : Page) (a b : PoolView Page Pin) → OneOpen x b a → IsNew t a b page → Steady a b → LiveOn a b → ValidOn a b → Changes t (an_open x) (a_page (t.id page)) a b
  changes_seal x page a b one new steady lives valid = record {
    pins = λ y. let e = one.pins y in omega (arith, e);
    opens = λ y. let e = one.opens y in omega (arith, e);
    held = let e = one.held in omega (arith, e);
    grant = steady.grant;
    page_bytes = steady.page_bytes;
    lane = steady.lane;
    counted = steady.counted;
    faults = steady.faults;
    lives = λ p live _. lives p live;
    new = λ ends p live none. one_other (t.id page) (t.id p) (new.differs ends p live);
    valid = λ q pin _. valid q pin;
  }

  pub changes_same : (h : Holding) (a b : PoolView Page Pin) → SameHeld a b → Steady a b → LiveOn a b → ValidOn a b → Changes t h h a b
  changes_same h a b one steady lives valid = record {
    pins = λ y. let e = one.pins y in omega (arith, e);
    opens = λ y. let e = one.opens y in omega (arith, e);
    held = let e = one.held in omega (arith, e);
    grant = steady.grant;
    page_bytes = steady.page_bytes;
    lane = steady.lane;
    counted = steady.counted;
    faults = steady.faults;
    lives = λ p live _. lives p live;
    new = λ ends p live none. none;
    valid = λ q pin _. valid q pin;
  }

  pub changes_pin : (x : ℕ) (a b : PoolView Page Pin) → OnePin x a b → Steady a b → LiveOn a b → ValidOn a b → Changes t nothing (a_pin x) a b
  changes_pin x a b one steady lives valid = record {
    pins = λ y. let e = one.pins y in omega (arith, e);
    opens = λ y. let e = one.opens y in omega (arith, e);
    held = let e = one.held in omega (arith, e);
    grant = steady.grant;
    page_bytes = steady.page_bytes;
    lane = steady.lane;
    counted = steady.counted;
    faults = steady.faults;
    lives = λ p live _. lives p live;
    new = λ ends p live none. refl;
    valid = λ q pin _. valid q pin;
  }

  pub changes_unpin : (x : ℕ) (a b : PoolView Page Pin) → OnePin x b a → Steady a b → LiveOn a b → PinnedOn t a b → Changes t (a_pin x) nothing a b
  changes_unpin x a b one steady lives valid = record {
    pins = λ y. let e = one.pins y in omega (arith, e);
    opens = λ y. let e = one.opens y in omega (arith, e);
    held = let e = one.held in omega (arith, e);
    grant = steady.grant;
    page_bytes = steady.page_bytes;
    lane = steady.lane;
    counted = steady.counted;
    faults = steady.faults;
    lives = λ p live _. lives p live;
    new = λ ends p live none. refl;
    valid = λ q pin more. let e = one.pins (t.id (t.under q)) in valid q pin (omega (arith, e, more));
  }

  pub changes_retire : (page : Page) (a b : PoolView Page Pin) → SameHeld a b → Steady a b → OthersLiveOn t page a b → ValidOn a b → Changes t (a_page (t.id page)) nothing a b
  changes_retire page a b one steady lives valid = record {
    pins = λ y. let e = one.pins y in omega (arith, e);
    opens = λ y. let e = one.opens y in omega (arith, e);
    held = let e = one.held in omega (arith, e);
    grant = steady.grant;
    page_bytes = steady.page_bytes;
    lane = steady.lane;
    counted = steady.counted;
    faults = steady.faults;
    lives = λ p live none. lives p live (λ ends same. let one_there = one_same (t.id page) in let e : one_of (t.id page) (t.id p) ≡ one_of (t.id page) (t.id page) = ap (one_of (t.id page)) same in let zero = none ends in absurd (omega (arith, one_there, e, zero)));
    new = λ ends p live none. refl;
    valid = λ q pin _. valid q pin;
  }

  -- pages that are not among those taken live on, and are not among those given
  pub live_on : (ps : List Page) (h k : Holding) (a b : PoolView Page Pin) → Changes t h k a b → AllLive a ps → Differ t (λ y. ids_of t ps y + h.pages y) → AllLive b ps
  live_on [] h k a b c live differ = tt
  live_on (p ∷ ps) h k a b c live differ = (
    c.lives p live.0 (λ ends. let one = one_same (t.id p) in let most = differ ends (t.id p) in omega (arith, one, most)),
    live_on ps h k a b c live.1 (λ ends y. let most = differ ends y in omega (arith, most)),
  )

  pub none_given : (ps : List Page) (h k : Holding) (a b : PoolView Page Pin) → Changes t h k a b → IsTrue t.ends_lives → AllLive a ps → (y : ℕ) → ids_of t ps y + h.pages y ≤ 1 → 1 ≤ ids_of t ps y → k.pages y ≡ 0
  none_given [] h k a b c ends live y most some = absurd (omega (arith, some))
  none_given (p ∷ ps) h k a b c ends live y most some = elim (same_or (t.id p) y) [
    | inl same ↦ let one = one_same (t.id p) in let e : one_of (t.id p) y ≡ one_of (t.id p) (t.id p) = ap (one_of (t.id p)) (sym same) in
        let z : h.pages y ≡ 0 = omega (arith, one, e, most) in
        ap k.pages (sym same) ∙ c.new ends p live.0 (ap h.pages same ∙ z)
    | inr other ↦ let none = one_other (t.id p) y (λ e. other (sym e)) in none_given ps h k a b c ends live.1 y (omega (arith, most)) (omega (arith, some, none))
  ]

  pub differ_on : (ps : List Page) (h k : Holding) (a b : PoolView Page Pin) → Changes t h k a b → AllLive a ps → Differ t (λ y. ids_of t ps y + h.pages y) → Differ t k.pages → Differ t (λ y. ids_of t ps y + k.pages y)
  differ_on ps h k a b c live differ given = λ ends y. dite (dec_le 1 (ids_of t ps y))
      (λ some. let most = differ ends y in let none = none_given ps h k a b c ends live y most some in omega (arith, most, none))
      (λ none. let most = given ends y in omega (arith, none, most))

  pub owned_on : (h took gave : Holding) (a b : PoolView Page Pin) → Changes t took gave a b → IsOwned a (both h took) → IsOwned b (both h gave)
  owned_on h took gave a b c own = record {
    pins = λ y. let x = c.pins y in let z = own.pins y in omega (arith, x, z);
    opens = λ y. let x = c.opens y in let z = own.opens y in omega (arith, x, z);
  }

  pub owned_part : (h k : Holding) (a : PoolView Page Pin) → IsOwned a (both h k) → IsOwned a k
  owned_part h k a own = record {
    pins = λ y. let z = own.pins y in omega (arith, z);
    opens = λ y. let z = own.opens y in omega (arith, z);
  }

  -- where a call takes no pins and gives none, pages stay without pins
  pub unpinned_on : (bag : ℕ → ℕ) (took gave : Holding) (a b : PoolView Page Pin) → Changes t took gave a b → ((y : ℕ) → took.pins y ≡ 0) → ((y : ℕ) → gave.pins y ≡ 0) → Unpinned t a bag → Unpinned t b bag
  unpinned_on bag took gave a b c none_taken none_given unpinned = λ ends y some. let x = c.pins y in let u = none_taken y in let v = none_given y in let z = unpinned ends y some in omega (arith, x, u, v, z)
