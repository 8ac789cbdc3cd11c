-- Pins that are taken, one after the other, and given back.
use Rattle.std.proofs.Common.{◌≡◌, ℕ, ◌+◌, ◌<◌, ◌≤◌, List, [], ◌∷◌, ◌++◌, length, length-append, refl, ◌∙◌, arith}
use Rattle.number_bags.specs.Bags.{one_of, times}
use Rattle.number_bags.proofs.Bags.{times_both}
use Rattle.page_body.specs.View.{PoolTerms, PoolView}
use Rattle.page_body.specs.Keeps.{Steady, LiveOn, ValidOn, PinnedOn, Kept, OnePin, Takes, Gives, Reserves}
use Rattle.page_body.proofs.Kept.{counted_then}

module _ {Page Pin : Type 0} where
  pub steady_then : (a b c : PoolView Page Pin) → Steady a b → Steady b c → Steady a c
  steady_then a b c first second = record {
    grant = second.grant ∙ first.grant;
    page_bytes = second.page_bytes ∙ first.page_bytes;
    lane = second.lane ∙ first.lane;
    counted = counted_then a.writes b.writes c.writes a.wrote b.wrote c.wrote first.counted second.counted;
    faults = let x = first.faults in let y = second.faults in omega (arith, x, y);
  }

  -- one pin more, and one given back
  pub takes_one : (x : ℕ) (a b : PoolView Page Pin) → OnePin x a b → Steady a b → LiveOn a b → ValidOn a b → Takes (x ∷ []) a b
  takes_one x a b one steady lives valid = record {
    pins = λ y. let p = one.pins y in omega (arith, p);
    opens = one.opens;
    held = one.held;
    steady = steady;
    lives = lives;
    valid = valid;
  }

  pub gives_one : (t : PoolTerms Page Pin) (x : ℕ) (a b : PoolView Page Pin) → OnePin x b a → Steady a b → LiveOn a b → PinnedOn t a b → Gives t (x ∷ []) a b
  gives_one t x a b one steady lives valid = record {
    pins = λ y. let p = one.pins y in omega (arith, p);
    opens = λ y. let o = one.opens y in omega (arith, o);
    held = one.held;
    steady = steady;
    lives = lives;
    valid = valid;
  }

  pub takes_then : (xs ys : List ℕ) (a b c : PoolView Page Pin) → Takes xs a b → Takes ys b c → Takes (xs ++ ys) a c
  takes_then xs ys a b c first second = record {
    pins = λ y. let p = first.pins y in let q = second.pins y in omega (arith, p, q, times_both xs ys y);
    opens = λ y. second.opens y ∙ first.opens y;
    held = let p = first.held in let q = second.held in omega (arith, p, q, length-append xs ys);
    steady = steady_then a b c first.steady second.steady;
    lives = λ p live. second.lives p (first.lives p live);
    valid = λ q valid. second.valid q (first.valid q valid);
  }

  pub gives_then : (t : PoolTerms Page Pin) (xs ys : List ℕ) (a b c : PoolView Page Pin) → Gives t xs a b → Gives t ys b c → Gives t (xs ++ ys) a c
  gives_then t xs ys a b c first second = record {
    pins = λ y. let p = first.pins y in let q = second.pins y in omega (arith, p, q, times_both xs ys y);
    opens = λ y. second.opens y ∙ first.opens y;
    held = let p = first.held in let q = second.held in omega (arith, p, q, length-append xs ys);
    steady = steady_then a b c first.steady second.steady;
    lives = λ p live. second.lives p (first.lives p live);
    valid = λ q valid some. second.valid q (first.valid q valid (let p = second.pins (t.id (t.under q)) in omega (arith, p, some))) some;
  }

  -- what was taken and is given back
  pub round_trip : (t : PoolTerms Page Pin) (xs : List ℕ) (a b c : PoolView Page Pin) → ((q : Pin) → a.valid q → 0 < a.pins (t.id (t.under q))) → Takes xs a b → Gives t xs b c → Kept a c
  round_trip t xs a b c pinned first second = record {
    pins = λ y. let p = first.pins y in let q = second.pins y in omega (arith, p, q);
    opens = λ y. second.opens y ∙ first.opens y;
    held = let p = first.held in let q = second.held in omega (arith, p, q);
    grant = second.steady.grant ∙ first.steady.grant;
    page_bytes = second.steady.page_bytes ∙ first.steady.page_bytes;
    lane = second.steady.lane ∙ first.steady.lane;
    counted = counted_then a.writes b.writes c.writes a.wrote b.wrote c.wrote first.steady.counted second.steady.counted;
    faults = let x = first.steady.faults in let y = second.steady.faults in omega (arith, x, y);
    lives = λ p live. second.lives p (first.lives p live);
    valid = λ q valid. second.valid q (first.valid q valid) (let some = pinned q valid in let p = first.pins (t.id (t.under q)) in let r = second.pins (t.id (t.under q)) in omega (arith, some, p, r));
  }

  -- a pin that is left, after others were given back
  pub left_one : (t : PoolTerms Page Pin) (xs ys : List ℕ) (a b : PoolView Page Pin) (q : Pin) → Reserves (xs ++ ys) a → Gives t xs a b → a.valid q → 0 < times ys (t.id (t.under q)) → b.valid q
  left_one t xs ys a b q counted gave valid some =
      let y = t.id (t.under q) in
      let c = counted y in let p = gave.pins y in
      gave.valid q valid (omega (arith, c, p, some, times_both xs ys y))

  pub reserves_left : (t : PoolTerms Page Pin) (xs ys : List ℕ) (a b : PoolView Page Pin) → Reserves (xs ++ ys) a → Gives t xs a b → Reserves ys b
  reserves_left t xs ys a b counted gave y = let c = counted y in let p = gave.pins y in omega (arith, c, p, times_both xs ys y)

  pub reserves_taken : (xs : List ℕ) (a b : PoolView Page Pin) → Takes xs a b → Reserves xs b
  reserves_taken xs a b took y = let p = took.pins y in omega (arith, p)
