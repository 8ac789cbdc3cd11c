-- What is kept where pins that were taken are given back.
use Rattle.std.proofs.Common.{◌≡◌, ℕ, ◌<◌, List, [], ◌∷◌, ◌++◌, length, Option, ap, ◌∙◌, arith}
use Rattle.page_body.specs.View.{PoolTerms, PoolView}
use Rattle.page_body.proofs.Kept.{counted_then}
use Rattle.page_body.specs.Keeps.{Steady, Kept}
use Rattle.number_bags.specs.Bags.{times}
use Rattle.page_body.specs.Keeps.{Takes, Gives}
use Rattle.rebase_pins.specs.RowPages.{ids_in}
use Rattle.page_body.proofs.Takes.{takes_then, gives_then, round_trip}

module _ {Page Pin : Type 0} (t : PoolTerms Page Pin) where
  steady_kept : (a b : PoolView Page Pin) → Kept a b → Steady a b
  steady_kept a b k = record { grant = k.grant; page_bytes = k.page_bytes; lane = k.lane; counted = k.counted; faults = k.faults }

  -- pins that are taken, and then a call that keeps all
  takes_kept : (xs : List ℕ) (a b c : PoolView Page Pin) → Takes xs a b → Kept b c → Takes xs a c
  takes_kept xs a b c took kept = record {
    pins = λ y. kept.pins y ∙ took.pins y;
    opens = λ y. kept.opens y ∙ took.opens y;
    held = kept.held ∙ took.held;
    steady = let s = took.steady in record {
      grant = kept.grant ∙ s.grant;
      page_bytes = kept.page_bytes ∙ s.page_bytes;
      lane = kept.lane ∙ s.lane;
      counted = let p = s.counted in let q = kept.counted in counted_then a.writes b.writes c.writes a.wrote b.wrote c.wrote p q;
      faults = let p = kept.faults in let q = s.faults in omega (arith, p, q);
    };
    lives = λ p live. kept.lives p (took.lives p live);
    valid = λ q valid. kept.valid q (took.valid q valid);
  }

  -- the same pins by equal heap pages
  gives_same : (a b a' b' : Option Page) (x y : PoolView Page Pin) → a' ≡ a → b' ≡ b → Gives t (ids_in t (a' ∷ b' ∷ [])) x y → Gives t (ids_in t (a ∷ b ∷ [])) x y
  gives_same a b a' b' x y ea eb gave =
      let same : ids_in t (a' ∷ b' ∷ []) ≡ ids_in t (a ∷ b ∷ []) = ap (λ o. ids_in t (o ∷ b' ∷ [])) ea ∙ ap (λ o. ids_in t (a ∷ o ∷ [])) eb in
      record {
        pins = λ n. let p = gave.pins n in omega (arith, p, ap (λ ids. times ids n) same);
        opens = gave.opens;
        held = let h = gave.held in omega (arith, h, ap length same);
        steady = gave.steady;
        lives = gave.lives;
        valid = gave.valid;
      }

  abbrev pub IsPinned : PoolView Page Pin → Type 0
  IsPinned a = (q : Pin) → a.valid q → 0 < a.pins (t.id (t.under q))

  -- two are taken, a call is refused, and the two are given back
  pub kept_one : (a b a' b' : Option Page) → a' ≡ a → b' ≡ b → (x y z w : PoolView Page Pin) → IsPinned x → Takes (ids_in t (a ∷ b ∷ [])) x y → Kept y z → Gives t (ids_in t (a' ∷ b' ∷ [])) z w → Kept x w
  kept_one a b a' b' ea eb x y z w pinned took kept gave =
      round_trip t (ids_in t (a ∷ b ∷ [])) x z w pinned (takes_kept (ids_in t (a ∷ b ∷ [])) x y z took kept) (gives_same a b a' b' z w ea eb gave)

  -- two and two are taken, a call is refused, and all are given back
  pub kept_front : (a b a' b' c d c' d' : Option Page) → a' ≡ a → b' ≡ b → c' ≡ c → d' ≡ d → (m0 m1 m2 m3 m4 m5 : PoolView Page Pin) → IsPinned m0 → Takes (ids_in t (a ∷ b ∷ [])) m0 m1 → Takes (ids_in t (c ∷ d ∷ [])) m1 m2 → Kept m2 m3 → Gives t (ids_in t (a' ∷ b' ∷ [])) m3 m4 → Gives t (ids_in t (c' ∷ d' ∷ [])) m4 m5 → Kept m0 m5
  kept_front a b a' b' c d c' d' ea eb ec ed m0 m1 m2 m3 m4 m5 pinned first second kept third fourth =
      let xs = ids_in t (a ∷ b ∷ []) in
      let ys = ids_in t (c ∷ d ∷ []) in
      round_trip t (xs ++ ys) m0 m3 m5 pinned
      (takes_kept (xs ++ ys) m0 m2 m3 (takes_then xs ys m0 m1 m2 first second) kept)
      (gives_then t xs ys m3 m4 m5 (gives_same a b a' b' m3 m4 ea eb third) (gives_same c d c' d' m4 m5 ec ed fourth))
