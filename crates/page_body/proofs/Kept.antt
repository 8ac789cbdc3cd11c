-- What composite calls keep, one after the other.
use Rattle.std.proofs.Common.{ℕ, ◌+◌, ◌-◌, ◌^◌, ◌<◌, ◌≤◌, refl, ◌∙◌, arith}
use Rattle.page_body.specs.View.{PoolView}
use Rattle.page_body.specs.Keeps.{Counted, Kept, SameHeld, Steady, LiveOn, ValidOn}

pub counted_same : (w k : ℕ) → Counted w w k k
counted_same w k = record { writes = omega arith; wrote = omega arith; least = λ below. omega arith; most = λ below. omega arith }

pub counted_then : (w v u k m n : ℕ) → Counted w v k m → Counted v u m n → Counted w u k n
counted_then w v u k m n a b =
    let aw = a.writes in let ak = a.wrote in let bw = b.writes in let bk = b.wrote in
    record {
      writes = omega (arith, aw, bw);
      wrote = omega (arith, ak, bk);
      least = λ below. let y = b.least below in let x = a.least (omega (arith, bw, below)) in omega (arith, x, y);
      most = λ below. let y = b.most below in let x = a.most (omega (arith, bk, below)) in omega (arith, x, y);
    }

module _ {Page Pin : Type 0} where
  pub kept_same : (a : PoolView Page Pin) → Kept a a
  kept_same a = record {
    pins = λ y. refl;
    opens = λ y. refl;
    held = refl;
    grant = refl;
    page_bytes = refl;
    lane = refl;
    counted = counted_same a.writes a.wrote;
    faults = omega arith;
    lives = λ p live. live;
    valid = λ q valid. valid;
  }

  pub kept_then : (a b c : PoolView Page Pin) → Kept a b → Kept b c → Kept a c
  kept_then a b c first second = record {
    pins = λ y. second.pins y ∙ first.pins y;
    opens = λ y. second.opens y ∙ first.opens y;
    held = second.held ∙ first.held;
    grant = second.grant ∙ first.grant;
    page_bytes = second.page_bytes ∙ first.page_bytes;
    counted = counted_then a.writes b.writes c.writes a.wrote b.wrote c.wrote first.counted second.counted;
    lane = second.lane ∙ first.lane;
    faults = let x = first.faults in let y = second.faults in omega (arith, x, y);
    lives = λ p live. second.lives p (first.lives p live);
    valid = λ q valid. second.valid q (first.valid q valid);
  }

  -- of the clauses of one call
  pub kept_of : (a b : PoolView Page Pin) → SameHeld a b → Steady a b → LiveOn a b → ValidOn a b → Kept a b
  kept_of a b held steady lives valid = record {
    pins = held.pins;
    opens = held.opens;
    held = held.held;
    grant = steady.grant;
    page_bytes = steady.page_bytes;
    counted = steady.counted;
    lane = steady.lane;
    faults = steady.faults;
    lives = lives;
    valid = valid;
  }
