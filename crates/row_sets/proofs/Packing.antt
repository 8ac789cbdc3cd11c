-- How full pages are, as numbers: what each step leaves packed.
use Rattle.std.proofs.Common.{◌≡◌, ℕ, ◌+◌, ◌*◌, ◌<◌, ◌≤◌, List, [], ◌∷◌, ◌++◌, Result, Ok, Err, refl, sym, ap, subst, inl, inr, arith}
use Rattle.std.specs.Prelude.{if◌then◌else◌, max, OnOk, OnErr}
use Rattle.std.proofs.lemmas.Bool.{lt-ltb, le-ltb, le-leb, lt-leb, cases_lt, cases_eq}
use Rattle.std.proofs.Math.Nat.{le-max_left, le-max_right, max-le}
use Rattle.row_sets.specs.declared.limits.TheConstants.{MOST_LONG}
use Rattle.row_sets.specs.Packed.{PageFill, Fill, heaps_in, ends_in, ends_of, some_of, heaps_here, AllSpent, IsPacked, sealed_fill, closed_fill, closed_done, IsAddedTo, IsLeft}

pub some_is : (n : ℕ) → 0 < n → some_of n ≡ 1
some_is n some = ap {B = ℕ} (λ b. if b then 1 else 0) (lt-ltb 0 n some)

pub some_none : (n : ℕ) → n ≡ 0 → some_of n ≡ 0
some_none n none = ap {B = ℕ} (λ b. if b then 1 else 0) (le-ltb 0 n (omega (arith, none)))

-- a page's room for one more heap page
times_more : (room a : ℕ) → room * (a + 1) ≡ room * a + room
times_more room a = grind arith

room_sum : (room a b : ℕ) → room * (a + b) ≡ room * a + room * b
room_sum room a b = grind arith

-- the bound of heap pages, with the numbers written otherwise
paid_as : (room a a2 b b2 x x2 : ℕ) → a2 ≡ a → b2 ≡ b → x ≤ x2 → room * a ≤ x + room * b → room * a2 ≤ x2 + room * b2
paid_as room a a2 b b2 x x2 e f more paid =
    let u = ap (λ (z : ℕ). room * z) e in
    let v = ap (λ (z : ℕ). room * z) f in
    omega (arith, u, v, more, paid)

both_same : (a b c d : ℕ) → a ≡ b → c ≡ d → a + c ≡ b + d
both_same a b c d e f = omega (arith, e, f)

sums : (a b c : ℕ) → b ≡ c → a + b ≡ a + c
sums a b c e = omega (arith, e)

sums_more : (a b c : ℕ) → b ≡ c + 1 → a + b ≡ a + c + 1
sums_more a b c e = omega (arith, e)

nothing_more : (a : ℕ) → a + 0 ≡ a
nothing_more a = omega arith

some_grown : (n l : ℕ) → some_of (n + l) ≤ some_of n + l
some_grown n l = elim (cases_eq (n + l) 0) [
  | inl none ↦ let s = some_none (n + l) none in omega (arith, s)
  | inr some ↦ elim (cases_eq n 0) [
    | inl zero_ ↦ let s = some_is (n + l) (omega (arith, some)) in omega (arith, s, zero_, some)
    | inr more ↦ let s = some_is (n + l) (omega (arith, some)) in let u = some_is n (omega (arith, more)) in omega (arith, s, u)
  ]
]

-- what is ready is paid, where a heap page begins or goes on
ready_paid : (room heaps sealed used x ends : ℕ) → room * (heaps + sealed) + used ≤ x + room * ends → room * (heaps + (sealed + some_of used)) ≤ x + room * (ends + some_of (sealed + some_of used))
ready_paid room heaps sealed used x ends ready = elim (cases_eq used 0) [
  | inl none ↦
      let s = some_none used none in
      elim (cases_eq sealed 0) [
        | inl bare ↦
            let h = some_none (sealed + some_of used) (omega (arith, s, bare)) in
            paid_as room (heaps + sealed) (heaps + (sealed + some_of used)) ends (ends + some_of (sealed + some_of used)) x x (omega (arith, s)) (omega (arith, h)) (omega arith) (omega (arith, ready))
        | inr has ↦
            let h = some_is (sealed + some_of used) (omega (arith, s, has)) in
            let m = times_more room ends in
            paid_as room (heaps + sealed) (heaps + (sealed + some_of used)) (ends + 1) (ends + some_of (sealed + some_of used)) x x (omega (arith, s)) (omega (arith, h)) (omega arith) (omega (arith, ready, m))
      ]
  | inr some ↦
      let s = some_is used (omega (arith, some)) in
      let h = some_is (sealed + some_of used) (omega (arith, s)) in
      let m = times_more room ends in
      let n = times_more room (heaps + sealed) in
      paid_as room (heaps + sealed + 1) (heaps + (sealed + some_of used)) (ends + 1) (ends + some_of (sealed + some_of used)) x x (omega (arith, s)) (omega (arith, h)) (omega arith) (omega (arith, ready, m, n))
]

-- a row more
pub packed_added : (f g : Fill) (l : ℕ) → IsPacked f → f.rows < f.fit → f.long + l ≤ MOST_LONG → IsAddedTo f l g → IsPacked g
packed_added f g l is takes most to =
    let e = to.used in
    let n = to.long in
    let a = to.asked in
    let s = to.sealed in
    let texts = is.texts in
    let left = le-max_left f.asked g.long in
    let right = le-max_right f.asked g.long in
    let old : f.room * (heaps_in f.done + f.sealed) + f.used ≤ (f.long + f.asked) + f.room * ends_in f.fit f.done = is.ready takes in
    let now : f.room * (heaps_in f.done + f.sealed) + (f.used + l) ≤ (g.long + g.asked) + f.room * ends_in f.fit f.done = omega (arith, old, n, a, left, right) in
    let p = ready_paid f.room (heaps_in f.done) f.sealed (f.used + l) (g.long + g.asked) (ends_in f.fit f.done) now in
    let here : heaps_here g ≡ f.sealed + some_of (f.used + l) = (λ i. s i + some_of (e i)) in
    let heaps : heaps_in g.done ≡ heaps_in f.done = ap heaps_in to.done in
    let ends : ends_in g.fit g.done ≡ ends_in f.fit f.done = (λ i. ends_in (to.fit i) (to.done i)) in
    let grown = some_grown f.used l in
    let few : f.asked ≤ MOST_LONG = is.few in
    let more : max f.asked g.long ≤ MOST_LONG = max-le few (omega (arith, n, most)) in
    record {
      spent = subst (λ (n : ℕ). AllSpent n g.done) (sym to.fit) (subst (AllSpent f.fit) (sym to.done) is.spent);
      added = omega (arith, a, right);
      few = omega (arith, a, more);
      texts = omega (arith, texts, here, heaps, grown, n);
      paid = subst (λ (r : ℕ). r * (heaps_in g.done + heaps_here g) ≤ g.long + g.asked + r * (ends_in g.fit g.done + some_of (heaps_here g))) (sym to.room)
          (paid_as f.room (heaps_in f.done + (f.sealed + some_of (f.used + l))) (heaps_in g.done + heaps_here g) (ends_in f.fit f.done + some_of (f.sealed + some_of (f.used + l))) (ends_in g.fit g.done + some_of (heaps_here g)) (g.long + g.asked) (g.long + g.asked)
          (omega (arith, here, heaps)) (let h = ap some_of here in omega (arith, h, ends)) (omega arith) p);
      ready = λ _.
          let lower = ap (λ (z : ℕ). f.room * z) (both_same (heaps_in g.done) (heaps_in f.done) g.sealed f.sealed heaps s) in
          let upper = ap (λ (z : ℕ). f.room * z) ends in
          subst (λ (r : ℕ). r * (heaps_in g.done + g.sealed) + g.used ≤ g.long + g.asked + r * ends_in g.fit g.done) (sym to.room) (omega (arith, now, e, lower, upper));
    }

-- the open heap page sealed, where the row page is full or no text lies there
pub packed_sealed : (f : Fill) → IsPacked f → (f.rows < f.fit → f.used ≡ 0) → IsPacked (sealed_fill f)
packed_sealed f is full =
    let texts = is.texts in
    record {
      spent = is.spent;
      added = is.added;
      few = is.few;
      texts = omega (arith, texts);
      paid = paid_as f.room (heaps_in f.done + heaps_here f) (heaps_in f.done + heaps_here (sealed_fill f)) (ends_in f.fit f.done + some_of (heaps_here f)) (ends_in f.fit f.done + some_of (heaps_here (sealed_fill f))) (f.long + f.asked) (f.long + f.asked)
          (omega arith) (let e : f.sealed + some_of f.used + 0 ≡ f.sealed + some_of f.used = omega arith in let h = ap some_of e in omega (arith, h)) (omega arith) is.paid;
      ready = λ takes.
          let ready = is.ready takes in
          let s = some_none f.used (full takes) in
          let e = ap (λ (z : ℕ). f.room * z) (sums (heaps_in f.done) (f.sealed + some_of f.used) f.sealed (omega (arith, s))) in
          omega (arith, ready, e);
    }

-- and where it hasn't room for texts, which are asked for
pub packed_asked : (f : Fill) (l : ℕ) → IsPacked f → 0 < f.used → f.room ≤ f.used + l → f.asked + l ≤ MOST_LONG → IsPacked (record (sealed_fill f) { asked = f.asked + l })
packed_asked f l is some over most =
    let texts = is.texts in
    let added = is.added in
    record {
      spent = is.spent;
      added = omega (arith, added);
      few = most;
      texts = omega (arith, texts);
      paid = paid_as f.room (heaps_in f.done + heaps_here f) (heaps_in f.done + heaps_here (sealed_fill f)) (ends_in f.fit f.done + some_of (heaps_here f)) (ends_in f.fit f.done + some_of (heaps_here (sealed_fill f))) (f.long + f.asked) (f.long + (f.asked + l))
          (omega arith) (let e : f.sealed + some_of f.used + 0 ≡ f.sealed + some_of f.used = omega arith in let h = ap some_of e in omega (arith, h)) (omega arith) is.paid;
      ready = λ takes.
          let ready = is.ready takes in
          let s = some_is f.used some in
          let e = ap (λ (z : ℕ). f.room * z) (sums_more (heaps_in f.done) (f.sealed + some_of f.used) f.sealed (omega (arith, s))) in
          let m = times_more f.room (heaps_in f.done + f.sealed) in
          omega (arith, ready, e, m, over);
    }

pub heaps_push : (done : List PageFill) (p : PageFill) → heaps_in (done ++ p ∷ []) ≡ heaps_in done + p.heaps
heaps_push [] p = omega arith
heaps_push (q ∷ qs) p = let r = heaps_push qs p in omega (arith, r)

ends_push : (fit : ℕ) (done : List PageFill) (p : PageFill) → ends_in fit (done ++ p ∷ []) ≡ ends_in fit done + ends_of fit p
ends_push fit [] p = omega arith
ends_push fit (q ∷ qs) p = let r = ends_push fit qs p in omega (arith, r)

spent_push : (fit : ℕ) (done : List PageFill) (p : PageFill) → AllSpent fit done → (p.rows < fit → 4 ≤ p.heaps) → AllSpent fit (done ++ p ∷ [])
spent_push fit [] p all one = (one, tt)
spent_push fit (q ∷ qs) p all one = (all.0, spent_push fit qs p all.1 one)

ends_full : (fit rows heaps : ℕ) → fit ≤ rows → ends_of fit (record { rows = rows; heaps = heaps }) ≡ some_of heaps
ends_full fit rows heaps full = ap (λ b. if b then some_of heaps else 0) (le-leb fit rows full)

ends_not : (fit rows heaps : ℕ) → rows < fit → ends_of fit (record { rows = rows; heaps = heaps }) ≡ 0
ends_not fit rows heaps less = ap (λ b. if b then some_of heaps else 0) (lt-leb fit rows less)

-- the open row page done, where it is full or has four heap pages
pub packed_closed : (f : Fill) → IsPacked f → f.used ≡ 0 → (f.rows < f.fit → 4 ≤ f.sealed) → 0 < f.fit → IsPacked (closed_fill f)
packed_closed f is none spent fits = elim (cases_eq f.rows 0) [
  | inl empty ↦
      let d : closed_done f.done f.rows f.sealed ≡ f.done = ap (λ b. if b then f.done ++ record { rows = f.rows; heaps = f.sealed } ∷ [] else f.done) (le-ltb 0 f.rows (omega (arith, empty))) in
      subst (λ (done : List PageFill). IsPacked (record f { done = done; rows = 0; sealed = 0 })) (sym d)
      (emptied f is none (omega (arith, empty, fits)))
  | inr some ↦
      let p : PageFill = record { rows = f.rows; heaps = f.sealed } in
      let d : closed_done f.done f.rows f.sealed ≡ f.done ++ record { rows = f.rows; heaps = f.sealed } ∷ [] = ap (λ b. if b then f.done ++ record { rows = f.rows; heaps = f.sealed } ∷ [] else f.done) (lt-ltb 0 f.rows (omega (arith, some))) in
      subst (λ (done : List PageFill). IsPacked (record f { done = done; rows = 0; sealed = 0 })) (sym d) (pushed f is none spent fits)
]
  where
    emptied : (f : Fill) → IsPacked f → f.used ≡ 0 → f.rows < f.fit → IsPacked (record f { rows = 0; sealed = 0 })
    emptied f is none takes =
        let texts = is.texts in
        let u = some_none f.used none in
        let zero_ = some_none (0 + some_of f.used) (omega (arith, u)) in
        let r = is.ready takes in
        let s = room_sum f.room (heaps_in f.done) f.sealed in
        let ready : f.room * heaps_in f.done ≤ (f.long + f.asked) + f.room * ends_in f.fit f.done = omega (arith, r, s) in
        record {
          spent = is.spent;
          added = is.added;
          few = is.few;
          texts = omega (arith, texts, u);
          paid = paid_as f.room (heaps_in f.done) (heaps_in f.done + (0 + some_of f.used)) (ends_in f.fit f.done) (ends_in f.fit f.done + some_of (0 + some_of f.used)) (f.long + f.asked) (f.long + f.asked) (omega (arith, u)) (omega (arith, zero_)) (omega arith) ready;
          ready = λ _.
              let e = ap (λ (z : ℕ). f.room * z) (nothing_more (heaps_in f.done)) in
              omega (arith, ready, e, none);
        }

    pushed : (f : Fill) → IsPacked f → f.used ≡ 0 → (f.rows < f.fit → 4 ≤ f.sealed) → 0 < f.fit → IsPacked (record f { done = f.done ++ record { rows = f.rows; heaps = f.sealed } ∷ []; rows = 0; sealed = 0 })
    pushed f is none spent fits =
        let p : PageFill = record { rows = f.rows; heaps = f.sealed } in
        let heaps = heaps_push f.done p in
        let ends = ends_push f.fit f.done p in
        let texts = is.texts in
        let u = some_none f.used none in
        let zero_ = some_none (0 + some_of f.used) (omega (arith, u)) in
        let ready : f.room * heaps_in (f.done ++ p ∷ []) ≤ (f.long + f.asked) + f.room * ends_in f.fit (f.done ++ p ∷ []) = elim (cases_lt f.rows f.fit) [
          | inl less ↦
              let e = ends_not f.fit f.rows f.sealed less in
              let r = is.ready less in
              paid_as f.room (heaps_in f.done + f.sealed) (heaps_in (f.done ++ p ∷ [])) (ends_in f.fit f.done) (ends_in f.fit (f.done ++ p ∷ [])) (f.long + f.asked) (f.long + f.asked) heaps (omega (arith, ends, e)) (omega arith) (omega (arith, r))
          | inr full ↦
              let e = ends_full f.fit f.rows f.sealed (omega (arith, full)) in
              let h : f.sealed + some_of f.used ≡ f.sealed = omega (arith, u) in
              let s = ap some_of h in
              paid_as f.room (heaps_in f.done + heaps_here f) (heaps_in (f.done ++ p ∷ [])) (ends_in f.fit f.done + some_of (heaps_here f)) (ends_in f.fit (f.done ++ p ∷ [])) (f.long + f.asked) (f.long + f.asked) (omega (arith, heaps, h)) (omega (arith, ends, e, s)) (omega arith) is.paid
        ] in
        record {
          spent = spent_push f.fit f.done p is.spent spent;
          added = is.added;
          few = is.few;
          texts = omega (arith, texts, heaps, u);
          paid = paid_as f.room (heaps_in (f.done ++ p ∷ [])) (heaps_in (f.done ++ p ∷ []) + (0 + some_of f.used)) (ends_in f.fit (f.done ++ p ∷ [])) (ends_in f.fit (f.done ++ p ∷ []) + some_of (0 + some_of f.used)) (f.long + f.asked) (f.long + f.asked) (omega (arith, u)) (omega (arith, zero_)) (omega arith) ready;
          ready = λ _.
              let e = ap (λ (z : ℕ). f.room * z) (nothing_more (heaps_in (f.done ++ p ∷ []))) in
              omega (arith, ready, e, none);
        }

-- after a row page that is full, or has four heap pages, was to be closed
pub packed_after : {X E : Type 0} (r : Result X E) (f g : Fill) → IsPacked f → (f.rows < f.fit → (f.used ≡ 0) × (4 ≤ f.sealed)) → 0 < f.fit → OnOk r (g ≡ closed_fill (sealed_fill f)) → OnErr r (IsLeft f g) → IsPacked g
packed_after (Err fault) f g is spent fits closed left = left is (packed_sealed f is (λ takes. (spent takes).0))
packed_after (Ok x) f g is spent fits closed left =
    subst IsPacked (sym closed) (packed_closed (sealed_fill f) (packed_sealed f is (λ takes. (spent takes).0)) refl (λ takes. let four = (spent takes).1 in omega (arith, four)) fits)
