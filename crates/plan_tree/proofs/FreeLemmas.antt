-- The stages of a free FROM say what its conjuncts say, and are loops.
use Rattle.std.proofs.Common.{◌≡◌, ℕ, zero, suc, ◌+◌, ◌<◌, ◌≤◌, Bool, true, false, cond, not, ◌&&◌, List, [], ◌∷◌, ◌++◌, map, take, drop, length, refl, sym, ap, ap₂, ◌∙◌, subst, arith, append-nil, Ok}
use Rattle.std.specs.Prelude.{filter, flat_map, count_by, nat_le, is_some}
use Rattle.std.specs.List.{AllByRecursion}
use Rattle.std.proofs.lemmas.Bool.Decides.{nat_tests}
use Rattle.std.proofs.lemmas.List.{take-append-drop, drop-take, length-take-le}
use Rattle.std.proofs.lemmas.List.Sums.{sum_by-cons, sum_by-append}
use Rattle.ooc_bags.specs.Bags.{SameBag}
use Rattle.ooc_bags.proofs.Bags.{bag-refl, bag-from, bag-trans, bag-append, bag-map}
use Rattle.sql_expr.specs.declared.tree.Expr.{Expr}
use Rattle.sql_expr.specs.Meaning.{value_of}
use Rattle.sql_expr.specs.Plain.{IsFaultless}
use Rattle.sql_meaning.specs.Found.{Row}
use Rattle.sql_meaning.specs.Judged.{Condition, Verdict, judged}
use Rattle.sql_meaning.specs.Ordered.{value_at}
use Rattle.sql_meaning.specs.Moved.{moved}
use Rattle.sql_meaning.specs.Plan.{put_back}
use Rattle.sql_meaning.specs.Pool.{AreFaultless, all_true, SayOf}
use Rattle.sql_meaning.specs.Free.{Table, Loop, IsLoopOf, AreLoopsOf, tables_of}
use Rattle.sql_meaning.specs.Stage.{Side, keys_meet, is_true}
use Rattle.sql_meaning.specs.Statements.{condition_of}
use Rattle.sql_meaning.proofs.JoinStages.{judged-faultless}
use Rattle.sql_meaning.proofs.MovedLemmas.{moved-value}
use Rattle.plan_tree.specs.Columns.{columns_of}
use Rattle.plan_tree.specs.Split.{top_of, top, is_own, key_of, JoinParts, split, passes, join_side, rest_conjuncts}
use Rattle.plan_tree.specs.declared.parts.Entry.{Entry}
use Rattle.plan_tree.specs.Order.{columns_in}
use Rattle.plan_tree.specs.FreeFrom.{is_ready, ready, later}
use Rattle.plan_tree.proofs.ColumnLemmas.{value-agrees}
use Rattle.plan_tree.proofs.JoinLemmas.{map-over, all-pass, all-kept, all-on, split-tests}

-- ---- rows and their fronts

pub take-value : (row : Row) (n c : ℕ) → c < n → value_at c (take n row) ≡ value_at c row
take-value [] zero c below = absurd (omega arith)
take-value [] (suc n) c below = refl
take-value (v ∷ row) zero c below = absurd (omega arith)
take-value (v ∷ row) (suc n) zero below = refl
take-value (v ∷ row) (suc n) (suc c) below = take-value row n c (omega arith)

-- ---- conjuncts whose columns are there

test-le : (a b : ℕ) → nat_le a b ≡ true → a ≤ b
test-le a b e = grind (arith, nat_tests)

pub below-top : (cs : List ℕ) (n : ℕ) → top_of cs ≤ n → AllByRecursion (λ c. c < n) cs
below-top [] n within = tt
below-top (c ∷ cs) n within = (omega arith, below-top cs n (omega arith))

-- over the front of a plan's row it says what the written conjunct says of the row with its columns put back
ready-says : (places : List ℕ) (row : Row) (n : ℕ) (e : Expr) → top (moved places e) ≤ n → value_of (take n row) (moved places e) ≡ value_of (put_back places row) e
ready-says places row n e within =
    value-agrees (take n row) row (moved places e)
    (all-on (λ c. c < n) (λ c. value_at c (take n row) ≡ value_at c row) (λ c below. take-value row n c below) (columns_of (moved places e)) (below-top (columns_of (moved places e)) n within))
    ∙ moved-value places row e

all-ready : (places : List ℕ) (n : ℕ) (es : List Expr) → AllByRecursion (λ e. top (moved places e) ≤ n) (ready places n es)
all-ready places n es = all-on (λ e. is_ready places n e ≡ true) (λ e. top (moved places e) ≤ n) (λ e h. test-le (top (moved places e)) n h) (ready places n es) (all-pass (is_ready places n) es)

pub all-moved : (places : List ℕ) (P : Expr → Type 0) (es : List Expr) → AllByRecursion (λ e. P (moved places e)) es → AllByRecursion P (map (moved places) es)
all-moved places P [] all = tt
all-moved places P (e ∷ es) all = (all.0, all-moved places P es all.1)

fronts-say : (places : List ℕ) (row : Row) (n : ℕ) (es : List Expr) → AllByRecursion (λ e. top (moved places e) ≤ n) es
    → all_true (map condition_of (map (moved places) es)) (take n row) ≡ all_true (map condition_of es) (put_back places row)
fronts-say places row n [] within = refl
fronts-say places row n (e ∷ es) within = ap₂ ◌&&◌ (ap is_true (ready-says places row n e within.0)) (fronts-say places row n es within.1)

and-turn : (a b : Bool) → (a && b) ≡ (b && a)
and-turn true true = refl
and-turn true false = refl
and-turn false true = refl
and-turn false false = refl

-- a stage as a loop, whose columns begin at this place
abbrev pub loop_of_parts : Table → ℕ → JoinParts → Loop
loop_of_parts table at parts = record {
  table = table;
  own = passes parts.filters;
  test = λ row. keys_meet parts.keys (take at row) (drop at row) && all_true (map condition_of parts.rest) row;
}

stage-says : (places : List ℕ) (row : Row) (at : ℕ) (table : Table) (es : List Expr) → at + table.width ≤ length row
    → let loop = loop_of_parts table at (split at table.width (map (moved places) (ready places (at + table.width) es)) []) in
    (loop.test (take (at + table.width) row) && loop.own (take table.width (drop at row))) ≡ all_true (map condition_of (ready places (at + table.width) es)) (put_back places row)
stage-says places row at table es within =
    let n = at + table.width in
    let mine = map (moved places) (ready places n es) in
    let parts = split at table.width mine [] in
    let front = take n row in
    let l = take at front in
    let r = drop at front in
    let whole : l ++ r ≡ front = take-append-drop at front in
    let long : length l ≡ at = length-take-le at front (let e = length-take-le n row within in omega arith) in
    let own : passes parts.filters (take table.width (drop at row)) ≡ passes parts.filters r = ap (passes parts.filters) (sym (drop-take at table.width row)) in
    let tests = split-tests l r at table.width long mine (all-moved places (λ e. top e ≤ n) (ready places n es) (all-ready places n es)) in
    ap₂ ◌&&◌ (ap (λ row. keys_meet parts.keys l r && all_true (map condition_of parts.rest) row) (sym whole)) own
    ∙ and-turn (keys_meet parts.keys l r && all_true (map condition_of parts.rest) (l ++ r)) (passes parts.filters r)
    ∙ tests
    ∙ ap (all_true (map condition_of mine)) whole
    ∙ fronts-say places row n (ready places n es) (all-ready places n es)

-- ---- all stages

module _ (rows_of : Entry → List Row) (places : List ℕ) where
  abbrev pub table_of : Entry → Table
  table_of entry = record { rows = rows_of entry; width = entry.width }

  abbrev pub loops_from : ℕ → List Entry → List Expr → List Loop
  loops_from at [] es = []
  loops_from at (entry ∷ entries) es =
      loop_of_parts (table_of entry) at (split at entry.width (map (moved places) (ready places (at + entry.width) es)) [])
      ∷ loops_from (at + entry.width) entries (later places (at + entry.width) es)

  abbrev pub sides_from : ℕ → List Entry → List Expr → List Side
  sides_from at [] es = []
  sides_from at (entry ∷ entries) es =
      join_side (rows_of entry) entry.width false (split at entry.width (map (moved places) (ready places (at + entry.width) es)) [])
      ∷ sides_from (at + entry.width) entries (later places (at + entry.width) es)

  abbrev pub lists_from : ℕ → List Entry → List Expr → List (List Condition)
  lists_from at [] es = []
  lists_from at (entry ∷ entries) es = map condition_of (ready places (at + entry.width) es) ∷ lists_from (at + entry.width) entries (later places (at + entry.width) es)

  pub tables-of-loops : (at : ℕ) (entries : List Entry) (es : List Expr) → tables_of (loops_from at entries es) ≡ map table_of entries
  tables-of-loops at [] es = refl
  tables-of-loops at (entry ∷ entries) es = ap (λ l. table_of entry ∷ l) (tables-of-loops (at + entry.width) entries (later places (at + entry.width) es))

  pub loops-say : (row : Row) (at : ℕ) (entries : List Entry) (es : List Expr) → at + columns_in entries ≤ length row
      → SayOf (put_back places) row at (loops_from at entries es) (lists_from at entries es)
  loops-say row at [] es within = tt
  loops-say row at (entry ∷ entries) es within =
      (stage-says places row at (table_of entry) es (omega arith), loops-say row (at + entry.width) entries (later places (at + entry.width) es) (omega arith))

  -- ---- each conjunct acts at one stage

  counts-of-two : {A : Type 0} (p t : A → Bool) (xs : List A) → count_by t (filter p xs) + count_by t (filter (λ x. not (p x)) xs) ≡ count_by t xs
  counts-of-two p t [] = refl
  counts-of-two {A} p t (x ∷ xs) =
      let s = sum_by-cons (λ y. cond (t y) 1 0) x xs in
      go (p x) (counts-of-two p t xs) ∙ sym s
    where
      go : (b : Bool) → count_by t (filter p xs) + count_by t (filter (λ x. not (p x)) xs) ≡ count_by t xs
          → count_by t (cond b (x ∷ filter p xs) (filter p xs)) + count_by t (cond (not b) (x ∷ filter (λ x. not (p x)) xs) (filter (λ x. not (p x)) xs)) ≡ cond (t x) 1 0 + count_by t xs
      go true rest = let h = sum_by-cons (λ y. cond (t y) 1 0) x (filter p xs) in omega arith
      go false rest = let h = sum_by-cons (λ y. cond (t y) 1 0) x (filter (λ x. not (p x)) xs) in omega arith

  pub bag-of-two : {A : Type 0} (p : A → Bool) (xs : List A) → SameBag (filter p xs ++ filter (λ x. not (p x)) xs) xs
  bag-of-two p xs t = sum_by-append (λ y. cond (t y) 1 0) (filter p xs) (filter (λ x. not (p x)) xs) ∙ counts-of-two p t xs

  not-ready : (n : ℕ) (e : Expr) → not (is_ready places n e) ≡ true → n < top (moved places e)
  not-ready n e h = past (top (moved places e)) n h
    where
      past : (a b : ℕ) → not (nat_le a b) ≡ true → b < a
      past a b h = grind (arith, nat_tests)

  pub each-acts-once : (at : ℕ) (entries : List Entry) (es : List Expr) → AllByRecursion (λ e. at < top (moved places e)) es → AllByRecursion (λ e. top (moved places e) ≤ at + columns_in entries) es
      → SameBag (flat_map (λ list. list) (lists_from at entries es)) (map condition_of es)
  each-acts-once at [] [] behind within = bag-refl []
  each-acts-once at [] (e ∷ es) behind within = let a = behind.0 in let b = within.0 in absurd (omega arith)
  each-acts-once at (entry ∷ entries) es behind within =
      let n = at + entry.width in
      let now = ready places n es in
      let rest = later places n es in
      let again = each-acts-once n entries rest
      (all-on (λ e. not (is_ready places n e) ≡ true) (λ e. n < top (moved places e)) (not-ready n) rest (all-pass (λ e. not (is_ready places n e)) es))
      (all-kept (λ e. top (moved places e) ≤ n + columns_in entries) (λ e. not (is_ready places n e)) es
      (all-on (λ e. top (moved places e) ≤ at + (entry.width + columns_in entries)) (λ e. top (moved places e) ≤ n + columns_in entries) (λ e h. omega arith) es within)) in
      let whole = flat_map (λ list. list) (lists_from n entries rest) in
      bag-trans (map condition_of now ++ whole) (map condition_of now ++ map condition_of rest) (map condition_of es)
      (bag-append (map condition_of now) (map condition_of now) whole (map condition_of rest) (bag-refl (map condition_of now)) again)
      (bag-trans (map condition_of now ++ map condition_of rest) (map condition_of (now ++ rest)) (map condition_of es)
      (bag-from (map condition_of now ++ map condition_of rest) (map condition_of (now ++ rest)) (sym (map-over condition_of now rest)))
      (bag-map condition_of (now ++ rest) es (bag-of-two (is_ready places n) es)))

  -- ---- stages are loops

  abbrev pub IsSureOver : Expr → Type 0
  IsSureOver e = (row : Row) → IsFaultless (value_of row e)

  pub moved-sure : (e : Expr) → IsSureOver e → IsSureOver (moved places e)
  moved-sure e sure row = subst IsFaultless (sym (moved-value places row e)) (sure (put_back places row))

  pub faultless-all : (row : Row) (es : List Expr) → AllByRecursion IsSureOver es → AreFaultless row (map condition_of es)
  faultless-all row [] all = tt
  faultless-all row (e ∷ es) all = (all.0 row, faultless-all row es all.1)

  judged-sure : (row : Row) (es : List Expr) → AllByRecursion IsSureOver es → judged (map condition_of es) row ≡ Ok (all_true (map condition_of es) row)
  judged-sure row es all =
      ap (λ cs. judged cs row) (sym (append-nil (map condition_of es)))
      ∙ judged-faultless (map condition_of es) [] row (faultless-all row es all)
      ∙ either (all_true (map condition_of es) row)
    where
      either : (b : Bool) → cond {A = Verdict} b (Ok true) (Ok false) ≡ Ok b
      either true = refl
      either false = refl

  stage-loop : (at width : ℕ) (rows : List Row) (mine : List Expr) → AllByRecursion IsSureOver mine
      → IsLoopOf at (join_side rows width false (split at width mine [])) (loop_of_parts (record { rows = rows; width = width }) at (split at width mine []))
  stage-loop at width rows mine sure = record {
    rows = refl;
    inner = refl;
    verdict = λ l r long.
        let parts = split at width mine [] in
        let sure_rest : AllByRecursion IsSureOver parts.rest = subst (AllByRecursion IsSureOver) (sym (append-nil (rest_conjuncts at mine))) (all-kept IsSureOver (λ e. not (is_own at e) && not (is_some (key_of at e))) mine sure) in
        let front : take at (l ++ r) ≡ l = ap (λ n. take n (l ++ r)) (sym long) ∙ take-length-append l r in
        let behind : drop at (l ++ r) ≡ r = ap (λ n. drop n (l ++ r)) (sym long) ∙ drop-length-append l r in
        ap (λ verdict. cond (keys_meet parts.keys l r) verdict (Ok false)) (judged-sure (l ++ r) parts.rest sure_rest)
        ∙ both (keys_meet parts.keys l r) (all_true (map condition_of parts.rest) (l ++ r))
        ∙ ap₂ (λ a b. Ok (keys_meet parts.keys a b && all_true (map condition_of parts.rest) (l ++ r))) (sym front) (sym behind);
  }
    where
      both : (a b : Bool) → cond {A = Verdict} a (Ok b) (Ok false) ≡ Ok (a && b)
      both true b = refl
      both false b = refl

      take-length-append : (l r : Row) → take (length l) (l ++ r) ≡ l
      take-length-append [] r = refl
      take-length-append (v ∷ l) r = ap (λ t. v ∷ t) (take-length-append l r)

      drop-length-append : (l r : Row) → drop (length l) (l ++ r) ≡ r
      drop-length-append [] r = refl
      drop-length-append (v ∷ l) r = drop-length-append l r

  pub stages-are-loops : (at : ℕ) (entries : List Entry) (es : List Expr) → AllByRecursion IsSureOver es → AreLoopsOf at (sides_from at entries es) (loops_from at entries es)
  stages-are-loops at [] es sure = tt
  stages-are-loops at (entry ∷ entries) es sure =
      let n = at + entry.width in
      let mine = ready places n es in (
        stage-loop at entry.width (rows_of entry) (map (moved places) mine)
            (all-moved places IsSureOver mine (all-on IsSureOver (λ e. IsSureOver (moved places e)) moved-sure mine (all-kept IsSureOver (is_ready places n) es sure))),
        stages-are-loops n entries (later places n es) (all-kept IsSureOver (λ e. not (is_ready places n e)) es sure),
      )
