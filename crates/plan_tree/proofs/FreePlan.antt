-- The plan of a free FROM means the SELECT.
use Rattle.std.proofs.Common.{◌≡◌, ℕ, zero, suc, ◌+◌, ◌<◌, ◌≤◌, Bool, true, false, cond, not, ◌&&◌, List, [], ◌∷◌, ◌++◌, map, take, drop, length, get_or, refl, sym, ap, ap₂, ◌∙◌, subst, arith, append-nil, append_assoc, length-append, Ok}
use Rattle.std.specs.Prelude.{filter, flat_map, nat_lt, slice_index_or}
use Rattle.std.specs.List.{AllByRecursion, list_all, filter_map, range_with_len}
use Rattle.std.proofs.lemmas.Bool.Decides.{nat_tests}
use Rattle.std.proofs.lemmas.List.{take-append-drop}
use Rattle.ooc_bags.specs.Rearranged.{IsRearranged}
use Rattle.sql_expr.specs.declared.tree.Expr.{Expr}
use Rattle.sql_expr.specs.Meaning.{value_of}
use Rattle.sql_meaning.specs.Found.{Row}
use Rattle.sql_meaning.specs.Judged.{Condition, Verdict, judged, plain_first, is_plain}
use Rattle.sql_meaning.specs.From.{Source}
use Rattle.sql_meaning.specs.Ordered.{value_at}
use Rattle.sql_meaning.specs.Moved.{moved}
use Rattle.sql_meaning.specs.Plan.{put_back, IsRenamedAbove, IsFreePlan}
use Rattle.sql_meaning.specs.Renamed.{AreSaid}
use Rattle.sql_meaning.specs.Select.{Core}
use Rattle.sql_meaning.specs.Pool.{IsPlainCondition, all_true, SayOf}
use Rattle.sql_meaning.specs.Free.{Table, Loop, IsWide, IsFree, tables_of, width_of, loop_of, is_kept, all_pass, places_of}
use Rattle.sql_meaning.specs.Stage.{is_true}
use Rattle.sql_meaning.specs.Statements.{condition_of}
use Rattle.sql_meaning.proofs.FreeSources.{free-of-plain, plain_first-plain}
use Rattle.sql_meaning.proofs.JoinStages.{all-SameBag, judged-faultless}
use Rattle.sql_meaning.proofs.PoolLemmas.{all-over, all_pass-say}
use Rattle.sql_meaning.proofs.MovedLemmas.{moved-value}
use Rattle.plan_tree.specs.Columns.{columns_of}
use Rattle.plan_tree.specs.declared.parts.Linked.{Linked}
use Rattle.plan_tree.specs.Split.{top_of, top, linked_columns}
use Rattle.plan_tree.specs.declared.parts.Entry.{Entry}
use Rattle.plan_tree.specs.Order.{Pick, pick, comes_before, picks, columns_in, places_of_picks}
use Rattle.plan_tree.specs.FreeFrom.{FreeTable, entries_from, ons_of, names_columns, pool_of, picks_of, places_of_plan, named, bare}
use Rattle.plan_tree.specs.Given.{Given, tables_given, source_of, rows_given, total_width, AreGiven}
use Rattle.plan_tree.proofs.ColumnLemmas.{value-agrees}
use Rattle.plan_tree.proofs.JoinLemmas.{map-over, all-pass, all-kept, all-on, all-mapped}
use Rattle.plan_tree.proofs.MovedColumns.{columns-moved}
use Rattle.plan_tree.proofs.OrderLemmas.{items, pick-is, rearranged-picks, reordered-picks, width-columns}
use Rattle.plan_tree.proofs.FreeLemmas.{table_of, loops_from, lists_from, tables-of-loops, loops-say, each-acts-once, IsSureOver, moved-sure, faultless-all, all-moved, take-value, below-top, bag-of-two}

-- ---- the tables of the entries are those of FROM

item-at : {A : Type 0} (front : List A) (item : A) (back : List A) (place : ℕ) (d : A) → length front ≡ place → slice_index_or (front ++ item ∷ back) place d ≡ item
item-at [] item back place d e = ap (λ n. slice_index_or (item ∷ back) n d) (sym e)
item-at (f ∷ front) item back zero d e = absurd (omega arith)
item-at (f ∷ front) item back (suc place) d e = item-at front item back place d (omega arith)

given-at : (givens front : List Given) (given : Given) (back : List Given) (place start : ℕ) → length front ≡ place → front ++ given ∷ back ≡ givens
    → rows_given givens (record { place = place; start = start; width = given.table.width; rows = given.table.rows }) ≡ given.rows
given-at [] [] given back place start long whole = cc
given-at [] (f ∷ front) given back place start long whole = cc
given-at (first ∷ givens) front given back place start long whole =
    ap (λ list. (slice_index_or list place first).rows) (sym whole) ∙ ap (λ (g : Given). g.rows) (item-at front given back place first long)

module _ (givens : List Given) where
  entries-tables : (front rest : List Given) (place start : ℕ) → length front ≡ place → front ++ rest ≡ givens
      → map (table_of (rows_given givens) []) (entries_from place start (tables_given rest)) ≡ tables_of (map loop_of (map source_of rest))
  entries-tables front [] place start long whole = refl
  entries-tables front (given ∷ rest) place start long whole =
      let long-again = length-append front (given ∷ []) in
      ap₂ ◌∷◌ (λ i. record { rows = given-at givens front given rest place start long whole i; width = given.table.width })
      (entries-tables (front ++ given ∷ []) rest (place + 1) (start + given.table.width) (omega arith) (append_assoc front (given ∷ []) rest ∙ whole))

-- ---- where the columns stand

columns-over : (xs ys : List Entry) → columns_in (xs ++ ys) ≡ columns_in xs + columns_in ys
columns-over [] ys = omega arith
columns-over (x ∷ xs) ys = let e = columns-over xs ys in omega arith

columns-of-entries : (givens : List Given) (place start : ℕ) → columns_in (entries_from place start (tables_given givens)) ≡ total_width givens
columns-of-entries [] place start = refl
columns-of-entries (given ∷ givens) place start = ap (λ n. given.table.width + n) (columns-of-entries givens (place + 1) (start + given.table.width))

length-of-entries : (givens : List Given) (place start : ℕ) → length (entries_from place start (tables_given givens)) ≡ length (tables_given givens)
length-of-entries [] place start = refl
length-of-entries (given ∷ givens) place start = ap suc (length-of-entries givens (place + 1) (start + given.table.width))

module _ (pool : List Linked) where
  columns-picked : (n : ℕ) (placed left : List Entry) → length left ≤ n → columns_in (items (picks n pool placed left)) ≡ columns_in left
  columns-picked zero placed [] within = refl
  columns-picked zero placed (x ∷ xs) within = absurd (omega arith)
  columns-picked (suc n) placed [] within = refl
  columns-picked (suc n) placed (x ∷ xs) within =
      let one = pick (comes_before pool placed) x xs in
      let is = pick-is (comes_before pool placed) x xs in
      let whole : columns_in (x ∷ xs) ≡ columns_in (one.front ++ one.item ∷ one.back) = ap columns_in is in
      let long : length (x ∷ xs) ≡ length (one.front ++ one.item ∷ one.back) = ap length is in
      let a = length-append one.front (one.item ∷ one.back) in
      let b = length-append one.front one.back in
      let c = columns-over one.front (one.item ∷ one.back) in
      let d = columns-over one.front one.back in
      let rest = columns-picked n (placed ++ one.item ∷ []) (one.front ++ one.back) (omega arith) in
      omega arith

length-range : (from n : ℕ) → length (range_with_len from n) ≡ n
length-range from zero = refl
length-range from (suc n) = ap suc (length-range (from + 1) n)

length-cut : {A : Type 0} (k : ℕ) (xs ys : List A) → length (take k xs ++ (ys ++ drop k xs)) ≡ length ys + length xs
length-cut k xs ys =
    let a = length-append (take k xs) (ys ++ drop k xs) in
    let b = length-append ys (drop k xs) in
    let c = length-append (take k xs) (drop k xs) in
    let d = ap length (take-append-drop k xs) in
    omega arith

length-places : (at : ℕ) (ps : List (Pick Entry)) → length (places_of_picks at ps) ≡ columns_in (items ps)
length-places at [] = refl
length-places at (one ∷ more) =
    let a = length-cut (columns_in one.front) (places_of_picks (at + one.item.width) more) (range_with_len at one.item.width) in
    let b = length-range at one.item.width in
    let c = length-places (at + one.item.width) more in
    omega arith

all-over-lists : {A : Type 0} (P : A → Type 0) (xs ys : List A) → AllByRecursion P xs → AllByRecursion P ys → AllByRecursion P (xs ++ ys)
all-over-lists P [] ys a b = b
all-over-lists P (x ∷ xs) ys a b = (a.0, all-over-lists P xs ys a.1 b)

all-take : {A : Type 0} (P : A → Type 0) (k : ℕ) (xs : List A) → AllByRecursion P xs → AllByRecursion P (take k xs)
all-take P zero xs all = tt
all-take P (suc k) [] all = tt
all-take P (suc k) (x ∷ xs) all = (all.0, all-take P k xs all.1)

all-drop : {A : Type 0} (P : A → Type 0) (k : ℕ) (xs : List A) → AllByRecursion P xs → AllByRecursion P (drop k xs)
all-drop P zero xs all = all
all-drop P (suc k) [] all = tt
all-drop P (suc k) (x ∷ xs) all = all-drop P k xs all.1

range-below : (from n limit : ℕ) → from + n ≤ limit → AllByRecursion (λ p. p < limit) (range_with_len from n)
range-below from zero limit within = tt
range-below from (suc n) limit within = (omega arith, range-below (from + 1) n limit (omega arith))

places-below : (at limit : ℕ) (ps : List (Pick Entry)) → at + columns_in (items ps) ≤ limit → AllByRecursion (λ p. p < limit) (places_of_picks at ps)
places-below at limit [] within = tt
places-below at limit (one ∷ more) within =
    let rest = places-below (at + one.item.width) limit more (omega arith) in
    all-over-lists (λ p. p < limit) (take (columns_in one.front) (places_of_picks (at + one.item.width) more)) (range_with_len at one.item.width ++ drop (columns_in one.front) (places_of_picks (at + one.item.width) more))
    (all-take (λ p. p < limit) (columns_in one.front) (places_of_picks (at + one.item.width) more) rest)
    (all-over-lists (λ p. p < limit) (range_with_len at one.item.width) (drop (columns_in one.front) (places_of_picks (at + one.item.width) more))
    (range-below at one.item.width limit (omega arith)) (all-drop (λ p. p < limit) (columns_in one.front) (places_of_picks (at + one.item.width) more) rest))

-- the columns of a conjunct have places in the plan's row
get-below : (limit : ℕ) (places : List ℕ) (c : ℕ) → AllByRecursion (λ p. p < limit) places → c < length places → get_or places c 0 < limit
get-below limit [] c all below = absurd (omega arith)
get-below limit (p ∷ places) zero all below = all.0
get-below limit (p ∷ places) (suc c) all below = get-below limit places c all.1 (omega arith)

top-within : (limit : ℕ) (places cs : List ℕ) → AllByRecursion (λ p. p < limit) places → AllByRecursion (λ c. c < length places) cs → top_of (map (λ c. get_or places c 0) cs) ≤ limit
top-within limit places [] all below = omega arith
top-within limit places (c ∷ cs) all below =
    let here = get-below limit places c all below.0 in
    let rest = top-within limit places cs all below.1 in
    omega arith

top-some : (places cs : List ℕ) → 0 < top_of cs → 0 < top_of (map (λ c. get_or places c 0) cs)
top-some places [] some = absurd (omega arith)
top-some places (c ∷ cs) some = omega arith

module _ (limit : ℕ) (places : List ℕ) (below : AllByRecursion (λ p. p < limit) places) where
  pub moved-within : (e : Expr) → top e ≤ length places → top (moved places e) ≤ limit
  moved-within e within =
      let placed = below-top (columns_of e) (length places) within in
      subst (λ n. n ≤ limit) (sym (ap top_of (columns-moved places e placed))) (top-within limit places (columns_of e) below placed)

  pub moved-some : (e : Expr) → top e ≤ length places → 0 < top e → 0 < top (moved places e)
  moved-some e within some =
      let placed = below-top (columns_of e) (length places) within in
      subst (λ n. 0 < n) (sym (ap top_of (columns-moved places e placed))) (top-some places (columns_of e) some)

-- ---- the written loops

written-says : (row : Row) (at width : ℕ) (on : List Expr) → AllByRecursion (λ e. top e ≤ at + width) on → all_true (map condition_of on) (take (at + width) row) ≡ all_true (map condition_of on) row
written-says row at width [] within = refl
written-says row at width (e ∷ on) within =
    ap₂ ◌&&◌ (ap is_true (value-agrees (take (at + width) row) row e
    (all-on (λ c. c < at + width) (λ c. value_at c (take (at + width) row) ≡ value_at c row) (λ c below. take-value row (at + width) c below) (columns_of e) (below-top (columns_of e) (at + width) within.0))))
    (written-says row at width on within.1)

all-plain : (on : List Expr) → AllByRecursion (λ e. IsPlainCondition (condition_of e)) on → AllByRecursion IsPlainCondition (map condition_of on)
all-plain [] all = tt
all-plain (e ∷ on) all = (all.0, all-plain on all.1)

all-sure : (es : List Expr) → AllByRecursion (λ e. IsPlainCondition (condition_of e)) es → AllByRecursion (IsSureOver (λ e. []) []) es
all-sure es all = all-on (λ e. IsPlainCondition (condition_of e)) (IsSureOver (λ e. []) []) (λ e h. h.sure) es all

kept-sure : (on : List Expr) → AllByRecursion (λ e. IsPlainCondition (condition_of e)) on → (row : Row) → is_kept (judged (plain_first (map condition_of on)) row) ≡ all_true (map condition_of on) row
kept-sure on all row =
    ap (λ cs. is_kept (judged cs row)) (plain_first-plain (map condition_of on) (all-plain on all) ∙ sym (append-nil (map condition_of on)))
    ∙ ap is_kept (judged-faultless (map condition_of on) [] row (faultless-all (λ e. []) [] row on (all-sure on all)))
    ∙ either (all_true (map condition_of on) row)
  where
    either : (b : Bool) → is_kept (cond {A = Verdict} b (Ok true) (Ok false)) ≡ b
    either true = refl
    either false = refl

and-true : (b : Bool) → (b && true) ≡ b
and-true true = refl
and-true false = refl

written-loops : (row : Row) (at : ℕ) (givens : List Given) → AreGiven at givens
    → SayOf (λ r. r) row at (map loop_of (map source_of givens)) (map (λ (given : Given). map condition_of given.table.on) givens)
written-loops row at [] are = tt
written-loops row at (given ∷ givens) are = (
  and-true (is_kept (judged (plain_first (map condition_of given.table.on)) (take (at + given.table.width) row)))
      ∙ kept-sure given.table.on are.1.0 (take (at + given.table.width) row) ∙ written-says row at given.table.width given.table.on are.1.1.0,
  written-loops row (at + given.table.width) givens are.1.1.1,
)

-- ---- the whole

all-split : {A : Type 0} (P : A → Type 0) (front : List A) (x : A) (back : List A) → AllByRecursion P (front ++ x ∷ back) → P x × AllByRecursion P (front ++ back)
all-split P [] x back all = (all.0, all.1)
all-split P (y ∷ front) x back all = let rest = all-split P front x back all.1 in (rest.0, (all.0, rest.1))

pub all-rearranged : {A : Type 0} (P : A → Type 0) (xs ys : List A) → IsRearranged xs ys → AllByRecursion P ys → AllByRecursion P xs
all-rearranged P [] ys is all = tt
all-rearranged P (x ∷ xs) ys is all = let two = all-split P is.0 x is.1 (subst (AllByRecursion P) is.2 all) in (two.0, all-rearranged P xs (is.0 ++ is.1) is.3 two.1)

free-sources : (at : ℕ) (givens : List Given) → AreGiven at givens → AllByRecursion IsFree (map source_of givens)
free-sources at [] are = tt
free-sources at (given ∷ givens) are = (free-of-plain (source_of given) refl (all-plain given.table.on are.1.0), free-sources (at + given.table.width) givens are.1.1.1)

wide-tables : (at : ℕ) (givens : List Given) → AreGiven at givens → AllByRecursion IsWide (tables_of (map loop_of (map source_of givens)))
wide-tables at [] are = tt
wide-tables at (given ∷ givens) are = (are.0, wide-tables (at + given.table.width) givens are.1.1.1)

no-faults : (givens : List Given) → flat_map (λ (source : Source). source.found.faults) (map source_of givens) ≡ []
no-faults [] = refl
no-faults (given ∷ givens) = no-faults givens

all-ons : (givens : List Given) → flat_map (λ list. list) (map (λ (given : Given). map condition_of given.table.on) givens) ≡ map condition_of (ons_of (tables_given givens))
all-ons [] = refl
all-ons (given ∷ givens) = ap (λ l. map condition_of given.table.on ++ l) (all-ons givens) ∙ sym (map-over condition_of given.table.on (ons_of (tables_given givens)))

ons-within : (at : ℕ) (givens : List Given) → AreGiven at givens → AllByRecursion (λ e. top e ≤ at + total_width givens) (ons_of (tables_given givens))
ons-within at [] are = tt
ons-within at (given ∷ givens) are =
    all-over-lists (λ e. top e ≤ at + (given.table.width + total_width givens)) given.table.on (ons_of (tables_given givens))
    (all-on (λ e. top e ≤ at + given.table.width) (λ e. top e ≤ at + (given.table.width + total_width givens)) (λ e h. omega arith) given.table.on are.1.1.0)
    (all-on (λ e. top e ≤ (at + given.table.width) + total_width givens) (λ e. top e ≤ at + (given.table.width + total_width givens)) (λ e h. omega arith) (ons_of (tables_given givens)) (ons-within (at + given.table.width) givens are.1.1.1))

ons-plain : (at : ℕ) (givens : List Given) → AreGiven at givens → AllByRecursion (λ e. IsPlainCondition (condition_of e)) (ons_of (tables_given givens))
ons-plain at [] are = tt
ons-plain at (given ∷ givens) are = all-over-lists (λ e. IsPlainCondition (condition_of e)) given.table.on (ons_of (tables_given givens)) are.1.0 (ons-plain (at + given.table.width) givens are.1.1.1)

some-of : (n : ℕ) → nat_lt 0 n ≡ true → 0 < n
some-of n e = grind (arith, nat_tests)

bare-says : (places : List ℕ) (row : Row) (es : List Expr) → all_true (map condition_of (map (moved places) es)) row ≡ all_true (map condition_of es) (put_back places row)
bare-says places row [] = refl
bare-says places row (e ∷ es) = ap₂ ◌&&◌ (ap is_true (moved-value places row e)) (bare-says places row es)

and-turn : (a b : Bool) → (a && b) ≡ (b && a)
and-turn true true = refl
and-turn true false = refl
and-turn false true = refl
and-turn false false = refl

-- the order of the plan's tables, and that the columns are put back by the plan's places
pub record Ordered (xs ys : List Table) (places : List ℕ) : Type 0 where
  pub order : IsRearranged xs ys
  pub same : places_of xs ys order ≡ places

module _ (givens : List Given) (plain : List Expr) where
  abbrev pub plan_tables : List FreeTable
  plan_tables = tables_given givens

  abbrev pub plan_entries : List Entry
  plan_entries = items (picks_of plan_tables plain)

  abbrev pub plan_places : List ℕ
  plan_places = places_of_plan plan_tables plain

  abbrev pub plan_loops : List Loop
  plan_loops = loops_from (rows_given givens) plan_places 0 plan_entries (named plan_tables plain)

  links_of : List Linked
  links_of = filter_map linked_columns (pool_of plan_tables plain)

  enough : length (entries_from 0 0 plan_tables) ≤ length plan_tables
  enough = let e = length-of-entries givens 0 0 in omega arith

  pub plan-ordered : Ordered (tables_of plan_loops) (tables_of (map loop_of (map source_of givens))) plan_places
  unfolding links_of
  plan-ordered =
      let table = table_of (rows_given givens) plan_places in
      let first : Ordered (map table plan_entries) (map table (entries_from 0 0 plan_tables)) plan_places = record {
        order = rearranged-picks table links_of (length plan_tables) [] (entries_from 0 0 plan_tables) enough;
        same = reordered-picks table links_of (λ e. refl) (length plan_tables) [] (entries_from 0 0 plan_tables) enough 0;
      } in
      subst (λ ys. Ordered (tables_of plan_loops) ys plan_places) (entries-tables givens [] givens 0 0 refl refl)
      (subst (λ xs. Ordered xs (map table (entries_from 0 0 plan_tables)) plan_places) (sym (tables-of-loops (rows_given givens) plan_places 0 plan_entries (named plan_tables plain))) first)

  columns-all : columns_in plan_entries ≡ total_width givens
  unfolding links_of
  columns-all = columns-picked links_of (length plan_tables) [] (entries_from 0 0 plan_tables) enough ∙ columns-of-entries givens 0 0

  places-all : length plan_places ≡ total_width givens
  places-all = length-places 0 (picks_of plan_tables plain) ∙ columns-all

  module _ (are : AreGiven 0 givens) (sure : AllByRecursion (λ e. IsPlainCondition (condition_of e)) plain) (within : AllByRecursion (λ e. top e ≤ total_width givens) plain) where
    pool-within : AllByRecursion (λ e. top e ≤ length plan_places) (pool_of plan_tables plain)
    pool-within =
        let long = places-all in
        all-on (λ e. top e ≤ total_width givens) (λ e. top e ≤ length plan_places) (λ e h. omega arith) (pool_of plan_tables plain)
        (all-over-lists (λ e. top e ≤ total_width givens) plain (ons_of plan_tables) within
        (all-on (λ e. top e ≤ 0 + total_width givens) (λ e. top e ≤ total_width givens) (λ e h. omega arith) (ons_of plan_tables) (ons-within 0 givens are)))

    pool-plain : AllByRecursion (λ e. IsPlainCondition (condition_of e)) (pool_of plan_tables plain)
    pool-plain = all-over-lists (λ e. IsPlainCondition (condition_of e)) plain (ons_of plan_tables) sure (ons-plain 0 givens are)

    pub pool-sure : AllByRecursion (IsSureOver (rows_given givens) plan_places) (pool_of plan_tables plain)
    pool-sure = all-on (λ e. IsPlainCondition (condition_of e)) (IsSureOver (rows_given givens) plan_places) (λ e h. h.sure) (pool_of plan_tables plain) pool-plain

    places-under : AllByRecursion (λ p. p < columns_in plan_entries) plan_places
    places-under = places-below 0 (columns_in plan_entries) (picks_of plan_tables plain) (omega arith)

    named-within : AllByRecursion (λ e. top (moved plan_places e) ≤ 0 + columns_in plan_entries) (named plan_tables plain)
    named-within =
        all-on (λ e. top e ≤ length plan_places) (λ e. top (moved plan_places e) ≤ 0 + columns_in plan_entries)
        (λ e h. let k = moved-within (columns_in plan_entries) plan_places places-under e h in omega arith) (named plan_tables plain)
        (all-kept (λ e. top e ≤ length plan_places) names_columns (pool_of plan_tables plain) pool-within)

    named-some : AllByRecursion (λ e. 0 < top (moved plan_places e)) (named plan_tables plain)
    named-some =
        both (named plan_tables plain) (all-kept (λ e. top e ≤ length plan_places) names_columns (pool_of plan_tables plain) pool-within) (all-pass names_columns (pool_of plan_tables plain))
      where
        both : (es : List Expr) → AllByRecursion (λ e. top e ≤ length plan_places) es → AllByRecursion (λ e. names_columns e ≡ true) es → AllByRecursion (λ e. 0 < top (moved plan_places e)) es
        both [] a b = tt
        both (e ∷ es) a b = (moved-some (columns_in plan_entries) plan_places places-under e a.0 (some-of (top e) b.0), both es a.1 b.1)

    pub plan-tests : (row : Row) → length row ≡ width_of (tables_of plan_loops)
        → (all_true (map condition_of (map (moved plan_places) (bare plan_tables plain))) row && all_pass 0 plan_loops row)
        ≡ (all_true (map condition_of plain) (put_back plan_places row) && all_pass 0 (map loop_of (map source_of givens)) (put_back plan_places row))
    plan-tests row long =
        let R = put_back plan_places row in
        let p : Expr → Bool = λ e. is_true (value_of R e) in
        let widths : width_of (tables_of plan_loops) ≡ columns_in plan_entries =
        ap width_of (tables-of-loops (rows_given givens) plan_places 0 plan_entries (named plan_tables plain)) ∙ width-columns (table_of (rows_given givens) plan_places) [] (λ e. refl) plan_entries in
        let lists = lists_from (rows_given givens) plan_places 0 plan_entries (named plan_tables plain) in
        let said : all_pass 0 plan_loops row ≡ list_all p (named plan_tables plain) =
        all_pass-say (put_back plan_places) row 0 plan_loops lists (loops-say (rows_given givens) plan_places row 0 plan_entries (named plan_tables plain) (omega arith))
        ∙ all-SameBag (λ c. is_true (c.says R)) (flat_map (λ list. list) lists) (map condition_of (named plan_tables plain))
        (each-acts-once (rows_given givens) plan_places 0 plan_entries (named plan_tables plain) named-some named-within)
        ∙ all-mapped R (named plan_tables plain) in
        let bared : all_true (map condition_of (map (moved plan_places) (bare plan_tables plain))) row ≡ list_all p (bare plan_tables plain) = bare-says plan_places row (bare plan_tables plain) ∙ all-mapped R (bare plan_tables plain) in
        let written : all_pass 0 (map loop_of (map source_of givens)) R ≡ list_all p (ons_of plan_tables) =
        all_pass-say (λ r. r) R 0 (map loop_of (map source_of givens)) (map (λ (given : Given). map condition_of given.table.on) givens) (written-loops R 0 givens are)
        ∙ ap (λ cs. all_true cs R) (all-ons givens) ∙ all-mapped R (ons_of plan_tables) in
        ap₂ ◌&&◌ bared said
        ∙ and-turn (list_all p (bare plan_tables plain)) (list_all p (named plan_tables plain))
        ∙ sym (all-over p (named plan_tables plain) (bare plan_tables plain))
        ∙ all-SameBag p (named plan_tables plain ++ bare plan_tables plain) (pool_of plan_tables plain) (bag-of-two (rows_given givens) plan_places names_columns (pool_of plan_tables plain))
        ∙ all-over p plain (ons_of plan_tables)
        ∙ sym (ap₂ ◌&&◌ (all-mapped R plain) written)

    pub plan-free : (core : Core) (left : List Condition) (planned : Core) → filter is_plain core.conjuncts ≡ map condition_of plain
        → AreSaid (put_back plan_places) (filter (λ c. not (is_plain c)) core.conjuncts) left
        → IsRenamedAbove (put_back plan_places) core planned core.grouping planned.grouping → planned.distinct ≡ core.distinct
        → IsFreePlan core (map source_of givens) plan_loops (map condition_of (map (moved plan_places) (bare plan_tables plain))) left planned
    plan-free core left planned are_plain said above distinct =
        let ordered = plan-ordered in
        let rest = filter (λ c. not (is_plain c)) core.conjuncts in
        record {
          no_fault = no-faults givens;
          free = free-sources 0 givens are;
          wide = wide-tables 0 givens are;
          order = ordered.order;
          wide_loops = all-rearranged IsWide (tables_of plan_loops) (tables_of (map loop_of (map source_of givens))) ordered.order (wide-tables 0 givens are);
          sure = λ row. faultless-all (rows_given givens) plan_places row (map (moved plan_places) (bare plan_tables plain))
              (all-moved plan_places (IsSureOver (rows_given givens) plan_places) (bare plan_tables plain)
              (all-on (IsSureOver (rows_given givens) plan_places) (λ e. IsSureOver (rows_given givens) plan_places (moved plan_places e)) (moved-sure (rows_given givens) plan_places) (bare plan_tables plain)
              (all-kept (IsSureOver (rows_given givens) plan_places) (λ e. not (names_columns e)) (pool_of plan_tables plain) pool-sure)));
          pushed = all_true (map condition_of plain);
          tests = λ row long. plan-tests row long ∙ ap (λ places. all_true (map condition_of plain) (put_back places row) && all_pass 0 (map loop_of (map source_of givens)) (put_back places row)) (sym ordered.same);
          rest = rest;
          splits = λ row.
              ap (λ cs. judged (cs ++ rest) row) are_plain
              ∙ judged-faultless (map condition_of plain) rest row (faultless-all (rows_given givens) plan_places row plain (all-on (λ e. IsPlainCondition (condition_of e)) (IsSureOver (rows_given givens) plan_places) (λ e h. h.sure) plain sure));
          renamed = subst (λ places. AreSaid (put_back places) rest left) (sym ordered.same) said;
          above = subst (λ places. IsRenamedAbove (put_back places) core planned core.grouping planned.grouping) (sym ordered.same) above;
          distinct = distinct;
        }
