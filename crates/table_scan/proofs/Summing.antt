-- What came of the rows, and what their result is meant to be.
use Rattle.std.proofs.Common.{◌≡◌, ℕ, Bool, true, false, List, [], ◌∷◌, ◌++◌, refl, sym, ap, ap₂, subst, ◌∙◌, append-nil, append_assoc, arith}
use Rattle.std.specs.Prelude.{Option, Some, None, Result, Ok, Err, Contains}
use Rattle.std.proofs.lemmas.Grind.{flat_map-append}
use Rattle.sql_expr.specs.declared.fault.ValueFault.{ValueFault}
use Rattle.sql_meaning.specs.Found.{Found, Row, clean, if_clean, unless_faulted}
use Rattle.sql_meaning.specs.Groups.{values}
use Rattle.sql_meaning.specs.Judged.{Condition, RowValue, Verdict, judged, kept, plain_first, verdict_found}
use Rattle.sql_meaning.specs.Select.{item_found, projected}
use Rattle.table_scan.specs.Sets.{scanned}
use Rattle.table_scan.specs.Sink.{Sink, line_behind, put_row, take_all, take_one, unless_noted, with_fault, with_row, with_values, with_verdict}
use Rattle.table_scan.proofs.Going.{contains-before, contains-behind, contains-here}
use Rattle.table_scan.proofs.Printing.{LinesSoFar, so-far-next, so-far-none}

-- a front and what is behind it are nothing where both are
front-nil : (xs ys : List ValueFault) → xs ++ ys ≡ [] → xs ≡ []
front-nil [] ys e = refl
front-nil (x ∷ xs) ys e = cc

back-nil : (xs ys : List ValueFault) → xs ++ ys ≡ [] → ys ≡ []
back-nil [] ys e = e
back-nil (x ∷ xs) ys e = cc

-- ---- items over one row more

found-append : (items : List RowValue) (rows : List Row) (row : Row) → projected items (rows ++ row ∷ [])
    ≡ record { rows = (projected items rows).rows ++ (item_found (values items row)).rows; faults = (projected items rows).faults ++ (item_found (values items row)).faults }
found-append items rows row =
    let a = flat_map-append (λ row. (item_found (values items row)).rows) rows (row ∷ []) ∙ ap (λ (l : List Row). (projected items rows).rows ++ l) (append-nil (item_found (values items row)).rows) in
    let b = flat_map-append (λ row. (item_found (values items row)).faults) rows (row ∷ []) ∙ ap (λ (l : List ValueFault). (projected items rows).faults ++ l) (append-nil (item_found (values items row)).faults) in
    λ k. record { rows = a k; faults = b k }

found-one : (items : List RowValue) (rows : List Row) (row : Row) (made : List Row) (values_are : Row) → projected items rows ≡ clean made → values items row ≡ Ok values_are
    → projected items (rows ++ row ∷ []) ≡ clean (made ++ values_are ∷ [])
found-one items rows row made values_are before is =
    found-append items rows row
    ∙ ap₂ (λ (f : Found Row) (r : Result Row ValueFault). record { rows = f.rows ++ (item_found r).rows; faults = f.faults ++ (item_found r).faults }) before is

-- a fault stays noted
found-still : (items : List RowValue) (rows : List Row) (row : Row) (fault : ValueFault) → Contains (projected items rows).faults fault → Contains (projected items (rows ++ row ∷ [])).faults fault
found-still items rows row fault noted =
    subst (λ (f : Found Row). Contains f.faults fault) (sym (found-append items rows row)) (contains-before (projected items rows).faults (item_found (values items row)).faults fault noted)

found-fault : (items : List RowValue) (rows : List Row) (row : Row) (fault : ValueFault) → values items row ≡ Err fault → Contains (projected items (rows ++ row ∷ [])).faults fault
found-fault items rows row fault is =
    subst (λ (f : Found Row). Contains f.faults fault) (sym (found-append items rows row))
    (contains-behind (projected items rows).faults (item_found (values items row)).faults fault
    (subst (λ (r : Result Row ValueFault). Contains (item_found r).faults fault) (sym is) (contains-here [] fault)))

-- ---- what came of the rows that are kept

abbrev pub HasRows : Bool → ℕ → List ℕ → List Row → Sink → Type 0
HasRows true limit header made sink = sink.rows ≡ made
HasRows false limit header made sink = LinesSoFar limit header made sink.text

abbrev pub HasMade : List RowValue → Bool → ℕ → List ℕ → List Row → Option ValueFault → Sink → Type 0
HasMade items orders limit header rows None sink = (made : List Row) × (projected items rows ≡ clean made) × HasRows orders limit header made sink
HasMade items orders limit header rows (Some fault) sink = Contains (projected items rows).faults fault

pub record Sums (items : List RowValue) (orders : Bool) (limit : ℕ) (header : List ℕ) (rows : List Row) (sink : Sink) : Type 0 where
  pub orders_are : sink.orders ≡ orders
  pub limit_is : sink.limit ≡ limit
  pub made : HasMade items orders limit header rows sink.fault sink

pub sums-none : (items : List RowValue) (orders : Bool) (limit : ℕ) (header : List ℕ) → Sums items orders limit header [] (record { fault = None; orders = orders; rows = []; text = header; limit = limit })
sums-none items true limit header = record { orders_are = refl; limit_is = refl; made = ([], refl, refl) }
sums-none items false limit header = record { orders_are = refl; limit_is = refl; made = ([], refl, so-far-none limit header) }

module _ (items : List RowValue) (limit : ℕ) (header : List ℕ) where
  -- a row is kept or printed
  put-kept : (orders : Bool) (rows : List Row) (sink : Sink) (made : List Row) (row : Row) → sink.limit ≡ limit → HasRows orders limit header made sink → HasRows orders limit header (made ++ row ∷ []) (put_row orders row sink)
  put-kept true rows sink made row room has = ap (λ (l : List Row). l ++ row ∷ []) has
  put-kept false rows sink made row room has =
      subst (λ (n : ℕ). LinesSoFar limit header (made ++ row ∷ []) (line_behind n sink.text row)) (sym room) (so-far-next limit header made sink.text row has)

  put-orders : (orders : Bool) (row : Row) (sink : Sink) → (put_row orders row sink).orders ≡ sink.orders
  put-orders true row sink = refl
  put-orders false row sink = refl

  put-limit : (orders : Bool) (row : Row) (sink : Sink) → (put_row orders row sink).limit ≡ sink.limit
  put-limit true row sink = refl
  put-limit false row sink = refl

  put-fault : (orders : Bool) (row : Row) (sink : Sink) → (put_row orders row sink).fault ≡ sink.fault
  put-fault true row sink = refl
  put-fault false row sink = refl

  module _ (orders : Bool) (rows : List Row) (row : Row) (sink : Sink) (before : Sums items orders limit header rows sink) where
    one-row : (made : Row) → values items row ≡ Ok made → sink.fault ≡ None → Sums items orders limit header (rows ++ row ∷ []) (with_row made sink)
    one-row made is none =
        let so_far = subst (λ (o : Option ValueFault). HasMade items orders limit header rows o sink) none before.made in
        let next = put_row orders made sink in
        let same : next ≡ with_row made sink = ap (λ (b : Bool). put_row b made sink) (sym before.orders_are) in
        subst (Sums items orders limit header (rows ++ row ∷ [])) same
        (record {
          orders_are = put-orders orders made sink ∙ before.orders_are;
          limit_is = put-limit orders made sink ∙ before.limit_is;
          made = subst (λ (o : Option ValueFault). HasMade items orders limit header (rows ++ row ∷ []) o next) (sym (put-fault orders made sink ∙ none))
              (so_far.0 ++ made ∷ [], found-one items rows row so_far.0 made so_far.1 is, put-kept orders rows sink so_far.0 made before.limit_is so_far.2);
        })

    one-fault : (fault : ValueFault) → values items row ≡ Err fault → Sums items orders limit header (rows ++ row ∷ []) (with_fault fault sink)
    one-fault fault is = record { orders_are = before.orders_are; limit_is = before.limit_is; made = found-fault items rows row fault is }

    one-value : (found : Result Row ValueFault) → values items row ≡ found → sink.fault ≡ None → Sums items orders limit header (rows ++ row ∷ []) (with_values found sink)
    one-value (Err fault) is none = one-fault fault is
    one-value (Ok made) is none = one-row made is none

    still : (fault : ValueFault) → sink.fault ≡ Some fault → Sums items orders limit header (rows ++ row ∷ []) sink
    still fault noted = record {
      orders_are = before.orders_are;
      limit_is = before.limit_is;
      made = subst (λ (o : Option ValueFault). HasMade items orders limit header (rows ++ row ∷ []) o sink) (sym noted)
          (found-still items rows row fault (subst (λ (o : Option ValueFault). HasMade items orders limit header rows o sink) noted before.made));
    }

    one-kept : (noted : Option ValueFault) → sink.fault ≡ noted → Sums items orders limit header (rows ++ row ∷ []) (unless_noted noted (values items row) sink)
    one-kept None is = one-value (values items row) refl is
    one-kept (Some fault) is = still fault is

    one-judged : (verdict : Verdict) → (verdict_found row verdict).faults ≡ [] → Sums items orders limit header (rows ++ (verdict_found row verdict).rows) (with_verdict verdict (values items row) sink)
    one-judged (Err fault) none = absurd (some none)
      where
        some : (fault ∷ []) ≡ [] → ⊥
        some e = cc
    one-judged (Ok true) none = one-kept sink.fault refl
    one-judged (Ok false) none = subst (λ (l : List Row). Sums items orders limit header l sink) (sym (append-nil rows)) before

  -- the rows of a table
  pub sums-all : (orders : Bool) (conditions : List Condition) (done rows : List Row) (sink : Sink) → (kept conditions rows).faults ≡ []
      → Sums items orders limit header done sink → Sums items orders limit header (done ++ (kept conditions rows).rows) (take_all conditions items rows sink)
  sums-all orders conditions done [] sink none so_far = subst (λ (l : List Row). Sums items orders limit header l sink) (sym (append-nil done)) so_far
  sums-all orders conditions done (row ∷ rows) sink none so_far =
      let verdict = judged (plain_first conditions) row in
      let one = one-judged orders done row sink so_far verdict (front-nil (verdict_found row verdict).faults (kept conditions rows).faults none) in
      subst (λ (l : List Row). Sums items orders limit header l (take_all conditions items rows (take_one conditions items row sink)))
      (append_assoc done (verdict_found row verdict).rows (kept conditions rows).rows)
      (sums-all orders conditions (done ++ (verdict_found row verdict).rows) rows (take_one conditions items row sink) (back-nil (verdict_found row verdict).faults (kept conditions rows).faults none) one)

-- ---- what is meant

-- where no condition faults, the items over the rows that are kept
pub scan-clean : (conditions : List Condition) (items : List RowValue) (rows : List Row) → (kept conditions rows).faults ≡ [] → scanned conditions items rows ≡ if_clean (projected items (kept conditions rows).rows) clean
scan-clean conditions items rows none = ap (λ (fs : List ValueFault). if_clean (unless_faulted fs (projected items (kept conditions rows).rows)) clean) none

faults-stay : (fs : List ValueFault) (rows : List Row) → (unless_faulted fs (clean rows)).faults ≡ fs
faults-stay [] rows = refl
faults-stay (fault ∷ fs) rows = refl

pub clean-faults : (found : Found Row) → (if_clean found clean).faults ≡ found.faults
clean-faults found = faults-stay found.faults found.rows

dropped : (fs : List ValueFault) (found : Found Row) (fault : ValueFault) → Contains fs fault → (unless_faulted fs found).faults ≡ fs
dropped [] found fault noted = absurd (nothing noted)
  where
    nothing : Contains {X = ValueFault} [] fault → ⊥
    nothing there = let within = there.1 in omega (arith, within)
dropped (first ∷ fs) found fault noted = refl

pub scan-faults : (conditions : List Condition) (items : List RowValue) (rows : List Row) (fault : ValueFault) → Contains (kept conditions rows).faults fault → Contains (scanned conditions items rows).faults fault
scan-faults conditions items rows fault noted =
    subst (λ (fs : List ValueFault). Contains fs fault)
    (sym (clean-faults (if_clean (kept conditions rows) (projected items)) ∙ dropped (kept conditions rows).faults (projected items (kept conditions rows).rows) fault noted)) noted
