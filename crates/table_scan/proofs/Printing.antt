-- Lines that were printed, as many as a limit allows.
use Rattle.std.proofs.Common.{◌≡◌, ◌⊎◌, inl, inr, ℕ, ◌+◌, ◌-◌, ◌<◌, ◌≤◌, Bool, true, false, true≢false, List, [], ◌∷◌, ◌++◌, length, refl, sym, ap, ap₂, subst, ◌∙◌, append-nil, append_assoc, length-append, arith}
use Rattle.std.specs.Prelude.{flat_map, nat_lt, if◌then◌else◌, None, Result, Ok, Err, Vec}
use Rattle.std.proofs.lemmas.Grind.{flat_map-append}
use Rattle.std.proofs.lemmas.List.Concat.{length-flat_map}
use Rattle.std.proofs.lemmas.List.Sums.{sum-map}
use Rattle.std.proofs.lemmas.Bool.{lt-ltb, le-ltb}
use Rattle.std.proofs.lemmas.Bool.Decides.{leb_tells}
use Rattle.ooc_types.specs.declared.schema.Column.{Column}
use Rattle.ooc_bags.proofs.Bags.{bag-refl}
use Rattle.result_print.specs.Printed.{block_text, header_text, row_text}
use Rattle.sql_meaning.specs.Found.{Row, clean}
use Rattle.script_says.specs.Block.{InAnyOrder}
use Rattle.script_says.specs.Selecting.{Shows, TooLarge, lines_length, most_result, shown_rows}
use Rattle.table_scan.specs.declared.fault.SelectFault.{SelectFault}
use Rattle.table_scan.specs.declared.fault.SelectFault.TheVariants as fault
use Rattle.table_scan.specs.Outcomes.{Ends, IsShown, ShowsPart}
use Rattle.table_scan.specs.Sink.{line_behind, lines_behind}

-- ---- tests on numbers

lt-tells : (n m : ℕ) → ((nat_lt n m ≡ true) × (n < m)) ⊎ ((nat_lt n m ≡ false) × (m ≤ n))
lt-tells n m = elim (leb_tells m n) [
  | inl h ↦ inr (le-ltb n m h.1, h.1)
  | inr h ↦ inl (lt-ltb n m h.1, h.1)
]

pub is-less : (n m : ℕ) → nat_lt n m ≡ true → n < m
is-less n m e = elim (lt-tells n m) [
  | inl h ↦ h.1
  | inr h ↦ absurd (true≢false (sym e ∙ h.0))
]

pub is-not-less : (n m : ℕ) → nat_lt n m ≡ false → m ≤ n
is-not-less n m e = elim (lt-tells n m) [
  | inl h ↦ absurd (true≢false (sym h.0 ∙ e))
  | inr h ↦ h.1
]

pub less : (n m : ℕ) → n < m → nat_lt n m ≡ true
less n m below = elim (lt-tells n m) [
  | inl h ↦ h.0
  | inr h ↦ let past = h.1 in absurd (omega (arith, below, past))
]

pub not-less : (n m : ℕ) → m ≤ n → nat_lt n m ≡ false
not-less n m past = elim (lt-tells n m) [
  | inl h ↦ let below = h.1 in absurd (omega (arith, below, past))
  | inr h ↦ h.0
]

-- ---- lengths of lines

pub lines-long : (rows : List Row) → length (flat_map row_text rows) ≡ lines_length rows
lines-long rows = length-flat_map row_text rows ∙ sym (sum-map (λ row. length (row_text row)) rows)

pub lines-append : (xs ys : List Row) → lines_length (xs ++ ys) ≡ lines_length xs + lines_length ys
lines-append xs ys =
    sym (lines-long (xs ++ ys)) ∙ ap length (flat_map-append row_text xs ys) ∙ length-append (flat_map row_text xs) (flat_map row_text ys)
    ∙ ap₂ (λ (n m : ℕ). n + m) (lines-long xs) (lines-long ys)

-- ---- a text so far

-- all lines behind a text; or it is too long, as it would be with all lines
abbrev pub LinesSoFar : ℕ → List ℕ → List Row → List ℕ → Type 0
LinesSoFar limit before rows text = (text ≡ before ++ flat_map row_text rows) ⊎ ((limit < length text) × (limit < length before + lines_length rows))

pub so-far-none : (limit : ℕ) (before : List ℕ) → LinesSoFar limit before [] before
so-far-none limit before = inl (sym (append-nil before))

whole-long : (before text : List ℕ) (rows : List Row) → text ≡ before ++ flat_map row_text rows → length text ≡ length before + lines_length rows
whole-long before text rows is = ap length is ∙ length-append before (flat_map row_text rows) ∙ ap (λ (n : ℕ). length before + n) (lines-long rows)

line-more : (before text : List ℕ) (rows : List Row) (row : Row) → text ≡ before ++ flat_map row_text rows → text ++ row_text row ≡ before ++ flat_map row_text (rows ++ row ∷ [])
line-more before text rows row is =
    ap (λ (l : List ℕ). l ++ row_text row) is ∙ append_assoc before (flat_map row_text rows) (row_text row)
    ∙ ap (λ (l : List ℕ). before ++ l) (sym (flat_map-append row_text rows (row ∷ []) ∙ ap (λ (l : List ℕ). flat_map row_text rows ++ l) (append-nil (row_text row))))

pub so-far-next : (limit : ℕ) (before : List ℕ) (rows : List Row) (text : List ℕ) (row : Row) → LinesSoFar limit before rows text → LinesSoFar limit before (rows ++ row ∷ []) (line_behind limit text row)
so-far-next limit before rows text row so_far = by (nat_lt limit (length text)) (lt-tells limit (length text)) so_far
  where
    longer : limit < length before + lines_length rows → limit < length before + lines_length (rows ++ row ∷ [])
    longer past = let more = lines-append rows (row ∷ []) in omega (arith, past, more)

    by : (b : Bool) → ((b ≡ true) × (limit < length text)) ⊎ ((b ≡ false) × (length text ≤ limit)) → LinesSoFar limit before rows text → LinesSoFar limit before (rows ++ row ∷ []) (if b then text else text ++ row_text row)
    by true (inl h) (inl is) = inr (h.1, longer (let past = h.1 in let long = whole-long before text rows is in omega (arith, past, long)))
    by true (inl h) (inr past) = inr (past.0, longer past.1)
    by true (inr h) s = absurd (true≢false h.0)
    by false (inl h) s = absurd (true≢false (sym h.0))
    by false (inr h) (inl is) = inl (line-more before text rows row is)
    by false (inr h) (inr past) = let a = past.0 in let b = h.1 in absurd (omega (arith, a, b))

pub so-far-all : (limit : ℕ) (before : List ℕ) (done : List Row) (text : List ℕ) (rows : List Row) → LinesSoFar limit before done text → LinesSoFar limit before (done ++ rows) (lines_behind limit text rows)
so-far-all limit before done text [] so_far = subst (λ (l : List Row). LinesSoFar limit before l text) (sym (append-nil done)) so_far
so-far-all limit before done text (row ∷ rows) so_far =
    subst (λ (l : List Row). LinesSoFar limit before l (lines_behind limit (line_behind limit text row) rows)) (append_assoc done (row ∷ []) rows)
    (so-far-all limit before (done ++ row ∷ []) (line_behind limit text row) rows (so-far-next limit before done text row so_far))

pub is-over : (limit : ℕ) (before : List ℕ) (rows : List Row) (text : List ℕ) → LinesSoFar limit before rows text → nat_lt limit (length text) ≡ true → limit < length before + lines_length rows
is-over limit before rows text (inl is) e = let past = is-less limit (length text) e in let long = whole-long before text rows is in omega (arith, past, long)
is-over limit before rows text (inr past) e = past.1

pub is-whole : (limit : ℕ) (before : List ℕ) (rows : List Row) (text : List ℕ) → LinesSoFar limit before rows text → nat_lt limit (length text) ≡ false → text ≡ before ++ flat_map row_text rows
is-whole limit before rows text (inl is) e = is
is-whole limit before rows text (inr past) e = let a = past.0 in let b = is-not-less limit (length text) e in absurd (omega (arith, a, b))

pub is-within : (limit : ℕ) (before : List ℕ) (rows : List Row) (text : List ℕ) → LinesSoFar limit before rows text → nat_lt limit (length text) ≡ false → length before + lines_length rows ≤ limit
is-within limit before rows text so_far e =
    let long = whole-long before text rows (is-whole limit before rows text so_far e) in let b = is-not-less limit (length text) e in omega (arith, long, b)

block-is : (columns : List Column) (rows : List Row) → (header_text columns ++ flat_map row_text rows) ++ 10 ∷ [] ≡ block_text columns rows
unfolding block_text
block-is columns rows = refl

pub as-block : (columns : List Column) (rows : List Row) (text whole : List ℕ) → text ≡ header_text columns ++ flat_map row_text rows → whole ≡ text ++ 10 ∷ [] → whole ≡ block_text columns rows
as-block columns rows text whole is e = e ∙ ap (λ (l : List ℕ). l ++ 10 ∷ []) is ∙ block-is columns rows

-- ---- all rows in any order

pub ends-shown : {A : Type 0} (columns : List Column) (rows : List Row) (text : List ℕ) (result : Result (Vec ℕ A) SelectFault)
    → LinesSoFar (length (header_text columns) + most_result) (header_text columns) rows text → Ends (length (header_text columns) + most_result) text result
    → IsShown (shown_rows None columns rows (clean rows)) result
ends-shown columns rows text (Err (fault.Value value)) so_far ends = absurd ends
ends-shown columns rows text (Err (fault.Pool why)) so_far ends = absurd ends
ends-shown columns rows text (Err fault.OutOfMemory) so_far ends = tt
ends-shown {A} columns rows text (Err fault.TooLarge) so_far ends =
    let past = is-over (length (header_text columns) + most_result) (header_text columns) rows text so_far ends in
    subst (λ (b : Bool). IsShown {A = A} (if b then TooLarge else Shows (InAnyOrder columns rows)) (Err fault.TooLarge)) (sym (less most_result (lines_length rows) (omega (arith, past)))) tt
ends-shown columns rows text (Ok whole) so_far ends =
    let within = is-within (length (header_text columns) + most_result) (header_text columns) rows text so_far ends.0 in
    let is = is-whole (length (header_text columns) + most_result) (header_text columns) rows text so_far ends.0 in
    subst (λ (b : Bool). IsShown (if b then TooLarge else Shows (InAnyOrder columns rows)) (Ok whole)) (sym (not-less most_result (lines_length rows) (omega (arith, within))))
    (rows, bag-refl rows, as-block columns rows text whole.items is ends.1)

-- ---- a part of the rows

pub part-over : (skipped rows : List Row) (text : List ℕ) → text ≡ lines_behind most_result [] skipped → nat_lt most_result (length text) ≡ true → nat_lt most_result (lines_length (skipped ++ rows)) ≡ true
part-over skipped rows text is e =
    let so_far = subst (LinesSoFar most_result [] skipped) (sym is) (so-far-all most_result [] [] [] skipped (so-far-none most_result [])) in
    let past = is-over most_result [] skipped text so_far e in
    let more = lines-append skipped rows in
    less most_result (lines_length (skipped ++ rows)) (omega (arith, past, more))

pub part-ends : {A : Type 0} (columns : List Column) (skipped rows : List Row) (before text : List ℕ) (limit : ℕ) (result : Result (Vec ℕ A) SelectFault)
    → before ≡ lines_behind most_result [] skipped → nat_lt most_result (length before) ≡ false → limit ≡ length (header_text columns) + (most_result - length before)
    → text ≡ lines_behind limit (header_text columns) rows → Ends limit text result → ShowsPart columns skipped rows result
part-ends columns skipped rows before text limit (Err (fault.Value value)) was small room is ends = ends
part-ends columns skipped rows before text limit (Err (fault.Pool why)) was small room is ends = ends
part-ends columns skipped rows before text limit (Err fault.OutOfMemory) was small room is ends = tt
part-ends columns skipped rows before text limit (Err fault.TooLarge) was small room is ends =
    let first = subst (LinesSoFar most_result [] skipped) (sym was) (so-far-all most_result [] [] [] skipped (so-far-none most_result [])) in
    let long = whole-long [] before skipped (is-whole most_result [] skipped before first small) in
    let second = subst (LinesSoFar limit (header_text columns) rows) (sym is) (so-far-all limit (header_text columns) [] (header_text columns) rows (so-far-none limit (header_text columns))) in
    let past = is-over limit (header_text columns) rows text second ends in
    let more = lines-append skipped rows in
    less most_result (lines_length (skipped ++ rows)) (omega (arith, long, room, past, more))
part-ends columns skipped rows before text limit (Ok whole) was small room is ends =
    let first = subst (LinesSoFar most_result [] skipped) (sym was) (so-far-all most_result [] [] [] skipped (so-far-none most_result [])) in
    let long = whole-long [] before skipped (is-whole most_result [] skipped before first small) in
    let fits = is-not-less most_result (length before) small in
    let second = subst (LinesSoFar limit (header_text columns) rows) (sym is) (so-far-all limit (header_text columns) [] (header_text columns) rows (so-far-none limit (header_text columns))) in
    let within = is-within limit (header_text columns) rows text second ends.0 in
    let more = lines-append skipped rows in
    (not-less most_result (lines_length (skipped ++ rows)) (omega (arith, long, fits, room, within, more)), as-block columns rows text whole.items (is-whole limit (header_text columns) rows text second ends.0) ends.1)
