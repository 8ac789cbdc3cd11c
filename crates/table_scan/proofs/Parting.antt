-- Rows in order, and a part of them.
use Rattle.std.proofs.Common.{◌≡◌, ℕ, zero, suc, ◌+◌, ◌-◌, Bool, List, [], ◌∷◌, ◌++◌, length, map, take, drop, refl, sym, ap, subst, ◌∙◌, length-drop, arith}
use Rattle.std.specs.Prelude.{nat_lt, if◌then◌else◌, min, Option, Some, None, Result, Ok, Err, Vec, unwrap_or}
use Rattle.std.specs.Option.{option_map}
use Rattle.std.proofs.lemmas.List.{take-append-drop, take_all}
use Rattle.ooc_types.specs.declared.schema.Column.{Column}
use Rattle.bound_tree.specs.declared.select.Cut.{Cut}
use Rattle.result_print.specs.Printed.{block_text}
use Rattle.sql_meaning.specs.Found.{Row, clean}
use Rattle.sql_meaning.specs.Ordered.{limited, row_cmp, sorted}
use Rattle.sql_meaning.specs.Select.{perhaps_cut, up_to}
use Rattle.sql_meaning.specs.Statements.{cut_of, key_of}
use Rattle.script_says.specs.Block.{Exactly}
use Rattle.script_says.specs.Selecting.{Shows, TooLarge, lines_length, most_result, shown_rows}
use Rattle.table_scan.specs.declared.fault.SelectFault.{SelectFault}
use Rattle.table_scan.specs.declared.fault.SelectFault.TheVariants as fault
use Rattle.table_scan.specs.Outcomes.{IsShown, ShowsCut, ShowsPart}

none-of : (n : ℕ) → take {A = Row} n [] ≡ []
none-of zero = refl
none-of (suc n) = refl

-- a front, and so many behind it
two-fronts : (o n : ℕ) (xs : List Row) → take o xs ++ take n (drop o xs) ≡ take (o + n) xs
two-fronts zero n xs = ap (λ k. take k xs) (let e : n ≡ 0 + n = omega arith in e)
two-fronts (suc o) n [] = none-of n ∙ sym (none-of (suc o + n))
two-fronts (suc o) n (x ∷ xs) = ap (λ (l : List Row). x ∷ l) (two-fronts o n xs) ∙ ap (λ k. take k (x ∷ xs)) (let e : suc (o + n) ≡ suc o + n = omega arith in e)

counted : (o : ℕ) (limit : Option ℕ) (xs : List Row) → take o xs ++ limited limit (drop o xs) ≡ limited (option_map (λ n. o + n) limit) xs
counted o None xs = take-append-drop o xs
counted o (Some n) xs = two-fronts o n xs

-- a place past the end is the end
at-least : (xs : List Row) (o k : ℕ) → k ≡ min o (length xs) → (take k xs ≡ take o xs) × (drop k xs ≡ drop o xs)
at-least [] o k is = (none-of k ∙ sym (none-of o), no-rest k ∙ sym (no-rest o))
  where
    no-rest : (n : ℕ) → drop {A = Row} n [] ≡ []
    no-rest zero = refl
    no-rest (suc n) = refl
at-least (x ∷ xs) zero k is = let e : k ≡ 0 = omega (arith, is) in (ap (λ n. take n (x ∷ xs)) e, ap (λ n. drop n (x ∷ xs)) e)
at-least (x ∷ xs) (suc o) zero is = absurd (omega (arith, is))
at-least (x ∷ xs) (suc o) (suc k) is = let rest = at-least xs o k (omega (arith, is)) in (ap (λ (l : List Row). x ∷ l) rest.0, rest.1)

-- what is behind a place, up to the end
pub rest-whole : (o : ℕ) (xs : List Row) → take (length xs - o) (drop o xs) ≡ drop o xs
rest-whole o xs = take_all (length xs - o) (drop o xs) (omega (arith, length-drop o xs))

shown-part : {A : Type 0} (columns : List Column) (skipped rows : List Row) (result : Result (Vec ℕ A) SelectFault) → ShowsPart columns skipped rows result
    → IsShown (if nat_lt most_result (lines_length (skipped ++ rows)) then TooLarge else Shows (Exactly (block_text columns rows))) result
shown-part columns skipped rows (Err (fault.Value value)) shows = absurd shows
shown-part columns skipped rows (Err (fault.Pool why)) shows = absurd shows
shown-part columns skipped rows (Err fault.OutOfMemory) shows = tt
shown-part {A} columns skipped rows (Err fault.TooLarge) shows = subst (λ (b : Bool). IsShown {A = A} (if b then TooLarge else Shows (Exactly (block_text columns rows))) (Err fault.TooLarge)) (sym shows) tt
shown-part columns skipped rows (Ok whole) shows = subst (λ (b : Bool). IsShown (if b then TooLarge else Shows (Exactly (block_text columns rows))) (Ok whole)) (sym shows.0) shows.1

pub cut-parts : {A : Type 0} (columns : List Column) (cut : Cut) (rows all skipped shown : List Row) (o : ℕ) (result : Result (Vec ℕ A) SelectFault)
    → all ≡ sorted (row_cmp (map key_of cut.keys)) rows → o ≡ min (unwrap_or cut.offset 0) (length all) → skipped ≡ take o all → shown ≡ limited cut.limit (drop o all)
    → ShowsPart columns skipped shown result → ShowsCut columns cut rows result
cut-parts columns cut rows all skipped shown o result ordered place first rest shows =
    let offset = unwrap_or cut.offset 0 in
    let xs = sorted (row_cmp (map key_of cut.keys)) rows in
    let same = at-least all offset o place in
    let part : shown ≡ limited cut.limit (drop offset xs) = rest ∙ ap (limited cut.limit) same.1 ∙ ap (λ (l : List Row). limited cut.limit (drop offset l)) ordered in
    let front : skipped ≡ take offset xs = first ∙ same.0 ∙ ap (take offset) ordered in
    subst (λ (l : List Row). ShowsPart columns l (limited cut.limit (drop offset xs)) result) front (subst (λ (l : List Row). ShowsPart columns skipped l result) part shows)

pub cut-shown : {A : Type 0} (columns : List Column) (cut : Cut) (rows : List Row) (result : Result (Vec ℕ A) SelectFault) → ShowsCut columns cut rows result
    → IsShown (shown_rows (Some cut) columns (up_to (cut_of (Some cut)) rows) (clean (perhaps_cut (cut_of (Some cut)) rows))) result
cut-shown {A} columns cut rows result shows =
    let offset = unwrap_or cut.offset 0 in
    let xs = sorted (row_cmp (map key_of cut.keys)) rows in
    subst (λ (l : List Row). IsShown {A = A} (if nat_lt most_result (lines_length l) then TooLarge else Shows (Exactly (block_text columns (limited cut.limit (drop offset xs))))) result) (counted offset cut.limit xs)
    (shown-part columns (take offset xs) (limited cut.limit (drop offset xs)) result shows)
