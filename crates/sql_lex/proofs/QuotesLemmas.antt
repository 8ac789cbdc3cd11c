-- How far it is to the closing quote, one step on.
use Rattle.std.proofs.Common.{◌≡◌, ◌≢◌, ℕ, suc, ◌+◌, ◌<◌, List, [], ◌∷◌, length, drop, get_or, Some, None, false, arith, drop-cons, add-one, refl, ap, ◌∙◌, sym, eq-eqb, ◌⊎◌, inl, inr, ◌≤◌, Bool, ◌++◌, subst}
use Rattle.std.specs.List.{list_all}
use Rattle.std.proofs.Math.ListN.{drop_of_length-le}
use Rattle.std.proofs.lemmas.Bool.{ne_eqb, lt-leb, cases_eq}
use Rattle.std.specs.Prelude.{Option}
use Rattle.std.specs.Option.{option_map}
use Rattle.std.proofs.Math.Bool.{and-false, ◌&&◌}
use Rattle.std.proofs.Math.Dec.{leb, ltb}
use Rattle.sql_lex.specs.Fronts.{is_quoted_name}
use Rattle.sql_lex.specs.Quotes.{to_closing, undoubled, doubled, BeginsOther, IsClosedAt}

-- a count that is moved on twice
pub moved : (found : Option ℕ) (at k : ℕ) → option_map (λ n. n + at) (option_map (λ n. n + k) found) ≡ option_map (λ n. n + (at + k)) found
moved None at k = refl
moved (Some n) at k = ap Some (omega arith)

-- past a byte that is no quote
pub to_closing-plain : (quote c : ℕ) (rest : List ℕ) → c ≢ quote → to_closing quote (c ∷ rest) ≡ option_map (λ n. n + 1) (to_closing quote rest)
to_closing-plain quote c [] other = rw (ne_eqb c quote other)
to_closing-plain quote c (d ∷ rest) other = rw (ne_eqb c quote other)

-- past a doubled quote
pub to_closing-doubled : (quote c d : ℕ) (rest : List ℕ) → c ≡ quote → d ≡ quote → to_closing quote (c ∷ d ∷ rest) ≡ option_map (λ n. n + 2) (to_closing quote rest)
to_closing-doubled quote c d rest first second = rw (eq-eqb c quote first, eq-eqb d quote second)

-- the loop's steps: what is left after them gives the whole, moved on by as many more
pub to_closing-step_plain : (quote : ℕ) (inside : List ℕ) (at : ℕ) (whole : Option ℕ) → at < length inside → get_or inside at 0 ≢ quote
    → whole ≡ option_map (λ n. n + at) (to_closing quote (drop at inside)) → whole ≡ option_map (λ n. n + (at + 1)) (to_closing quote (drop (at + 1) inside))
to_closing-step_plain quote inside at whole within other so_far =
    let cut : drop at inside ≡ get_or inside at 0 ∷ drop (at + 1) inside = rw (add-one, drop-cons inside at 0) in
    so_far ∙ ap (λ (s : List ℕ). option_map (λ n. n + at) (to_closing quote s)) cut
    ∙ ap (option_map (λ n. n + at)) (to_closing-plain quote (get_or inside at 0) (drop (at + 1) inside) other)
    ∙ moved (to_closing quote (drop (at + 1) inside)) at 1

pub to_closing-step_doubled : (quote : ℕ) (inside : List ℕ) (at : ℕ) (whole : Option ℕ) → at + 1 < length inside → get_or inside at 0 ≡ quote → get_or inside (at + 1) 0 ≡ quote
    → whole ≡ option_map (λ n. n + at) (to_closing quote (drop at inside)) → whole ≡ option_map (λ n. n + (at + 2)) (to_closing quote (drop (at + 2) inside))
to_closing-step_doubled quote inside at whole within first second so_far =
    let here : at < length inside = omega arith in
    let next : drop (at + 1) inside ≡ get_or inside (at + 1) 0 ∷ drop (suc (at + 1)) inside = drop-cons inside (at + 1) 0 within in
    let twice : suc (at + 1) ≡ at + 2 = omega arith in
    let cut : drop at inside ≡ get_or inside at 0 ∷ drop (at + 1) inside = rw (add-one, drop-cons inside at 0) in
    so_far ∙ ap (λ (s : List ℕ). option_map (λ n. n + at) (to_closing quote s)) (cut ∙ ap (λ (s : List ℕ). get_or inside at 0 ∷ s) next)
    ∙ ap (option_map (λ n. n + at)) (to_closing-doubled quote (get_or inside at 0) (get_or inside (at + 1) 0) (drop (suc (at + 1)) inside) first second)
    ∙ moved (to_closing quote (drop (suc (at + 1)) inside)) at 2
    ∙ ap (λ (k : ℕ). option_map (λ n. n + (at + 2)) (to_closing quote (drop k inside))) twice

-- a byte that is written with one byte, and a doubled quote
pub undoubled-plain : (quote c : ℕ) (rest : List ℕ) → (c ≡ quote → ⊥) ⊎ (rest ≡ []) → undoubled quote (c ∷ rest) ≡ c ∷ undoubled quote rest
undoubled-plain quote c [] once = refl
undoubled-plain quote c (d ∷ rest) (inl other) = rw (ne_eqb c quote other)
undoubled-plain quote c (d ∷ rest) (inr none) = cc

pub undoubled-doubled : (quote c d : ℕ) (rest : List ℕ) → c ≡ quote → undoubled quote (c ∷ d ∷ rest) ≡ c ∷ undoubled quote rest
undoubled-doubled quote c d rest same = rw (eq-eqb c quote same)

-- the same at a place
pub undoubled-at_plain : (quote : ℕ) (inside : List ℕ) (at : ℕ) → at < length inside → (get_or inside at 0 ≡ quote → ⊥) ⊎ (length inside ≤ at + 1)
    → undoubled quote (drop at inside) ≡ get_or inside at 0 ∷ undoubled quote (drop (at + 1) inside)
undoubled-at_plain quote inside at within once =
    let cut : drop at inside ≡ get_or inside at 0 ∷ drop (at + 1) inside = rw (add-one, drop-cons inside at 0) in
    let plain : (get_or inside at 0 ≡ quote → ⊥) ⊎ (drop (at + 1) inside ≡ []) = elim once [ inl other ↦ inl other | inr last ↦ inr (drop_of_length-le inside last) ] in
    ap (undoubled quote) cut ∙ undoubled-plain quote (get_or inside at 0) (drop (at + 1) inside) plain

pub undoubled-at_doubled : (quote : ℕ) (inside : List ℕ) (at : ℕ) → at + 1 < length inside → get_or inside at 0 ≡ quote
    → undoubled quote (drop at inside) ≡ get_or inside at 0 ∷ undoubled quote (drop (at + 2) inside)
undoubled-at_doubled quote inside at within same =
    let here : at < length inside = omega arith in
    let next : drop (at + 1) inside ≡ get_or inside (at + 1) 0 ∷ drop (suc (at + 1)) inside = drop-cons inside (at + 1) 0 within in
    let twice : suc (at + 1) ≡ at + 2 = omega arith in
    let cut : drop at inside ≡ get_or inside at 0 ∷ drop (at + 1) inside = rw (add-one, drop-cons inside at 0) in
    ap (undoubled quote) (cut ∙ ap (λ (s : List ℕ). get_or inside at 0 ∷ s) next)
    ∙ undoubled-doubled quote (get_or inside at 0) (get_or inside (at + 1) 0) (drop (suc (at + 1)) inside) same
    ∙ ap (λ (k : ℕ). get_or inside at 0 ∷ undoubled quote (drop k inside)) twice

-- a list with a byte that fails is not all of bytes that pass
pub list_all-first_fails : (p : ℕ → Bool) (c : ℕ) (rest : List ℕ) → p c ≡ false → list_all p (c ∷ rest) ≡ false
list_all-first_fails p c rest fails = rw fails

-- a byte below 32 keeps a list from being a name
pub no_name : (name before : List ℕ) (c : ℕ) (rest : List ℕ) → list_all (λ b. leb 32 b) name ≡ list_all (λ b. leb 32 b) before → before ≡ c ∷ rest → c < 32 → false ≡ is_quoted_name name
no_name name before c rest passed cut low =
    let fails : list_all (λ b. leb 32 b) name ≡ false = passed ∙ ap (list_all (λ b. leb 32 b)) cut ∙ list_all-first_fails (λ b. leb 32 b) c rest (lt-leb 32 c low) in
    rw fails (sym (and-false (ltb 0 (length name) && leb (length name) 63)))

-- the law of quotes
pub to_closing-doubled_text : (quote : ℕ) (content rest : List ℕ) → BeginsOther quote rest → to_closing quote (doubled quote content ++ quote ∷ rest) ≡ Some (length (doubled quote content) + 1)
to_closing-doubled_text quote [] [] other = rw (eq-eqb quote quote refl) refl
to_closing-doubled_text quote [] (d ∷ rest) other = rw (eq-eqb quote quote refl, ne_eqb d quote other) refl
to_closing-doubled_text quote (c ∷ content) rest other = elim (cases_eq c quote) [
  | inl same ↦
      let twice : doubled quote (c ∷ content) ≡ c ∷ c ∷ doubled quote content = rw (eq-eqb c quote same) refl in
      let P : List ℕ → Type 0 = λ s. to_closing quote (s ++ quote ∷ rest) ≡ Some (length s + 1) in
      subst P (sym twice) (to_closing-doubled quote c c (doubled quote content ++ quote ∷ rest) same same ∙ ap (option_map (λ n. n + 2)) (to_closing-doubled_text quote content rest other) ∙ ap Some (omega arith))
  | inr plain ↦
      let once : doubled quote (c ∷ content) ≡ c ∷ doubled quote content = rw (ne_eqb c quote plain) refl in
      let P : List ℕ → Type 0 = λ s. to_closing quote (s ++ quote ∷ rest) ≡ Some (length s + 1) in
      subst P (sym once) (to_closing-plain quote c (doubled quote content ++ quote ∷ rest) plain ∙ ap (option_map (λ n. n + 1)) (to_closing-doubled_text quote content rest other) ∙ ap Some (omega arith))
]

pub undoubled-doubled_text : (quote : ℕ) (content : List ℕ) → undoubled quote (doubled quote content) ≡ content
undoubled-doubled_text quote [] = refl
undoubled-doubled_text quote (c ∷ content) = elim (cases_eq c quote) [
  | inl same ↦
      let twice : doubled quote (c ∷ content) ≡ c ∷ c ∷ doubled quote content = rw (eq-eqb c quote same) refl in
      ap (undoubled quote) twice ∙ undoubled-doubled quote c c (doubled quote content) same ∙ ap (λ (s : List ℕ). c ∷ s) (undoubled-doubled_text quote content)
  | inr plain ↦
      let once : doubled quote (c ∷ content) ≡ c ∷ doubled quote content = rw (ne_eqb c quote plain) refl in
      ap (undoubled quote) once ∙ undoubled-plain quote c (doubled quote content) (inl plain) ∙ ap (λ (s : List ℕ). c ∷ s) (undoubled-doubled_text quote content)
]

-- what follows a quote that is doubled, or another byte
pub closed-doubled : (quote c d n : ℕ) (rest : List ℕ) → c ≡ quote → d ≡ quote → IsClosedAt quote rest n → IsClosedAt quote (c ∷ d ∷ rest) (n + 2)
closed-doubled quote c d n rest first second closed =
    let twice : doubled quote (quote ∷ closed.content) ≡ quote ∷ quote ∷ doubled quote closed.content = rw (eq-eqb quote quote refl) refl in
    record {
      content = quote ∷ closed.content;
      rest = closed.rest;
      whole = ap (λ (x : ℕ). x ∷ d ∷ rest) first ∙ ap (λ (x : ℕ). quote ∷ x ∷ rest) second ∙ ap (λ (s : List ℕ). quote ∷ quote ∷ s) closed.whole ∙ ap (λ (s : List ℕ). s ++ quote ∷ closed.rest) (sym twice);
      size = ap (λ (k : ℕ). k + 2) closed.size ∙ omega arith ∙ ap (λ (s : List ℕ). length s + 1) (sym twice);
      other = closed.other;
    }

pub closed-plain : (quote c n : ℕ) (rest : List ℕ) → c ≢ quote → IsClosedAt quote rest n → IsClosedAt quote (c ∷ rest) (n + 1)
closed-plain quote c n rest plain closed =
    let once : doubled quote (c ∷ closed.content) ≡ c ∷ doubled quote closed.content = rw (ne_eqb c quote plain) refl in
    record {
      content = c ∷ closed.content;
      rest = closed.rest;
      whole = ap (λ (s : List ℕ). c ∷ s) closed.whole ∙ ap (λ (s : List ℕ). s ++ quote ∷ closed.rest) (sym once);
      size = ap (λ (k : ℕ). k + 1) closed.size ∙ omega arith ∙ ap (λ (s : List ℕ). length s + 1) (sym once);
      other = closed.other;
    }

pub closed-here : (quote c : ℕ) (rest : List ℕ) → c ≡ quote → BeginsOther quote rest → IsClosedAt quote (c ∷ rest) 1
closed-here quote c rest same other = record { content = []; rest = rest; whole = ap (λ (x : ℕ). x ∷ rest) same; size = refl; other = other }

-- a count that is moved on comes from one
pub closed-moved : (quote k n : ℕ) (text rest : List ℕ) (later : Option ℕ) → ((m : ℕ) → later ≡ Some m → IsClosedAt quote rest m) → ((m : ℕ) → IsClosedAt quote rest m → IsClosedAt quote text (m + k))
    → option_map (λ m. m + k) later ≡ Some n → IsClosedAt quote text n
closed-moved quote k n text rest None behind on is = cc
closed-moved quote k n text rest (Some m) behind on is = let same : m + k ≡ n = cc in let P : ℕ → Type 0 = λ p. IsClosedAt quote text p in subst P same (on m (behind m refl))

pub to_closing-is : (quote : ℕ) (text : List ℕ) (n : ℕ) → to_closing quote text ≡ Some n → IsClosedAt quote text n
to_closing-is quote [] n is = cc
to_closing-is quote (c ∷ []) n is = elim (cases_eq c quote) [
  | inl same ↦ let one : Some 1 ≡ Some n = rw (eq-eqb c quote same) at is in let P : ℕ → Type 0 = λ p. IsClosedAt quote (c ∷ []) p in let here : 1 ≡ n = cc in subst P here (closed-here quote c [] same tt)
  | inr plain ↦ cc (rw (ne_eqb c quote plain) at is)
]
to_closing-is quote (c ∷ d ∷ rest) n is = elim (cases_eq c quote) [
  | inl first ↦ elim (cases_eq d quote) [
    | inl second ↦ closed-moved quote 2 n (c ∷ d ∷ rest) rest (to_closing quote rest) (to_closing-is quote rest) (λ m. closed-doubled quote c d m rest first second) (sym (to_closing-doubled quote c d rest first second) ∙ is)
    | inr other ↦ let one : Some 1 ≡ Some n = rw (eq-eqb c quote first, ne_eqb d quote other) at is in let P : ℕ → Type 0 = λ p. IsClosedAt quote (c ∷ d ∷ rest) p in let here : 1 ≡ n = cc in subst P here (closed-here quote c (d ∷ rest) first other)
  ]
  | inr plain ↦ closed-moved quote 1 n (c ∷ d ∷ rest) (d ∷ rest) (to_closing quote (d ∷ rest)) (to_closing-is quote (d ∷ rest)) (λ m. closed-plain quote c m (d ∷ rest) plain) (sym (to_closing-plain quote c (d ∷ rest) plain) ∙ is)
]
