-- A name's word, by the first letter of the name.
use Rattle.std.proofs.Common.{◌≡◌, ◌≢◌, ℕ, List, [], ◌∷◌, map, Some, None, eqb, false, sym, ◌∙◌, ap, subst}
use Rattle.std.proofs.lemmas.Bool.{ne_eqb}
use Rattle.std.specs.Char.{to_ascii_lowercase}
use Rattle.std.specs.List.{slice_get}
use Rattle.sql_lex.specs.Words.{word_spelled}

-- what is so of each list of letters that begins with k is so of a name's small letters, if its first is k
pub by_letter : (k : ℕ) (P : List ℕ → Type 0) → ((rest : List ℕ) → P (k ∷ rest)) → (name : List ℕ) (first : ℕ) → Some first ≡ slice_get name 0 → to_ascii_lowercase first ≡ k → P (map to_ascii_lowercase name)
by_letter k P holds [] first found small = cc
by_letter k P holds (c ∷ rest) first found small =
    let same : first ≡ c = cc in
    let lowered : k ∷ map to_ascii_lowercase rest ≡ map to_ascii_lowercase (c ∷ rest) = ap (λ (x : ℕ). x ∷ map to_ascii_lowercase rest) (sym small ∙ ap to_ascii_lowercase same) in
    subst P lowered (holds (map to_ascii_lowercase rest))

-- no word begins with another letter
pub no_word : (k : ℕ) (rest : List ℕ) → k ≢ 97 → k ≢ 98 → k ≢ 99 → k ≢ 100 → k ≢ 101 → k ≢ 102 → k ≢ 103 → k ≢ 104 → k ≢ 105 → k ≢ 106 → k ≢ 108 → k ≢ 110 → k ≢ 111 → k ≢ 115 → k ≢ 116 → k ≢ 117 → k ≢ 119 → word_spelled (k ∷ rest) ≡ None
unfolding word_spelled
no_word k rest n97 n98 n99 n100 n101 n102 n103 n104 n105 n106 n108 n110 n111 n115 n116 n117 n119 =
    let e97 : eqb k 97 ≡ false = ne_eqb k 97 n97 in
    let e98 : eqb k 98 ≡ false = ne_eqb k 98 n98 in
    let e99 : eqb k 99 ≡ false = ne_eqb k 99 n99 in
    let e100 : eqb k 100 ≡ false = ne_eqb k 100 n100 in
    let e101 : eqb k 101 ≡ false = ne_eqb k 101 n101 in
    let e102 : eqb k 102 ≡ false = ne_eqb k 102 n102 in
    let e103 : eqb k 103 ≡ false = ne_eqb k 103 n103 in
    let e104 : eqb k 104 ≡ false = ne_eqb k 104 n104 in
    let e105 : eqb k 105 ≡ false = ne_eqb k 105 n105 in
    let e106 : eqb k 106 ≡ false = ne_eqb k 106 n106 in
    let e108 : eqb k 108 ≡ false = ne_eqb k 108 n108 in
    let e110 : eqb k 110 ≡ false = ne_eqb k 110 n110 in
    let e111 : eqb k 111 ≡ false = ne_eqb k 111 n111 in
    let e115 : eqb k 115 ≡ false = ne_eqb k 115 n115 in
    let e116 : eqb k 116 ≡ false = ne_eqb k 116 n116 in
    let e117 : eqb k 117 ≡ false = ne_eqb k 117 n117 in
    let e119 : eqb k 119 ≡ false = ne_eqb k 119 n119 in
    simp (e97, e98, e99, e100, e101, e102, e103, e104, e105, e106, e108, e110, e111, e115, e116, e117, e119)
