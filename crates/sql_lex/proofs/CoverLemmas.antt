-- The tokens of a script cover it.
use Rattle.std.proofs.Common.{◌≡◌, ℕ, zero, suc, ◌+◌, ◌-◌, ◌<◌, ◌≤◌, List, [], ◌∷◌, ◌++◌, length, take, drop, Ok, Err, arith, refl, ap, sym, ◌∙◌, subst, take-append-drop}
use Rattle.std.specs.Prelude.{Result}
use Rattle.std.specs.List.{AllByRecursion}
use Rattle.std.proofs.lemmas.List.Elements.{All-from_recursion}
use Rattle.std.proofs.lemmas.List.{length-take-le, length-append}
use Rattle.sql_lex.specs.declared.token.Token.{Token}
use Rattle.sql_lex.specs.declared.token.TokenKind.{TokenKind}
use Rattle.sql_lex.specs.declared.rules.Front.{Front}
use Rattle.sql_lex.specs.declared.rules.Front.TheVariants.{Gap, Lexeme, Bad}
use Rattle.sql_lex.specs.Fronts.{front_of}
use Rattle.sql_lex.specs.Lexed.{tokens_from, with_front, front_length, before}
use Rattle.sql_lex.specs.Cover.{IsGap, Covers, nothing, gap, token, AreWithin}
use Rattle.sql_lex.proofs.Parts.{part-at}
use Rattle.sql_lex.proofs.GapParts.{gap-at}

-- a part of n bytes before what is covered
pub gap-first : (place n : ℕ) (text : List ℕ) (tokens : List Token) → n ≤ length text → IsGap (take n text) → Covers (place + n) (drop n text) tokens → Covers place text tokens
gap-first place n text tokens within is behind =
    let size : length (take n text) ≡ n = length-take-le n text within in
    let P : ℕ → Type 0 = λ k. Covers (place + k) (drop n text) tokens in
    let Q : List ℕ → Type 0 = λ t. Covers place t tokens in
    subst Q (take-append-drop n text) (gap place (take n text) (drop n text) tokens is (subst P (sym size) behind))

pub token-first : (place n : ℕ) (text : List ℕ) (kind : TokenKind) (tokens : List Token) → 0 < n → n ≤ length text → Covers (place + n) (drop n text) tokens
    → Covers place text ((record { kind = kind; start = place; end = place + n }) ∷ tokens)
token-first place n text kind tokens some within behind =
    let size : length (take n text) ≡ n = length-take-le n text within in
    let P : ℕ → Type 0 = λ k. 0 < k → Covers (place + k) (drop n text) tokens → Covers place (take n text ++ drop n text) ((record { kind = kind; start = place; end = place + k }) ∷ tokens) in
    let Q : List ℕ → Type 0 = λ t. Covers place t ((record { kind = kind; start = place; end = place + n }) ∷ tokens) in
    subst Q (take-append-drop n text) (subst P size (λ has more. token place (take n text) (drop n text) kind tokens has more) some behind)

-- what is left behind each place of a text is covered
abbrev pub CoversLater : List ℕ → Type 0
CoversLater text = (inside place : ℕ) (tokens : List Token) → inside ≤ length text → tokens_from place inside text ≡ Ok tokens → Covers (place + inside) (drop inside text) tokens

-- behind a part of n bytes
pub covers-behind : (c : ℕ) (rest : List ℕ) → CoversLater rest → (n place : ℕ) (tokens : List Token) → 0 < n → n ≤ length (c ∷ rest) → tokens_from (place + 1) (n - 1) rest ≡ Ok tokens → Covers (place + n) (drop n (c ∷ rest)) tokens
covers-behind c rest later zero place tokens some fits all = absurd (omega arith)
covers-behind c rest later (suc m) place tokens some fits all =
    let P : ℕ → Type 0 = λ p. Covers p (drop m rest) tokens in
    let same : place + 1 + m ≡ place + suc m = omega arith in
    let one : m ≡ suc m - 1 = omega arith in
    let there : tokens_from (place + 1) m rest ≡ Ok tokens = ap (λ (k : ℕ). tokens_from (place + 1) k rest) one ∙ all in
    subst P same (later m (place + 1) tokens (omega arith) there)

-- a token and what is behind it
pub covers-token : (c : ℕ) (rest : List ℕ) → CoversLater rest → (n place : ℕ) (kind : TokenKind) (tokens : List Token) → 0 < n → n ≤ length (c ∷ rest)
    → (behind : Result (List Token) ℕ) → tokens_from (place + 1) (n - 1) rest ≡ behind → before (record { kind = kind; start = place; end = place + n }) behind ≡ Ok tokens → Covers place (c ∷ rest) tokens
covers-token c rest later n place kind tokens some fits (Err bad) is all = cc
covers-token c rest later n place kind tokens some fits (Ok more) is all =
    let first : Token = record { kind = kind; start = place; end = place + n } in
    let list : first ∷ more ≡ tokens = cc in
    let P : List Token → Type 0 = λ ts. Covers place (c ∷ rest) ts in
    subst P list (token-first place n (c ∷ rest) kind more some fits (covers-behind c rest later n place more some fits is))

-- what stands at the front, and what is behind it
pub covers-front : (c : ℕ) (rest : List ℕ) → CoversLater rest → (place : ℕ) (tokens : List Token) (front : Front) → front ≡ front_of (c ∷ rest)
    → with_front front place (tokens_from (place + 1) (front_length front - 1) rest) ≡ Ok tokens → Covers place (c ∷ rest) tokens
covers-front c rest later place tokens (Gap n) at all =
    let part : (0 < n) × (n ≤ length (c ∷ rest)) = part-at (c ∷ rest) (Gap n) at in
    gap-first place n (c ∷ rest) tokens part.1 (gap-at (c ∷ rest) n at) (covers-behind c rest later n place tokens part.0 part.1 all)
covers-front c rest later place tokens (Lexeme kind n) at all =
    let part : (0 < n) × (n ≤ length (c ∷ rest)) = part-at (c ∷ rest) (Lexeme kind n) at in
    covers-token c rest later n place kind tokens part.0 part.1 (tokens_from (place + 1) (n - 1) rest) refl all
covers-front c rest later place tokens Bad at all = cc

pub covers-later : (text : List ℕ) → CoversLater text
covers-later [] zero place tokens within is = let P : List Token → Type 0 = λ ts. Covers (place + 0) [] ts in let none : [] ≡ tokens = cc in subst P none (nothing (place + 0))
covers-later [] (suc inside) place tokens within is = absurd (omega arith)
covers-later (c ∷ rest) (suc inside) place tokens within is =
    let P : ℕ → Type 0 = λ p. Covers p (drop inside rest) tokens in
    let same : place + 1 + inside ≡ place + suc inside = omega arith in
    subst P same (covers-later rest inside (place + 1) tokens (omega arith) is)
covers-later (c ∷ rest) zero place tokens within is =
    let P : ℕ → Type 0 = λ p. Covers p (c ∷ rest) tokens in
    let same : place ≡ place + 0 = omega arith in
    subst P same (covers-front c rest (covers-later rest) place tokens (front_of (c ∷ rest)) refl is)

-- the tokens of a script cover it
pub covers-tokens : (script : List ℕ) (tokens : List Token) → tokens_from 0 0 script ≡ Ok tokens → Covers 0 script tokens
covers-tokens script tokens is = covers-later script 0 0 tokens (omega arith) is

-- and each of them ends within it
pub covers-within : (place size : ℕ) (text : List ℕ) (tokens : List Token) → Covers place text tokens → place + length text ≤ size → AllByRecursion (λ token. (token.start < token.end) × (token.end ≤ size)) tokens
covers-within place size text tokens (nothing _) fits = tt
covers-within place size text tokens (gap _ between rest _ is behind) fits = covers-within (place + length between) size rest tokens behind (omega (arith, length-append between rest))
covers-within place size text tokens (token _ part rest kind more some behind) fits =
    ((omega arith, omega (arith, length-append part rest)), covers-within (place + length part) size rest more behind (omega (arith, length-append part rest)))

pub within-tokens : (script : List ℕ) (tokens : List Token) → tokens_from 0 0 script ≡ Ok tokens → AreWithin (length script) tokens
within-tokens script tokens is = All-from_recursion _ tokens (covers-within 0 (length script) script tokens (covers-tokens script tokens is) (omega arith))
