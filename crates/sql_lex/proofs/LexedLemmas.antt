-- The walk from one token or gap to the next.
use Rattle.std.proofs.Common.{◌≡◌, ℕ, zero, suc, ◌+◌, ◌-◌, ◌<◌, ◌≤◌, List, [], ◌∷◌, ◌++◌, length, take, drop, Ok, Err, arith, refl, ap, sym, ◌∙◌, append_assoc, append-nil, inl, inr, true, false, eqb, get_or, drop-cons, ◌||◌}
use Rattle.std.specs.Prelude.{Result}
use Rattle.std.proofs.lemmas.List.{drop-drop, take_rest, length-drop}
use Rattle.std.proofs.Math.ListN.{drop_of_length-le}
use Rattle.std.specs.Str.{IsUtf8, is_utf8}
use Rattle.std.specs.Str.Lossy.{utf8_valid_len}
use Rattle.std.proofs.lemmas.Str.{is_utf8-from_IsUtf8, IsUtf8-from_is_utf8}
use Rattle.std.proofs.lemmas.Bool.{cases_Bool, or_cases, eqb-true}
use Rattle.sql_lex.specs.declared.token.Token.{Token}
use Rattle.sql_lex.specs.declared.token.TokenKind.{TokenKind}
use Rattle.sql_lex.specs.declared.rules.Front.{Front}
use Rattle.sql_lex.specs.declared.rules.Front.TheVariants.{Gap, Lexeme, Bad}
use Rattle.sql_lex.specs.Gaps.{is_blank}
use Rattle.sql_lex.specs.Names.{is_name_start}
use Rattle.sql_lex.specs.Fronts.{front_of}
use Rattle.sql_lex.proofs.Parts.{part-at}
use Rattle.sql_lex.specs.Lexed.{lexed, tokens_from, with_front, front_length, before}

-- these tokens before those behind them
abbrev pub all_before : List Token → Result (List Token) ℕ → Result (List Token) ℕ
all_before tokens (Ok more) = Ok (tokens ++ more)
all_before tokens (Err place) = Err place

pub all_before-none : (behind : Result (List Token) ℕ) → all_before [] behind ≡ behind
all_before-none (Ok more) = refl
all_before-none (Err place) = refl

pub all_before-push : (tokens : List Token) (token : Token) (behind : Result (List Token) ℕ) → all_before (tokens ++ token ∷ []) behind ≡ all_before tokens (before token behind)
all_before-push tokens token (Ok more) = ap Ok (append_assoc tokens (token ∷ []) more)
all_before-push tokens token (Err place) = refl

-- the bytes that belong to what stands before them are passed over
pub tokens_from-inside : (place inside : ℕ) (text : List ℕ) → inside ≤ length text → tokens_from place inside text ≡ tokens_from (place + inside) 0 (drop inside text)
tokens_from-inside place zero [] within = refl
tokens_from-inside place zero (c ∷ rest) within = ap (λ (p : ℕ). tokens_from p 0 (c ∷ rest)) (omega arith)
tokens_from-inside place (suc inside) [] within = absurd (omega arith)
tokens_from-inside place (suc inside) (c ∷ rest) within =
    tokens_from-inside (place + 1) inside rest (omega arith) ∙ ap (λ (p : ℕ). tokens_from p 0 (drop inside rest)) (omega arith)

-- one step: what stands at the front of a text, and then what is behind it
pub tokens_from-step : (place n : ℕ) (text : List ℕ) → 0 < n → n ≤ length text → front_length (front_of text) ≡ n
    → tokens_from place 0 text ≡ with_front (front_of text) place (tokens_from (place + n) 0 (drop n text))
tokens_from-step place zero text some within front = absurd (omega arith)
tokens_from-step place (suc m) [] some within front = absurd (omega arith)
tokens_from-step place (suc m) (c ∷ rest) some within front =
    let inside : front_length (front_of (c ∷ rest)) - 1 ≡ m = omega arith in
    let behind : tokens_from (place + 1) (front_length (front_of (c ∷ rest)) - 1) rest ≡ tokens_from (place + suc m) 0 (drop m rest) =
    ap (λ (k : ℕ). tokens_from (place + 1) k rest) inside ∙ tokens_from-inside (place + 1) m rest (omega arith) ∙ ap (λ (p : ℕ). tokens_from p 0 (drop m rest)) (omega arith) in
    ap (with_front (front_of (c ∷ rest)) place) behind

-- a blank begins no name, and is a gap of one byte
pub blank-no_name : (c : ℕ) → is_blank c ≡ true → is_name_start c ≡ false
blank-no_name c blank = elim (or_cases (eqb c 32 || eqb c 9) (eqb c 13 || eqb c 10) blank) [
  | inl first ↦ elim (or_cases (eqb c 32) (eqb c 9) first) [ inl space ↦ ap is_name_start (eqb-true c 32 space) | inr tab ↦ ap is_name_start (eqb-true c 9 tab) ]
  | inr line ↦ elim (or_cases (eqb c 13) (eqb c 10) line) [ inl back ↦ ap is_name_start (eqb-true c 13 back) | inr end ↦ ap is_name_start (eqb-true c 10 end) ]
]

pub blank-front : (c : ℕ) (rest : List ℕ) → is_blank c ≡ true → Gap 1 ≡ front_of (c ∷ rest)
unfolding front_of
blank-front c rest blank = rw (blank-no_name c blank, blank) refl

-- where nothing stands, the place is bad
pub tokens_from-bad : (place : ℕ) (text : List ℕ) → 0 < length text → Bad ≡ front_of text → tokens_from place 0 text ≡ Err place
tokens_from-bad place [] some front = absurd (omega arith)
tokens_from-bad place (c ∷ rest) some front = ap (λ (f : Front). with_front f place (tokens_from (place + 1) (front_length (front_of (c ∷ rest)) - 1) rest)) (sym front)

-- what stands at a place ends within the script
pub gap-fits : (script left : List ℕ) (at n : ℕ) → left ≡ take (length script - at) (drop at script) → at ≤ length script → Gap n ≡ front_of left → (0 < n) × (at + n ≤ length script) × (n ≤ length left)
gap-fits script left at n seen within front =
    let part : (0 < n) × (n ≤ length left) = part-at left (Gap n) front in
    (part.0, omega (arith, ap length (seen ∙ take_rest script at), length-drop at script), part.1)

pub token-fits : (script left : List ℕ) (at n : ℕ) (kind : TokenKind) → left ≡ take (length script - at) (drop at script) → at ≤ length script → Lexeme kind n ≡ front_of left → (0 < n) × (at + n ≤ length script) × (n ≤ length left)
token-fits script left at n kind seen within front =
    let part : (0 < n) × (n ≤ length left) = part-at left (Lexeme kind n) front in
    (part.0, omega (arith, ap length (seen ∙ take_rest script at), length-drop at script), part.1)

-- the loop's steps. `left` is what the code sees of the script at a place.
pub step-gap : (script left : List ℕ) (at n : ℕ) (tokens : List Token) (whole : Result (List Token) ℕ) → left ≡ take (length script - at) (drop at script)
    → Gap n ≡ front_of left → 0 < n → n ≤ length left → all_before tokens (tokens_from at 0 (drop at script)) ≡ whole → all_before tokens (tokens_from (at + n) 0 (drop (at + n) script)) ≡ whole
step-gap script left at n tokens whole seen front some within so_far =
    let rest : left ≡ drop at script = seen ∙ take_rest script at in
    let step : tokens_from at 0 left ≡ with_front (front_of left) at (tokens_from (at + n) 0 (drop n left)) = tokens_from-step at n left some within (ap front_length (sym front)) in
    let gap : with_front (front_of left) at (tokens_from (at + n) 0 (drop n left)) ≡ tokens_from (at + n) 0 (drop n left) = ap (λ (f : Front). with_front f at (tokens_from (at + n) 0 (drop n left))) (sym front) in
    let on : drop n left ≡ drop (at + n) script = ap (drop n) rest ∙ drop-drop n at script in
    ap (λ (s : List ℕ). all_before tokens (tokens_from (at + n) 0 s)) (sym on)
    ∙ ap (all_before tokens) (sym (step ∙ gap))
    ∙ ap (λ (s : List ℕ). all_before tokens (tokens_from at 0 s)) rest
    ∙ so_far

pub step-token : (script left : List ℕ) (at n : ℕ) (kind : TokenKind) (tokens : List Token) (whole : Result (List Token) ℕ) → left ≡ take (length script - at) (drop at script)
    → Lexeme kind n ≡ front_of left → 0 < n → n ≤ length left → all_before tokens (tokens_from at 0 (drop at script)) ≡ whole
    → all_before (tokens ++ (record { kind = kind; start = at; end = at + n }) ∷ []) (tokens_from (at + n) 0 (drop (at + n) script)) ≡ whole
step-token script left at n kind tokens whole seen front some within so_far =
    let token : Token = record { kind = kind; start = at; end = at + n } in
    let rest : left ≡ drop at script = seen ∙ take_rest script at in
    let step : tokens_from at 0 left ≡ with_front (front_of left) at (tokens_from (at + n) 0 (drop n left)) = tokens_from-step at n left some within (ap front_length (sym front)) in
    let is : with_front (front_of left) at (tokens_from (at + n) 0 (drop n left)) ≡ before token (tokens_from (at + n) 0 (drop n left)) = ap (λ (f : Front). with_front f at (tokens_from (at + n) 0 (drop n left))) (sym front) in
    let on : drop n left ≡ drop (at + n) script = ap (drop n) rest ∙ drop-drop n at script in
    ap (λ (s : List ℕ). all_before (tokens ++ token ∷ []) (tokens_from (at + n) 0 s)) (sym on)
    ∙ all_before-push tokens token (tokens_from (at + n) 0 (drop n left))
    ∙ ap (all_before tokens) (sym (step ∙ is))
    ∙ ap (λ (s : List ℕ). all_before tokens (tokens_from at 0 s)) rest
    ∙ so_far

pub step-bad : (script left : List ℕ) (at : ℕ) (tokens : List Token) (whole : Result (List Token) ℕ) → at < length script → left ≡ take (length script - at) (drop at script)
    → Bad ≡ front_of left → all_before tokens (tokens_from at 0 (drop at script)) ≡ whole → whole ≡ Err at
step-bad script left at tokens whole within seen front so_far =
    let rest : left ≡ drop at script = seen ∙ take_rest script at in
    let some : 0 < length left = omega (arith, ap length rest, length-drop at script) in
    sym so_far ∙ ap (λ (s : List ℕ). all_before tokens (tokens_from at 0 s)) (sym rest) ∙ ap (all_before tokens) (tokens_from-bad at left some front)

-- at the end no token is left
pub step-end : (script : List ℕ) (at : ℕ) (tokens : List Token) (whole : Result (List Token) ℕ) → length script ≤ at → all_before tokens (tokens_from at 0 (drop at script)) ≡ whole → whole ≡ Ok tokens
step-end script at tokens whole ended so_far =
    sym so_far ∙ ap (λ (s : List ℕ). all_before tokens (tokens_from at 0 s)) (drop_of_length-le script ended) ∙ ap Ok (append-nil tokens)

-- a script that is UTF-8, and one that isn't
pub lexed-utf8 : (script : List ℕ) → IsUtf8 script → lexed script ≡ tokens_from 0 0 script
unfolding lexed
lexed-utf8 script utf8 = rw (is_utf8-from_IsUtf8 script utf8)

pub lexed-ill_formed : (script : List ℕ) (place : ℕ) → ¬ (IsUtf8 script) → place ≡ utf8_valid_len script → lexed script ≡ Err place
unfolding lexed
lexed-ill_formed script place other there = elim (cases_Bool (is_utf8 script)) [
  | inl passes ↦ absurd (other (IsUtf8-from_is_utf8 script passes))
  | inr fails ↦ rw fails (ap Err (sym there))
]

-- the loop's step over a blank
pub step-blank : (script : List ℕ) (at : ℕ) (tokens : List Token) (whole : Result (List Token) ℕ) → at < length script → is_blank (get_or script at 0) ≡ true
    → all_before tokens (tokens_from at 0 (drop at script)) ≡ whole → all_before tokens (tokens_from (at + 1) 0 (drop (at + 1) script)) ≡ whole
step-blank script at tokens whole within blank so_far =
    let cut : take (length script - at) (drop at script) ≡ get_or script at 0 ∷ drop (suc at) script = take_rest script at ∙ drop-cons script at 0 within in
    let front : Gap 1 ≡ front_of (take (length script - at) (drop at script)) = blank-front (get_or script at 0) (drop (suc at) script) blank ∙ ap front_of (sym cut) in
    let fits : (0 < 1) × (at + 1 ≤ length script) × (1 ≤ length (take (length script - at) (drop at script))) = gap-fits script (take (length script - at) (drop at script)) at 1 refl (omega arith) front in
    step-gap script (take (length script - at) (drop at script)) at 1 tokens whole refl front fits.0 fits.2 so_far
