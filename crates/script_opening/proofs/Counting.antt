-- A script has no more statements than bytes, and one.
use Rattle.std.proofs.Common.{◌≡◌, ℕ, ◌+◌, ◌<◌, ◌≤◌, suc, List, [], ◌∷◌, ◌++◌, length, Option, None, Some, Result, Ok, Err, refl, ap, ◌∙◌, sym, subst, arith, length-append}
use Rattle.sql_lex.specs.declared.token.Token.{Token}
use Rattle.sql_lex.specs.Cover.{Covers, nothing, gap, token}
use Rattle.sql_grammar.specs.Lexeme.{Lexeme}
use Rattle.sql_grammar.specs.Lexemes.{lexemes}
use Rattle.sql_grammar.specs.Derives.{Inner, Both, Many, One, none, more, derives}
use Rattle.sql_grammar.specs.Form.{Form}
use Rattle.sql_grammar.specs.Combinators.{sign, optional, ◌>>◌}
use Rattle.sql_grammar.specs.Statements.{present, script, statement}
use Rattle.sql_grammar.specs.Nesting.{nested}
use Rattle.std.specs.Result.{IfOk}
use Rattle.sql_grammar.specs.Verdict.{IsScript, limit}
use Rattle.run_settings.specs.declared.status.Status.{Status}
use Rattle.script_opening.specs.Trees.{IsTokenTree, IsTreeAs}
use Rattle.sql_grammar.specs.declared.tree.statement.Script.{Script}
use Rattle.sql_grammar.specs.declared.tree.statement.Statement.{Statement}
use Rattle.sql_lex.specs.declared.token.Sign.TheVariants as s

-- each token has a byte
pub tokens_in_bytes : (place : ℕ) (bytes : List ℕ) (tokens : List Token) → Covers place bytes tokens → length tokens ≤ length bytes
tokens_in_bytes place bytes tokens (nothing p) = omega arith
tokens_in_bytes place bytes tokens (gap p between rest ts is c) =
    let h = tokens_in_bytes (p + length between) rest ts c in
    omega (arith, h, length-append between rest)
tokens_in_bytes place bytes tokens (token p text rest kind ts some c) =
    let h = tokens_in_bytes (p + length text) rest ts c in
    omega (arith, h, some, length-append text rest)

pub lexemes_count : (bytes : List ℕ) (tokens : List Token) → length (lexemes bytes tokens) ≡ length tokens
lexemes_count bytes [] = refl
lexemes_count bytes (t ∷ tokens) = ap suc (lexemes_count bytes tokens)

few_present : (list : List (Option Statement)) → length (present list) ≤ length list
few_present [] = omega arith
few_present (None ∷ list) = let h = few_present list in omega (arith, h)
few_present (Some a ∷ list) = let h = few_present list in omega (arith, h)

-- each statement but the first stands behind a semicolon
behind_semicolons : (n : Inner) (others : List (Option Statement)) (w : List Lexeme) → Many (derives n (sign s.Semicolon >> optional statement)) others w → length others ≤ length w
behind_semicolons n others w none = omega arith
behind_semicolons n others w (more {a} {u} {list} {v} first rest) =
    let h = behind_semicolons n list v rest in
    let one : length u ≡ length first.front + length first.back = ap length first.whole ∙ length-append first.front first.back in
    let some : length first.front ≡ 1 = ap length first.fore.alone in
    omega (arith, h, one, some, length-append u v)

pub few_statements : (depth : ℕ) (found : Script) (w : List Lexeme) → IsScript depth found w → length found.statements ≤ length w + 1
unfolding script
few_statements depth found w is =
    let h = behind_semicolons (nested depth) is.next is.back is.aft in
    let whole : length w ≡ length is.front + length is.back = ap length is.whole ∙ length-append is.front is.back in
    let made : is.value ≡ (λ (others : List (Option Statement)). record { statements = present (is.fore.next ∷ others) }) = is.fore.means ∙ ap (λ f. f is.fore.next) is.fore.fore.0 in
    let same : found ≡ record { statements = present (is.fore.next ∷ is.next) } = is.means ∙ ap (λ f. f is.next) made in
    let few = few_present (is.fore.next ∷ is.next) in
    rw same (omega (arith, h, whole, few))

pub few_parsed : (bytes : List ℕ) (tokens : List Token) (r : Result Script Status) → Covers 0 bytes tokens → IsTreeAs (IsTokenTree (length bytes) (lexemes bytes tokens)) r → IfOk r (λ found. length found.statements ≤ length bytes + 1)
few_parsed bytes tokens (Err status) cover h = tt
few_parsed bytes tokens (Ok found) cover h =
    let few = few_statements limit found (lexemes bytes tokens) h in
    let in_bytes = tokens_in_bytes 0 bytes tokens cover in
    let count = lexemes_count bytes tokens in
    omega (arith, few, in_bytes, count)
