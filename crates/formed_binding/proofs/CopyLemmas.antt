-- COPY and its options.
use Rattle.std.proofs.Common.{◌≡◌, ◌≢◌, ℕ, Bool, true, false, nat_lt, ◌==◌, List, [], ◌∷◌, refl, Some, None, Ok, cond, arith}
use Rattle.std.specs.Prelude.{not, is_none, ◌&&◌, unwrap_or}
use Rattle.std.proofs.lemmas.Bool.{and_parts, ltb-true}
use Rattle.ooc_types.specs.declared.refusal.RefusalKind.TheVariants.{BadOption}
use Rattle.bound_tree.specs.declared.statement.Bound.{Bound}
use Rattle.sql_grammar.specs.declared.tree.expr.Span.{Span}
use Rattle.sql_grammar.specs.declared.tree.statement.CopyOption.{CopyOption}
use Rattle.sql_grammar.specs.declared.tree.statement.CopyOption.TheVariants.{Header, Delimiter, Null}
use Rattle.sql_scope.specs.Answer.{◌>>=◌, each, or_refuse, unless}
use Rattle.sql_scope.specs.Scopes.{View, columns_of}
use Rattle.sql_clauses.specs.declared.copy.CopyOptions.{CopyOptions}
use Rattle.sql_clauses.specs.Copies.{copied, copy_table, default_delimiter, delimiter_of, is_delimiter, no_options, option_behind, with_delimiter}
use Rattle.sql_clauses.specs.Names.{text_of}
use Rattle.sql_clauses.specs.Tables.{known_table}
use Rattle.well_formed.specs.Statements.{IsDelimiter, IsThere, IsWellFormed}
use Rattle.formed_binding.specs.Answers.{OfAnswer}
use Rattle.formed_binding.proofs.EachLemmas.{asked-for, each-keeps, of-answer, on-answer}
use Rattle.formed_binding.proofs.TableLemmas.{false-of, known}

differs : (m n : ℕ) → not (m == n) ≡ true → m ≢ n
differs m n e is = let h : (m == n) ≡ true = grind (arith, is) in let f = false-of (m == n) e in cc

separates : (byte : ℕ) → is_delimiter byte ≡ true → IsDelimiter byte
separates byte e =
    let a = and_parts ((nat_lt byte 128 && not (byte == 34)) && not (byte == 13)) (not (byte == 10)) e in
    let b = and_parts (nat_lt byte 128 && not (byte == 34)) (not (byte == 13)) a.0 in
    let c = and_parts (nat_lt byte 128) (not (byte == 34)) b.0 in
    record { ascii = ltb-true byte 128 c.0; no_quote = differs byte 34 c.1; no_return = differs byte 13 b.1; no_feed = differs byte 10 a.1 }

-- the delimiter so far, or the default
abbrev Separates : CopyOptions → Type 0
Separates options = IsDelimiter (unwrap_or options.delimiter default_delimiter)

delimiter-there : (place : ℕ) (text : List ℕ) → OfAnswer IsDelimiter (or_refuse (delimiter_of text) place BadOption)
delimiter-there place [] = tt
delimiter-there place (byte ∷ []) = by (is_delimiter byte) refl
  where
    by : (b : Bool) → is_delimiter byte ≡ b → OfAnswer IsDelimiter (or_refuse (cond b (Some byte) None) place BadOption)
    by true e = separates byte e
    by false e = tt
delimiter-there place (byte ∷ other ∷ more) = tt

option-keeps : (view : View) (option : CopyOption) (options : CopyOptions) → Separates options → OfAnswer Separates (option_behind view option options)
option-keeps view (Header place value) options is = asked-for Separates (is_none options.header) place BadOption (record options { header = Some value }) (λ e. is)
option-keeps view (Delimiter place text) options is =
    on-answer Separates Separates (unless (is_none options.delimiter) place BadOption options) (λ (once : CopyOptions). or_refuse (delimiter_of (text_of view text)) place BadOption >>= with_delimiter once)
    (asked-for Separates (is_none options.delimiter) place BadOption options (λ e. is))
    (λ once h. on-answer IsDelimiter Separates (or_refuse (delimiter_of (text_of view text)) place BadOption) (with_delimiter once) (delimiter-there place (text_of view text)) (λ byte separates. separates))
option-keeps view (Null place text) options is = asked-for Separates (is_none options.null) place BadOption (record options { null = Some (text_of view text) }) (λ e. is)

comma : IsDelimiter default_delimiter
comma = separates 44 refl

pub copied-formed : (limit : ℕ) (view : View) (name file : Span) (options : List CopyOption) (bound : Bound) → copy_table view name file options ≡ Ok bound → IsWellFormed limit (columns_of view.tables) bound
copied-formed limit view name file options bound is =
    let Formed = IsWellFormed limit (columns_of view.tables) in
    of-answer Formed (copy_table view name file options) bound
    (on-answer (IsThere (columns_of view.tables)) Formed (known_table view name)
    (λ (table : List ℕ). each (option_behind view) (Ok no_options) options >>= (λ (all : CopyOptions). Ok (copied table (text_of view file) all))) (known view name)
    (λ table there. on-answer Separates Formed (each (option_behind view) (Ok no_options) options) (λ (all : CopyOptions). Ok (copied table (text_of view file) all))
    (each-keeps Separates (option_behind view) (Ok no_options) options comma (λ option before h. option-keeps view option before h))
    (λ all separates. record { there = there; separates = separates })))
    is
