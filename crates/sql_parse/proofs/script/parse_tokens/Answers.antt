use Rattle.std.proofs.Common.{◌≡◌, length, Err, refl, sym, ◌∙◌, ap, inl, inr}
use Rattle.sql_grammar.specs.declared.fault.Fault.TheVariants.{Syntax, TooDeep}
use Rattle.sql_grammar.specs.declared.fault.ParseFault.TheVariants as fault
use Rattle.sql_grammar.specs.Lexemes.{lexemes}
use Rattle.sql_grammar.specs.Verdict.{limit}
use Rattle.sql_grammar.specs.Whole as spec
use Rattle.sql_grammar.proofs.Exact.{is_script, only_script, no_script, syntax_at, too_deep_at}
use Rattle.sql_grammar.proofs.Unique.{no_syntax, no_too_deep, one_syntax, one_too_deep, not_both}
use Rattle.sql_parse.proofs.script.parse_tokens.Goals as goal

pub returns-in-Ok-clause-is_script : goal.returns-in-Ok-clause-is_script
returns-in-Ok-clause-is_script c = is_script limit (lexemes c.args.script.now c.args.tokens.now) c.in-Ok.found c.whole.new.cursor (ap (spec.whole limit) (sym c.new-cursor.ensures) ∙ c.in-Ok.ensures.gives)

pub returns-in-Ok-clause-only : goal.returns-in-Ok-clause-only
returns-in-Ok-clause-only c = λ s g. only_script limit (lexemes c.args.script.now c.args.tokens.now) c.in-Ok.found s c.whole.new.cursor (ap (spec.whole limit) (sym c.new-cursor.ensures) ∙ c.in-Ok.ensures.gives) g

pub returns-in-Err-Syntax-clause-only : goal.returns-in-Err-Syntax-clause-only
returns-in-Err-Syntax-clause-only c = λ s g.
    let e : spec.whole limit (lexemes c.args.script.now c.args.tokens.now) ≡ Err (Syntax, c.whole.new.cursor) = ap (spec.whole limit) (sym c.new-cursor.ensures) ∙ (rw c.in-Err-Syntax.field-0-is at c.in-Err-Syntax.ensures.gives) (λ h. cc) in
    absurd (no_script limit (lexemes c.args.script.now c.args.tokens.now) s (Syntax, c.whole.new.cursor) e g)

pub returns-in-Err-Syntax-clause-refuses : goal.returns-in-Err-Syntax-clause-refuses
returns-in-Err-Syntax-clause-refuses c =
    let e : spec.whole limit (lexemes c.args.script.now c.args.tokens.now) ≡ Err (Syntax, c.whole.new.cursor) = ap (spec.whole limit) (sym c.new-cursor.ensures) ∙ (rw c.in-Err-Syntax.field-0-is at c.in-Err-Syntax.ensures.gives) (λ h. cc) in
    syntax_at (length c.args.script.now) (lexemes c.args.script.now c.args.tokens.now) c.place.result c.whole.new.cursor e c.place.ensures

pub returns-in-Err-TooDeep-clause-only : goal.returns-in-Err-TooDeep-clause-only
returns-in-Err-TooDeep-clause-only c = λ s g.
    let e : spec.whole limit (lexemes c.args.script.now c.args.tokens.now) ≡ Err (TooDeep, c.whole.new.cursor) = ap (spec.whole limit) (sym c.new-cursor.ensures) ∙ (rw c.in-Err-TooDeep.field-0-is at c.in-Err-TooDeep.ensures.gives) (λ h. cc) in
    absurd (no_script limit (lexemes c.args.script.now c.args.tokens.now) s (TooDeep, c.whole.new.cursor) e g)

pub returns-in-Err-TooDeep-clause-refuses : goal.returns-in-Err-TooDeep-clause-refuses
returns-in-Err-TooDeep-clause-refuses c =
    let e : spec.whole limit (lexemes c.args.script.now c.args.tokens.now) ≡ Err (TooDeep, c.whole.new.cursor) = ap (spec.whole limit) (sym c.new-cursor.ensures) ∙ (rw c.in-Err-TooDeep.field-0-is at c.in-Err-TooDeep.ensures.gives) (λ h. cc) in
    too_deep_at (length c.args.script.now) (lexemes c.args.script.now c.args.tokens.now) c.place-in-Err-TooDeep.result c.whole.new.cursor e c.place-in-Err-TooDeep.ensures

pub returns-in-Ok-clause-syntax : goal.returns-in-Ok-clause-syntax
returns-in-Ok-clause-syntax c = λ place p. no_syntax (length c.args.script.now) (lexemes c.args.script.now c.args.tokens.now) place c.in-Ok.found p (returns-in-Ok-clause-is_script c)

pub returns-in-Ok-clause-too_deep : goal.returns-in-Ok-clause-too_deep
returns-in-Ok-clause-too_deep c = λ place p. no_too_deep (length c.args.script.now) (lexemes c.args.script.now c.args.tokens.now) place c.in-Ok.found p (returns-in-Ok-clause-is_script c)

pub returns-in-Err-Syntax-clause-syntax : goal.returns-in-Err-Syntax-clause-syntax
returns-in-Err-Syntax-clause-syntax c = λ place p. inl (ap (λ n. fault.Syntax n) (one_syntax (length c.args.script.now) (lexemes c.args.script.now c.args.tokens.now) c.place.result place (returns-in-Err-Syntax-clause-refuses c) p))

pub returns-in-Err-Syntax-clause-too_deep : goal.returns-in-Err-Syntax-clause-too_deep
returns-in-Err-Syntax-clause-too_deep c = λ place p. absurd (not_both (length c.args.script.now) (lexemes c.args.script.now c.args.tokens.now) c.place.result place (returns-in-Err-Syntax-clause-refuses c) p)

pub returns-in-Err-TooDeep-clause-syntax : goal.returns-in-Err-TooDeep-clause-syntax
returns-in-Err-TooDeep-clause-syntax c = λ place p. absurd (not_both (length c.args.script.now) (lexemes c.args.script.now c.args.tokens.now) place c.place-in-Err-TooDeep.result p (returns-in-Err-TooDeep-clause-refuses c))

pub returns-in-Err-TooDeep-clause-too_deep : goal.returns-in-Err-TooDeep-clause-too_deep
returns-in-Err-TooDeep-clause-too_deep c = λ place p. inl (ap (λ n. fault.TooDeep n) (one_too_deep (length c.args.script.now) (lexemes c.args.script.now c.args.tokens.now) c.place-in-Err-TooDeep.result place (returns-in-Err-TooDeep-clause-refuses c) p))

pub returns-in-Err-OutOfMemory-clause-syntax : goal.returns-in-Err-OutOfMemory-clause-syntax
returns-in-Err-OutOfMemory-clause-syntax c = λ place p. inr refl

pub returns-in-Err-OutOfMemory-clause-too_deep : goal.returns-in-Err-OutOfMemory-clause-too_deep
returns-in-Err-OutOfMemory-clause-too_deep c = λ place p. inr refl
