use Rattle.std.proofs.Common.{length, ap, Err, ◌∙◌}
use Rattle.sql_grammar.specs.Lexemes.{lexemes}
use Rattle.script_opening.specs.Trees.{IsTokenTree, IsTreeOf, script_refusal}
use Rattle.ooc_types.specs.declared.refusal.RefusalKind.TheVariants as kind
use Rattle.run_settings.specs.declared.status.Place.TheVariants.{Byte}
use Rattle.script_opening.proofs.FileLemmas.{tree_then, tokens_tree, bad_token}
use Rattle.script_opening.proofs.Counting.{few_parsed}
use Rattle.script_opening.proofs.tokens.parse_script.Goals as goal

pub returns-in-Ok-clause-parsed : goal.returns-in-Ok-clause-parsed
returns-in-Ok-clause-parsed c =
    let bytes = c.args.bytes.now in
    let list = c.in-Ok.tokens.list in
    tree_then (IsTokenTree (length bytes) (lexemes bytes list)) (IsTreeOf bytes) c.parse_tokens.result
    (tokens_tree bytes c.requires list c.in-Ok.ensures.tokens) (rw (c.in-Ok.ensures.script) at c.parse_tokens.ensures.parsed)

pub returns-in-Ok-clause-few : goal.returns-in-Ok-clause-few
returns-in-Ok-clause-few c =
    let bytes = c.args.bytes.now in
    few_parsed bytes c.in-Ok.tokens.list c.parse_tokens.result c.in-Ok.ensures.cover (rw (c.in-Ok.ensures.script) at c.parse_tokens.ensures.parsed)

pub returns-in-Err-BadToken-clause-parsed : goal.returns-in-Err-BadToken-clause-parsed
returns-in-Err-BadToken-clause-parsed c =
    bad_token c.args.bytes.now c.requires c.in-Err-BadToken.place c.refuse_at.result (c.in-Err-BadToken.ensures.bad c.in-Err-BadToken.place (ap (λ e. Err e) c.in-Err-BadToken.field-0-is))
    (c.refuse_at.ensures ∙ ap (λ p. script_refusal (record { place = Byte p; kind = kind.BadToken })) c.in-Err-BadToken.place-is)
