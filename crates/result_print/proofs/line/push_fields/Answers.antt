use Rattle.std.proofs.Common.{◌++◌, map, ap, arith, ◌∙◌, sym, append-nil}
use Rattle.std.proofs.lemmas.Grind.{common_steps}
use Rattle.std.proofs.lemmas.List.{nil_from_length}
use Rattle.result_print.specs.Printed.{joined}
use Rattle.result_print.proofs.Joined.{from_first, none}
use Rattle.result_print.proofs.line.push_fields.Goals as goal

pub returns-in_ok-push_to-in-Some-clause-ok : goal.returns-in_ok-push_to-in-Some-clause-ok
returns-in_ok-push_to-in-Some-clause-ok g c =
    let e = from_first g.F.Field.text c.in-Some.first.now c.in-Some.others.now in
    let all = ap (λ l. joined (map g.F.Field.text l)) c.in-Some.ensures.cases.0 in
    grind (arith, common_steps, e, all)

pub returns-in-None-clause-ok : goal.returns-in-None-clause-ok
returns-in-None-clause-ok g c =
    let old = c.args.into.now.items in
    let nothing = nil_from_length c.args.fields.now c.in-None.ensures.cases in
    sym (append-nil old) ∙ ap (λ l. old ++ l) (none g.F.Field.text ∙ sym (ap (λ l. joined (map g.F.Field.text l)) nothing))
