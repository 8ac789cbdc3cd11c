use Rattle.std.proofs.Common.{Some, None, arith}
use Rattle.std.proofs.lemmas.Str.Pattern.{split_once_first}
use Rattle.run_settings.proofs.Cuts.{cut-here, cut-nowhere}
use Rattle.run_settings.proofs.words.name_and_value.Goals as goal

pub returns-in-Some : goal.returns-in-Some
returns-in-Some c =
    let first = split_once_first 61 c.args.text.now (Some (c.in-Some.name, c.in-Some.value)) c.in-Some.ensures.cases (omega arith) in
    cut-here c.args.text.now c.in-Some.name.now c.in-Some.value.now first.0 first.1 first.2

pub returns-in-None : goal.returns-in-None
returns-in-None c = cut-nowhere c.args.text.now (split_once_first 61 c.args.text.now None c.in-None.ensures.cases (omega arith))
