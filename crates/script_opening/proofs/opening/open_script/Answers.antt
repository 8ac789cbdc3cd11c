use Rattle.std.proofs.lemmas.Result.{err_from_is_err_and}
use Rattle.script_opening.proofs.FileLemmas.{told_refused}
use Rattle.script_opening.proofs.opening.open_script.Goals as goal

pub returns-in_err-script-clause-opened : goal.returns-in_err-script-clause-opened
returns-in_err-script-clause-opened g c =
    let p = err_from_is_err_and c.from_residual-in_err-script.result c.from_residual-in_err-script.ensures.1 in
    rw (p.1, p.2) (told_refused (g.F.Files.holds c.args.files.now) c.args.name.now c.in_ok-bytes.bytes.items c.in_err-script.field-0.0 c.in_ok-bytes.ensures.read (rw (c.as_slice.ensures.value) at c.in_err-script.ensures.parsed))
