use Rattle.std.proofs.Common.{arith}
use Rattle.script_opening.proofs.FileLemmas.{told_long, told_missing}
use Rattle.script_opening.proofs.reading.read_script.Goals as goal

pub returns-in-Ok-read_up_to-clause-read : goal.returns-in-Ok-read_up_to-clause-read
returns-in-Ok-read_up_to-clause-read g c =
    told_long (g.F.Files.holds c.args.files.now) c.args.name.now (g.F.Files.left c.open.new.self) c.in-Ok-read_up_to.bytes.items c.refuse.result
    c.in-Ok.ensures.told c.in-Ok-read_up_to.ensures.bytes (omega (arith, c.if-len-gt-MOST_SCRIPT.true, c.len.ensures)) c.refuse.ensures

pub returns-in-Err-Missing-clause-read : goal.returns-in-Err-Missing-clause-read
returns-in-Err-Missing-clause-read g c =
    told_missing (g.F.Files.holds c.args.files.now) c.args.name.now (g.F.Files.left c.open.new.self) c.refuse-in-Err-Missing.result (rw (c.in-Err-Missing.field-0-is) at c.in-Err-Missing.ensures.told) c.refuse-in-Err-Missing.ensures
