use Rattle.script_says.proofs.Endings.{text_written, text_lost}
use Rattle.script_says.proofs.ending.end_with.Goals as goal

pub returns-in-Ok-clause-text : goal.returns-in-Ok-clause-text
returns-in-Ok-clause-text g c = text_written _ _ c.args.text.now c.args.status c.in-Ok.ensures.bytes

pub returns-in-Err-clause-text : goal.returns-in-Err-clause-text
returns-in-Err-clause-text g c = text_lost _ _ c.args.text.now c.args.status c.in-Err.ensures.bytes
