use Rattle.csv_records.proofs.Marks.{strip-is, strip-short}
use Rattle.csv_records.proofs.fill.begins_with_mark.Goals as goal

pub returns-then-text-lt3-clause-mark : goal.returns-then-text-lt3-clause-mark
returns-then-text-lt3-clause-mark c = strip-short c.args.text.now c.if-text-lt3.true

pub returns-clause-mark : goal.returns-clause-mark
returns-clause-mark c = rw c.is_byte_order_mark.ensures (strip-is c.args.text.now c.if-text-lt3.false)
