use Rattle.std.proofs.Common.{◌==◌, arith, ℕ}
use Rattle.std.proofs.lemmas.List.Splits.{length-slice_split}
use Rattle.csv_load.proofs.plain.count_fields.Goals as goal

pub returns : goal.returns
returns c = grind (arith, length-slice_split (λ (b : ℕ). b == c.args.delimiter) c.args.bytes.now, c.count.ensures.runs)
