use Rattle.std.proofs.Common.{arith}
use Rattle.row_image.specs.Rules.{text_limit}
use Rattle.row_cursors.proofs.KeptValues.{meets_long}
use Rattle.row_cursors.proofs.appending.append_values.Goals as goal

pub append_many-requires-clause-few : goal.append_many-requires-clause-few
append_many-requires-clause-few g c =
    let w = c.args.writer.now in
    let long = meets_long (text_limit w.page_bytes) w.kinds c.args.row.now c.requires.meets in
    let few = c.requires.writing.columns.few in
    omega (arith, long, few)
