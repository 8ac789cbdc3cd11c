use Rattle.std.proofs.Common.{SFits}
use Rattle.std.specs.Int.{w32}
use Rattle.std.proofs.lemmas.Int.{to_z-of_z}
use Rattle.ooc_types.specs.Canonical.{day_bytes}
use Rattle.ooc_types.proofs.canonical.day_bytes.Goals as goal

pub returns : goal.returns
unfolding day_bytes
returns c =
    let fits : SFits w32 c.args.day = c.ranges.day in
    simp to_z-of_z at c.to_le_bytes.ensures
