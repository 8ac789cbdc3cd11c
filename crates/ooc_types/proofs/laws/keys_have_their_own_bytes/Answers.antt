use Rattle.ooc_types.proofs.KeyBytes.{keys_told_apart}
use Rattle.ooc_types.proofs.laws.keys_have_their_own_bytes.Goals as goal

pub returns : goal.returns
returns c = keys_told_apart
