use Rattle.std.proofs.Common.{refl}
use Rattle.ooc_decimal.specs.declared.powers.TheConstants.{POWERS}
use Rattle.ooc_decimal.proofs.PowerTable.{in_table, some_in_table}
use Rattle.ooc_decimal.proofs.powers.power_of_ten.Goals as goal

pub returns-clause-value : goal.returns-clause-value
returns-clause-value c = in_table POWERS c.args.places 0 refl refl c.requires

pub returns-clause-some : goal.returns-clause-some
returns-clause-some c = some_in_table POWERS c.args.places 0 refl refl c.requires
