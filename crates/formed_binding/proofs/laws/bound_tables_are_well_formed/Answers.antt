use Rattle.formed_binding.proofs.TableLemmas.{created-formed, dropped-formed}
use Rattle.formed_binding.proofs.CopyLemmas.{copied-formed}
use Rattle.formed_binding.proofs.laws.bound_tables_are_well_formed.Goals as goal

pub returns : goal.returns
returns c = record { create = created-formed; drop = dropped-formed; copy = copied-formed }
