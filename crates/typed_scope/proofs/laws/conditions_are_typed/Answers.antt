use Rattle.std.specs.Prelude.{length}
use Rattle.typed_scope.specs.Typed.{seen_of}
use Rattle.typed_scope.proofs.ChainLemmas.{started-typed, joined-typed, every-typed, either-typed}
use Rattle.typed_scope.proofs.laws.conditions_are_typed.Goals as goal

pub returns : goal.returns
returns c = record { started = λ columns calls. started-typed (seen_of columns calls) (length columns); joined = λ columns calls. joined-typed (seen_of columns calls) (length columns); every = λ columns calls. every-typed (seen_of columns calls) (length columns); either = λ columns calls. either-typed (seen_of columns calls) (length columns) }
