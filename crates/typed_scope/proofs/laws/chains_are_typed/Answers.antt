use Rattle.std.specs.Prelude.{length}
use Rattle.typed_scope.specs.Typed.{seen_of}
use Rattle.typed_scope.proofs.ChainLemmas.{begun-typed, linked-typed, ended-typed}
use Rattle.typed_scope.proofs.laws.chains_are_typed.Goals as goal

pub returns : goal.returns
returns c = record { begun = λ columns calls. begun-typed (seen_of columns calls) (length columns); linked = λ columns calls. linked-typed (seen_of columns calls) (length columns); ended = λ columns calls. ended-typed (seen_of columns calls) (length columns) }
