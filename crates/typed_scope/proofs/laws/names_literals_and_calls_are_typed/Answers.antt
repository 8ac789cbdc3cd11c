use Rattle.typed_scope.proofs.LeafLemmas.{column-typed, literal-typed, star-typed, value-typed, distinct-typed}
use Rattle.typed_scope.proofs.laws.names_literals_and_calls_are_typed.Goals as goal

pub returns : goal.returns
returns c = record { column = column-typed; literal = literal-typed; star_call = star-typed; value_call = value-typed; distinct_call = distinct-typed }
