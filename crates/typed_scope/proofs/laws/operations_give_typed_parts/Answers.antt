use Rattle.std.specs.Prelude.{length}
use Rattle.typed_scope.specs.Typed.{seen_of}
use Rattle.typed_scope.proofs.ListLemmas.{like-typed, one_of-typed}
use Rattle.typed_scope.proofs.PartLemmas.{minus-typed, negation-typed, comparison-typed, null_test-typed, between-typed}
use Rattle.typed_scope.proofs.laws.operations_give_typed_parts.Goals as goal

pub returns : goal.returns
returns c = record {
  minus = λ columns calls. minus-typed (seen_of columns calls) (length columns);
  negation = λ columns calls. negation-typed (seen_of columns calls) (length columns);
  comparison = λ columns calls. comparison-typed (seen_of columns calls) (length columns);
  null_test = λ columns calls. null_test-typed (seen_of columns calls) (length columns);
  between = λ columns calls. between-typed (seen_of columns calls) (length columns);
  like = λ columns calls. like-typed (seen_of columns calls) (length columns);
  one_of = λ columns calls. one_of-typed (seen_of columns calls) (length columns);
}
