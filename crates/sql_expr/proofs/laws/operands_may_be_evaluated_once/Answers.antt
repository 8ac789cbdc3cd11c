use Rattle.std.proofs.Common.{◌≡◌, ◌≢◌, List, [], ◌∷◌, map, refl, false}
use Rattle.std.specs.Prelude.{Ok, Err}
use Rattle.ooc_types.specs.declared.value.Value.TheVariants.{Truth}
use Rattle.sql_expr.specs.declared.tree.CompareSign.TheVariants.{Equal}
use Rattle.sql_expr.specs.Arithmetic.{Meaning}
use Rattle.sql_expr.specs.Meaning.{comparison, either_from, one_of}
use Rattle.sql_expr.proofs.laws.operands_may_be_evaluated_once.Goals as goal

one_of_is : (m : Meaning) (constants : List Meaning) → constants ≢ [] → one_of m constants ≡ either_from (Ok (Truth false)) (map (comparison Equal m) constants)
one_of_is (Ok v) constants some = refl
one_of_is (Err fault) [] some = absurd (some refl)
one_of_is (Err fault) (n ∷ ns) some = refl

pub returns : goal.returns
returns c = record { one_of = one_of_is; between = λ m low high. refl }
