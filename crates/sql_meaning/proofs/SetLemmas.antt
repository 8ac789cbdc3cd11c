-- Set operations and membership over rearranged lists.
use Rattle.std.proofs.Common.{◌≡◌, List, ◌++◌, refl, ap₂}
use Rattle.std.specs.Prelude.{count_by, replicate}
use Rattle.ooc_types.specs.declared.truth.Truth.{Truth as Ternary}
use Rattle.ooc_types.specs.declared.truth.Truth.TheVariants.{Yes, No, Unknown}
use Rattle.ooc_types.specs.declared.value.Value.{Value}
use Rattle.ooc_bags.specs.Bags.{SameBag}
use Rattle.ooc_bags.specs.Rows.{row_eq, value_eq}
use Rattle.ooc_bags.proofs.RowTests.{value_eq-Decides}
use Rattle.sql_expr.specs.declared.tree.CompareSign.TheVariants.{Equal}
use Rattle.sql_expr.specs.Comparison.{compared}
use Rattle.sql_expr.specs.Logic.{truth_in, or_truth}
use Rattle.sql_meaning.specs.Found.{Row}
use Rattle.ooc_bags.specs.Firsts.{firsts}
use Rattle.sql_meaning.specs.Sets.{Times, combined, member}
use Rattle.ooc_bags.proofs.Bags.{bag-from, bag-append, bag-flat_map}
use Rattle.ooc_bags.proofs.Rearranged.{rearranged, fold-rearranged}
use Rattle.ooc_bags.proofs.Firsts.{firsts-SameBag}

pub combined-SameBag : (times : Times) (ls ms rs ss : List Row) → SameBag ls ms → SameBag rs ss → SameBag (combined times ls rs) (combined times ms ss)
combined-SameBag times ls ms rs ss left right =
    let here : Row → List Row = λ row. replicate (times (count_by (row_eq row) ls) (count_by (row_eq row) rs)) row in
    let there : Row → List Row = λ row. replicate (times (count_by (row_eq row) ms) (count_by (row_eq row) ss)) row in
    bag-flat_map here there (firsts (ls ++ rs)) (firsts (ms ++ ss)) (firsts-SameBag (ls ++ rs) (ms ++ ss) (bag-append ls ms rs ss left right))
    (λ row. bag-from (here row) (there row) (ap₂ (λ a b. replicate (times a b) row) (left (row_eq row)) (right (row_eq row))))

or-turn : (a b c : Ternary) → or_truth (or_truth a b) c ≡ or_truth (or_truth a c) b
or-turn Yes b c = refl
or-turn No Yes Yes = refl
or-turn No Yes No = refl
or-turn No Yes Unknown = refl
or-turn No No Yes = refl
or-turn No No No = refl
or-turn No No Unknown = refl
or-turn No Unknown Yes = refl
or-turn No Unknown No = refl
or-turn No Unknown Unknown = refl
or-turn Unknown Yes Yes = refl
or-turn Unknown Yes No = refl
or-turn Unknown Yes Unknown = refl
or-turn Unknown No Yes = refl
or-turn Unknown No No = refl
or-turn Unknown No Unknown = refl
or-turn Unknown Unknown Yes = refl
or-turn Unknown Unknown No = refl
or-turn Unknown Unknown Unknown = refl

pub member-SameBag : (x : Value) (xs ys : List Value) → SameBag xs ys → member x xs ≡ member x ys
member-SameBag x xs ys same =
    fold-rearranged (λ found value. or_truth found (truth_in (compared Equal x value)))
    (λ found v w. or-turn found (truth_in (compared Equal x v)) (truth_in (compared Equal x w))) No xs ys (rearranged value_eq value_eq-Decides xs ys same)
