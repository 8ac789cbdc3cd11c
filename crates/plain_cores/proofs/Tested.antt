-- Tests that are made of parts.
use Rattle.std.proofs.Common.{◌≡◌, ℕ, List, [], ◌∷◌, map, refl, sym, ap, ap₂, subst, ◌∙◌, All}
use Rattle.std.specs.List.{AllByRecursion}
use Rattle.ooc_bags.proofs.Lists.{map-map}
use Rattle.ooc_types.specs.Meets.{Meets}
use Rattle.ooc_types.specs.declared.schema.SqlType.{SqlType}
use Rattle.sql_expr.specs.declared.tree.Expr.{Expr}
use Rattle.sql_meaning.specs.Found.{Row}
use Rattle.sql_meaning.specs.Judged.{Condition}
use Rattle.sql_meaning.specs.Statements.{condition_of}
use Rattle.plain_rows.specs.declared.test.Test.{Test}
use Rattle.plain_rows.specs.declared.test.Test.TheVariants as of
use Rattle.plain_rows.specs.Cores.{IsTestOver}
use Rattle.plain_rows.specs.Tests.{IsReady, Parts, condition_by, condition_in, parts_in, parts_of}
use Rattle.plain_rows.proofs.Fitting.{tests-ready}
use Rattle.plain_cores.specs.Cores.{ArePartsOver}

test-over : (columns : List SqlType) (test : Test) → ArePartsOver columns (parts_in test) → IsTestOver columns test
test-over columns (of.Condition expr) over = over
test-over columns (of.Member expr values negated) over = over

pub all-over : (columns : List SqlType) (tests : List Test) → AllByRecursion (ArePartsOver columns) (map parts_in tests) → AllByRecursion (IsTestOver columns) tests
all-over columns [] all = tt
all-over columns (test ∷ tests) all = (test-over columns test all.0, all-over columns tests all.1)

pub of-map : {A B : Type 0} (P : B → Type 0) (f : A → B) (xs : List A) → AllByRecursion (λ x. P (f x)) xs → AllByRecursion P (map f xs)
of-map P f [] all = tt
of-map P f (x ∷ xs) all = (all.0, of-map P f xs all.1)

pub from-map : {A B : Type 0} (P : B → Type 0) (f : A → B) (xs : List A) → AllByRecursion P (map f xs) → AllByRecursion (λ x. P (f x)) xs
from-map P f [] all = tt
from-map P f (x ∷ xs) all = (all.0, from-map P f xs all.1)

-- tests that are made of what is typed over the columns of these rows can judge them
pub made-ready : (limit : ℕ) (columns : List SqlType) (tests : List Test) (parts : List Parts) (rows : List Row) → map parts_in tests ≡ parts → AllByRecursion (ArePartsOver columns) parts
    → AllByRecursion (Meets limit columns) rows → All (λ row. All (IsReady row) tests) rows
made-ready limit columns tests parts rows are over meet =
    tests-ready limit columns tests rows (all-over columns tests (subst (AllByRecursion (ArePartsOver columns)) (sym are) over)) meet

one-condition : (test : Test) → condition_in test ≡ condition_by (parts_in test)
one-condition (of.Condition expr) = refl
one-condition (of.Member expr values negated) = refl

all-conditions : (tests : List Test) → map condition_in tests ≡ map condition_by (map parts_in tests)
all-conditions [] = refl
all-conditions (test ∷ tests) = ap₂ ◌∷◌ (one-condition test) (all-conditions tests)

pub made-conditions : (tests : List Test) (parts : List Parts) → map parts_in tests ≡ parts → map condition_in tests ≡ map condition_by parts
made-conditions tests parts are = all-conditions tests ∙ ap (map condition_by) are

pub expr-conditions : (tests : List Test) (exprs : List Expr) → map parts_in tests ≡ map parts_of exprs → map condition_in tests ≡ map condition_of exprs
expr-conditions tests exprs are = made-conditions tests (map parts_of exprs) are ∙ map-map condition_by parts_of exprs
