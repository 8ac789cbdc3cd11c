-- Tests that are conditions.
use Rattle.std.proofs.Common.{◌≡◌, ℕ, ◌+◌, ◌<◌, ◌≤◌, List, [], ◌∷◌, ◌++◌, take, get_or, length, map, refl, sym, ap, ap₂, subst, ◌∙◌, append-nil}
use Rattle.std.specs.Prelude.{Option, Some, None, IfSome}
use Rattle.std.specs.List.{AllByRecursion}
use Rattle.std.proofs.lemmas.Grind.{flat_map-append}
use Rattle.ooc_types.specs.Meets.{Meets}
use Rattle.ooc_types.specs.declared.schema.SqlType.{SqlType}
use Rattle.sql_expr.specs.declared.tree.Expr.{Expr}
use Rattle.bound_tree.specs.declared.select.Conjunct.{Conjunct}
use Rattle.sql_meaning.specs.Found.{Row}
use Rattle.sql_meaning.specs.Judged.{Condition}
use Rattle.sql_meaning.specs.Statements.{condition_of}
use Rattle.plain_rows.specs.declared.test.Test.{Test}
use Rattle.plain_rows.specs.declared.test.Test.TheVariants as of
use Rattle.plain_rows.specs.Cores.{CanSelect, IsTestOver}
use Rattle.plain_rows.specs.Tests.{condition_in}
use Rattle.plain_rows.proofs.Collecting.{take-next, take-whole}
use Rattle.table_scan.specs.declared.reading.Reading.{Reading}
use Rattle.table_scan.specs.Scan.{condition_of_conjunct, conditions_among}
use Rattle.table_scan.specs.Typed.{AreTests, IsConditionOver, IsReading}

tests-more : (tests more : List Test) (exprs others : List Expr) → AreTests tests exprs → AreTests more others → AreTests (tests ++ more) (exprs ++ others)
tests-more [] more [] others are also = also
tests-more [] more (expr ∷ exprs) others are also = absurd are
tests-more (of.Condition e ∷ tests) more [] others are also = absurd are
tests-more (of.Member e values negated ∷ tests) more [] others are also = absurd are
tests-more (of.Condition e ∷ tests) more (expr ∷ exprs) others are also = (are.0, tests-more tests more exprs others are.1 also)
tests-more (of.Member e values negated ∷ tests) more (expr ∷ exprs) others are also = absurd are

among-next : (conjuncts : List Conjunct) (i : ℕ) (conjunct : Conjunct) → i < length conjuncts → conjunct ≡ get_or conjuncts i conjunct
    → conditions_among (take (i + 1) conjuncts) ≡ conditions_among (take i conjuncts) ++ condition_of_conjunct conjunct
among-next conjuncts i conjunct within is =
    ap conditions_among (take-next conjuncts i conjunct within is) ∙ flat_map-append condition_of_conjunct (take i conjuncts) (conjunct ∷ [])
    ∙ ap (λ l. conditions_among (take i conjuncts) ++ l) (append-nil (condition_of_conjunct conjunct))

-- a conjunct more, and what was added for it
pub tests-next : (conjuncts : List Conjunct) (i : ℕ) (conjunct : Conjunct) (old new more : List Test) → i < length conjuncts → conjunct ≡ get_or conjuncts i conjunct
    → AreTests old (conditions_among (take i conjuncts)) → new ≡ old ++ more → AreTests more (condition_of_conjunct conjunct) → AreTests new (conditions_among (take (i + 1) conjuncts))
tests-next conjuncts i conjunct old new more within is before adds are =
    subst (λ (ts : List Test). AreTests ts (conditions_among (take (i + 1) conjuncts))) (sym adds)
    (subst (AreTests (old ++ more)) (sym (among-next conjuncts i conjunct within is)) (tests-more old more (conditions_among (take i conjuncts)) (condition_of_conjunct conjunct) before are))

pub tests-all : (conjuncts : List Conjunct) (i : ℕ) (tests : List Test) → length conjuncts ≤ i → AreTests tests (conditions_among (take i conjuncts)) → AreTests tests (conditions_among conjuncts)
tests-all conjuncts i tests past are = subst (λ (l : List Conjunct). AreTests tests (conditions_among l)) (take-whole conjuncts i past) are

-- ---- what they are

pub as-conditions : (tests : List Test) (exprs : List Expr) → AreTests tests exprs → map condition_in tests ≡ map condition_of exprs
as-conditions [] [] are = refl
as-conditions [] (expr ∷ exprs) are = absurd are
as-conditions (of.Condition e ∷ tests) [] are = absurd are
as-conditions (of.Member e values negated ∷ tests) [] are = absurd are
as-conditions (of.Condition e ∷ tests) (expr ∷ exprs) are = ap₂ (λ (c : Condition) (cs : List Condition). c ∷ cs) (ap condition_of are.0) (as-conditions tests exprs are.1)
as-conditions (of.Member e values negated ∷ tests) (expr ∷ exprs) are = absurd are

pub as-typed : (columns : List SqlType) (tests : List Test) (exprs : List Expr) → AreTests tests exprs → AllByRecursion (IsConditionOver columns) exprs → AllByRecursion (IsTestOver columns) tests
as-typed columns [] exprs are typed = tt
as-typed columns (of.Condition e ∷ tests) [] are typed = absurd are
as-typed columns (of.Member e values negated ∷ tests) [] are typed = absurd are
as-typed columns (of.Condition e ∷ tests) (expr ∷ exprs) are typed = (subst (IsConditionOver columns) (sym are.0) typed.0, as-typed columns tests exprs are.1 typed.1)
as-typed columns (of.Member e values negated ∷ tests) (expr ∷ exprs) are typed = absurd are

-- a row of the table can be judged, and its items have values
pub row-fits : (reading : Reading) (kinds : List SqlType) (limit : ℕ) (row : Row) → kinds ≡ reading.kinds.now → IsReading reading → Meets limit kinds row → CanSelect reading.tests.items reading.items.now (row ∷ [])
row-fits reading kinds limit row same typed meets = record {
  columns = reading.kinds.now;
  limit = limit;
  are = (subst (λ (ks : List SqlType). Meets limit ks row) same meets, tt);
  judged = typed.tests;
  shown = typed.items;
}

pub meets-some : (limit : ℕ) (kinds : List SqlType) (row : Row) (o : Option ℕ) (hash : ℕ) → o ≡ Some hash → IfSome o (λ _. Meets limit kinds row) → Meets limit kinds row
meets-some limit kinds row None hash e has = cc
meets-some limit kinds row (Some other) hash e has = has
