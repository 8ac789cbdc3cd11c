-- Rows that meet types fit what is typed over these.
use Rattle.std.proofs.Common.{◌≡◌, ℕ, suc, zero, true, false, List, [], ◌∷◌, ◌++◌, subst, sym, arith, All}
use Rattle.std.specs.Prelude.{Ok, Err}
use Rattle.std.specs.List.{AllByRecursion}
use Rattle.ooc_types.specs.Meets.{Meets}
use Rattle.ooc_types.specs.declared.schema.SqlType.{SqlType}
use Rattle.sql_expr.specs.declared.tree.Expr.{Expr}
use Rattle.sql_expr.specs.Typing.{IsTyped}
use Rattle.sql_meaning.specs.Found.{Row}
use Rattle.sql_meaning.specs.Judged.{Condition, Verdict, judged, kept, plain_first, verdict_found}
use Rattle.plain_rows.specs.declared.test.Test.{Test}
use Rattle.plain_rows.specs.declared.test.Test.TheVariants as of
use Rattle.plain_rows.specs.Cores.{IsTestOver}
use Rattle.plain_rows.specs.Tests.{FitsItem, IsReady}

pub all-at : {A : Type 0} (P : A → Type 0) (xs : List A) → AllByRecursion P xs → All P xs
all-at P [] all k d within = absurd (search (arith, within))
all-at P (x ∷ xs) all zero d within = all.0
all-at P (x ∷ xs) all (suc k) d within = all-at P xs all.1 k d (omega arith)

pub each : {A : Type 0} (P Q : A → Type 0) → ((x : A) → P x → Q x) → (xs : List A) → AllByRecursion P xs → AllByRecursion Q xs
each P Q f [] all = tt
each P Q f (x ∷ xs) all = (f x all.0, each P Q f xs all.1)

pub both-have : {A : Type 0} (P : A → Type 0) (xs ys : List A) → AllByRecursion P xs → AllByRecursion P ys → AllByRecursion P (xs ++ ys)
both-have P [] ys xall yall = yall
both-have P (x ∷ xs) ys xall yall = (xall.0, both-have P xs ys xall.1 yall)

one-has : (P : Row → Type 0) (row : Row) (verdict : Verdict) → P row → AllByRecursion P (verdict_found row verdict).rows
one-has P row (Err fault) has = tt
one-has P row (Ok true) has = (has, tt)
one-has P row (Ok false) has = tt

-- what holds of all rows holds of those that are kept
pub kept-has : (P : Row → Type 0) (conjuncts : List Condition) (rows : List Row) → AllByRecursion P rows → AllByRecursion P (kept conjuncts rows).rows
kept-has P conjuncts [] all = tt
kept-has P conjuncts (row ∷ rows) all =
    both-have P (verdict_found row (judged (plain_first conjuncts) row)).rows (kept conjuncts rows).rows (one-has P row (judged (plain_first conjuncts) row) all.0) (kept-has P conjuncts rows all.1)

test-ready : (limit : ℕ) (columns : List SqlType) (row : Row) → Meets limit columns row → (test : Test) → IsTestOver columns test → IsReady row test
test-ready limit columns row meets (of.Condition expr) over = (record { columns = columns; limit = limit; typed = over.0; meets = meets }, over.1)
test-ready limit columns row meets (of.Member expr values negated) over = record { columns = columns; limit = limit; typed = over; meets = meets }

pub tests-ready : (limit : ℕ) (columns : List SqlType) (tests : List Test) (rows : List Row) → AllByRecursion (IsTestOver columns) tests → AllByRecursion (Meets limit columns) rows
    → All (λ row. All (IsReady row) tests) rows
tests-ready limit columns tests rows over meet =
    all-at (λ row. All (IsReady row) tests) rows
    (each (Meets limit columns) (λ row. All (IsReady row) tests) (λ row meets. all-at (IsReady row) tests (each (IsTestOver columns) (IsReady row) (test-ready limit columns row meets) tests over)) rows meet)

pub items-fit : (limit : ℕ) (columns : List SqlType) (items : List Expr) (rows : List Row) → AllByRecursion (IsTyped columns) items → AllByRecursion (Meets limit columns) rows
    → All (λ row. All (FitsItem row) items) rows
items-fit limit columns items rows over meet =
    all-at (λ row. All (FitsItem row) items) rows
    (each (Meets limit columns) (λ row. All (FitsItem row) items)
    (λ row meets. all-at (FitsItem row) items (each (IsTyped columns) (FitsItem row) (λ item typed. record { columns = columns; limit = limit; typed = typed; meets = meets }) items over)) rows meet)

-- the same of lists that are the same
pub moved : (tests us : List Test) (rows vs : List Row) → us ≡ tests → vs ≡ rows → All (λ row. All (IsReady row) tests) rows → All (λ row. All (IsReady row) us) vs
moved tests us rows vs same are ready =
    subst (λ ts. All (λ row. All (IsReady row) ts) vs) (sym same) (subst (λ rs. All (λ row. All (IsReady row) tests) rs) (sym are) ready)
