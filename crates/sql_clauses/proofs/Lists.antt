-- Steps of a list that is gone through from left to right, and lists of pairs and of columns.
use Rattle.std.proofs.Common.{◌≡◌, ℕ, zero, suc, ◌+◌, ◌<◌, ◌≤◌, Bool, true, false, cond, List, [], ◌∷◌, ◌++◌, refl, sym, ap, ◌∙◌, subst, get_or, drop, length, reverse, arith}
use Rattle.std.proofs.lemmas.List.{reverse-append}
use Rattle.std.specs.Prelude.{Result, zip}
use Rattle.sql_scope.specs.declared.fault.BindFault.{BindFault}
use Rattle.sql_scope.specs.declared.scope.ScopeColumn.{ScopeColumn}
use Rattle.sql_scope.specs.Answer.{Answer, Gives, GoesOn, ◌>>=◌, each}
use Rattle.sql_scope.specs.Scopes.{Spot, spots}
use Rattle.sql_scope.proofs.Going.{same_answer}
use Rattle.sql_scope.proofs.Finding.{item_behind, nothing_behind}
use Rattle.sql_scope.proofs.Each.{SoFar, step_on}
use Rattle.sql_clauses.specs.Items.{GoesOnIf}

-- one item more, where the list that is left is known
pub one_step : {A X : Type 0} (step : X → A → Answer A) (whole : Answer A) (got result : Result A BindFault) (here : List X) (x : X) (rest : List X)
    → here ≡ x ∷ rest → SoFar step whole got here → GoesOn (step x) got result → SoFar step whole result rest
one_step step whole got result here x rest is far on = record {
  answer = far.answer >>= step x;
  gives = step_on step x got result on far.answer far.gives;
  goes_on = sym (ap (each step far.answer) is) ∙ far.goes_on;
}

pub no_step : {A X : Type 0} (step : X → A → Answer A) (whole : Answer A) (got : Result A BindFault) (here rest : List X)
    → here ≡ rest → SoFar step whole got here → SoFar step whole got rest
no_step step whole got here rest is far =
    record { answer = far.answer; gives = far.gives; goes_on = sym (ap (each step far.answer) is) ∙ far.goes_on }

pub all_done : {A X : Type 0} (step : X → A → Answer A) (whole : Answer A) (got : Result A BindFault) (here : List X)
    → here ≡ [] → SoFar step whole got here → Gives whole got
all_done step whole got here is far = same_answer far.answer whole got (sym (ap (each step far.answer) is) ∙ far.goes_on) far.gives

-- the columns that pass a test
pub spots_step : (test : ScopeColumn → Bool) (i : ℕ) (columns : List ScopeColumn) (column : ScopeColumn)
    → i < length columns → column ≡ get_or columns i column
    → spots test i (drop i columns) ≡ cond (test column) (record { place = i; kind = column.kind } ∷ spots test (i + 1) (drop (i + 1) columns)) (spots test (i + 1) (drop (i + 1) columns))
spots_step test i columns column h is = ap (spots test i) (item_behind columns i column h is)

chosen : {A : Type 0} (b : Bool) (x y : A) → b ≡ true → cond b x y ≡ x
chosen true x y e = refl
chosen false x y e = cc

unchosen : {A : Type 0} (b : Bool) (x y : A) → b ≡ false → cond b x y ≡ y
unchosen true x y e = cc
unchosen false x y e = refl

pub next_spot : (test : ScopeColumn → Bool) (i : ℕ) (columns : List ScopeColumn) (column : ScopeColumn)
    → i < length columns → column ≡ get_or columns i column → test column ≡ true
    → spots test i (drop i columns) ≡ record { place = i; kind = column.kind } ∷ spots test (i + 1) (drop (i + 1) columns)
next_spot test i columns column h is e =
    spots_step test i columns column h is
    ∙ chosen (test column) (record { place = i; kind = column.kind } ∷ spots test (i + 1) (drop (i + 1) columns)) (spots test (i + 1) (drop (i + 1) columns)) e

pub other_spot : (test : ScopeColumn → Bool) (i : ℕ) (columns : List ScopeColumn) (column : ScopeColumn)
    → i < length columns → column ≡ get_or columns i column → test column ≡ false
    → spots test i (drop i columns) ≡ spots test (i + 1) (drop (i + 1) columns)
other_spot test i columns column h is e =
    spots_step test i columns column h is
    ∙ unchosen (test column) (record { place = i; kind = column.kind } ∷ spots test (i + 1) (drop (i + 1) columns)) (spots test (i + 1) (drop (i + 1) columns)) e

pub no_spot : (test : ScopeColumn → Bool) (i : ℕ) (columns : List ScopeColumn) → length columns ≤ i → spots test i (drop i columns) ≡ []
no_spot test i columns h = ap (spots test i) (nothing_behind columns i h)

pub perhaps_step : {A : Type 0} (step : Spot → A → Answer A) (whole : Answer A) (got result : Result A BindFault) (test : ScopeColumn → Bool) (i : ℕ) (columns : List ScopeColumn)
    (column : ScopeColumn) (holds : Bool) → i < length columns → column ≡ get_or columns i column → holds ≡ test column
    → SoFar step whole got (spots test i (drop i columns)) → GoesOnIf holds (step (record { place = i; kind = column.kind })) got result
    → SoFar step whole result (spots test (i + 1) (drop (i + 1) columns))
perhaps_step step whole got result test i columns column true h is e far on =
    one_step step whole got result (spots test i (drop i columns)) (record { place = i; kind = column.kind }) (spots test (i + 1) (drop (i + 1) columns))
    (next_spot test i columns column h is (sym e)) far on
perhaps_step step whole got result test i columns column false h is e far on =
    subst (λ r. SoFar step whole r (spots test (i + 1) (drop (i + 1) columns))) (sym on)
    (no_step step whole got (spots test i (drop i columns)) (spots test (i + 1) (drop (i + 1) columns)) (other_spot test i columns column h is (sym e)) far)

-- pairs
pub next_pair : {A B : Type 0} (xs : List A) (ys : List B) (i : ℕ) (a : A) (b : B) → i < length xs → i < length ys → a ≡ get_or xs i a → b ≡ get_or ys i b
    → drop i (zip xs ys) ≡ (a, b) ∷ drop (i + 1) (zip xs ys)
next_pair [] ys i a b h g is at = absurd (omega arith)
next_pair (x ∷ xs) [] i a b h g is at = absurd (omega arith)
next_pair (x ∷ xs) (y ∷ ys) zero a b h g is at = ap (λ p. (p, y) ∷ zip xs ys) (sym is) ∙ ap (λ p. (a, p) ∷ zip xs ys) (sym at)
next_pair (x ∷ xs) (y ∷ ys) (suc i) a b h g is at =
    let next : suc (i + 1) ≡ suc i + 1 = omega arith in
    next_pair xs ys i a b (omega arith) (omega arith) is at ∙ ap (λ n. (a, b) ∷ drop n ((x, y) ∷ zip xs ys)) next

pub no_pair : {A B : Type 0} (xs : List A) (ys : List B) (i : ℕ) → length xs ≤ i → drop i (zip xs ys) ≡ []
no_pair [] ys zero h = refl
no_pair [] ys (suc i) h = refl
no_pair (x ∷ xs) [] zero h = absurd (omega arith)
no_pair (x ∷ xs) [] (suc i) h = refl
no_pair (x ∷ xs) (y ∷ ys) zero h = absurd (omega arith)
no_pair (x ∷ xs) (y ∷ ys) (suc i) h = no_pair xs ys i (omega arith)

-- the last item comes first in the reversed list
pub last_first : {A : Type 0} (old new : List A) (x : A) → old ≡ new ++ x ∷ [] → reverse old ≡ x ∷ reverse new
last_first old new x is = ap reverse is ∙ reverse-append new (x ∷ [])
