-- One item more of a list that is gone through from left to right.
use Rattle.std.proofs.Common.{◌≡◌, ℕ, ◌+◌, ◌<◌, ◌≤◌, List, [], ◌∷◌, map, refl, sym, ap, ◌∙◌, get_or, drop, length}
use Rattle.std.specs.Prelude.{Result}
use Rattle.sql_scope.specs.declared.fault.BindFault.{BindFault}
use Rattle.sql_scope.specs.Answer.{Answer, Gives, GoesOn, ◌>>=◌, each}
use Rattle.sql_scope.proofs.Going.{same_answer, goes_on}
use Rattle.sql_scope.proofs.Finding.{item_behind, item_at, nothing_behind}

-- what was bound of a list, and what is left, is the whole
pub record SoFar {A X : Type 0} (step : X → A → Answer A) (whole : Answer A) (got : Result A BindFault) (rest : List X) : Type 0 where
  pub answer : Answer A
  pub gives : Gives answer got
  pub goes_on : each step answer rest ≡ whole

pub begins : {A X : Type 0} (step : X → A → Answer A) (m : Answer A) (got : Result A BindFault) (list : List X) → Gives m got → SoFar step (each step m list) got list
begins step m got list gives = record { answer = m; gives = gives; goes_on = refl }

pub goes_further : {A X : Type 0} (step : X → A → Answer A) (whole : Answer A) (got result : Result A BindFault) (list : List X) (i : ℕ) (x : X)
    → i < length list → x ≡ get_or list i x → SoFar step whole got (drop i list) → ((m : Answer A) → Gives m got → Gives (m >>= step x) result)
    → SoFar step whole result (drop (i + 1) list)
goes_further step whole got result list i x h is far one = record {
  answer = far.answer >>= step x;
  gives = one far.answer far.gives;
  goes_on = sym (ap (each step far.answer) (item_behind list i x h is)) ∙ far.goes_on;
}

pub ends : {A X : Type 0} (step : X → A → Answer A) (whole : Answer A) (got : Result A BindFault) (list : List X) (i : ℕ) → length list ≤ i
    → SoFar step whole got (drop i list) → Gives whole got
ends step whole got list i h far =
    same_answer far.answer whole got (sym (ap (each step far.answer) (nothing_behind list i h)) ∙ far.goes_on) far.gives

-- the items may be opened on the way
pub each-map : {A X Y : Type 0} (step : Y → A → Answer A) (f : X → Y) (m : Answer A) (list : List X) → each (λ x. step (f x)) m list ≡ each step m (map f list)
each-map step f m [] = refl
each-map step f m (x ∷ list) = each-map step f (m >>= step (f x)) list

-- an item that acts by a function of the code
pub step_on : {A X : Type 0} (step : X → A → Answer A) (x : X) (got result : Result A BindFault) → GoesOn (step x) got result → (m : Answer A) → Gives m got → Gives (m >>= step x) result
step_on step x got result on m gives = goes_on m (step x) got result gives on

-- the same where the item is read by its place
pub goes_further_at : {A X : Type 0} (step : X → A → Answer A) (whole : Answer A) (got result : Result A BindFault) (list : List X) (i : ℕ) (d : X)
    → i < length list → SoFar step whole got (drop i list) → ((m : Answer A) → Gives m got → Gives (m >>= step (get_or list i d)) result)
    → SoFar step whole result (drop (i + 1) list)
goes_further_at step whole got result list i d h far one = record {
  answer = far.answer >>= step (get_or list i d);
  gives = one far.answer far.gives;
  goes_on = sym (ap (each step far.answer) (item_at list i d h)) ∙ far.goes_on;
}
