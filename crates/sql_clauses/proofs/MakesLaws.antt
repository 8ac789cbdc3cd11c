-- What is made of parts is what is made of what they are.
use Rattle.std.proofs.Common.{◌≡◌, refl, ap, ◌∙◌}
use Rattle.std.specs.Prelude.{Result, Ok, Err, IfOk}
use Rattle.ooc_types.specs.declared.memory.OutOfMemory.{OutOfMemory}
use Rattle.sql_clauses.specs.Makes.{Makes, MakesBoth, MakesThree}

-- nothing is said where memory ran out
pub from_fault : {A : Type 0} (P : A → Type 0) (fault : OutOfMemory) (result : Result A OutOfMemory) → result ≡ Err fault → IfOk result P
from_fault P fault (Err e) is = tt
from_fault P fault (Ok a) is = cc

pub same_made : {A : Type 0} (a b : A) (result : Result A OutOfMemory) → a ≡ b → IfOk result (λ r. r ≡ a) → IfOk result (λ r. r ≡ b)
same_made a b (Err e) is made = tt
same_made a b (Ok r) is made = made ∙ is

pub makes : {A B : Type 0} (f : A → B) (a : A) (got : Result A OutOfMemory) (result : Result B OutOfMemory)
    → IfOk got (λ x. x ≡ a) → Makes f got result → IfOk result (λ r. r ≡ f a)
makes f a (Err e) result given on = from_fault (λ r. r ≡ f a) e result on
makes f a (Ok x) result given on = same_made (f x) (f a) result (ap f given) on

pub makes_both : {A B C : Type 0} (f : A → B → C) (a : A) (b : B) (got : Result A OutOfMemory) (other : Result B OutOfMemory) (result : Result C OutOfMemory)
    → IfOk got (λ x. x ≡ a) → IfOk other (λ y. y ≡ b) → MakesBoth f got other result → IfOk result (λ r. r ≡ f a b)
makes_both f a b (Err e) other result given there on = from_fault (λ r. r ≡ f a b) e result on
makes_both f a b (Ok x) other result given there on = same_made (f x b) (f a b) result (ap (λ z. f z b) given) (makes (f x) b other result there on)

pub makes_three : {A B C D : Type 0} (f : A → B → C → D) (a : A) (b : B) (c : C) (got : Result A OutOfMemory) (second : Result B OutOfMemory) (third : Result C OutOfMemory)
    (result : Result D OutOfMemory) → IfOk got (λ x. x ≡ a) → IfOk second (λ y. y ≡ b) → IfOk third (λ z. z ≡ c) → MakesThree f got second third result → IfOk result (λ r. r ≡ f a b c)
makes_three f a b c (Err e) second third result given there then on = from_fault (λ r. r ≡ f a b c) e result on
makes_three f a b c (Ok x) second third result given there then on =
    same_made (f x b c) (f a b c) result (ap (λ z. f z b c) given) (makes_both (f x) b c second third result there then on)

-- parts that were paired before the whole was made of them

pub itself : {A : Type 0} (r : Result A OutOfMemory) → Makes (λ a. a) r r
itself (Err e) = refl
itself (Ok a) = refl

-- memory ran out, whichever part was missing
missing : {A B C : Type 0} (f : A → B → C) (first : Result A OutOfMemory) (second : Result B OutOfMemory) (e : OutOfMemory) → MakesBoth f first second (Err e)
missing f (Err x) second e = refl
missing f (Ok a) (Err x) e = refl
missing f (Ok a) (Ok b) e = tt

pub through_both : {A B C : Type 0} (f : A → B → C) (first got : Result A OutOfMemory) (second there : Result B OutOfMemory) (pair : Result (A × B) OutOfMemory)
    (result : Result C OutOfMemory) → Makes (λ a. a) first got → Makes (λ b. b) second there → MakesBoth (λ a b. (a, b)) got there pair → Makes (λ p. f p.0 p.1) pair result
    → MakesBoth f first second result
through_both f first got second there pair (Err e) one other two on = missing f first second e
through_both f first got second there (Err e) (Ok c) one other two on = cc
through_both f first (Err e) second there (Ok p) (Ok c) one other two on = cc
through_both f first (Ok x) second (Err e) (Ok p) (Ok c) one other two on = cc
through_both f (Err e) (Ok x) second (Ok y) (Ok p) (Ok c) one other two on = cc
through_both f (Ok a) (Ok x) (Err e) (Ok y) (Ok p) (Ok c) one other two on = cc
through_both f (Ok a) (Ok x) (Ok b) (Ok y) (Ok p) (Ok c) one other two on =
    on ∙ ap (λ q. f q.0 q.1) two ∙ ap (λ z. f z y) one ∙ ap (f a) other

pub through_pair : {A B : Type 0} (first got : Result A OutOfMemory) (second there : Result B OutOfMemory) (pair : Result (A × B) OutOfMemory)
    → Makes (λ a. a) first got → Makes (λ b. b) second there → MakesBoth (λ a b. (a, b)) got there pair → MakesBoth (λ a b. (a, b)) first second pair
through_pair first got second there pair one other two =
    through_both (λ a b. (a, b)) first got second there pair pair one other two (itself pair)

missing_three : {A B C D : Type 0} (f : A → B → C → D) (first : Result A OutOfMemory) (second : Result B OutOfMemory) (third : Result C OutOfMemory) (e : OutOfMemory)
    → MakesThree f first second third (Err e)
missing_three f (Err x) second third e = refl
missing_three f (Ok a) second third e = missing (f a) second third e

pub through_three : {A B C D : Type 0} (f : A → B → C → D) (first got : Result A OutOfMemory) (second : Result B OutOfMemory) (third : Result C OutOfMemory)
    (bounds : Result (B × C) OutOfMemory) (pair : Result (A × (B × C)) OutOfMemory) (result : Result D OutOfMemory)
    → Makes (λ a. a) first got → MakesBoth (λ a b. (a, b)) second third bounds → MakesBoth (λ a b. (a, b)) got bounds pair → Makes (λ p. f p.0 p.1.0 p.1.1) pair result
    → MakesThree f first second third result
through_three f first got second third bounds pair (Err e) one other two on = missing_three f first second third e
through_three f first got second third bounds (Err e) (Ok d) one other two on = cc
through_three f first (Err e) second third bounds (Ok p) (Ok d) one other two on = cc
through_three f first (Ok x) second third (Err e) (Ok p) (Ok d) one other two on = cc
through_three f (Err e) (Ok x) second third (Ok y) (Ok p) (Ok d) one other two on = cc
through_three f (Ok a) (Ok x) (Err e) third (Ok y) (Ok p) (Ok d) one other two on = cc
through_three f (Ok a) (Ok x) (Ok b) (Err e) (Ok y) (Ok p) (Ok d) one other two on = cc
through_three f (Ok a) (Ok x) (Ok b) (Ok c) (Ok y) (Ok p) (Ok d) one other two on =
    on ∙ ap (λ q. f q.0 q.1.0 q.1.1) two ∙ ap (λ z. f z y.0 y.1) one ∙ ap (λ w. f a w.0 w.1) other

-- a list's item that was made of a part
pub through_item : {A B C D : Type 0} (g : A → B → C) (h : D → B) (list : Result A OutOfMemory) (part : Result D OutOfMemory) (item : Result B OutOfMemory)
    (result : Result C OutOfMemory) → Makes h part item → MakesBoth g list item result → MakesBoth (λ a d. g a (h d)) list part result
through_item g h (Err e) part item result one on = on
through_item g h (Ok a) part item (Err e) one on = missing (λ x d. g x (h d)) (Ok a) part e
through_item g h (Ok a) part (Err e) (Ok c) one on = cc
through_item g h (Ok a) (Err e) (Ok b) (Ok c) one on = cc
through_item g h (Ok a) (Ok d) (Ok b) (Ok c) one on = on ∙ ap (g a) one

-- an arm of a walk over a tree: the parts that were made are those of the operands

pub arm : {A B : Type 0} (f : A → B) (a got : A) (whole : B) (r : Result A OutOfMemory) (result : Result B OutOfMemory)
    → f a ≡ whole → got ≡ a → IfOk r (λ x. x ≡ got) → Makes f r result → IfOk result (λ o. o ≡ whole)
arm f a got whole r result is same given on = same_made (f got) whole result (ap f same ∙ is) (makes f got r result given on)

pub arm_both : {A B C : Type 0} (f : A → B → C) (a got : A) (b other : B) (whole : C) (r : Result A OutOfMemory) (s : Result B OutOfMemory) (result : Result C OutOfMemory)
    → f a b ≡ whole → got ≡ a → other ≡ b → IfOk r (λ x. x ≡ got) → IfOk s (λ y. y ≡ other) → MakesBoth f r s result → IfOk result (λ o. o ≡ whole)
arm_both f a got b other whole r s result is same alike given there on =
    same_made (f got other) whole result (ap (λ x. f x other) same ∙ ap (f a) alike ∙ is) (makes_both f got other r s result given there on)

pub arm_three : {A B C D : Type 0} (f : A → B → C → D) (a got : A) (b second : B) (c third : C) (whole : D) (r : Result A OutOfMemory) (s : Result B OutOfMemory) (t : Result C OutOfMemory)
    (result : Result D OutOfMemory) → f a b c ≡ whole → got ≡ a → second ≡ b → third ≡ c → IfOk r (λ x. x ≡ got) → IfOk s (λ y. y ≡ second) → IfOk t (λ z. z ≡ third)
    → MakesThree f r s t result → IfOk result (λ o. o ≡ whole)
arm_three f a got b second c third whole r s t result is same alike too given there then on =
    same_made (f got second third) whole result (ap (λ x. f x second third) same ∙ ap (λ y. f a y third) alike ∙ ap (f a b) too ∙ is)
    (makes_three f got second third r s t result given there then on)
