-- Whether an aggregate stands in one of a list.
use Rattle.std.proofs.Common.{◌≡◌, ℕ, ◌+◌, ◌<◌, ◌≤◌, Bool, true, false, List, [], ◌∷◌, map, refl, sym, ap, ◌∙◌, get_or, drop, length}
use Rattle.std.specs.Prelude.{◌||◌, Result, Ok, Err, IfOk}
use Rattle.ooc_types.specs.declared.memory.OutOfMemory.{OutOfMemory}
use Rattle.sql_clauses.specs.Makes.{MakesBoth}
use Rattle.bind_rules.specs.Expressions.{some_of}
use Rattle.sql_scope.proofs.Finding.{item_behind, nothing_behind}

pub or_assoc : (a b c : Bool) → ((a || b) || c) ≡ (a || (b || c))
or_assoc true b c = refl
or_assoc false b c = refl

pub or_false : (a : Bool) → (a || false) ≡ a
or_false true = refl
or_false false = refl

-- what stands in those so far, or in the rest, is what stands in all
abbrev pub StandsSoFar : {X : Type 0} → (X → Bool) → Bool → Result Bool OutOfMemory → List X → Type 0
StandsSoFar test whole got rest = IfOk got (λ g. (g || some_of test rest) ≡ whole)

pub stands_next : {X : Type 0} (test : X → Bool) (whole : Bool) (list : List X) (i : ℕ) (x : X) (g s : Bool) → i < length list → x ≡ get_or list i x
    → (g || some_of test (drop i list)) ≡ whole → s ≡ test x → ((g || s) || some_of test (drop (i + 1) list)) ≡ whole
stands_next test whole list i x g s h is far same =
    or_assoc g s (some_of test (drop (i + 1) list)) ∙ ap (λ b. g || (b || some_of test (drop (i + 1) list))) same
    ∙ sym (ap (λ xs. g || some_of test xs) (item_behind list i x h is)) ∙ far

pub stands_further : {X : Type 0} (test : X → Bool) (whole : Bool) (list : List X) (i : ℕ) (x : X) (got stands result : Result Bool OutOfMemory) → i < length list → x ≡ get_or list i x
    → StandsSoFar test whole got (drop i list) → IfOk stands (λ s. s ≡ test x) → MakesBoth (λ a b. a || b) got stands result → StandsSoFar test whole result (drop (i + 1) list)
stands_further test whole list i x (Err fault) stands (Err e) h is far same made = tt
stands_further test whole list i x (Err fault) stands (Ok r) h is far same made = cc
stands_further test whole list i x (Ok g) (Err fault) (Err e) h is far same made = tt
stands_further test whole list i x (Ok g) (Err fault) (Ok r) h is far same made = cc
stands_further test whole list i x (Ok g) (Ok s) (Err e) h is far same made = tt
stands_further test whole list i x (Ok g) (Ok s) (Ok r) h is far same made =
    ap (λ b. b || some_of test (drop (i + 1) list)) made ∙ stands_next test whole list i x g s h is far same

pub stands_last : {X : Type 0} (test : X → Bool) (whole : Bool) (list : List X) (i : ℕ) (g : Bool) → length list ≤ i → (g || some_of test (drop i list)) ≡ whole → g ≡ whole
stands_last test whole list i g h far = sym (or_false g) ∙ sym (ap (λ xs. g || some_of test xs) (nothing_behind list i h)) ∙ far

pub stands_ended : {X : Type 0} (test : X → Bool) (whole : Bool) (list : List X) (i : ℕ) (got : Result Bool OutOfMemory) → length list ≤ i
    → StandsSoFar test whole got (drop i list) → IfOk got (λ s. s ≡ whole)
stands_ended test whole list i (Err fault) h far = tt
stands_ended test whole list i (Ok g) h far = stands_last test whole list i g h far

pub some_of-map : {X Y : Type 0} (test : Y → Bool) (f : X → Y) (list : List X) → some_of (λ x. test (f x)) list ≡ some_of test (map f list)
some_of-map test f [] = refl
some_of-map test f (x ∷ xs) = ap (λ b. test (f x) || b) (some_of-map test f xs)
