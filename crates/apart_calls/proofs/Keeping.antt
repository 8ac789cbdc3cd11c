-- What holds of all that a rule derives, by what holds of its parts.
use Rattle.std.proofs.Common.{◌≡◌, ◌≤◌, ℕ, ◌+◌, List, [], ◌∷◌, ◌++◌, map, sym, subst, arith, ◌⊎◌, inl, inr}
use Rattle.sql_grammar.specs.Lexeme.{Lexeme}
use Rattle.sql_grammar.specs.Derives.{Language, One, Both, Many, Nest, Marked, Phrase}
use Rattle.formed_binding.specs.Placed.{Placed, all_of}
use Rattle.apart_calls.proofs.Fits.{Fits, Places, Room, Within, at, both-fit, none, nowhere-fits, starts, starts-append, wider}

-- what is told of a value, by the places where its tokens begin
abbrev pub Told : Type 0 → Type 1
Told A = A → Places → Type 0

-- it is told of each value that the tokens may stand for
abbrev pub Keeps : {A : Type 0} → Language A → Told A → Type 0
Keeps {A} L S = (a : A) (w : List Lexeme) → L a w → S a (starts w)

-- it stays told where there are more places
abbrev pub Widens : {A : Type 0} → Told A → Type 0
Widens {A} S = (a : A) (n m : Places) → Within n m → S a n → S a m

-- nothing
abbrev pub Any : {A : Type 0} → Told A
Any a n = Unit {0}

-- the calls of a part fit
abbrev pub Of : {A : Type 0} → (A → Placed) → Told A
Of places a n = Fits (places a) n

-- of a function: what is told of what it is given is told of what it makes, where there is room for both
abbrev pub Turns : {A B : Type 0} → Told A → Told B → Told (A → B)
Turns {A} {B} S U f n = (a : A) (m k : Places) → S a m → Room n m k → U (f a) k

-- of a pair
abbrev pub Pair : {A B : Type 0} → Told A → Told B → Told (A × B)
Pair S T p n = (i : Places) × (j : Places) × S p.0 i × T p.1 j × Room i j n

-- of each of a list
abbrev pub Each : {A : Type 0} → Told A → Told (List A)
Each S [] n = Unit {0}
Each S (a ∷ list) n = (i : Places) × (j : Places) × S a i × Each S list j × Room i j n

pub anything : {A : Type 0} (L : Language A) → Keeps L Any
anything L a w l = tt

pub of-wider : {A : Type 0} (places : A → Placed) → Widens (Of places)
of-wider places a n m in_m fits = wider (places a) n m in_m fits

pub turns-wider : {A B : Type 0} (S : Told A) (U : Told B) → Widens (Turns S U)
turns-wider S U f n m in_m t a i k s room = t a i k s (λ place. omega (arith, in_m place, room place))

pub each-fits : {A : Type 0} (places : A → Placed) (list : List A) (n : Places) → Each (Of places) list n → Fits (all_of (map places list)) n
each-fits places [] n each = nowhere-fits n
each-fits places (a ∷ list) n each = both-fit (places a) (all_of (map places list)) each.0 each.1 n each.2 (each-fits places list each.1 each.3) each.4

-- ---- rules

pub constant : {A : Type 0} (S : Told A) (f : A) → S f none → Keeps (λ b w. (b ≡ f) × (w ≡ [])) S
constant S f of b w is = subst (λ b. S b (starts w)) (sym is.0) (subst (λ w. S f (starts w)) (sym is.1) of)

split : (u v w : List Lexeme) → w ≡ u ++ v → Room (starts u) (starts v) (starts w)
split u v w whole place = subst (λ w. starts u place + starts v place ≤ starts w place) (sym whole) (omega (arith, starts-append u v place))

pub applied : {A B : Type 0} {L : Language (A → B)} {M : Language A} (S : Told A) (U : Told B) → Keeps L (Turns S U) → Keeps M S → Keeps (Both (λ f a. f a) L M) U
applied S U left right c w d =
    subst (λ c. U c (starts w)) (sym d.means) (left d.value d.front d.fore d.next (starts d.back) (starts w) (right d.next d.back d.aft) (split d.front d.back w d.whole))

-- what stands behind it is told of
pub ended : {A B : Type 0} {L : Language A} {M : Language B} (U : Told A) → Widens U → Keeps L U → Keeps (Both (λ a b. a) L M) U
ended U widens left c w d =
    let room = split d.front d.back w d.whole in
    subst (λ c. U c (starts w)) (sym d.means) (widens d.value (starts d.front) (starts w) (λ place. omega (arith, room place)) (left d.value d.front d.fore))

-- and what stands before it isn't
pub behind : {A B : Type 0} {L : Language A} {M : Language B} (U : Told B) → Widens U → Keeps M U → Keeps (Both (λ a b. b) L M) U
behind U widens right c w d =
    let room = split d.front d.back w d.whole in
    subst (λ c. U c (starts w)) (sym d.means) (widens d.next (starts d.back) (starts w) (λ place. omega (arith, room place)) (right d.next d.back d.aft))

pub one-or : {A : Type 0} {L M : Language A} (U : Told A) → Keeps L U → Keeps M U → Keeps (λ a w. L a w ⊎ M a w) U
one-or U left right a w (inl d) = left a w d
one-or U left right a w (inr d) = right a w d

pub each-of : {A : Type 0} {L : Language A} (S : Told A) → Keeps L S → (list : List A) (w : List Lexeme) → Many L list w → Each S list (starts w)
each-of S of [] w Many.none = tt
each-of S of (a ∷ list) w (Many.more {u = u} {v = v} d others) = (starts u, starts v, of a u d, each-of S of list v others, λ place. omega (arith, starts-append u v place))

pub a-token : {A : Type 0} (classes : List ℕ) (f : Lexeme → A) (U : Told A) → ((x : Lexeme) (n : Places) → Within (at x) n → U (f x) n) → Keeps (One classes f) U
a-token classes f U of a w d =
    subst (λ a. U a (starts w)) (sym d.means) (of d.token (starts w) (λ place. subst (λ w. at d.token place ≤ starts w place) (sym d.alone) (omega arith)))

pub a-level : {A B : Type 0} {L : Language A} (openers : List ℕ) (f : Lexeme → A → B) (S : Told A) (U : Told B) → Keeps L S
    → ((x : Lexeme) (a : A) (n m : Places) → S a n → Within n m → U (f x a) m) → Keeps (Nest openers f L) U
a-level openers f S U of to b w d =
    subst (λ b. U b (starts w)) (sym d.means) (to d.token d.value (starts d.rest) (starts w) (of d.value d.rest d.inside)
    (λ place. subst (λ w. starts d.rest place ≤ starts w place) (sym d.whole) (omega arith)))

pub a-mark : {A B : Type 0} {L : Language A} (f : Lexeme → A → B) (S : Told A) (U : Told B) → Keeps L S → ((x : Lexeme) (a : A) (n : Places) → S a n → U (f x a) n) → Keeps (Marked f L) U
a-mark f S U of to b w d = subst (λ b. U b (starts w)) (sym d.means) (to d.token d.value (starts w) (of d.value w d.spelled))

pub a-phrase : {A : Type 0} {L : Language A} (classes : List ℕ) (second third : ℕ) (f : Lexeme → A) (U : Told A) → ((x : Lexeme) (n : Places) → U (f x) n) → Keeps L U
    → Keeps (λ a w. Phrase classes second third f a w ⊎ L a w) U
a-phrase classes second third f U of other a w (inl d) = subst (λ a. U a (starts w)) (sym d.means) (of d.x (starts w))
a-phrase classes second third f U of other a w (inr d) = other a w d
