-- Joined fields, from the first on; and a quoted text.
use Rattle.std.proofs.Common.{◌≡◌, ℕ, List, [], ◌∷◌, ◌++◌, map, refl, ◌∙◌, ap, append_assoc}
use Rattle.std.specs.List.{flat_map}
use Rattle.std.proofs.lemmas.List.{append-nil}
use Rattle.result_print.specs.Printed.{joined, quoted, doubled}

pub from_first : {A : Type 0} (f : A → List ℕ) (x : A) (xs : List A) → f x ++ flat_map (λ v. 44 ∷ f v) xs ≡ joined (map f (x ∷ xs))
unfolding joined
from_first f x [] = append-nil (f x)
from_first f x (y ∷ ys) = ap (λ bytes. f x ++ 44 ∷ bytes) (from_first f y ys)

pub none : {A : Type 0} (f : A → List ℕ) → [] ≡ joined (map f [])
unfolding joined
none f = refl

pub in_quotes : (old bytes : List ℕ) → ((old ++ 34 ∷ []) ++ flat_map doubled bytes) ++ 34 ∷ [] ≡ old ++ quoted bytes
unfolding quoted
in_quotes old bytes = ap (λ l. l ++ 34 ∷ []) (append_assoc old (34 ∷ []) (flat_map doubled bytes)) ∙ append_assoc old (34 ∷ flat_map doubled bytes) (34 ∷ [])
