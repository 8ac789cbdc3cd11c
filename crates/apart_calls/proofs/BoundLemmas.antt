-- A fact of each item of a list, from another.
use Rattle.std.specs.Prelude.{List, [], ◌∷◌}
use Rattle.std.specs.List.{AllByRecursion}

pub each-from : {A : Type 0} (P Q : A → Type 0) → ((x : A) → P x → Q x) → (xs : List A) → AllByRecursion P xs → AllByRecursion Q xs
each-from P Q from [] all = tt
each-from P Q from (x ∷ xs) all = (from x all.0, each-from P Q from xs all.1)
