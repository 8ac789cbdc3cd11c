-- Three tables in another order: `a JOIN b ON a.k = b.k JOIN c ON a.k = c.k AND c.k > 1`, planned as a, c, b with one
-- equality as the key of each later loop and the comparison as a filter of c.
use Rattle.std.proofs.Common.{◌≡◌, Bool, true, false, ◌&&◌, List, [], ◌∷◌, map, length, refl, arith}
use Rattle.std.specs.Prelude.{filter}
use Rattle.std.specs.List.{AllByRecursion}
use Rattle.ooc_bags.specs.Bags.{SameBag}
use Rattle.ooc_types.specs.declared.value.Value.{Value}
use Rattle.sql_meaning.specs.Found.{Row}
use Rattle.sql_meaning.specs.Ordered.{value_at}
use Rattle.ooc_bags.specs.Rearranged.{IsRearranged}
use Rattle.sql_meaning.specs.Free.{Table, Loop, looped, all_pass, tables_of, reordered}
use Rattle.sql_meaning.proofs.Free.{loops-reordered}

module _ (equal : Value → Value → Bool) (above : Value → Bool) (xs ys zs : List Row) where
  abbrev any : Row → Bool
  any row = true

  abbrev a : Loop
  a = record { table = record { rows = xs; width = 1 }; own = any; test = any }

  abbrev written : List Loop
  written =
      a
      ∷ record { table = record { rows = ys; width = 1 }; own = any; test = λ row. equal (value_at 0 row) (value_at 1 row) }
      ∷ record { table = record { rows = zs; width = 1 }; own = any; test = λ row. equal (value_at 0 row) (value_at 2 row) && above (value_at 2 row) }
      ∷ []

  abbrev plan : List Loop
  plan =
      a
      ∷ record { table = record { rows = zs; width = 1 }; own = λ row. above (value_at 0 row); test = λ row. equal (value_at 0 row) (value_at 1 row) }
      ∷ record { table = record { rows = ys; width = 1 }; own = any; test = λ row. equal (value_at 0 row) (value_at 2 row) }
      ∷ []

  abbrev tb : Table
  tb = record { rows = ys; width = 1 }

  abbrev tc : Table
  tc = record { rows = zs; width = 1 }

  abbrev order : IsRearranged (tables_of plan) (tables_of written)
  order = ([], tb ∷ tc ∷ [], refl, (tb ∷ [], [], refl, ([], [], refl, refl)))

  all_three : (p q r : Bool) → (true && (p && (r && (q && true)))) ≡ (true && (q && ((p && r) && true)))
  all_three true true true = refl
  all_three true true false = refl
  all_three true false true = refl
  all_three true false false = refl
  all_three false true r = refl
  all_three false false r = refl

  tests : (row : Row) → length row ≡ 3 → (any row && all_pass 0 plan row) ≡ (true && all_pass 0 written (reordered (tables_of plan) (tables_of written) order row))
  tests (x ∷ z ∷ y ∷ []) e = all_three (equal x z) (equal x y) (above z)
  tests [] e = absurd (omega arith)
  tests (x ∷ []) e = absurd (omega arith)
  tests (x ∷ z ∷ []) e = absurd (omega arith)
  tests (x ∷ z ∷ y ∷ w ∷ row) e = absurd (omega arith)

  pub three_loops : AllByRecursion (λ row. length row ≡ 1) xs → AllByRecursion (λ row. length row ≡ 1) ys → AllByRecursion (λ row. length row ≡ 1) zs
      → SameBag (map (reordered (tables_of plan) (tables_of written) order) (filter any (looped plan ([] ∷ [])))) (filter any (looped written ([] ∷ [])))
  three_loops wx wy wz = loops-reordered plan written order any any (wx, (wz, (wy, tt))) (wx, (wy, (wz, tt))) tests
