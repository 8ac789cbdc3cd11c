-- Sources and results that are the same up to the order of rows.
use Rattle.std.specs.Prelude.{◌≡◌, List, [], ◌∷◌, Option, Some, None, ⊤}
use Rattle.ooc_bags.specs.Bags.{SameBag}
use Rattle.sql_meaning.specs.Found.{Found, Row, IsSame}
use Rattle.sql_meaning.specs.Select.{Core, Cut}
use Rattle.sql_meaning.specs.From.{Source}

-- sources that give the same bags, joined in the same way
pub record IsSameSource (s t : Source) : Type 0 where
  pub found : IsSame s.found t.found
  pub width : s.width ≡ t.width
  pub pads : s.pads ≡ t.pads
  pub on : s.on ≡ t.on

abbrev pub AreSameSources : List Source → List Source → Type 0
AreSameSources [] [] = ⊤
AreSameSources [] (t ∷ ts) = ⊥
AreSameSources (s ∷ ss) [] = ⊥
AreSameSources (s ∷ ss) (t ∷ ts) = IsSameSource s t × AreSameSources ss ts

-- the same SELECT; the faults of subqueries in WHERE are the same bag
pub record IsSameCore (c d : Core) : Type 0 where
  pub conjuncts : c.conjuncts ≡ d.conjuncts
  pub inner : SameBag c.inner d.inner
  pub grouping : c.grouping ≡ d.grouping
  pub having : c.having ≡ d.having
  pub items : c.items ≡ d.items
  pub distinct : c.distinct ≡ d.distinct

-- the same bag, and under ORDER BY, LIMIT or OFFSET the same list; the same faults
abbrev pub Agrees : Option Cut → Found Row → Found Row → Type 0
Agrees None f g = IsSame f g
Agrees (Some cut) f g = IsSame f g × (f.rows ≡ g.rows)
