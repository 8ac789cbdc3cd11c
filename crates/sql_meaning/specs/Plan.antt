-- When the stages of a plan over a free FROM are those of a SELECT.
use Rattle.std.specs.Prelude.{◌≡◌, ℕ, Bool, ◌&&◌, if◌then◌else◌, List, [], map, flat_map, length, Option, Some, None, Ok, false}
use Rattle.std.specs.List.{AllByRecursion}
use Rattle.sql_meaning.specs.Found.{Found, Row, clean, and_then, if_clean}
use Rattle.sql_meaning.specs.Groups.{Grouping}
use Rattle.sql_meaning.specs.Judged.{Condition, judged, plain_first}
use Rattle.sql_meaning.specs.From.{Source}
use Rattle.sql_meaning.specs.Ordered.{value_at}
use Rattle.sql_meaning.specs.Select.{perhaps_grouped, above_groups, perhaps_distinct, Core}
use Rattle.ooc_bags.specs.Rearranged.{IsRearranged}
use Rattle.sql_meaning.specs.Free.{Loop, all_pass, tables_of, width_of, IsWide, places_of, IsFree, loop_of}
use Rattle.sql_meaning.specs.Pool.{AreFaultless, all_true}
use Rattle.sql_meaning.specs.Renamed.{AreRenamed, AreSaid, AreRenamedValues, AreRenamedAggregates}

-- grouping, HAVING, the items and DISTINCT
abbrev pub above_where : Core → Found Row → Found Row
above_where core found =
    if_clean (if_clean (and_then found (perhaps_grouped core.grouping)) (above_groups core)) (λ rows. clean (perhaps_distinct core.distinct rows))

-- Above a grouping a plan has the expressions that are written; without one they are over its columns.
abbrev pub IsRenamedAbove : (Row → Row) → Core → Core → Option Grouping → Option Grouping → Type 0
IsRenamedAbove back written planned None None = AreRenamed back written.having planned.having × AreRenamedValues back written.items planned.items
IsRenamedAbove back written planned None (Some e) = ⊥
IsRenamedAbove back written planned (Some w) None = ⊥
IsRenamedAbove back written planned (Some w) (Some e) =
    AreRenamedValues back w.keys e.keys × AreRenamedAggregates back w.aggregates e.aggregates × (planned.having ≡ written.having) × (planned.items ≡ written.items)

-- the columns of a row at these places
abbrev pub put_back : List ℕ → Row → Row
put_back places row = map (λ place. value_at place row) places

-- Loops in another order, with the tests of ON and of a part of WHERE anywhere among them or, for those that name no
-- column, in front of what is left in WHERE (`bare`); the conditions that are left in WHERE; and what acts above.
pub record IsFreePlan (core : Core) (sources : List Source) (loops : List Loop) (bare left : List Condition) (planned : Core) : Type 0 where
  -- sources that are tables, joined by inner joins whose ON can't fault
  pub no_fault : flat_map (λ source. source.found.faults) sources ≡ []
  pub free : AllByRecursion IsFree sources
  pub wide : AllByRecursion IsWide (tables_of (map loop_of sources))
  -- the plan has the same tables
  pub order : IsRearranged (tables_of loops) (tables_of (map loop_of sources))
  pub wide_loops : AllByRecursion IsWide (tables_of loops)
  pub sure : (row : Row) → AreFaultless row bare
  -- a row passes the tests of the plan where it passes ON and this part of WHERE
  pub pushed : Row → Bool
  pub tests : (row : Row) → length row ≡ width_of (tables_of loops)
      → (all_true bare row && all_pass 0 loops row) ≡ (pushed (put_back (places_of (tables_of loops) (tables_of (map loop_of sources)) order) row) && all_pass 0 (map loop_of sources) (put_back (places_of (tables_of loops) (tables_of (map loop_of sources)) order) row))
  -- the rest of WHERE
  pub rest : List Condition
  pub splits : (row : Row) → judged (plain_first core.conjuncts) row ≡ (if pushed row then judged rest row else Ok false)
  pub renamed : AreSaid (put_back (places_of (tables_of loops) (tables_of (map loop_of sources)) order)) rest left
  pub above : IsRenamedAbove (put_back (places_of (tables_of loops) (tables_of (map loop_of sources)) order)) core planned core.grouping planned.grouping
  pub distinct : planned.distinct ≡ core.distinct
