-- The stages of a plan over a free FROM mean the SELECT.
use Rattle.std.proofs.Common.{◌+◌, arith, ◌≡◌, Bool, false, cond, List, [], ◌∷◌, ◌++◌, ◌&&◌, length, map, refl, sym, ap, ◌∙◌, subst, Option, Some, None, Ok}
use Rattle.std.specs.Prelude.{filter, flat_map}
use Rattle.ooc_bags.specs.Bags.{SameBag}
use Rattle.sql_meaning.specs.Found.{Found, Row, IsSame, clean, and_then, unless_faulted, if_clean}
use Rattle.sql_meaning.specs.Judged.{judged, verdict_found, plain_first, kept, Condition, filtered}
use Rattle.sql_meaning.specs.From.{Source}
use Rattle.sql_meaning.specs.Groups.{grouped, Grouping}
use Rattle.sql_meaning.specs.Select.{perhaps_grouped, projected, above_groups, below_having, perhaps_distinct, selected, Core}
use Rattle.sql_meaning.specs.Free.{Loop, looped, all_pass, tables_of, width_of, reordered, places_of, loop_of, AreLoopsOf}
use Rattle.sql_meaning.specs.Stage.{Side, joined_behind}
use Rattle.sql_meaning.specs.Pool.{all_true}
use Rattle.sql_meaning.proofs.JoinStages.{judged-faultless}
use Rattle.sql_meaning.specs.Renamed.{AreRenamed, AreSaid, AreRenamedValues}
use Rattle.sql_meaning.specs.Plan.{put_back, above_where, IsRenamedAbove, IsFreePlan}
use Rattle.ooc_bags.proofs.Bags.{bag-refl, bag-from, bag-trans, bag-append}
use Rattle.ooc_bags.proofs.Lists.{flat_map-same, flat_map-map, map-flat_map, flat_map-only, flat_map-filtered}
use Rattle.sql_meaning.proofs.Stages.{same-refl, same-clean, same-collected, same-unless_faulted, same-kept}
use Rattle.sql_meaning.proofs.GroupLemmas.{same-grouped}
use Rattle.sql_meaning.proofs.Selecting.{same-projected, same-perhaps_distinct, same-above_groups}
use Rattle.sql_meaning.proofs.Free.{Each, each-filter, map-each, from-free, loops-reordered, sides-loop, looped-wide}
use Rattle.sql_meaning.proofs.Places.{places-put-back}
use Rattle.sql_meaning.proofs.RenamedStages.{judged-said, verdict-rows, verdict-faults, kept-rows-renamed, kept-faults-renamed, projected-renamed, grouped-renamed}

-- rows and their faults, where the first's columns stand elsewhere
record IsSameBehind (back : Row → Row) (f g : Found Row) : Type 0 where
  rows : SameBag (map back f.rows) g.rows
  faults : SameBag f.faults g.faults

-- conditions over rows with their columns put back
filtered-renamed : (back : Row → Row) (ws es : List Condition) → AreSaid back ws es → (rows : List Row) → IsSameBehind back (filtered es rows) (filtered ws (map back rows))
filtered-renamed back ws es same rows = record {
  rows = bag-from (map back (filtered es rows).rows) (filtered ws (map back rows)).rows
      (map-flat_map back (λ row. (verdict_found row (judged es row)).rows) rows
      ∙ flat_map-same (λ row. map back (verdict_found row (judged es row)).rows) (λ row. (verdict_found (back row) (judged ws (back row))).rows)
      (λ row. verdict-rows back row (judged es row) ∙ ap (λ verdict. (verdict_found (back row) verdict).rows) (judged-said back ws es same row)) rows
      ∙ sym (flat_map-map (λ row. (verdict_found row (judged ws row)).rows) back rows));
  faults = bag-from (filtered es rows).faults (filtered ws (map back rows)).faults
      (flat_map-same (λ row. (verdict_found row (judged es row)).faults) (λ row. (verdict_found (back row) (judged ws (back row))).faults)
      (λ row. verdict-faults back row (back row) (judged es row) ∙ ap (λ verdict. (verdict_found (back row) verdict).faults) (judged-said back ws es same row)) rows
      ∙ sym (flat_map-map (λ row. (verdict_found row (judged ws row)).faults) back rows));
}

-- conditions in two: a test, and then the rest
split-filter : (all rest : List Condition) (test : Row → Bool) → ((row : Row) → judged all row ≡ cond (test row) (judged rest row) (Ok false))
    → (rows : List Row) → filtered rest (filter test rows) ≡ filtered all rows
split-filter all rest test splits rows = λ i. record { rows = both (λ found. found.rows) refl i; faults = both (λ found. found.faults) refl i }
  where
    both : {C : Type 0} (of : Found Row → List C) → of (record { rows = []; faults = [] }) ≡ []
        → flat_map (λ row. of (verdict_found row (judged rest row))) (filter test rows) ≡ flat_map (λ row. of (verdict_found row (judged all row))) rows
    both of none =
        flat_map-filtered test (λ row. of (verdict_found row (judged rest row))) (λ row. of (verdict_found row (judged all row)))
        (λ row e. sym (ap (λ verdict. of (verdict_found row verdict)) (splits row ∙ ap (λ b. cond b (judged rest row) (Ok false)) e))) rows
        ∙ flat_map-only test (λ row. of (verdict_found row (judged all row)))
        (λ row e. ap (λ verdict. of (verdict_found row verdict)) (splits row ∙ ap (λ b. cond b (judged rest row) (Ok false)) e) ∙ none) rows

same-filtered : (conditions : List Condition) (xs ys : List Row) → SameBag xs ys → IsSame (filtered conditions xs) (filtered conditions ys)
same-filtered conditions xs ys same =
    let f : Row → Found Row = λ row. verdict_found row (judged conditions row) in
    same-collected f f xs ys same (λ row. same-refl (f row))

-- HAVING and the items over rows with their columns put back
above-renamed : (back : Row → Row) (written planned : Core) → AreRenamed back written.having planned.having → AreRenamedValues back written.items planned.items
    → (xs ys : List Row) → SameBag (map back xs) ys → IsSame (above_groups planned xs) (above_groups written ys)
above-renamed back written planned having items xs ys same =
    let here = kept planned.having xs in
    let there = kept written.having ys in
    let moved = same-kept written.having (map back xs) ys same in
    same-unless_faulted here.faults there.faults (projected planned.items here.rows) (projected written.items there.rows)
    (bag-trans here.faults (kept written.having (map back xs)).faults there.faults
    (bag-from here.faults (kept written.having (map back xs)).faults (kept-faults-renamed back written.having planned.having having xs)) moved.faults)
    (subst (λ found. IsSame found (projected written.items there.rows)) (sym (projected-renamed back written.items planned.items items here.rows))
    (same-projected written.items (map back here.rows) there.rows
    (bag-trans (map back here.rows) (kept written.having (map back xs)).rows there.rows
    (bag-from (map back here.rows) (kept written.having (map back xs)).rows (kept-rows-renamed back written.having planned.having having xs)) moved.rows)))

above-same : (written planned : Core) → planned.having ≡ written.having → planned.items ≡ written.items → (xs : List Row) → above_groups planned xs ≡ above_groups written xs
above-same written planned having items xs = λ i. if_clean (kept (having i) xs) (projected (items i))

-- all that stands above WHERE
results : (back : Row → Row) (written planned : Core) (w e : Option Grouping) → IsRenamedAbove back written planned w e → (f g : Found Row) → IsSameBehind back f g
    → IsSame (if_clean (and_then f (perhaps_grouped e)) (above_groups planned)) (if_clean (and_then g (perhaps_grouped w)) (above_groups written))
results back written planned None None above f g same =
    same-unless_faulted (f.faults ++ []) (g.faults ++ []) (above_groups planned f.rows) (above_groups written g.rows)
    (bag-append f.faults g.faults [] [] same.faults (bag-refl [])) (above-renamed back written planned above.0 above.1 f.rows g.rows same.rows)
results back written planned None (Some e) above f g same = absurd above
results back written planned (Some w) None above f g same = absurd above
results back written planned (Some w) (Some e) above f g same =
    let groups : IsSame (grouped e f.rows) (grouped w g.rows) =
    subst (λ found. IsSame found (grouped w g.rows)) (sym (grouped-renamed back w e above.0 above.1 f.rows)) (same-grouped w (map back f.rows) g.rows same.rows) in
    same-unless_faulted (f.faults ++ (grouped e f.rows).faults) (g.faults ++ (grouped w g.rows).faults) (above_groups planned (grouped e f.rows).rows) (above_groups written (grouped w g.rows).rows)
    (bag-append f.faults g.faults (grouped e f.rows).faults (grouped w g.rows).faults same.faults groups.faults)
    (subst (λ found. IsSame found (above_groups written (grouped w g.rows).rows)) (sym (above-same written planned above.2 above.3 (grouped e f.rows).rows))
    (same-above_groups written (grouped e f.rows).rows (grouped w g.rows).rows groups.rows))

once : (distinct : Bool) (f g : Found Row) → IsSame f g
    → IsSame (if_clean f (λ rows. clean (perhaps_distinct distinct rows))) (if_clean g (λ rows. clean (perhaps_distinct distinct rows)))
once distinct f g same =
    same-unless_faulted f.faults g.faults (clean (perhaps_distinct distinct f.rows)) (clean (perhaps_distinct distinct g.rows)) same.faults
    (same-clean (perhaps_distinct distinct f.rows) (perhaps_distinct distinct g.rows) (same-perhaps_distinct distinct f.rows g.rows same.rows))

pub free_plan_means : (core : Core) (sources : List Source) (loops : List Loop) (bare left : List Condition) (planned : Core) → IsFreePlan core sources loops bare left planned
    → IsSame (unless_faulted core.inner (above_where planned (filtered (bare ++ left) (looped loops ([] ∷ []))))) (selected core sources)
free_plan_means core sources loops bare left planned plan =
    let written = map loop_of sources in
    let xs = tables_of loops in
    let ys = tables_of written in
    let moving = reordered xs ys plan.order in
    let back = put_back (places_of xs ys plan.order) in
    let P = looped loops ([] ∷ []) in
    let B = filter (all_true bare) P in
    let F = looped written ([] ∷ []) in
    let at_places : (row : Row) → length row ≡ width_of xs → back row ≡ moving row = places-put-back xs ys plan.order in
    let tests : (row : Row) → length row ≡ width_of xs → (all_true bare row && all_pass 0 loops row) ≡ (plan.pushed (moving row) && all_pass 0 written (moving row)) =
    λ row long. plan.tests row long ∙ ap (λ put. plan.pushed put && all_pass 0 written put) (at_places row long) in
    let long : Each (λ row. length row ≡ width_of xs) P = subst (λ n. Each (λ (row : Row). length row ≡ n) P) nothing_before (looped-wide 0 loops plan.wide_loops ([] ∷ []) (refl, tt)) in
    let moved : SameBag (map back B) (filter plan.pushed F) =
    bag-trans (map back B) (map moving B) (filter plan.pushed F)
    (bag-from (map back B) (map moving B) (map-each (λ row. length row ≡ width_of xs) back moving at_places B (each-filter (λ row. length row ≡ width_of xs) (all_true bare) P long)))
    (loops-reordered loops written plan.order (all_true bare) plan.pushed plan.wide_loops plan.wide tests) in
    let first = filtered-renamed back plan.rest left plan.renamed B in
    let second = same-filtered plan.rest (map back B) (filter plan.pushed F) moved in
    let split = split-filter (plain_first core.conjuncts) plan.rest plan.pushed plan.splits F in
    let apart = split-filter (bare ++ left) left (all_true bare) (λ row. judged-faultless bare left row (plan.sure row)) P in
    let filters : IsSameBehind back (filtered (bare ++ left) P) (kept core.conjuncts F) =
    subst (λ found. IsSameBehind back found (kept core.conjuncts F)) apart (subst (λ found. IsSameBehind back (filtered left B) found) split (record {
      rows = bag-trans (map back (filtered left B).rows) (filtered plan.rest (map back B)).rows (filtered plan.rest (filter plan.pushed F)).rows first.rows second.rows;
      faults = bag-trans (filtered left B).faults (filtered plan.rest (map back B)).faults (filtered plan.rest (filter plan.pushed F)).faults first.faults second.faults;
    })) in
    let all = results back core planned core.grouping planned.grouping plan.above (filtered (bare ++ left) P) (kept core.conjuncts F) filters in
    let end : List Row → Found Row = λ rows. clean (perhaps_distinct core.distinct rows) in
    let here = if_clean (and_then (filtered (bare ++ left) P) (perhaps_grouped planned.grouping)) (above_groups planned) in
    let there = if_clean (and_then (kept core.conjuncts F) (perhaps_grouped core.grouping)) (above_groups core) in
    let planned_end : above_where planned (filtered (bare ++ left) P) ≡ if_clean here end = λ i. if_clean here (λ rows. clean (perhaps_distinct (plan.distinct i) rows)) in
    let written_end : unless_faulted core.inner (if_clean there end) ≡ selected core sources =
    ap (λ (found : Found Row). unless_faulted core.inner (if_clean (if_clean (and_then (and_then found (kept core.conjuncts)) (perhaps_grouped core.grouping)) (above_groups core)) end)) (sym (from-free sources plan.free ([] ∷ [])))
    ∙ ap (λ faults. unless_faulted (faults ++ core.inner) (if_clean (if_clean (below_having core sources) (above_groups core)) end)) (sym plan.no_fault) in
    subst (λ found. IsSame (unless_faulted core.inner found) (selected core sources)) (sym planned_end)
    (subst (λ found. IsSame (unless_faulted core.inner (if_clean here end)) found) written_end
    (same-unless_faulted core.inner core.inner (if_clean here end) (if_clean there end) (bag-refl core.inner) (once core.distinct here there all)))
  where
    nothing_before : 0 + width_of (tables_of loops) ≡ width_of (tables_of loops)
    nothing_before = omega arith

-- the same of join stages
pub free_stages_mean : (core : Core) (sources : List Source) (sides : List Side) (loops : List Loop) (bare left : List Condition) (planned : Core) → AreLoopsOf 0 sides loops → IsFreePlan core sources loops bare left planned
    → IsSame (unless_faulted core.inner (above_where planned (and_then (joined_behind sides ([] ∷ [])) (filtered (bare ++ left))))) (selected core sources)
free_stages_mean core sources sides loops bare left planned are plan =
    subst (λ (found : Found Row). IsSame (unless_faulted core.inner (above_where planned (and_then found (filtered (bare ++ left))))) (selected core sources)) (sym (sides-loop 0 sides loops are plan.wide_loops ([] ∷ []) (refl, tt)))
    (free_plan_means core sources loops bare left planned plan)
