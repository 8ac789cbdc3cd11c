use Rattle.std.proofs.Common.{List, map, subst, sym, ap, ap₂, ◌++◌, ◌∙◌}
use Rattle.std.specs.List.{AllByRecursion}
use Rattle.ooc_bags.proofs.Lists.{map-map}
use Rattle.ooc_types.specs.Meets.{Meets}
use Rattle.sql_meaning.specs.Found.{Found, Row}
use Rattle.sql_meaning.specs.Judged.{Condition, kept}
use Rattle.plain_rows.specs.Tests.{condition_by, parts_in}
use Rattle.plain_cores.specs.Cores.{ArePartsOver}
use Rattle.plain_cores.specs.Known.{known_parts}
use Rattle.plain_cores.proofs.Tested.{made-conditions, made-ready, of-map}
use Rattle.plain_cores.proofs.cores.filter_rows.Goals as goal

pub kept_rows-requires : goal.kept_rows-requires
kept_rows-requires c =
    let knowns = c.args.knowns.now in
    made-ready c.requires.limit c.requires.columns c.as_slice.result.now (map known_parts knowns) c.as_slice-2.result.now (ap (map parts_in) c.as_slice.ensures.value ∙ c.in_ok-tests.ensures)
    (of-map (ArePartsOver c.requires.columns) known_parts knowns c.requires.judged)
    (subst (AllByRecursion (Meets c.requires.limit c.requires.columns)) (sym c.as_slice-2.ensures.value) c.requires.are)

pub returns : goal.returns
returns c =
    let knowns = c.args.knowns.now in
    let conditions = made-conditions c.as_slice.result.now (map known_parts knowns) (ap (map parts_in) c.as_slice.ensures.value ∙ c.in_ok-tests.ensures) ∙ map-map condition_by known_parts knowns in
    let is = c.in_ok-kept.ensures ∙ ap₂ (λ (cs : List Condition) (rows : List Row). kept cs rows) conditions c.as_slice-2.ensures.value in
    let rows = ap (λ (f : Found Row). f.rows) is in
    let faults = c.in_ok-add_faults.ensures ∙ ap (λ l. c.args.from.faults.items ++ l) (c.as_slice-3.ensures.value ∙ ap (λ (f : Found Row). f.faults) is) in
    λ k. record { rows = rows k; faults = faults k }
