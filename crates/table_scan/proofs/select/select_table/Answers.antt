use Rattle.std.proofs.Common.{◌≡◌, List, ap, sym, subst, ◌∙◌}
use Rattle.std.specs.Prelude.{Option, Some}
use Rattle.bound_tree.specs.declared.select.BoundCore.{BoundCore}
use Rattle.bound_tree.specs.declared.select.BoundRows.TheViews.{out-BoundSelect}
use Rattle.script_says.specs.Selecting.{Shown}
use Rattle.sql_meaning.specs.Found.{Row}
use Rattle.table_scan.specs.Outcomes.{IsShown}
use Rattle.table_scan.specs.Scan.{core_of_select, is_scan_of, table_of_core}
use Rattle.table_scan.specs.Sets.{core_scanned, shown_found}
use Rattle.table_scan.proofs.Scanning.{scan-shown}
use Rattle.table_scan.proofs.select.select_table.Goals as goal

pub returns-clause-shows : goal.returns-clause-shows
returns-clause-shows g c = λ told tables same.
    let select = c.args.select.now in
    let s = out-BoundSelect select in
    let core = c.in-Some.core.now in
    let is : core_of_select select ≡ Some core = sym c.in-Some.ensures in
    let scan = sym (ap is_scan_of is) ∙ c.requires.scan in
    let rows = sym (ap (λ (o : Option BoundCore). tables (table_of_core o)) is) ∙ same in
    let all = scan-shown tables select core is scan ∙ ap (λ (l : List Row). shown_found s.cut s.columns (core_scanned core l)) rows in
    subst (λ (w : Shown). IsShown w c.select_core.result) (sym all) (c.select_core.ensures.shows told)
