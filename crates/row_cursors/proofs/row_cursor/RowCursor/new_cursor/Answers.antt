use Rattle.std.proofs.Common.{◌≡◌, length, map, ap, sym, subst, arith}
use Rattle.row_sets.specs.SetRows.{row_as}
use Rattle.row_sets.specs.Sets.{set_rows}
use Rattle.row_cursors.specs.RowCursors.{rest_rows}
use Rattle.row_cursors.proofs.Places.{all_rest}
use Rattle.row_cursors.proofs.row_cursor.RowCursor.new_cursor.Goals as goal

pub returns : goal.returns
returns g c =
    let t = g.P.Pages.terms in
    let set = c.args.set.now in
    let is : c.len.result ≡ length set.pages.items = let len = c.len.ensures in omega (arith, len) in
    subst (λ n. rest_rows t set (record { page = 0; row = 0; end = n }) ≡ set_rows t set) (sym is) (ap (map (row_as set.kinds)) (all_rest t set))
