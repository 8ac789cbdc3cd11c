use Rattle.std.proofs.Common.{◌≡◌, ◌++◌, ◌<◌, List, [], refl, length, get_or, ap, sym, ◌∙◌, arith}
use Rattle.ooc_types.specs.declared.value.Value.{Value}
use Rattle.rebase_pins.specs.Seen.{rows_seen, values_seen}
use Rattle.row_image.specs.Texts.{ValueRow}
use Rattle.row_sets.specs.SetRows.{row_as, values_as}
use Rattle.row_sets.specs.Sets.{set_lists}
use Rattle.row_cursors.specs.RowCursors.{no_row}
use Rattle.row_cursors.proofs.Counts.{under_list}
use Rattle.row_cursors.proofs.SeenRows.{row_seen}
use Rattle.row_cursors.proofs.row_cursor.read_pinned.Goals as goal

pub narrow-row-requires : goal.narrow-row-requires
narrow-row-requires g c =
    let list = ap length (under_list g.P.Pages.terms c.args.set.now c.args.at.page c.args.pins.now c.requires.is) in
    let count = c.in_ok-count.ensures.same in
    let first = count.0 in
    let below = c.requires.row in
    omega (arith, list, first, below)

pub read_values-requires-clause-row : goal.read_values-requires-clause-row
read_values-requires-clause-row g c =
    let list = ap length (under_list g.P.Pages.terms c.args.set.now c.args.at.page c.args.pins.now c.requires.is) in
    let count = c.in_ok-count.ensures.same in
    let first = count.0 in let second = count.1 in
    let below = c.requires.row in
    let row = c.narrow-row.ensures in
    let view = ap (λ s. length (rows_seen s)) c.new_view-view.ensures.is in
    omega (arith, list, first, second, below, row, view)

pub hash-requires : goal.hash-requires
hash-requires g c =
    let list = ap length (under_list g.P.Pages.terms c.args.set.now c.args.at.page c.args.pins.now c.requires.is) in
    let count = c.in_ok-count.ensures.same in
    let first = count.0 in let second = count.1 in
    let below = c.requires.row in
    let row = c.narrow-row.ensures in
    let view = ap (λ s. length (rows_seen s)) c.new_view-view.ensures.is in
    omega (arith, list, first, second, below, row, view)

pub returns-in-Ok-clause-row : goal.returns-in-Ok-clause-row
returns-in-Ok-clause-row g c = λ told.
    let t = g.P.Pages.terms in
    let set = c.args.set.now in
    let view = c.new_view-view.result in
    let k = c.narrow-row.result in
    let same = c.new_view-view.ensures.told told ∙ under_list t set c.args.at.page c.args.pins.now c.requires.is in
    let list = ap length (under_list t set c.args.at.page c.args.pins.now c.requires.is) in
    let count = c.in_ok-count.ensures.same in
    let first = count.0 in let second = count.1 in
    let below = c.requires.row in
    let row = c.narrow-row.ensures in
    let seen = ap (λ s. length (rows_seen s)) c.new_view-view.ensures.is in
    let inside : k < length (rows_seen view) = omega (arith, list, first, second, below, row, seen) in
    let here = row_seen view k c.hash.result (values_seen view k) inside c.hash.ensures refl in
    let values : values_as set.kinds (values_seen view k) ≡ c.read_values.new.into = sym (c.in-Ok.ensures.values ∙ ap (λ (front : List Value). front ++ values_as c.as_slice.result.now (values_seen view k)) c.requires.empty ∙ ap (λ kinds. values_as kinds (values_seen view k)) c.as_slice.ensures) in
    ap (λ n. row_as set.kinds (get_or (get_or (set_lists t set) c.args.at.page []) n no_row)) (sym row)
    ∙ ap (λ (l : List ValueRow). row_as set.kinds (get_or l k no_row)) (sym same)
    ∙ ap (row_as set.kinds) here
    ∙ ap (λ (v : List Value). record { hash = c.hash.result; values = v }) values
