use Rattle.std.proofs.Common.{◌+◌, ◌<◌, List, [], ◌∷◌, length, get_or, map, ap, sym, ◌∙◌, arith}
use Rattle.row_image.specs.Texts.{ValueRow}
use Rattle.row_sets.specs.SetRows.{SetRow, row_as}
use Rattle.row_sets.specs.Sets.{set_lists}
use Rattle.row_cursors.specs.RowCursors.{no_row, rest_cells}
use Rattle.row_cursors.proofs.Copied.{joined_long}
use Rattle.row_cursors.proofs.Places.{none_behind, none_left, first_behind, lists_long}
use Rattle.row_cursors.proofs.row_cursor.RowCursor.next_row.Goals as goal

pub returns-then-at-clause-next : goal.returns-then-at-clause-next
returns-then-at-clause-next g c = λ told.
    let t = g.P.Pages.terms in
    let set = c.args.set.now in
    let at = c.settle-at.result in
    (ap (map (row_as set.kinds)) (sym c.settle-at.ensures.rest ∙ none_behind (set_lists t set) at.page at.end at.row c.if-at.true), c.clear.ensures)

pub returns-then-at-clause-steps : goal.returns-then-at-clause-steps
returns-then-at-clause-steps g c =
    let t = g.P.Pages.terms in
    let set = c.args.set.now in
    let at = c.settle-at.result in
    ap (map (row_as set.kinds)) (sym c.settle-at.ensures.rest ∙ none_behind (set_lists t set) at.page at.end at.row c.if-at.true)

pub returns-then-at-len-clause-next : goal.returns-then-at-len-clause-next
returns-then-at-len-clause-next g c = λ told.
    let t = g.P.Pages.terms in
    let set = c.args.set.now in
    let at = c.settle-at.result in
    let long = lists_long t set.layout set.pages.items in
    let len = c.len.ensures in let past = c.if-at-len.true in
    (ap (map (row_as set.kinds)) (sym c.settle-at.ensures.rest ∙ none_left (set_lists t set) at.page at.end at.row (omega (arith, long, len, past))), c.clear.ensures)

pub returns-then-at-len-clause-steps : goal.returns-then-at-len-clause-steps
returns-then-at-len-clause-steps g c =
    let t = g.P.Pages.terms in
    let set = c.args.set.now in
    let at = c.settle-at.result in
    let long = lists_long t set.layout set.pages.items in
    let len = c.len.ensures in let past = c.if-at-len.true in
    ap (map (row_as set.kinds)) (sym c.settle-at.ensures.rest ∙ none_left (set_lists t set) at.page at.end at.row (omega (arith, long, len, past)))

pub overflow_add-self : goal.overflow_add-self
overflow_add-self g c =
    let t = g.P.Pages.terms in
    let set = c.args.set.now in
    let at = c.settle-at.result in
    let long = lists_long t set.layout set.pages.items in
    let len = c.len.ensures in let inside = c.if-at-len.false in
    let there : at.page < length set.pages.items = omega (arith, len, inside) in
    let before = c.if-at.false in
    let below = c.settle-at.ensures.inside (omega (arith, before)) there in
    let list = get_or (set_lists t set) at.page [] in
    let all = joined_long (set_lists t set) at.page (length list) (omega (arith, long, there)) (omega arith) in
    let counted = c.requires.formed.counted in
    let few = c.requires.formed.few_rows in
    omega (arith, below, all, counted, few)

pub returns-in-Ok-clause-next : goal.returns-in-Ok-clause-next
returns-in-Ok-clause-next g c = λ told.
    let t = g.P.Pages.terms in
    let set = c.args.set.now in
    let at = c.settle-at.result in
    let long = lists_long t set.layout set.pages.items in
    let len = c.len.ensures in let inside = c.if-at-len.false in
    let there : at.page < length set.pages.items = omega (arith, len, inside) in
    let before = c.if-at.false in
    let below = c.settle-at.ensures.inside (omega (arith, before)) there in
    ap (map (row_as set.kinds)) (sym c.settle-at.ensures.rest ∙ first_behind (set_lists t set) at.page at.end at.row no_row (omega (arith, long, there)) (omega (arith, before)) below)
    ∙ ap (λ (row : SetRow). row ∷ map (row_as set.kinds) (rest_cells t set (record { page = at.page; row = at.row + 1; end = at.end }))) (c.in-Ok.ensures.row told)

pub returns-in-Ok-clause-steps : goal.returns-in-Ok-clause-steps
returns-in-Ok-clause-steps g c =
    let t = g.P.Pages.terms in
    let set = c.args.set.now in
    let at = c.settle-at.result in
    let long = lists_long t set.layout set.pages.items in
    let len = c.len.ensures in let inside = c.if-at-len.false in
    let there : at.page < length set.pages.items = omega (arith, len, inside) in
    let before = c.if-at.false in
    let below = c.settle-at.ensures.inside (omega (arith, before)) there in
    let next = ap (λ (l : List ValueRow). length (map (row_as set.kinds) l)) (sym c.settle-at.ensures.rest ∙ first_behind (set_lists t set) at.page at.end at.row no_row (omega (arith, long, there)) (omega (arith, before)) below) in
    omega (arith, next)
