use Rattle.std.proofs.Common.{◌*◌, length, ap, arith}
use Rattle.row_image.specs.Layout.{width_of}
use Rattle.row_sets.specs.Sets.{row_pages_in}
use Rattle.row_sets.proofs.Bounds.{rows_within, row_pages_among}
use Rattle.row_sets.proofs.laws.rows_lie_on_pages.Goals as goal

pub returns-clause-rows : goal.returns-clause-rows
returns-clause-rows g c =
    let t = g.P.Pages.terms in
    let set = c.args._set.now in
    let within = rows_within t set.layout set.page_bytes set.pages.items c.requires.formed.pages in
    let counted = ap (λ z. z * width_of set.layout) c.requires.formed.counted in
    let bytes = ap (λ z. length (row_pages_in set.pages.items) * z) c.requires.here.page_bytes in
    omega (arith, within, counted, bytes)

pub returns-clause-among : goal.returns-clause-among
returns-clause-among g c = row_pages_among c.args._set.now.pages.items
