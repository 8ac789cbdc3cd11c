use Rattle.std.proofs.Common.{ap, arith}
use Rattle.row_image.proofs.FitLemmas.{row_fits_page}
use Rattle.row_sets.specs.Packed.{fill_of, used_in}
use Rattle.row_sets.proofs.Fills.{with_packed}
use Rattle.row_sets.proofs.Packing.{packed_after}
use Rattle.row_sets.proofs.RowPuts.{layout_few}
use Rattle.row_sets.proofs.opening.close_spent.Goals as goal

pub returns-clause-writing : goal.returns-clause-writing
returns-clause-writing g c =
    let w = c.args.writer.now in
    let few = layout_few w.kinds w.layout c.requires.writing.columns in
    let fits = row_fits_page w.layout w.page_bytes c.requires.writing.is_page few in
    with_packed g.P.Pages.terms c.close_page.new.writer c.close_page.ensures.writing
    (packed_after c.close_page.result (fill_of w) (fill_of c.close_page.new.writer) c.requires.writing.packs.packed (λ takes. let s = c.requires.spent takes in (ap used_in s.0, s.1)) (omega (arith, fits)) c.close_page.ensures.fill c.close_page.ensures.left)
