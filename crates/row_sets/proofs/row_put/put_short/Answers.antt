use Rattle.row_image.specs.Image.{parts_of}
use Rattle.row_sets.proofs.RowPuts.{fifth_none}
use Rattle.row_sets.proofs.row_put.put_short.Goals as goal

pub put_cells-requires-clause-parts : goal.put_cells-requires-clause-parts
put_cells-requires-clause-parts c = fifth_none (parts_of c.bytes_mut.result.now)
