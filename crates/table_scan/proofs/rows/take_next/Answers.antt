use Rattle.row_image.specs.Rules.{text_limit}
use Rattle.table_scan.proofs.Testing.{meets-some, row-fits}
use Rattle.table_scan.proofs.rows.take_next.Goals as goal

pub take_row-requires : goal.take_row-requires
take_row-requires g c =
    let set = c.args.set.now in
    let row = c.next_row.new.into in
    row-fits c.args.reading.now set.kinds (text_limit set.page_bytes) row c.requires.kinds c.requires.reading
    (meets-some (text_limit set.page_bytes) set.kinds row c.in-Ok-Some.field-0 c.in-Ok-Some.field-0-0 c.in-Ok-Some.field-0-is c.in-Ok-Some.ensures.meets)
