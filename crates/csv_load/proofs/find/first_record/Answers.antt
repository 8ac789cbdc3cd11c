use Rattle.csv_load.specs.Formats.{reading_in}
use Rattle.csv_load.specs.Ahead.{told_behind, told_from, outcome}
use Rattle.csv_load.proofs.Given.{same-next, same-end, same-refused}
use Rattle.csv_load.proofs.find.first_record.Goals as goal

pub returns-in-Ok-data_record-clause-next : goal.returns-in-Ok-data_record-clause-next
returns-in-Ok-data_record-clause-next g c more =
    let r = reading_in c.args.format.now in
    same-next (told_behind r c.args.records.now.position (g.F.Files.left c.args.files.now)) (told_from r 1 c.skip_header.new.records.position (g.F.Files.left c.skip_header.new.files)) (told_from r 2 c.data_record.new.records.position (g.F.Files.left c.data_record.new.files)) (outcome r 1 c.data_record.new.records.current)
    (c.in-Ok.ensures.passed c.if-not-more.false) (c.in-Ok-data_record.ensures.next more)

pub returns-in-Ok-data_record-clause-ended : goal.returns-in-Ok-data_record-clause-ended
returns-in-Ok-data_record-clause-ended g c more =
    let r = reading_in c.args.format.now in
    same-end (told_behind r c.args.records.now.position (g.F.Files.left c.args.files.now)) (told_from r 1 c.skip_header.new.records.position (g.F.Files.left c.skip_header.new.files))
    (c.in-Ok.ensures.passed c.if-not-more.false) (c.in-Ok-data_record.ensures.ended more)

pub returns-in-Err-data_record-clause-refused : goal.returns-in-Err-data_record-clause-refused
returns-in-Err-data_record-clause-refused g c =
    let r = reading_in c.args.format.now in
    same-refused (told_behind r c.args.records.now.position (g.F.Files.left c.args.files.now)) (told_from r 1 c.skip_header.new.records.position (g.F.Files.left c.skip_header.new.files)) c.in-Err-data_record.fault
    (c.in-Ok.ensures.passed c.if-not-more.false) c.in-Err-data_record.ensures.refused
