use Rattle.std.proofs.Common.{ap}
use Rattle.std.specs.Prelude.{Err}
use Rattle.csv_records.specs.Ahead.{told_records}
use Rattle.csv_load.specs.Formats.{reading_in}
use Rattle.csv_load.proofs.Given.{from-end, from-fault, from-next}
use Rattle.csv_load.proofs.find.data_record.Goals as goal

pub returns-in-Ok-clause-next : goal.returns-in-Ok-clause-next
returns-in-Ok-clause-next g c more =
    let r = reading_in c.args.format.now in
    from-next r c.args.number c.next_record.new.self.current (told_records r.delimiter c.args.records.now.position (g.F.Files.left c.args.files.now)) (told_records r.delimiter c.next_record.new.self.position (g.F.Files.left c.next_record.new.files))
    (rw c.requires.delimiter at (c.in-Ok.ensures.next more))

pub returns-in-Ok-clause-ended : goal.returns-in-Ok-clause-ended
returns-in-Ok-clause-ended g c ended =
    let r = reading_in c.args.format.now in
    from-end r c.args.number (told_records r.delimiter c.args.records.now.position (g.F.Files.left c.args.files.now)) (rw c.requires.delimiter at (c.in-Ok.ensures.ended ended))

pub returns-in-Err-clause-refused : goal.returns-in-Err-clause-refused
returns-in-Err-clause-refused g c =
    let r = reading_in c.args.format.now in
    rw c.find_fault.ensures
    (from-fault r c.args.number c.in-Err.fault (told_records r.delimiter c.args.records.now.position (g.F.Files.left c.args.files.now))
    (λ e. rw c.requires.delimiter at (c.in-Err.ensures.file (ap Err e))) (λ e. rw c.requires.delimiter at (c.in-Err.ensures.record (ap Err e))))
