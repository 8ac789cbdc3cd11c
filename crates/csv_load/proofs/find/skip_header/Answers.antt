use Rattle.std.proofs.Common.{ap, sym, ◌∙◌}
use Rattle.std.specs.Prelude.{Err}
use Rattle.csv_records.specs.Ahead.{told_records}
use Rattle.csv_load.specs.Rows.{record_reason}
use Rattle.csv_load.specs.Formats.{reading_in}
use Rattle.csv_load.proofs.Given.{behind-end, behind-fault, behind-passed, behind-refused}
use Rattle.csv_load.proofs.find.skip_header.Goals as goal

pub returns-then-not-more-clause-ended : goal.returns-then-not-more-clause-ended
returns-then-not-more-clause-ended g c same =
    let r = reading_in c.args.format.now in
    behind-end r (told_records r.delimiter c.args.records.now.position (g.F.Files.left c.args.files.now)) (rw c.requires.delimiter at (c.in-Ok.ensures.ended c.if-not-more.true))

pub returns-in-Err-clause-refused : goal.returns-in-Err-clause-refused
returns-in-Err-clause-refused g c =
    let r = reading_in c.args.format.now in
    rw c.find_fault.ensures
    (behind-fault r c.in-Err.fault (told_records r.delimiter c.args.records.now.position (g.F.Files.left c.args.files.now))
    (λ e. rw c.requires.delimiter at (c.in-Err.ensures.file (ap Err e))) (λ e. rw c.requires.delimiter at (c.in-Err.ensures.record (ap Err e))))

pub returns-in-None-clause-passed : goal.returns-in-None-clause-passed
returns-in-None-clause-passed g c same =
    let r = reading_in c.args.format.now in
    behind-passed r c.next_record.new.self.current (told_records r.delimiter c.args.records.now.position (g.F.Files.left c.args.files.now)) (told_records r.delimiter c.next_record.new.self.position (g.F.Files.left c.next_record.new.files))
    (rw c.requires.delimiter at (c.in-Ok.ensures.next c.if-not-more.false)) (sym (c.in-None.ensures ∙ ap (λ d. record_reason d c.next_record.new.self.current) (c.in-Ok.ensures.delimiter ∙ c.requires.delimiter)))

pub returns-in-Some-clause-refused : goal.returns-in-Some-clause-refused
returns-in-Some-clause-refused g c =
    let r = reading_in c.args.format.now in
    rw c.refusal.ensures
    (behind-refused r c.next_record.new.self.current c.in-Some.why (told_records r.delimiter c.args.records.now.position (g.F.Files.left c.args.files.now)) (told_records r.delimiter c.next_record.new.self.position (g.F.Files.left c.next_record.new.files))
    (rw c.requires.delimiter at (c.in-Ok.ensures.next c.if-not-more.false)) (sym (c.in-Some.ensures ∙ ap (λ d. record_reason d c.next_record.new.self.current) (c.in-Ok.ensures.delimiter ∙ c.requires.delimiter))))
