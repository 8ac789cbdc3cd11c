use Rattle.std.proofs.Common.{◌≢◌, ◌<◌, length, arith}
use Rattle.std.specs.Prelude.{slice_index}
use Rattle.csv_records.proofs.Cutting.{plain-stop}
use Rattle.csv_records.proofs.stop.first_stop.Goals as goal
use Rattle.csv_records.proofs.stop.first_stop.Goals.{else-place-text-via-then-place-text+else-text-place-eq34, else-place-text-via-else-place-text}

pub returns-clause-stop : goal.returns-clause-stop
returns-clause-stop c =
    let place = c.plain_end-place.result in
    let text = c.args.text.now in
    let e = c.plain_end-place.ensures in
    let other : place < length text → slice_index text place ≢ 34 = λ (lt : place < length text). elim c.else-place-text.branch [
      | else-place-text-via-then-place-text+else-text-place-eq34 w ↦ w.if-text-place-eq34.false
      | else-place-text-via-else-place-text w ↦ absurd (omega arith)
    ] in
    plain-stop c.args.delimiter text c.args.from place e.low e.high e.lacks e.special c.requires.delimiter.feed c.requires.delimiter.return other
