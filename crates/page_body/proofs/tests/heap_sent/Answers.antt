use Rattle.std.proofs.Common.{length, arith, ap}
use Rattle.row_image.proofs.PageLemmas.{page_4096}
use Rattle.page_body.proofs.tests.heap_sent.Goals as goal

pub check_image-requires : goal.check_image-requires
check_image-requires g c =
    let whole = c.in_ok-bytes.bytes.ok.0 in
    let same = c.in_ok-bytes.ensures.len in
    let read = ap length c.deref.ensures.value in
    let long = c.heap_image.ensures in
    page_4096 (length c.deref.result.now) (omega (arith, whole, same, read, long))

pub there_and_back-requires-clause-page : goal.there_and_back-requires-clause-page
there_and_back-requires-clause-page g c =
    let whole = c.in_ok-bytes.bytes.ok.0 in
    let same = c.in_ok-bytes.ensures.len in
    let long = c.heap_image.ensures in
    page_4096 (length c.in_ok-bytes.bytes.items) (omega (arith, whole, same, long))
