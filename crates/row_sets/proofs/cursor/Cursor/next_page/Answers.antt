use Rattle.std.proofs.Common.{arith, refl}
use Rattle.row_sets.proofs.PageAt.{none_from}
use Rattle.row_sets.proofs.cursor.Cursor.next_page.Goals as goal

pub returns-then-self-len-clause-next : goal.returns-then-self-len-clause-next
returns-then-self-len-clause-next g c = (
  none_from g.P.Pages.terms c.args.set.now c.args.self.now.page (let e = c.len.ensures in let past = c.if-self-len.true in omega (arith, e, past)),
  refl,
)
