use Rattle.std.proofs.Common.{arith, [], subst}
use Rattle.number_bags.proofs.Bags.{one_same}
use Rattle.row_sets.specs.Holds.{IsRetirable}
use Rattle.row_sets.specs.Sets.{with_heap}
use Rattle.row_sets.proofs.Changed.{changes_retire}
use Rattle.row_sets.proofs.retire.retire_heap.Goals as goal

pub retire-requires-clause-alone : goal.retire-requires-clause-alone
retire-requires-clause-alone g c = λ ends.
    let t = g.P.Pages.terms in
    let r = subst (λ o. IsRetirable t (g.P.Pages.view c.args.pages.now) (with_heap o [])) c.in-Some.is c.requires in
    let one = one_same (t.id c.in-Some.page) in
    r.unpinned ends (t.id c.in-Some.page) (omega (arith, one))

pub returns-in-Some : goal.returns-in-Some
returns-in-Some g c =
    let t = g.P.Pages.terms in
    let e = c.retire.ensures in
    rw c.in-Some.is (changes_retire t c.in-Some.page (g.P.Pages.view c.args.pages.now) (g.P.Pages.view c.retire.new.self) e.held e.steady e.lives e.pins)
