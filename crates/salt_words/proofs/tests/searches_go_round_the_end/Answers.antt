use Rattle.std.proofs.Common.{ap, arith}
use Rattle.number_bags.specs.Bags.{times}
use Rattle.number_bags.proofs.Bags.{one_same}
use Rattle.salt_words.proofs.tests.searches_go_round_the_end.Goals as goal

pub put_in-requires-clause-holes : goal.put_in-requires-clause-holes
put_in-requires-clause-holes g c =
    let counted = ap (λ words. times words 0) c.in_ok-words.ensures.items in
    omega (arith, counted, one_same 0)
