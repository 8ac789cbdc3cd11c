use Rattle.std.proofs.Common.{rules, arith}
use Rattle.solo_pool.proofs.Turns.{one_same}
use Rattle.solo_pool.proofs.solo_tables.SoloTables.open_page.Goals as goal

pub returns-clause-page : goal.returns-clause-page
returns-clause-page g c = let k = c.in_ok-frame.ensures.opens.opens c.in_ok-frame.frame.number in record {
  own = omega (arith, k, one_same c.in_ok-frame.frame.number);
  long = search rules;
  number = let n = c.in_ok-frame.ensures.number in let most = c.args.self.now.most in omega (arith, n, most);
}
