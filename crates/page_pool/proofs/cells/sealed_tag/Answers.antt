use Rattle.std.proofs.Common.{◌≤◌, ◌∙◌, ℕ, length, subst, sym, rules}
use Rattle.page_body.specs.ContentLength.{flat_as_long}
use Rattle.page_pool.proofs.cells.sealed_tag.Goals as goal

pub returns-clause-sized : goal.returns-clause-sized
returns-clause-sized c =
    let long = c.requires.long in
    let least : 4096 ≤ length c.args.page.now.frame.bytes.items = subst (λ (n : ℕ). 4096 ≤ n) (sym long) c.requires.page.least in
    record {
      page = c.requires.page;
      most = c.requires.most;
      long = search (rules, flat_as_long c.args.page.now.kind c.args.page.now.frame.bytes.items c.requires.accepted least ∙ long);
    }
