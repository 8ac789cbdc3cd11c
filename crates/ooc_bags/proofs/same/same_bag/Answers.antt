use Rattle.std.proofs.Common.{◌≡◌, ◌∙◌, length, sym, arith}
use Rattle.std.proofs.lemmas.Bool.Decides.{Decides-eqb}
use Rattle.ooc_bags.specs.Rows.{row_eq}
use Rattle.ooc_bags.proofs.Counts.{same_from_each, each_from_same, same_length}
use Rattle.ooc_bags.proofs.RowTests.{row_eq-Decides}
use Rattle.ooc_bags.proofs.same.same_bag.Goals as goal

pub returns-then-a-b : goal.returns-then-a-b
returns-then-a-b c =
    let a = c.args.a.now in
    let b = c.args.b.now in (
      λ yes. let long : length a ≡ length b = omega arith in same_from_each row_eq row_eq-Decides a b long (sym c.stand_as_often.ensures ∙ yes),
      λ same. c.stand_as_often.ensures ∙ each_from_same row_eq row_eq-Decides a a b same,
    )

pub returns-else-a-b : goal.returns-else-a-b
returns-else-a-b c =
    let a = c.args.a.now in
    let b = c.args.b.now in (
      λ yes. absurd (c.if-a-b.false ((Decides-eqb (length a) (length b)).0 yes)),
      λ same. absurd (c.if-a-b.false (same_length a b same)),
    )
