use Rattle.std.proofs.Common.{arith, ap, sym, below_more}
use Rattle.std.proofs.lemmas.Result.{err_from_is_err_and}
use Rattle.row_image.specs.Image.{part_count}
use Rattle.row_image.specs.Rules.{part_rules}
use Rattle.row_image.proofs.RuleLemmas.{each_sound, each_damaged}
use Rattle.row_image.proofs.PartFacts.{facts_of, before_none, before_next}
use Rattle.row_image.proofs.check.check_parts.Goals as goal

pub loop-part-init : goal.loop-part-init
loop-part-init c = (sym (before_none c.args.image.now), omega arith, λ k h. absurd (omega arith))

pub returns-in_err-check_part : goal.returns-in_err-check_part
returns-in_err-check_part c =
    let p = err_from_is_err_and c.from_residual.result c.from_residual.ensures.1 in
    rw (p.1, p.2) (each_damaged (λ part. part_rules c.args.image.now part) (part_count c.args.image.now) c.loop-part.part _ (omega arith) c.loop-part.invariant.2 c.in_err-check_part.ensures)

pub overflow_add-before : goal.overflow_add-before
overflow_add-before c =
    let f = facts_of c.args.image.now c.loop-part.part c.in_ok-check_part.ensures in
    omega (arith, f.most, c.loop-part.invariant.0, ap (λ p. p.rows) c.part_at-before.ensures, c.requires.rows)

pub loop-part-preserved : goal.loop-part-preserved
loop-part-preserved c =
    let f = facts_of c.args.image.now c.loop-part.part c.in_ok-check_part.ensures in
    let rows = ap (λ p. p.rows) c.part_at-before.ensures in (
      omega (arith, c.loop-part.invariant.0, rows, before_next c.args.image.now c.loop-part.part),
      omega (arith, f.most, c.loop-part.invariant.0, rows),
      below_more _ _ c.loop-part.invariant.2 c.in_ok-check_part.ensures,
    )

pub returns : goal.returns
returns c = each_sound (λ part. part_rules c.args.image.now part) (part_count c.args.image.now) (λ k inside. c.loop-part.invariant.2 k (omega arith))
