use Rattle.std.proofs.Common.{◌≡◌, subst, sym}
use Rattle.ooc_types.specs.declared.value.Value.{Value}
use Rattle.agg_states.specs.declared.kind.AggKind.{AggKind}
use Rattle.agg_states.specs.Bounds.{IsCell, IsCount, IsSum, CanStart, IsSummable}
use Rattle.agg_states.specs.Restored.{IsRestoredCell}
use Rattle.agg_states.proofs.Sound.{count_restored, sum_restored}
use Rattle.agg_states.proofs.restore.restored_cell.Goals as goal

pub returns-in-Min-clause-restored : goal.returns-in-Min-clause-restored
returns-in-Min-clause-restored c = subst (λ (k : AggKind). IsRestoredCell k c.args.of c.args.rows c.args.kept c.restored_value.result) (sym c.in-Min.is) c.restored_value.ensures.restored

pub returns-in-Max-clause-restored : goal.returns-in-Max-clause-restored
returns-in-Max-clause-restored c = subst (λ (k : AggKind). IsRestoredCell k c.args.of c.args.rows c.args.kept c.restored_value-in-Max.result) (sym c.in-Max.is) c.restored_value-in-Max.ensures.restored

pub returns-in-CountRows-clause-sound : goal.returns-in-CountRows-clause-sound
returns-in-CountRows-clause-sound c =
    subst (λ (k : AggKind). IsCell k c.args.of c.args.rows c.restored_count.result) (sym c.in-CountRows.is)
    (subst (λ (v : Value). IsCount c.args.rows v) (sym c.restored_count.ensures) (count_restored c.args.rows c.args.kept))

pub returns-in-Count-clause-sound : goal.returns-in-Count-clause-sound
returns-in-Count-clause-sound c =
    subst (λ (k : AggKind). IsCell k c.args.of c.args.rows c.restored_count-in-Count.result) (sym c.in-Count.is)
    (subst (λ (v : Value). IsCount c.args.rows v) (sym c.restored_count-in-Count.ensures) (count_restored c.args.rows c.args.kept))

pub returns-in-Sum-clause-sound : goal.returns-in-Sum-clause-sound
returns-in-Sum-clause-sound c =
    let start : IsSummable c.args.of = subst (λ (k : AggKind). CanStart k c.args.of) c.in-Sum.is c.requires.start in
    subst (λ (k : AggKind). IsCell k c.args.of c.args.rows c.restored_sum.result) (sym c.in-Sum.is)
    (start, subst (λ (v : Value). IsSum c.args.of c.args.rows v) (sym c.restored_sum.ensures) (sum_restored c.args.of c.args.rows c.args.kept))
