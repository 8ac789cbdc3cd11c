use Rattle.std.proofs.Common.{◌≡◌, ℕ, false, Some}
use Rattle.std.specs.Prelude.{slice_get}
use Rattle.worker_stage.specs.Work.{Worked}
use Rattle.worker_stage.proofs.desk.draw_all.Given as goal

abbrev pub invariant-loop : goal.invariant-loop
invariant-loop g l = record {
  can : (goal.iterator-loop g).can_next l.iterator';
  finite : (goal.iterator-loop g).is_finite l.iterator';
  own : g.S.DrawSource.owns l.source l.seat;
  parts : (g.S.DrawSource.seen l.seat).parts ≡ (g.S.DrawSource.seen l.initial.seat).parts;
  going : (g.S.DrawSource.seen l.seat).ended ≡ false;
  worked : Worked g.W.StageWorker.made (g.S.DrawSource.items l.source) l.initial.worker (g.S.DrawSource.seen l.seat).draws l.worker;
  takes : (n : ℕ) (x : g.row.I.Denot) → slice_get (g.S.DrawSource.items l.source) n ≡ Some x → g.W.StageWorker.takes l.worker x;
}
