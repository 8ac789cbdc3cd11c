use Rattle.std.proofs.Common.{ℕ, take, drop, arith, length-drop, ◌∙◌}
use Rattle.std.proofs.Math.Seq.{take-add}
use Rattle.std.proofs.lemmas.List.{take-append-drop, take_rest}
use Rattle.std.proofs.lemmas.Result.{err_from_is_err_and}
use Rattle.script_says.proofs.Known.{Appends-then, Appends-kept}
use Rattle.script_says.proofs.writing.write_all.Goals as goal

pub returns-in_err-at-clause-bytes : goal.returns-in_err-at-clause-bytes
returns-in_err-at-clause-bytes g c =
    let p = err_from_is_err_and c.from_residual.result c.from_residual.ensures.1 in
    let bytes = c.args.bytes.now in
    let kept = Appends-kept _ _ _ (take c.loop-at.at bytes) c.loop-at.invariant.written c.in_err-at.ensures.bytes in
    rw (p.1) (take c.loop-at.at bytes, drop c.loop-at.at bytes, take-append-drop c.loop-at.at bytes, kept)

pub loop-at-preserved : goal.loop-at-preserved
loop-at-preserved g c =
    let bytes = c.args.bytes.now in
    let n = c.in_ok-at.field-0 in
    let more = Appends-then _ _ _ (take c.loop-at.at bytes) (take n (drop c.loop-at.at bytes)) c.loop-at.invariant.written (rw (take_rest bytes c.loop-at.at) at c.in_ok-at.ensures.bytes) in
    record {
      within = omega (arith, length-drop {A = ℕ}, c.in_ok-at.ensures.bound);
      written = rw (take-add c.loop-at.at n bytes) more;
      faults = c.in_ok-at.ensures.cause ∙ c.loop-at.invariant.faults;
    }
