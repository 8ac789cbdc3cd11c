use Rattle.std.proofs.Common.{◌≡◌, ◌∙◌, List, ap, arith, replicate, rules}
use Rattle.std.specs.Prelude.{sum}
use Rattle.mem_division.specs.Division.{Want, least_of}
use Rattle.run_settings.proofs.Sums.{least_sum}
use Rattle.run_settings.proofs.grants.divide_frames.Goals as goal

pub divide-requires-clause-enough : goal.divide-requires-clause-enough
divide-requires-clause-enough c =
    let items : c.as_slice.result.now ≡ replicate c.args.workers (24, c.args.frames) = search rules in
    let total = ap (λ (w : List Want). sum (least_of w)) items ∙ least_sum c.args.workers 24 c.args.frames in
    let enough = c.requires.enough in
    omega arith
