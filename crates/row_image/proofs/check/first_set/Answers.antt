use Rattle.std.proofs.Common.{not, eqb, get_or, arith, ap, sym}
use Rattle.std.specs.Prelude.{unwrap_or}
use Rattle.std.proofs.lemmas.Bool.{ne_eqb}
use Rattle.row_image.specs.Rules.{first_set}
use Rattle.row_image.proofs.ListLemmas.{find_at, find_none}
use Rattle.row_image.proofs.check.first_set.Goals as goal

pub returns-then-byte-ne0 : goal.returns-then-byte-ne0
unfolding first_set
returns-then-byte-ne0 c =
    sym (ap (λ o. unwrap_or o 0) (find_at (λ byte. not (eqb byte 0)) c.args.bytes.now c.loop-byte.byte-index 0 (omega arith)
    (λ j less. ap (λ byte. not (eqb byte 0)) (c.loop-byte.invariant j less))
    (ap not (ne_eqb (get_or c.args.bytes.now c.loop-byte.byte-index 0) 0 c.if-byte-ne0.true))))

pub returns : goal.returns
unfolding first_set
returns c = sym (ap (λ o. unwrap_or o 0) (find_none (λ byte. not (eqb byte 0)) c.args.bytes.now 0 (λ j less. ap (λ byte. not (eqb byte 0)) (c.loop-byte.invariant j (omega arith)))))
