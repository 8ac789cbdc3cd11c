use Rattle.std.proofs.Common.{◌+◌, ◌*◌, arith, ◌∙◌}
use Rattle.row_image.specs.Image.{part_at}
use Rattle.row_image.proofs.ByteLemmas.{number_at_before}
use Rattle.row_image.proofs.parts.set_part.Goals as goal

pub returns-clause-stored : goal.returns-clause-stored
unfolding part_at
returns-clause-stored c =
    let at = 32 + 24 * c.args.part in
    let a = c.set_word.new.image in
    let b = c.set_word-2.new.image in
    let d = c.set_word-3.new.image in
    let e = c.set_word-4.new.image in
    let f = c.set_long.new.image in
    let first = number_at_before e f (at + 16) (at + 16 + 8) c.set_long.ensures.others at 4 (omega arith) ∙ number_at_before d e (at + 12) (at + 12 + 4) c.set_word-4.ensures.others at 4 (omega arith) ∙ number_at_before b d (at + 8) (at + 8 + 4) c.set_word-3.ensures.others at 4 (omega arith) ∙ number_at_before a b (at + 4) (at + 4 + 4) c.set_word-2.ensures.others at 4 (omega arith) ∙ c.set_word.ensures.stored in
    let rows = number_at_before e f (at + 16) (at + 16 + 8) c.set_long.ensures.others (at + 4) 4 (omega arith) ∙ number_at_before d e (at + 12) (at + 12 + 4) c.set_word-4.ensures.others (at + 4) 4 (omega arith) ∙ number_at_before b d (at + 8) (at + 8 + 4) c.set_word-3.ensures.others (at + 4) 4 (omega arith) ∙ c.set_word-2.ensures.stored in
    let heap = number_at_before e f (at + 16) (at + 16 + 8) c.set_long.ensures.others (at + 8) 4 (omega arith) ∙ number_at_before d e (at + 12) (at + 12 + 4) c.set_word-4.ensures.others (at + 8) 4 (omega arith) ∙ c.set_word-3.ensures.stored in
    λ i. record { first = first i; rows = rows i; heap = heap i; base = c.set_long.ensures.stored i }

pub returns-clause-zeros : goal.returns-clause-zeros
returns-clause-zeros c =
    let at = 32 + 24 * c.args.part in
    number_at_before c.set_word-4.new.image c.set_long.new.image (at + 16) (at + 16 + 8) c.set_long.ensures.others (at + 12) 4 (omega arith) ∙ c.set_word-4.ensures.stored
