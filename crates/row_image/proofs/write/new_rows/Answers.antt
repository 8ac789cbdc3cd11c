use Rattle.std.proofs.Common.{◌≡◌, ◌<◌, ◌≤◌, ◌+◌, ℕ, arith, ap, ◌∙◌, map}
use Rattle.std.specs.Prelude.{slice_index}
use Rattle.std.specs.List.{range_with_len}
use Rattle.row_image.specs.Image.{rows_of, stored_row}
use Rattle.row_image.proofs.ByteLemmas.{number_at_before, number_at_zeros}
use Rattle.row_image.proofs.WrittenAccepted.{empty_accepted}
use Rattle.row_image.proofs.write.new_rows.Goals as goal

pub returns-clause-head : goal.returns-clause-head
returns-clause-head c = λ k low high. c.set_word-2.ensures.others.after k (omega arith) ∙ c.set_word.ensures.others.after k (omega arith) ∙ c.put_zeros.ensures.zeros k (omega arith) (omega arith)

pub returns-clause-rest : goal.returns-clause-rest
returns-clause-rest c = λ k past. c.set_word-2.ensures.others.after k (omega arith) ∙ c.set_word.ensures.others.after k (omega arith) ∙ c.put_zeros.ensures.others.after k (omega arith)

pub returns-clause-accepted : goal.returns-clause-accepted
returns-clause-accepted c =
    let zeros : (k : ℕ) → 8 ≤ k → k < 128 → slice_index c.set_word-2.new.image k ≡ 0 = λ k low high. c.set_word-2.ensures.others.after k (omega arith) ∙ c.set_word.ensures.others.after k (omega arith) ∙ c.put_zeros.ensures.zeros k (omega arith) (omega arith) in
    empty_accepted c.args.layout.now c.set_word-2.new.image
    (number_at_before c.set_word.new.image c.set_word-2.new.image 4 (4 + 4) c.set_word-2.ensures.others 0 4 (omega arith) ∙ c.set_word.ensures.stored)
    (c.set_word-2.ensures.stored ∙ c.width.ensures.width)
    (number_at_zeros c.set_word-2.new.image 8 128 zeros 8 4 (omega arith) (omega arith))
    (number_at_zeros c.set_word-2.new.image 8 128 zeros 12 4 (omega arith) (omega arith))

pub returns-clause-empty : goal.returns-clause-empty
unfolding rows_of
returns-clause-empty c =
    let zeros : (k : ℕ) → 8 ≤ k → k < 128 → slice_index c.set_word-2.new.image k ≡ 0 = λ k low high. c.set_word-2.ensures.others.after k (omega arith) ∙ c.set_word.ensures.others.after k (omega arith) ∙ c.put_zeros.ensures.zeros k (omega arith) (omega arith) in
    ap (λ n. map (λ row. stored_row c.args.layout.now c.set_word-2.new.image row) (range_with_len 0 n)) (number_at_zeros c.set_word-2.new.image 8 128 zeros 8 4 (omega arith) (omega arith))
