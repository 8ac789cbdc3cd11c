use Rattle.std.proofs.Common.{◌≡◌, ◌<◌, ◌≤◌, ℕ, arith, ◌∙◌}
use Rattle.std.specs.Prelude.{slice_index}
use Rattle.row_image.specs.Bytes.{number_at}
use Rattle.row_image.proofs.ByteLemmas.{number_at_zeros}
use Rattle.string_heap.proofs.HeapRules.{heap_accepted}
use Rattle.string_heap.proofs.heap.new_heap.Goals as goal

pub returns-clause-empty : goal.returns-clause-empty
returns-clause-empty c =
    let zeros : (k : ℕ) → 4 ≤ k → k < 64 → slice_index c.set_word.new.image k ≡ 0 = λ k low high. c.set_word.ensures.others.after k (omega arith) ∙ c.put_zeros.ensures.zeros k (omega arith) (omega arith) in
    number_at_zeros c.set_word.new.image 4 64 zeros 4 4 (omega arith) (omega arith)

pub returns-clause-accepted : goal.returns-clause-accepted
returns-clause-accepted c =
    let zeros : (k : ℕ) → 4 ≤ k → k < 64 → slice_index c.set_word.new.image k ≡ 0 = λ k low high. c.set_word.ensures.others.after k (omega arith) ∙ c.put_zeros.ensures.zeros k (omega arith) (omega arith) in
    let none : number_at c.set_word.new.image 4 4 ≡ 0 = number_at_zeros c.set_word.new.image 4 64 zeros 4 4 (omega arith) (omega arith) in
    heap_accepted c.set_word.new.image (record { kind = c.set_word.ensures.stored; used = omega (arith, none) })
