use Rattle.std.proofs.Common.{◌<◌, ◌≤◌, ◌^◌, ℕ, length, sym, ◌∙◌, subst, arith}
use Rattle.std.proofs.lemmas.List.{at_drop_all}
use Rattle.std.specs.Str.{all_ascii_digits}
use Rattle.ooc_decimal.specs.Numeral.{number_after}
use Rattle.ooc_decimal.proofs.NumberAfter.{stops}
use Rattle.ooc_decimal.proofs.digits.read_digits.Goals as goal

pub returns-in-None : goal.returns-in-None
returns-in-None c =
    let P : ℕ → Type 0 = λ k. k < 2 ^ 128 in
    let l = c.loop-byte in
    λ whole. stops l.value c.args.digits.now l.byte-index c.loop-byte-test.true c.in-None.ensures
    (l.invariant.digits ∙ whole.0) (subst P (sym l.invariant.number) whole.1)

pub returns : goal.returns
returns c =
    let l = c.loop-byte in
    let ds = c.args.digits.now in
    let past : length ds ≤ l.byte-index = omega arith in
    let number = sym (at_drop_all (number_after l.value) ds l.byte-index past) ∙ l.invariant.number in
    let digits = sym l.invariant.digits ∙ at_drop_all all_ascii_digits ds l.byte-index past in
    let fits : l.value < 2 ^ 128 = omega arith in
    let P : ℕ → Type 0 = λ k. k < 2 ^ 128 in
    ((digits, subst P number fits), number)
