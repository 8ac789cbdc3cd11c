use Rattle.std.proofs.Common.{◌++◌, ◌+◌, ◌<◌, ◌^◌, ℕ, length, sym, ◌∙◌, ap, subst}
use Rattle.std.specs.Str.{all_ascii_digits}
use Rattle.ooc_decimal.proofs.NumberAfter.{digits_behind}
use Rattle.ooc_decimal.proofs.Rounding.{rounds_down, rounds_up, not_rounded, not_digits, one_more}
use Rattle.ooc_decimal.proofs.read.read_rounded.Goals as goal

pub returns-in-None : goal.returns-in-None
returns-in-None c = not_rounded (c.args.whole.now ++ c.args.kept.now) c.args.dropped.now (length c.args.kept.now) c.requires c.in-None.ensures

pub returns-then-not-are_digits : goal.returns-then-not-are_digits
returns-then-not-are_digits c =
    λ both. not_digits (c.args.whole.now ++ c.args.kept.now) c.args.dropped.now (sym c.are_digits.ensures ∙ c.if-not-are_digits.true) both.0

pub returns-then-dropped-lt53 : goal.returns-then-dropped-lt53
returns-then-dropped-lt53 c =
    let kept = c.args.whole.now ++ c.args.kept.now in
    let dropped = c.args.dropped.now in
    let digits = sym c.are_digits.ensures ∙ c.if-not-are_digits.false in
    let number = c.in-Some.ensures.1 ∙ rounds_down kept dropped (length c.args.kept.now) c.requires digits c.if-dropped-lt53.true in
    let P : ℕ → Type 0 = λ n. n < 2 ^ 128 in
    ((sym (digits_behind kept dropped c.in-Some.ensures.0.0) ∙ digits, subst P (sym c.in-Some.ensures.1 ∙ number) c.in-Some.ensures.0.1), number)

pub returns-else-dropped-lt53 : goal.returns-else-dropped-lt53
returns-else-dropped-lt53 c =
    let kept = c.args.whole.now ++ c.args.kept.now in
    let dropped = c.args.dropped.now in
    let digits = sym c.are_digits.ensures ∙ c.if-not-are_digits.false in
    one_more c.checked_add.result c.in-Some.value _ (all_ascii_digits (kept ++ dropped))
    (sym (digits_behind kept dropped c.in-Some.ensures.0.0) ∙ digits)
    (ap (λ n. n + 1) c.in-Some.ensures.1 ∙ rounds_up kept dropped (length c.args.kept.now) c.requires digits c.if-dropped-lt53.false)
    c.checked_add.ensures
