use Rattle.std.proofs.Common.{◌≡◌, ℕ, length, get_or, rules, arith}
use Rattle.date_values.proofs.Texts.{ten_are}
use Rattle.date_values.proofs.text.read_parts.Goals as goal

pub returns-clause-some : goal.returns-clause-some
returns-clause-some c =
    let century = c.in_ok-century.ensures.some in
    let year = c.in_ok-year.ensures.some in
    let month = c.in_ok-month.ensures.some in
    let day = c.in_ok-day.ensures.some in
    let ten : length c.args.text.now ≡ 10 = omega arith in
    let first : get_or c.args.text.now 4 0 ≡ 45 = search rules in
    let second : get_or c.args.text.now 7 0 ≡ 45 = search rules in
    (omega (arith, century.0, year.0), month.0, day.0, ten_are c.args.text.now _ _ _ _ ten first second year.0 century.1 year.1 month.1 day.1)
