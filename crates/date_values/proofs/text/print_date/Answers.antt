use Rattle.std.proofs.Common.{◌≡◌, List, ℕ, ◌∷◌, [], SFits, ap, ◌∙◌, rules}
use Rattle.std.specs.Int.{w32}
use Rattle.std.proofs.lemmas.Int.{to_z-of_z}
use Rattle.date_values.specs.declared.date.Date.{Date}
use Rattle.date_values.specs.Calendar.{date_of, nearest_day}
use Rattle.date_values.specs.DateText.{date_text, day_text}
use Rattle.date_values.proofs.text.print_date.Goals as goal

pub returns : goal.returns
unfolding day_text
returns c =
    let date = c.date_of_day-date.result in
    let day_fits : SFits w32 c.args.day = c.ranges.day in
    let near_fits : SFits w32 c.nearest_day.result = search rules in
    let near : c.nearest_day.result ≡ nearest_day c.args.day = simp to_z-of_z at c.nearest_day.ensures.value in
    let of_near : date ≡ date_of c.nearest_day.result = simp to_z-of_z at c.date_of_day-date.ensures.date in
    let e : date ≡ date_of (nearest_day c.args.day) = of_near ∙ ap date_of near in
    (cc) ∙ ap date_text e
