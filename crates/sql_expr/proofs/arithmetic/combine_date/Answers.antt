use Rattle.std.proofs.Common.{◌≡◌, ap, sym, ◌∙◌, SFits, rules}
use Rattle.std.specs.Prelude.{ℤ, ◌+ℤ◌, ◌-ℤ◌}
use Rattle.std.specs.Option.{SomeIff}
use Rattle.std.specs.Int.{w128}
use Rattle.std.proofs.lemmas.Int.{to_z-of_z}
use Rattle.ooc_types.specs.declared.value.Value.TheVariants.{Number}
use Rattle.ooc_types.specs.Meets.{IsDay}
use Rattle.ooc_decimal.specs.Exact.{IsExact, at_scale}
use Rattle.ooc_decimal.specs.Numeric.{scale_of}
use Rattle.sql_expr.specs.Arithmetic.{amount, counted, numbers_applied, nearest_day}
use Rattle.sql_expr.specs.Outcomes.{amount_meaning, told}
use Rattle.sql_expr.proofs.Dates.{date_behind, date_before_in, days_between_in}
use Rattle.sql_expr.proofs.arithmetic.combine_date.Goals.{in-Minus+in-Date, in-Minus+in_default-right, in_default}
use Rattle.sql_expr.proofs.arithmetic.combine_date.Goals as goal

pub returns : goal.returns
returns c =
    let fa = c.ranges.a in
    let fb = c.ranges.b in
    let fd : SFits w128 c.nearest-day.result = search rules in
    let day : c.nearest-day.result ≡ nearest_day c.args.a = simp to_z-of_z at c.nearest-day.ensures in
    let d = c.nearest-day.result in
    let b = c.args.b in
    let whole : numbers_applied c.args.sign c.args.kind (Number c.nearest-day.result 0) (counted (amount c.args.right c.args.b))
    ≡ amount_meaning c.args.kind (told c.match-sign.number_or_fault) =
    elim c.match-sign.branch [
      | in-Minus+in-Date w ↦
          let near : w.nearest.result ≡ nearest_day c.args.b = simp to_z-of_z at w.nearest.ensures in
          let fn : SFits w128 w.nearest.result = search rules in
          let e : IsExact c.args.kind (at_scale c.nearest-day.result 0 (scale_of c.args.kind) -ℤ at_scale w.nearest.result 0 (scale_of c.args.kind)) w.sub.result = simp to_z-of_z at w.sub.ensures in
          let f : IsExact c.args.kind (at_scale c.nearest-day.result 0 (scale_of c.args.kind) -ℤ at_scale (nearest_day c.args.b) 0 (scale_of c.args.kind)) w.sub.result = rw near at e in
          days_between_in c.args.sign c.args.right c.args.kind d b w.sub.result w.in-Minus.is w.in-Date.is c.requires f
          ∙ ap (λ o. amount_meaning c.args.kind (told o)) (sym w.number_or_fault-is)
      | in-Minus+in_default-right w ↦
          let e : SomeIff w.day_before.result (IsDay (c.nearest-day.result -ℤ c.args.b)) (c.nearest-day.result -ℤ c.args.b) = simp to_z-of_z at w.day_before.ensures in
          date_before_in c.args.sign c.args.right c.args.kind d b w.day_before.result w.in-Minus.is w.in_default-right.not-Date c.requires e
          ∙ ap (λ o. amount_meaning c.args.kind (told o)) (sym w.number_or_fault-is)
      | in_default w ↦
          let e : SomeIff w.day_behind.result (IsDay (c.nearest-day.result +ℤ c.args.b)) (c.nearest-day.result +ℤ c.args.b) = simp to_z-of_z at w.day_behind.ensures in
          date_behind c.args.sign c.args.right c.args.kind d b w.day_behind.result w.in_default.not-Minus c.requires e
          ∙ ap (λ o. amount_meaning c.args.kind (told o)) (sym w.number_or_fault-is)
    ] in
    ap (λ (x : ℤ). numbers_applied c.args.sign c.args.kind (Number x 0) (counted (amount c.args.right c.args.b))) (sym day)
    ∙ whole ∙ ap (amount_meaning c.args.kind) (sym c.number_or_fault.ensures)
