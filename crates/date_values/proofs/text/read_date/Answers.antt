use Rattle.std.proofs.Common.{◌≡◌, ℕ, List, ℤ, Option, Some, None, sym, ap, ◌∙◌, refl, rules}
use Rattle.std.specs.Prelude.{IfSome, IsNone}
use Rattle.ooc_types.specs.Meets.{IsDay}
use Rattle.date_values.specs.declared.date.Date.{Date}
use Rattle.date_values.specs.Calendar.{date_of}
use Rattle.date_values.specs.DateText.{date_text, day_text}
use Rattle.date_values.proofs.Counted.{date_short}
use Rattle.date_values.proofs.Texts.{texts_same}
use Rattle.date_values.proofs.text.read_date.Goals as goal

pub returns-in_err-read_parts-clause-none : goal.returns-in_err-read_parts-clause-none
unfolding day_text
returns-in_err-read_parts-clause-none c none day is e =
    let short = date_short day is in
    c.in_err-read_parts.ensures.none refl (date_of day) short.0 short.1 short.2 e

some_text : (text : List ℕ) (found : Date) (r : Option ℤ) → text ≡ date_text found → IfSome r (λ n. IsDay n × (date_of n ≡ found)) → IfSome r (λ day. IsDay day × (text ≡ day_text day))
unfolding day_text
some_text text found (Some n) e h = (h.0, e ∙ sym (ap date_text h.1))
some_text text found None e h = h

pub returns-clause-some : goal.returns-clause-some
returns-clause-some c = some_text c.args.text.now c.in_ok-read_parts.field-0 c.day_of_date.result c.in_ok-read_parts.ensures.some.3 c.day_of_date.ensures.some

pub returns-clause-none : goal.returns-clause-none
unfolding day_text
returns-clause-none c none day is e =
    c.day_of_date.ensures.none none day is (texts_same (date_of day) c.in_ok-read_parts.field-0 (sym e ∙ c.in_ok-read_parts.ensures.some.3))
