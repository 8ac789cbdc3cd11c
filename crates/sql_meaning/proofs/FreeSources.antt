-- Sources joined by plain conditions are free.
use Rattle.std.proofs.Common.{◌≡◌, Bool, true, false, cond, not, List, [], ◌∷◌, ◌++◌, refl, sym, ap, ap₂, ◌∙◌, subst, append-nil, Ok, Option, Some, None}
use Rattle.std.specs.Prelude.{filter}
use Rattle.std.specs.List.{AllByRecursion, list_all}
use Rattle.sql_meaning.specs.Found.{Found, Row, IsSame}
use Rattle.sql_meaning.specs.Select.{Cut}
use Rattle.sql_meaning.specs.Judged.{judged, plain_first, is_plain, Condition, says}
use Rattle.sql_meaning.specs.From.{Source}
use Rattle.sql_meaning.specs.Same.{Agrees}
use Rattle.sql_meaning.specs.Free.{IsSettled, IsFree}
use Rattle.sql_meaning.specs.Stage.{is_true}
use Rattle.sql_meaning.specs.Pool.{AreFaultless, IsPlainCondition}
use Rattle.sql_meaning.proofs.JoinStages.{judged-faultless}

pub all-faultless : (conditions : List Condition) (row : Row) → AllByRecursion IsPlainCondition conditions → AreFaultless row conditions
all-faultless [] row all = tt
all-faultless (condition ∷ conditions) row all = (all.0.sure row, all-faultless conditions row all.1)

plain-all : (conditions : List Condition) → AllByRecursion IsPlainCondition conditions → filter is_plain conditions ≡ conditions
plain-all [] all = refl
plain-all (c ∷ cs) all = ap (λ b. cond b (c ∷ filter is_plain cs) (filter is_plain cs)) all.0.plain ∙ ap (λ l. c ∷ l) (plain-all cs all.1)

others-none : (conditions : List Condition) → AllByRecursion IsPlainCondition conditions → filter (λ c. not (is_plain c)) conditions ≡ []
others-none [] all = refl
others-none (c ∷ cs) all = ap (λ b. cond (not b) (c ∷ filter (λ c. not (is_plain c)) cs) (filter (λ c. not (is_plain c)) cs)) all.0.plain ∙ others-none cs all.1

pub plain_first-plain : (conditions : List Condition) → AllByRecursion IsPlainCondition conditions → plain_first conditions ≡ conditions
plain_first-plain conditions all = ap₂ ◌++◌ (plain-all conditions all) (others-none conditions all) ∙ append-nil conditions

settled-test : (b : Bool) → IsSettled (cond b (Ok true) (Ok false))
settled-test true = tt
settled-test false = tt

pub free-of-plain : (source : Source) → source.pads ≡ false → AllByRecursion IsPlainCondition source.on → IsFree source
free-of-plain source inner all = record {
  inner = inner;
  settled = λ row.
      subst IsSettled
      (sym (ap (λ conditions. judged conditions row) (plain_first-plain source.on all ∙ sym (append-nil source.on)) ∙ judged-faultless source.on [] row (all-faultless source.on row all)))
      (settled-test (list_all (λ condition. is_true (says row condition)) source.on));
}

-- what agrees is the same bag
pub agreed-same : (cut : Option Cut) (f g : Found Row) → Agrees cut f g → IsSame f g
agreed-same None f g agrees = agrees
agreed-same (Some cut) f g agrees = agrees.0
