-- Conditions that judge one after another.
use Rattle.std.proofs.Common.{◌≡◌, Bool, true, false, cond, List, [], ◌∷◌, ◌++◌, refl, ap, ◌∙◌}
use Rattle.std.specs.Prelude.{filter, Ok, Err}
use Rattle.ooc_types.specs.declared.truth.Truth.{Truth as Ternary}
use Rattle.ooc_types.specs.declared.truth.Truth.TheVariants.{Yes, No, Unknown}
use Rattle.sql_expr.specs.declared.fault.ValueFault.{ValueFault}
use Rattle.sql_expr.specs.Arithmetic.{Meaning}
use Rattle.sql_expr.specs.Logic.{truth_in}
use Rattle.sql_meaning.specs.Found.{Row}
use Rattle.sql_meaning.specs.Judged.{Condition, Verdict, if_true, judged, says, then_judged}
use Rattle.sql_expr.specs.declared.fault.EvalFault.{EvalFault}
use Rattle.sql_expr.specs.declared.fault.EvalFault.TheVariants.{Fault, OutOfMemory}
use Rattle.plain_rows.specs.Outcomes.{Told}
use Rattle.plain_rows.specs.Tests.{acts_here, judged_by_one}

abbrev both : Verdict → Verdict → Verdict
both (Err fault) later = Err fault
both (Ok true) later = later
both (Ok false) later = Ok false

turned : (truth : Ternary) (first later : Verdict) → if_true truth (both first later) ≡ both (if_true truth first) later
turned Yes first later = refl
turned No first later = refl
turned Unknown first later = refl

in-turn : (m : Meaning) (first later : Verdict) → then_judged m (both first later) ≡ both (then_judged m first) later
in-turn (Err fault) first later = refl
in-turn (Ok value) first later = turned (truth_in value) first later

judged-both : (cs ds : List Condition) (row : Row) → judged (cs ++ ds) row ≡ both (judged cs row) (judged ds row)
judged-both [] ds row = refl
judged-both (c ∷ cs) ds row = ap (then_judged (says row c)) (judged-both cs ds row) ∙ in-turn (says row c) (judged cs row) (judged ds row)

one-and-others : (plain : Bool) (c : Condition) (cs : List Condition) (row : Row)
    → judged (filter (acts_here plain) (c ∷ cs)) row ≡ both (judged_by_one plain c row) (judged (filter (acts_here plain) cs) row)
one-and-others plain c cs row =
    elim (acts_here plain c) as (λ b. judged (cond b (c ∷ filter (acts_here plain) cs) (filter (acts_here plain) cs)) row ≡ both (cond b (then_judged (says row c) (Ok true)) (Ok true)) (judged (filter (acts_here plain) cs) row)) [
      | true ↦ in-turn (says row c) (Ok true) (judged (filter (acts_here plain) cs) row)
      | false ↦ refl
    ]

-- the first condition of a list has this verdict
pub first-judged : (plain : Bool) (c : Condition) (cs : List Condition) (row : Row) → judged_by_one plain c row ≡ Ok true
    → judged (filter (acts_here plain) (c ∷ cs)) row ≡ judged (filter (acts_here plain) cs) row
first-judged plain c cs row e = one-and-others plain c cs row ∙ ap (λ v. both v (judged (filter (acts_here plain) cs) row)) e

pub first-drops : (plain : Bool) (c : Condition) (cs : List Condition) (row : Row) → judged_by_one plain c row ≡ Ok false
    → judged (filter (acts_here plain) (c ∷ cs)) row ≡ Ok false
first-drops plain c cs row e = one-and-others plain c cs row ∙ ap (λ v. both v (judged (filter (acts_here plain) cs) row)) e

pub first-faults : (plain : Bool) (c : Condition) (cs : List Condition) (row : Row) (fault : ValueFault) → judged_by_one plain c row ≡ Err fault
    → judged (filter (acts_here plain) (c ∷ cs)) row ≡ Err fault
first-faults plain c cs row fault e = one-and-others plain c cs row ∙ ap (λ v. both v (judged (filter (acts_here plain) cs) row)) e

-- the same of a list in front of another
pub front-judged : (cs ds : List Condition) (row : Row) → judged cs row ≡ Ok true → judged (cs ++ ds) row ≡ judged ds row
front-judged cs ds row e = judged-both cs ds row ∙ ap (λ v. both v (judged ds row)) e

pub front-drops : (cs ds : List Condition) (row : Row) → judged cs row ≡ Ok false → judged (cs ++ ds) row ≡ Ok false
front-drops cs ds row e = judged-both cs ds row ∙ ap (λ v. both v (judged ds row)) e

pub front-faults : (cs ds : List Condition) (row : Row) (fault : ValueFault) → judged cs row ≡ Err fault → judged (cs ++ ds) row ≡ Err fault
front-faults cs ds row fault e = judged-both cs ds row ∙ ap (λ v. both v (judged ds row)) e

pub told-fault : (cs ds : List Condition) (row : Row) (e : EvalFault) → Told (judged cs row) (Err e) → Told (judged (cs ++ ds) row) (Err e)
told-fault cs ds row OutOfMemory told = tt
told-fault cs ds row (Fault fault) told = front-faults cs ds row fault told
