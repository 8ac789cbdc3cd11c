-- Answers that are left where nothing faulted.
use Rattle.std.proofs.Common.{◌≡◌, List, [], ◌∷◌, ◌++◌, refl, ap, ◌∙◌}
use Rattle.std.specs.List.{AllByRecursion}
use Rattle.sql_expr.specs.declared.fault.ValueFault.{ValueFault}
use Rattle.sql_meaning.specs.Found.{Found, Row, clean, if_clean, unless_faulted}

abbrev pub noted : List ValueFault → Found Row → Found Row
noted faults found = record { rows = found.rows; faults = faults ++ found.faults }

by-faults : (before faults : List ValueFault) (rows : List Row)
    → if_clean (noted before (unless_faulted faults (clean rows))) clean ≡ if_clean (noted before (record { rows = rows; faults = faults })) clean
by-faults before [] rows = refl
by-faults [] (fault ∷ faults) rows = refl
by-faults (first ∷ before) (fault ∷ faults) rows = refl

-- what is left of a clean answer behind faults
pub noted-clean : (before : List ValueFault) (g h : Found Row) → h ≡ if_clean g clean → if_clean (noted before h) clean ≡ if_clean (noted before g) clean
noted-clean before g h is = ap (λ (f : Found Row). if_clean (noted before f) clean) is ∙ by-faults before g.faults g.rows

-- what follows a clean answer follows the answer
after : (faults : List ValueFault) (rows : List Row) (next : List Row → Found Row) → if_clean (unless_faulted faults (clean rows)) next ≡ unless_faulted faults (next rows)
after [] rows next = refl
after (fault ∷ faults) rows next = refl

pub after-clean : (f : Found Row) (next : List Row → Found Row) → if_clean (if_clean f clean) next ≡ if_clean f next
after-clean f next = after f.faults f.rows next

in-turn : (faults : List ValueFault) (found : Found Row) (next : List Row → Found Row) → if_clean (unless_faulted faults found) next ≡ unless_faulted faults (if_clean found next)
in-turn [] found next = refl
in-turn (fault ∷ faults) found next = refl

-- two steps where nothing faulted, one after the other
pub clean-in-turn : (f : Found Row) (first second : List Row → Found Row) → if_clean (if_clean f first) second ≡ if_clean f (λ rows. if_clean (first rows) second)
clean-in-turn f first second = in-turn f.faults (first f.rows) second

unless-has : (P : Row → Type 0) (faults : List ValueFault) (found : Found Row) → AllByRecursion P found.rows → AllByRecursion P (unless_faulted faults found).rows
unless-has P [] found all = all
unless-has P (fault ∷ faults) found all = tt

pub clean-has : (P : Row → Type 0) (f : Found Row) (next : List Row → Found Row) → AllByRecursion P (next f.rows).rows → AllByRecursion P (if_clean f next).rows
clean-has P f next all = unless-has P f.faults (next f.rows) all
