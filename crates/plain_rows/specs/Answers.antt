-- Answers as the meaning has them.
use Rattle.std.specs.Prelude.{◌≡◌, Bool, [], ◌∷◌, ◌++◌}
use Rattle.sql_expr.specs.declared.fault.ValueFault.{ValueFault}
use Rattle.sql_meaning.specs.Found.{Found, Row, clean, if_clean}
use Rattle.sql_meaning.specs.Select.{perhaps_distinct}
use Rattle.plain_rows.specs.declared.answer.Answer.{Answer}

abbrev pub found_in : Answer → Found Row
found_in answer = record { rows = answer.rows.items; faults = answer.faults.items }

abbrev pub one_row : Row → Found Row
one_row row = record { rows = row ∷ []; faults = [] }

abbrev pub one_fault : ValueFault → Found Row
one_fault fault = record { rows = []; faults = fault ∷ [] }

-- the rows and faults of `more` came behind
pub record Adds (old new : Answer) (more : Found Row) : Type 0 where
  pub rows : new.rows.items ≡ old.rows.items ++ more.rows
  pub faults : new.faults.items ≡ old.faults.items ++ more.faults

-- DISTINCT over rows below which nothing faulted
abbrev pub distinct_found : Bool → Found Row → Found Row
distinct_found distinct found = if_clean found (λ rows. clean (perhaps_distinct distinct rows))
