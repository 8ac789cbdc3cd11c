use Rattle.sql_expr.proofs.ValueForms.{values_have_form, values_are_ranged}
use Rattle.sql_expr.proofs.laws.values_have_their_types_form.Goals as goal

pub returns : goal.returns
returns c = record { form = values_have_form; range = values_are_ranged }
