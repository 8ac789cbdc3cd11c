-- SQL's logic of three truths.
use Rattle.std.specs.Prelude.{Bool, true, false}
use Rattle.ooc_types.specs.declared.truth.Truth.{Truth as Ternary}
use Rattle.ooc_types.specs.declared.truth.Truth.TheVariants.{Yes, No, Unknown}
use Rattle.ooc_types.specs.declared.value.Value.{Value}
use Rattle.ooc_types.specs.declared.value.Value.TheVariants.{Null, Truth, Number, Day, Text}

abbrev pub not_truth : Ternary → Ternary
not_truth Yes = No
not_truth No = Yes
not_truth Unknown = Unknown

abbrev pub and_truth : Ternary → Ternary → Ternary
and_truth No b = No
and_truth Yes b = b
and_truth Unknown No = No
and_truth Unknown Yes = Unknown
and_truth Unknown Unknown = Unknown

abbrev pub or_truth : Ternary → Ternary → Ternary
or_truth Yes b = Yes
or_truth No b = b
or_truth Unknown Yes = Yes
or_truth Unknown No = Unknown
or_truth Unknown Unknown = Unknown

-- NULL is the unknown truth
abbrev pub truth_value : Ternary → Value
truth_value Yes = Truth true
truth_value No = Truth false
truth_value Unknown = Null

abbrev pub truth_in : Value → Ternary
truth_in (Truth true) = Yes
truth_in (Truth false) = No
truth_in Null = Unknown
truth_in (Number digits scale) = Unknown
truth_in (Day day) = Unknown
truth_in (Text bytes) = Unknown

-- NOT of a truth where `negated` says so
abbrev pub negated_if : Bool → Ternary → Ternary
negated_if true truth = not_truth truth
negated_if false truth = truth

abbrev pub truth_from : Bool → Ternary
truth_from true = Yes
truth_from false = No
