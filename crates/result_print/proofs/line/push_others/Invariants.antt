use Rattle.std.proofs.Common.{◌≡◌, ◌∷◌, ◌++◌, take}
use Rattle.std.specs.List.{flat_map}
use Rattle.result_print.proofs.line.push_others.Given as goal

abbrev pub invariant-loop-field : goal.invariant-loop-field
invariant-loop-field g l = l.into.items ≡ l.fn.into.items ++ flat_map (λ f. 44 ∷ g.F.Field.text f) (take l.field-index l.fields)
