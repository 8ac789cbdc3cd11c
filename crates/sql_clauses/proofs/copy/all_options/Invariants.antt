use Rattle.std.proofs.Common.{drop}
use Rattle.std.specs.Prelude.{Ok}
use Rattle.sql_scope.specs.Answer.{each}
use Rattle.sql_scope.proofs.Each.{SoFar}
use Rattle.sql_clauses.specs.Copies.{option_behind, no_options}
use Rattle.sql_clauses.proofs.copy.all_options.Given as goal

abbrev pub invariant-loop-option : goal.invariant-loop-option
invariant-loop-option l = SoFar (option_behind l.scope) (each (option_behind l.scope) (Ok no_options) l.written) l.options (drop l.option-index l.written)
