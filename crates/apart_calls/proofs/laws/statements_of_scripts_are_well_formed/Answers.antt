use Rattle.bind_rules.specs.Bound.{bound_of}
use Rattle.bound_tree.specs.declared.statement.Bound.{Bound}
use Rattle.sql_scope.specs.Scopes.{columns_of}
use Rattle.std.specs.Prelude.{Ok, ◌≡◌}
use Rattle.well_formed.specs.Statements.{IsWellFormed}
use Rattle.formed_binding.specs.Placed.{StandApart}
use Rattle.apart_calls.proofs.BoundLemmas.{each-from}
use Rattle.apart_calls.proofs.ScriptLemmas.{tree-apart}
use Rattle.apart_calls.proofs.laws.statements_of_scripts_are_well_formed.Goals as goal

pub returns : goal.returns
returns c bytes script tables limit tree proper =
    each-from StandApart (λ statement. (bound : Bound) → bound_of statement bytes tables limit ≡ Ok bound → IsWellFormed limit (columns_of tables) bound)
    (λ statement apart bound is. c.bound_statements_are_well_formed.ensures statement bytes tables limit bound apart proper is)
    script.statements (tree-apart bytes script tree)
