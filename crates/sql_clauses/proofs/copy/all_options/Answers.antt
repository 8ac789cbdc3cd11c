use Rattle.std.proofs.Common.{ap, sym}
use Rattle.std.specs.Prelude.{Ok}
use Rattle.sql_scope.proofs.Each.{begins, goes_further_at, ends, step_on}
use Rattle.sql_clauses.specs.Copies.{option_behind, no_options}
use Rattle.sql_clauses.proofs.copy.all_options.Goals as goal

pub loop-option-init : goal.loop-option-init
loop-option-init c = begins _ (Ok no_options) _ _ (ap Ok (sym c.no_options.ensures))

pub loop-option-preserved : goal.loop-option-preserved
loop-option-preserved c =
    goes_further_at (option_behind c.args.scope.now) _ c.loop-option.options c.option_behind-options.result c.args.written.now c.loop-option.option-index _
    c.loop-option-test.true c.loop-option.invariant (step_on (option_behind c.args.scope.now) _ c.loop-option.options c.option_behind-options.result c.option_behind-options.ensures)

pub returns : goal.returns
returns c = ends (option_behind c.args.scope.now) _ c.loop-option.options c.args.written.now c.loop-option.option-index c.loop-option-test.false c.loop-option.invariant
