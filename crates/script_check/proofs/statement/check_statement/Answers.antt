use Rattle.script_check.specs.Tables.{catalog_in}
use Rattle.script_check.proofs.Acting.{step_acted, step_refused}
use Rattle.script_check.proofs.statement.check_statement.Goals as goal

pub act-requires : goal.act-requires
act-requires c = c.bound_statements_are_numbered.ensures c.args.statement.now c.args.script.now c.as_slice.result.now c.args.limit c.in-Ok.bound c.in-Ok.ensures

pub returns-in_ok-act-in-Ok-clause-step : goal.returns-in_ok-act-in-Ok-clause-step
returns-in_ok-act-in-Ok-clause-step c =
    step_acted c.args.script.now c.args.limit c.args.number c.args.tables.now.items c.args.statement.now c.in-Ok.bound (catalog_in c.act.new.tables.items) c.in_ok-act-in-Ok.field-0.items
    (rw (c.as_slice.ensures.value) at c.in-Ok.ensures) c.in_ok-act-in-Ok.ensures.step

pub returns-in-Err-Refused-clause-step : goal.returns-in-Err-Refused-clause-step
returns-in-Err-Refused-clause-step c =
    step_refused c.args.script.now c.args.limit c.args.number c.args.tables.now.items c.args.statement.now _ c.in-Err-Refused.place _ c.in-Err-Refused.kind (catalog_in c.args.tables.now.items)
    (rw (c.as_slice.ensures.value) at (rw (c.in-Err-Refused.field-0-is) at c.in-Err-Refused.ensures)) c.in-Err-Refused.place-is c.in-Err-Refused.kind-is
