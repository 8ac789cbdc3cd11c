use Rattle.std.proofs.Common.{inl, inr, refl, []}
use Rattle.script_says.specs.Block.{no_block}
use Rattle.script_check.proofs.Acting.{acts_create, acts_drop, acts_planned, plan_is_block}
use Rattle.script_check.proofs.statement.act.Goals as goal

pub returns-in-CreateTable-clause-step : goal.returns-in-CreateTable-clause-step
returns-in-CreateTable-clause-step c =
    acts_create c.args.bound c.args.tables.now.items c.push.new.self.items c.new.result.items c.new.ensures.items (record { name = c.in-CreateTable.name; columns = c.in-CreateTable.columns }) c.in-CreateTable.is c.in_ok-push-in-CreateTable.ensures.items

pub returns-in-DropTable-clause-step : goal.returns-in-DropTable-clause-step
returns-in-DropTable-clause-step c =
    acts_drop c.args.bound c.args.tables.now.items c.drop_table.new.tables.items c.new-in-DropTable.result.items c.new-in-DropTable.ensures.items c.in-DropTable.name c.in-DropTable.is c.drop_table.ensures

pub returns-in-Copy-clause-step : goal.returns-in-Copy-clause-step
returns-in-Copy-clause-step c = rw (c.in-Copy.is) (no_block, refl, c.new-in-Copy.ensures.items)

pub returns-in-Explain-clause-step : goal.returns-in-Explain-clause-step
returns-in-Explain-clause-step c = acts_planned c.args.tables.now.items c.args.bound c.in-Explain.select (inl c.in-Explain.is) c.plan_block.result c.plan_block.ensures

pub returns-in-Explain-clause-block : goal.returns-in-Explain-clause-block
returns-in-Explain-clause-block c = plan_is_block c.in-Explain.select c.plan_block.result c.plan_block.ensures

pub returns-clause-step : goal.returns-clause-step
returns-clause-step c = acts_planned c.args.tables.now.items c.args.bound c.in-Select.select (inr c.in-Select.is) c.plan_block-in-Select.result c.plan_block-in-Select.ensures

pub returns-clause-block : goal.returns-clause-block
returns-clause-block c = plan_is_block c.in-Select.select c.plan_block-in-Select.result c.plan_block-in-Select.ensures
