use Rattle.std.proofs.Common.{◌≡◌, [], map, take, length, Some}
use Rattle.plan_tree.specs.Order.{columns_in, picks}
use Rattle.sql_plan.specs.Chosen.{choice_in, chosen_of}
use Rattle.sql_plan.proofs.ChosenLemmas.{one-chosen}
use Rattle.sql_plan.proofs.order.choose.Goals as goal

pub loop-one-preserved : goal.loop-one-preserved
loop-one-preserved c =
    let choice : Some c.in-Some.one ≡ choice_in c.args.pool.now c.loop-one.placed c.loop-one.left = cc in
    let before : c.columns_before-before.result ≡ columns_in (take c.in-Some.one.place c.loop-one.left) = cc in
    one-chosen c.args.pool.now (map chosen_of (picks (length c.args.entries) c.args.pool.now [] c.args.entries)) (columns_in c.args.entries) c.loop-one.chosen c.loop-one.placed c.loop-one.left
    c.in-Some.one c.columns_before-before.result c.remove.new.self c.push.new.self c.push-in-Some.new.self c.loop-one.invariant choice before c.remove.ensures.rest c.in_ok-push.ensures.ok c.in_ok-push-2.ensures.ok
