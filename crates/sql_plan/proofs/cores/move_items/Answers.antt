use Rattle.std.proofs.Common.{ap, sym, ◌∙◌, map}
use Rattle.sql_plan.specs.declared.places.Places.TheVariants.{Kept}
use Rattle.sql_plan.specs.Cores.{items_by}
use Rattle.sql_plan.specs.Places.{moved_by}
use Rattle.sql_plan.proofs.Going.{said}
use Rattle.sql_plan.proofs.MoveLemmas.{keep_list}
use Rattle.sql_plan.proofs.cores.move_items.Goals as goal

pub returns-in-Some : goal.returns-in-Some
returns-in-Some c =
    said (map (moved_by Kept) c.args.items.now) (items_by c.args.places.now c.args.grouping.now c.args.items.now) c.move_list.result
    (keep_list c.args.items.now ∙ sym (ap (λ g. items_by c.args.places.now g c.args.items.now) c.in-Some.is)) c.move_list.ensures
