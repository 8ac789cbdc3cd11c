use Rattle.std.proofs.Common.{rules}
use Rattle.std.specs.Prelude.{not}
use Rattle.std.proofs.lemmas.Fn.{filter_same}
use Rattle.pool_core.specs.Effects.{rests_on}
use Rattle.pool_core.proofs.acts.drop_marks.Goals as goal

pub returns : goal.returns
returns c = filter_same _ (λ mark. not (rests_on c.args.pages.now c.args.actor c.args.page mark)) _ (λ x b f' k. search rules) _ _ c.retain.ensures.filtered
