use Rattle.std.proofs.Common.{ap, ◌∙◌}
use Rattle.sql_meaning.specs.From.{pairs}
use Rattle.plain_rows.proofs.Fitting.{moved}
use Rattle.plain_rows.proofs.source.meet.Goals as goal

pub kept_rows-requires : goal.kept_rows-requires
kept_rows-requires c = moved c.args.source.now.on.items _ _ _ c.as_slice-2.ensures.value (c.as_slice-3.ensures.value ∙ c.in_ok-pairs.ensures ∙ ap (pairs c.args.left.now) c.as_slice.ensures.value) c.requires
