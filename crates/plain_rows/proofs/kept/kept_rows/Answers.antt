use Rattle.std.proofs.Common.{subst, sym, slice_index_or}
use Rattle.sql_meaning.specs.Found.{Row}
use Rattle.plain_rows.specs.Tests.{IsReady}
use Rattle.plain_rows.proofs.kept.kept_rows.Goals as goal

pub keep-requires : goal.keep-requires
keep-requires c = λ k d within.
    subst (λ (row : Row). IsReady row (slice_index_or c.args.tests.now k d)) (sym c.row-item.is) (c.requires c.loop-row.row-index c.row-item.result c.loop-row-test.true k d within)
