use Rattle.std.proofs.Common.{subst, sym}
use Rattle.std.specs.Prelude.{All, List}
use Rattle.sql_meaning.specs.Found.{Row}
use Rattle.plain_rows.specs.Tests.{IsReady}
use Rattle.plain_rows.proofs.table.keep_answer.Goals as goal

pub kept_rows-requires : goal.kept_rows-requires
kept_rows-requires c = subst (λ (rows : List Row). All (λ row. All (IsReady row) c.args.tests.now) rows) (sym c.as_slice.ensures.value) c.requires
