use Rattle.std.proofs.Common.{◌≡◌, ◌++◌}
use Rattle.sql_meaning.specs.From.{nulls}
use Rattle.plain_rows.proofs.source.add_nulls.Given as goal

abbrev pub invariant-loop-done : goal.invariant-loop-done
invariant-loop-done l = l.into ≡ l.fn.into ++ nulls l.done
