use Rattle.std.proofs.Common.{◌≡◌, drop}
use Rattle.sql_clauses.specs.Sources.{has_source}
use Rattle.sql_clauses.proofs.sources.has_source.Given as goal

abbrev pub invariant-loop-source : goal.invariant-loop-source
invariant-loop-source l = has_source l.name (drop l.source-index l.sources) ≡ has_source l.name l.sources
