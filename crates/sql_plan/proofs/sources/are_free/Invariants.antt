use Rattle.std.proofs.Common.{◌≡◌, drop}
use Rattle.std.specs.List.{list_all}
use Rattle.sql_plan.specs.Sources.{is_free_source}
use Rattle.sql_plan.proofs.sources.are_free.Given as goal

abbrev pub invariant-loop-source : goal.invariant-loop-source
invariant-loop-source l = list_all is_free_source (drop l.source-index l.sources) ≡ list_all is_free_source l.sources
