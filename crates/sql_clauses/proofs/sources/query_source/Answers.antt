use Rattle.sql_clauses.specs.Sources.{query_source}
use Rattle.sql_clauses.proofs.Pairing.{through_pair}
use Rattle.sql_clauses.proofs.sources.query_source.Goals as goal

pub returns : goal.returns
returns c =
    through_pair (query_source c.args.scope.now c.args.join c.args.place c.args.alias) c.args.sources c.args.query c.both.result c.query_pair.result c.both.ensures c.query_pair.ensures
