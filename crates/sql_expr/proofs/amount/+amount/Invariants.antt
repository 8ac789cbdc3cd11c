use Rattle.std.proofs.Common.{◌≡◌, drop, map, Ok}
use Rattle.sql_expr.specs.Kinds.{last_kind}
use Rattle.sql_expr.specs.Meaning.{chain_from, plain_link}
use Rattle.sql_expr.specs.Outcomes.{amount_value}
use Rattle.sql_expr.specs.Ready.{AreReady}
use Rattle.sql_expr.proofs.amount.+amount.Given as goal

abbrev pub invariant-amount_links-loop-link : goal.invariant-amount_links-loop-link
invariant-amount_links-loop-link l = record {
  ready : AreReady l.row l.left_kind (drop l.link-index l.links);
  value : chain_from (Ok (amount_value l.left_kind l.left)) (map (plain_link l.row) (drop l.link-index l.links))
      ≡ chain_from (Ok (amount_value l.fn.kind l.fn.first)) (map (plain_link l.row) l.links);
  kind : last_kind l.left_kind (map (λ link. link.kind) (drop l.link-index l.links)) ≡ last_kind l.fn.kind (map (λ link. link.kind) l.links);
}
