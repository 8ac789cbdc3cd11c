use Rattle.std.proofs.Common.{◌≡◌}
use Rattle.solo_pool.specs.View.{pool_view}
use Rattle.solo_pool_runs.proofs.tests.reused.last_entry.Given as goal

abbrev pub invariant-loop : goal.invariant-loop
invariant-loop l = record {
  held : (pool_view l.pages).held ≡ 0;
  grant : (pool_view l.pages).grant ≡ (pool_view l.initial.pages).grant;
  page : (pool_view l.pages).page_bytes ≡ (pool_view l.initial.pages).page_bytes;
}
