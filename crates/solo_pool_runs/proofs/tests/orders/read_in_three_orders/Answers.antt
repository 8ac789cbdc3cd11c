use Rattle.solo_pool.specs.View.{pool_view}
use Rattle.solo_pool_runs.proofs.Live.{live_later}
use Rattle.solo_pool_runs.proofs.tests.orders.read_in_three_orders.Goals as goal

pub read_all-requires-clause-live : goal.read_all-requires-clause-live
read_all-requires-clause-live c =
    live_later (pool_view c.add_all.new.pages) (pool_view c.add_all.new.pages) c.add_all.new.set.items _ c.deref.ensures.value c.in_ok-add_all.ensures.live (λ p live. live)

pub read_all-requires-2-clause-live : goal.read_all-requires-2-clause-live
read_all-requires-2-clause-live c =
    live_later (pool_view c.add_all.new.pages) (pool_view c.read_all.new.pages) c.add_all.new.set.items _ c.deref-2.ensures.value c.in_ok-add_all.ensures.live c.in_ok-read_all.ensures.kept.lives

pub read_all-requires-3-clause-live : goal.read_all-requires-3-clause-live
read_all-requires-3-clause-live c =
    live_later (pool_view c.add_all.new.pages) (pool_view c.read_all-2.new.pages) c.add_all.new.set.items _ c.deref-3.ensures.value c.in_ok-add_all.ensures.live
    (λ p live. c.in_ok-read_all-2.ensures.kept.lives p (c.in_ok-read_all.ensures.kept.lives p live))
