-- `Leaves` for the callers of calls: one after the other, and a call that keeps all.
use Rattle.std.proofs.Common.{◌≡◌, List, [], ◌∷◌, sym, ◌∙◌, arith}
use Rattle.page_body.specs.View.{PoolTerms, PoolView}
use Rattle.page_body.specs.PageLists.{AllLive}
use Rattle.page_body.specs.Keeps.{Kept}
use Rattle.row_sets.proofs.Changed.{changes_then, changes_kept}
use Rattle.paged_catalog.specs.declared.catalog.Catalog.{Catalog}
use Rattle.paged_catalog.specs.Meaning.{catalog_pages, catalog_holding}
use Rattle.paged_catalog.specs.Stands.{Stands, AreHere, Leaves}

live_kept : {Page Pin : Type 0} (a b : PoolView Page Pin) (ps : List Page) → Kept a b → AllLive a ps → AllLive b ps
live_kept a b [] kept live = tt
live_kept a b (p ∷ ps) kept live = (kept.lives p live.0, live_kept a b ps kept live.1)

pub here_kept : {Page Pin : Type 0} (a b : PoolView Page Pin) (c : Catalog Page) → Kept a b → AreHere a c → AreHere b c
here_kept a b c kept here = record { page_bytes = here.page_bytes ∙ sym kept.page_bytes; live = live_kept a b (catalog_pages c) kept here.live }

module _ {Page Pin : Type 0} (t : PoolTerms Page Pin) where
  -- of a reader
  pub leaves_kept : (a b : PoolView Page Pin) (c : Catalog Page) → Stands t c → AreHere a c → Kept a b → Leaves t a b c c
  leaves_kept a b c stands here kept = record { stands = stands; here = here_kept a b c kept here; changes = changes_kept t (catalog_holding t c) a b kept }

  pub leaves_then : (a b c : PoolView Page Pin) (old mid new : Catalog Page) → Leaves t a b old mid → Leaves t b c mid new → Leaves t a c old new
  leaves_then a b c old mid new first second = record {
    stands = second.stands;
    here = second.here;
    changes = changes_then t (catalog_holding t old) (catalog_holding t mid) (catalog_holding t new) a b c first.changes second.changes;
  }

  -- what held nothing holds nothing
  pub idle_still : (a b : PoolView Page Pin) (old new : Catalog Page) → Leaves t a b old new → a.held ≡ 0 → b.held ≡ 0
  idle_still a b old new leaves idle = let e = leaves.changes.held in omega (arith, e, idle)
