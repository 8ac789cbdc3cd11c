-- Sets and writers while calls work on others.
use Rattle.std.proofs.Common.{◌≡◌, ℕ, ◌+◌, List, [], ◌∷◌, ◌++◌, refl, ap, sym, ◌∙◌, arith, append_assoc}
use Rattle.page_body.specs.View.{PoolTerms, PoolView}
use Rattle.page_body.specs.Keeps.{Kept}
use Rattle.page_body.specs.PageLists.{ids_of, Differ}
use Rattle.row_sets.specs.Holds.{Holding, nothing, both, IsOwned}
use Rattle.row_sets.specs.Changes.{Changes}
use Rattle.row_sets.specs.Sets.{IsHere, NoRowPins, Formed, set_pages, set_ids, row_pages_in}
use Rattle.row_sets.specs.Writers.{WritingWith, IsWriterHere, writer_holding, writer_ids, written_pages}
use Rattle.row_sets.specs.declared.row_set.RowSet.{RowSet}
use Rattle.row_sets.specs.declared.writer.Writer.{Writer}
use Rattle.row_sets.proofs.Changed.{changes_kept, live_on, differ_on, owned_on, unpinned_on}

-- holdings without pins
pub record HasNoPins (h : Holding) : Type 0 where
  pub none : (y : ℕ) → h.pins y ≡ 0

pub writer_has_no_pins : {Page Pin : Type 0} (t : PoolTerms Page Pin) (w : Writer Page) → HasNoPins (writer_holding t w)
writer_has_no_pins t w = record { none = λ y. refl }

pub nothing_has_no_pins : HasNoPins nothing
nothing_has_no_pins = record { none = λ y. refl }

module _ {Page Pin : Type 0} (t : PoolTerms Page Pin) where
  pub set_stays : (set : RowSet Page) (h k : Holding) (a b : PoolView Page Pin) → Changes t h k a b → Differ t (λ y. set_ids t set y + h.pages y) → IsHere a set → IsHere b set
  set_stays set h k a b c differ here = record {
    page_bytes = here.page_bytes ∙ sym c.page_bytes;
    live = live_on t (set_pages set) h k a b c here.live differ;
  }

  pub set_differs : (set : RowSet Page) (h k : Holding) (a b : PoolView Page Pin) → Changes t h k a b → IsHere a set → Differ t (λ y. set_ids t set y + h.pages y) → Differ t k.pages → Differ t (λ y. set_ids t set y + k.pages y)
  set_differs set h k a b c here differ given = differ_on t (set_pages set) h k a b c here.live differ given

  pub writer_stays : (w : Writer Page) (h k : Holding) (a b : PoolView Page Pin) → Changes t h k a b → HasNoPins h → HasNoPins k → Differ t (λ y. writer_ids t w y + h.pages y) → IsOwned a (both (writer_holding t w) h) → IsWriterHere t a w → IsWriterHere t b w
  writer_stays w h k a b c bare bare' differ owned here = record {
    page_bytes = here.page_bytes ∙ sym c.page_bytes;
    live = live_on t (written_pages w) h k a b c here.live differ;
    owned = let both_owned = owned_on t (writer_holding t w) h k a b c owned in record {
      pins = λ y. let x = both_owned.pins y in omega (arith, x);
      opens = λ y. let x = both_owned.opens y in omega (arith, x);
    };
    unpinned = unpinned_on t (writer_ids t w) h k a b c bare.none bare'.none here.unpinned;
  }

  -- over a call that keeps all
  pub set_kept : (set : RowSet Page) (a b : PoolView Page Pin) → Kept a b → Formed t set → IsHere a set → IsHere b set
  set_kept set a b kept formed here = set_stays set nothing nothing a b (changes_kept t nothing a b kept) (λ ends y. let m = formed.differ ends y in omega (arith, m)) here

  pub writer_kept : {More : Type 0} (w : Writer Page) (a b : PoolView Page Pin) → Kept a b → WritingWith More t w → IsWriterHere t a w → IsWriterHere t b w
  writer_kept w a b kept writing here =
      writer_stays w nothing nothing a b (changes_kept t nothing a b kept) nothing_has_no_pins nothing_has_no_pins
      (λ ends y. let m = writing.differ ends y in omega (arith, m))
      (record { pins = λ y. let x = here.owned.pins y in omega (arith, x); opens = λ y. let x = here.owned.opens y in omega (arith, x) })
      here

  pub no_row_pins_stay : (set : RowSet Page) (h k : Holding) (a b : PoolView Page Pin) → Changes t h k a b → HasNoPins h → HasNoPins k → NoRowPins t a set → NoRowPins t b set
  no_row_pins_stay set h k a b c bare bare' none = unpinned_on t (ids_of t (row_pages_in set.pages.items)) h k a b c bare.none bare'.none none

-- one row of what is left, added to what was written
pub one_more : {X : Type 0} (written rest all new new_rest : List X) (row : X) → written ++ rest ≡ all → rest ≡ row ∷ new_rest → new ≡ written ++ row ∷ [] → new ++ new_rest ≡ all
one_more written rest all new new_rest row so_far next added =
    ap (λ z. z ++ new_rest) added ∙ append_assoc written (row ∷ []) new_rest ∙ ap (λ z. written ++ z) (sym next) ∙ so_far
