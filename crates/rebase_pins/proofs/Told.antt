-- In a told pool the images under the pins say the contents of the pages.
use Rattle.std.proofs.Common.{◌≡◌, ◌≤◌, ℕ, List, [], ◌∷◌, Option, Some, None, refl, sym, ap, ◌∙◌, subst}
use Rattle.std.specs.Prelude.{IsTrue, IfSome}
use Rattle.row_image.specs.declared.layout.CellKind.{CellKind}
use Rattle.row_image.specs.declared.image.ImageKind.TheVariants.{Rows, Heap}
use Rattle.row_image.specs.Flat.{flat}
use Rattle.row_image.specs.Image.{part_count}
use Rattle.row_image.specs.Rules.{IsAccepted}
use Rattle.row_image.proofs.AcceptedLemmas.{sound_of}
use Rattle.row_image.proofs.WrittenAccepted.{parts_most}
use Rattle.page_body.specs.View.{PoolTerms, PoolView}
use Rattle.page_body.specs.Shows.{Shows}
use Rattle.row_image.proofs.FlatLemmas.{heap_flat}
use Rattle.rebase_pins.specs.RowPages.{changed, image_or_none}
use Rattle.rebase_pins.specs.Rows.{page_rows, content_or_none}

module _ {Page Pin : Type 0} (t : PoolTerms Page Pin) (page_bytes : ℕ) (told : IsTrue t.told) where
  pub rows_told : (kinds : List CellKind) (pin : Pin) → Shows t page_bytes (t.under pin) pin → t.kind (t.under pin) ≡ Rows kinds → flat (Rows kinds) (t.image pin) ≡ t.content (t.under pin)
  rows_told kinds pin shows kind = subst (λ k. flat k (t.image pin) ≡ t.content (t.under pin)) kind (shows.stands.same told)

  pub heap_told : (pin : Option Pin) (a : PoolView Page Pin) → ((q : Pin) → a.valid q → Shows t page_bytes (t.under q) q) → IfSome pin a.valid → IfSome (changed t.under pin) (λ p. t.kind p ≡ Heap) → image_or_none t pin ≡ content_or_none t (changed t.under pin)
  heap_told None a shown valid kind = refl
  heap_told (Some pin) a shown valid kind =
      let shows = shown pin valid in
      sym (heap_flat (t.image pin)) ∙ subst (λ k. flat k (t.image pin) ≡ t.content (t.under pin)) kind (shows.stands.same told)

pub rows_equal : (kinds : List CellKind) (f f' a a' b b' c c' d d' : List ℕ) → f ≡ f' → a ≡ a' → b ≡ b' → c ≡ c' → d ≡ d' → page_rows kinds f (a ∷ b ∷ c ∷ d ∷ []) ≡ page_rows kinds f' (a' ∷ b' ∷ c' ∷ d' ∷ [])
rows_equal kinds f f' a a' b b' c c' d d' ef ea eb ec ed =
    ap (λ x. page_rows kinds x (a ∷ b ∷ c ∷ d ∷ [])) ef
    ∙ ap (λ x. page_rows kinds f' (x ∷ b ∷ c ∷ d ∷ [])) ea
    ∙ ap (λ x. page_rows kinds f' (a' ∷ x ∷ c ∷ d ∷ [])) eb
    ∙ ap (λ x. page_rows kinds f' (a' ∷ b' ∷ x ∷ d ∷ [])) ec
    ∙ ap (λ x. page_rows kinds f' (a' ∷ b' ∷ c' ∷ x ∷ [])) ed

-- the image under a pin has few parts
pub few_under : {Page Pin : Type 0} (t : PoolTerms Page Pin) (page_bytes : ℕ) (kinds : List CellKind) (pin : Pin) (image : List ℕ) → Shows t page_bytes (t.under pin) pin → t.kind (t.under pin) ≡ Rows kinds → image ≡ t.image pin → part_count image ≤ 4
few_under t page_bytes kinds pin image shows kind is =
    let accepted : IsAccepted (Rows kinds) (t.image pin) = subst (λ k. IsAccepted k (t.image pin)) kind shows.stands.accepted in
    subst (λ z. part_count z ≤ 4) (sym is) (parts_most kinds (t.image pin) (sound_of kinds (t.image pin) accepted).parts)
