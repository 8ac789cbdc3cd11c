-- What sealing makes of a writer.
use Rattle.std.proofs.Common.{◌≡◌, ◌≢◌, ℕ, ◌+◌, ◌<◌, ◌≤◌, Bool, true, false, List, [], ◌∷◌, ◌++◌, length, Option, Some, None, refl, ap, sym, ◌∙◌, subst, arith, inl, inr}
use Rattle.std.specs.Prelude.{IfSome, nat_lt, if◌then◌else◌}
use Rattle.std.proofs.lemmas.Bool.{lt-ltb, le-ltb}
use Rattle.std.proofs.Math.Decide.{dec_le}
use mathlib.Core.Logic.{dite}
use Rattle.row_image.specs.declared.image.ImageKind.TheVariants.{Heap}
use Rattle.page_body.specs.View.{PoolTerms}
use Rattle.number_bags.specs.Bags.{one_of}
use Rattle.page_body.specs.declared.open.OpenPage.{OpenPage}
use Rattle.page_body.specs.PageLists.{ids_of, Differ}
use Rattle.row_sets.specs.Sets.{with_heap, pages_in, lists_in, joined}
use Rattle.row_sets.specs.Cells.{long_total}
use Rattle.row_sets.specs.Writers.{Written, IsOpenRows, IsBase, IsThere, heaps_now, content_else, if_at, bytes_of, count_used, open_list, written_cells, writer_ids, NoHeaps}
use Rattle.row_sets.specs.Closing.{put_at, with_sealed}
use Rattle.row_sets.specs.declared.writer.Writer.{Writer}
use Rattle.row_sets.proofs.Changed.{same_or}

pub put_here : {H : Type 0} (k s : ℕ) (o : Option H) (page : H) → k ≡ s → put_at k s o page ≡ Some page
put_here k s o page e =
    ap (λ b. if b then o else (if nat_lt s k then o else Some page)) (le-ltb k s (omega (arith, e)))
    ∙ ap (λ b. if b then o else Some page) (le-ltb s k (omega (arith, e)))

pub put_low : {H : Type 0} (k s : ℕ) (o : Option H) (page : H) → k < s → put_at k s o page ≡ o
put_low k s o page h = ap (λ b. if b then o else (if nat_lt s k then o else Some page)) (lt-ltb k s h)

pub put_high : {H : Type 0} (k s : ℕ) (o : Option H) (page : H) → s < k → put_at k s o page ≡ o
put_high k s o page h =
    ap (λ b. if b then o else (if nat_lt s k then o else Some page)) (le-ltb k s (omega (arith, h)))
    ∙ ap (λ b. if b then o else Some page) (lt-ltb s k h)

nothing_either : (b c : Bool) (xs : List ℕ) → (if b then xs else (if c then xs else xs)) ≡ xs
nothing_either true c xs = refl
nothing_either false true xs = refl
nothing_either false false xs = refl

pub if_at_none : (k s : ℕ) → if_at k s [] ≡ []
if_at_none k s = nothing_either (nat_lt k s) (nat_lt s k) []

pub if_at_high : (k s : ℕ) (bytes : List ℕ) → s < k → if_at k s bytes ≡ []
if_at_high k s bytes h =
    ap (λ b. if b then [] else (if nat_lt s k then [] else bytes)) (le-ltb k s (omega (arith, h)))
    ∙ ap (λ b. if b then [] else bytes) (lt-ltb s k h)

pub if_at_here : (k s : ℕ) (bytes : List ℕ) → k ≡ s → if_at k s bytes ≡ bytes
if_at_here k s bytes e =
    ap (λ b. if b then [] else (if nat_lt s k then [] else bytes)) (le-ltb k s (omega (arith, e)))
    ∙ ap (λ b. if b then [] else bytes) (le-ltb s k (omega (arith, e)))

pub there_below : {X : Type 0} (o : Option X) (k s : ℕ) → IsThere o k s → s ≤ k → o ≡ None
there_below None k s there low = refl
there_below (Some x) k s there low = absurd (omega (arith, there, low))

module _ {Page Pin : Type 0} (t : PoolTerms Page Pin) where
  pub content_there : (o : Option Page) (k s : ℕ) (x y : List ℕ) → IsThere o k s → k < s → content_else t o x ≡ content_else t o y
  content_there None k s x y there low = absurd (omega (arith, there, low))
  content_there (Some p) k s x y there low = refl

  slot_same : (k s : ℕ) (o : Option Page) (page : Page) (bytes : List ℕ) → IsThere o k s → t.content page ≡ bytes → content_else t (put_at k s o page) (if_at k (s + 1) []) ≡ content_else t o (if_at k s bytes)
  slot_same k s o page bytes there same = dite (dec_le s k)
      (λ high. dite (dec_le k s)
      (λ low. let e : k ≡ s = omega (arith, high, low) in
      ap (λ z. content_else t z (if_at k (s + 1) [])) (put_here k s o page e) ∙ same ∙ sym (if_at_here k s bytes e) ∙ ap (λ z. content_else t z (if_at k s bytes)) (sym (there_below o k s there high)))
      (λ n. let more : s < k = omega (arith, high, n) in
      ap (λ z. content_else t z (if_at k (s + 1) [])) (put_high k s o page more) ∙ ap (content_else t o) (if_at_none k (s + 1) ∙ sym (if_at_high k s bytes more))))
      (λ n. let less : k < s = omega (arith, n) in
      ap (λ z. content_else t z (if_at k (s + 1) [])) (put_low k s o page less) ∙ content_there o k s (if_at k (s + 1) []) (if_at k s bytes) there less)

  there_yet : (o : Option Page) (k s : ℕ) → IsThere o k s → k < s → IsThere o k (s + 1)
  there_yet None k s there less = absurd (omega (arith, there, less))
  there_yet (Some p) k s there less = omega (arith, less)

  either_kind : (b c : Bool) (o : Option Page) (page : Page) → t.kind page ≡ Heap → IfSome o (λ p. t.kind p ≡ Heap) → IfSome (if b then o else (if c then o else Some page)) (λ p. t.kind p ≡ Heap)
  either_kind true c o page kind kinds = kinds
  either_kind false true o page kind kinds = kinds
  either_kind false false o page kind kinds = kind

  there_more : (k s : ℕ) (o : Option Page) (page : Page) → IsThere o k s → IsThere (put_at k s o page) k (s + 1)
  there_more k s o page there = dite (dec_le s k)
      (λ high. dite (dec_le k s)
      (λ low. let e : k ≡ s = omega (arith, high, low) in subst (λ z. IsThere z k (s + 1)) (sym (put_here k s o page e)) (omega (arith, e)))
      (λ n. let more : s < k = omega (arith, high, n) in subst (λ z. IsThere z k (s + 1)) (sym (put_high k s o page more ∙ there_below o k s there high)) (omega (arith, more))))
      (λ n. let less : k < s = omega (arith, n) in subst (λ z. IsThere z k (s + 1)) (sym (put_low k s o page less)) (there_yet o k s there less))

  kind_more : (k s : ℕ) (o : Option Page) (page : Page) → t.kind page ≡ Heap → IfSome o (λ p. t.kind p ≡ Heap) → IfSome (put_at k s o page) (λ p. t.kind p ≡ Heap)
  kind_more k s o page kind kinds = either_kind (nat_lt k s) (nat_lt s k) o page kind kinds

  pub holds_id : Option Page → ℕ → ℕ
  holds_id None y = 0
  holds_id (Some p) y = one_of (t.id p) y

  with_ids : (o : Option Page) (ps : List Page) (y : ℕ) → ids_of t (with_heap o ps) y ≡ holds_id o y + ids_of t ps y
  unfolding holds_id
  with_ids None ps y = omega arith
  with_ids (Some p) ps y = refl

  pub four_ids : (a b c d : Option Page) (ps : List Page) (y : ℕ) → ids_of t (with_heap a (with_heap b (with_heap c (with_heap d ps)))) y ≡ holds_id a y + holds_id b y + holds_id c y + holds_id d y + ids_of t ps y
  four_ids a b c d ps y =
      let e = with_ids a (with_heap b (with_heap c (with_heap d ps))) y in
      let f = with_ids b (with_heap c (with_heap d ps)) y in
      let g = with_ids c (with_heap d ps) y in
      let h = with_ids d ps y in omega (arith, e, f, g, h)

  put_ids_here : (k s : ℕ) (o : Option Page) (page : Page) (y : ℕ) → IsThere o k s → k ≡ s → holds_id (put_at k s o page) y ≡ holds_id o y + one_of (t.id page) y
  unfolding holds_id
  put_ids_here k s o page y there e = let put = ap (λ z. holds_id z y) (put_here k s o page e) in let none = ap (λ z. holds_id z y) (there_below o k s there (omega (arith, e))) in omega (arith, put, none)

  put_ids_other : (k s : ℕ) (o : Option Page) (page : Page) (y : ℕ) → k ≢ s → holds_id (put_at k s o page) y ≡ holds_id o y
  put_ids_other k s o page y other = dite (dec_le s k)
      (λ high. ap (λ z. holds_id z y) (put_high k s o page (omega (arith, high, other))))
      (λ n. ap (λ z. holds_id z y) (put_low k s o page (omega (arith, n))))

  pub sealed_ids : (w : Writer Page) (page : Page) (y : ℕ) → w.sealed_heaps < 4 → IsThere w.heap0 0 w.sealed_heaps → IsThere w.heap1 1 w.sealed_heaps → IsThere w.heap2 2 w.sealed_heaps → IsThere w.heap3 3 w.sealed_heaps → writer_ids t (with_sealed w page) y ≡ writer_ids t w y + one_of (t.id page) y
  sealed_ids w page y few t0 t1 t2 t3 =
      let ps = pages_in w.pages.items in
      let s = w.sealed_heaps in
      let new = four_ids (put_at 0 s w.heap0 page) (put_at 1 s w.heap1 page) (put_at 2 s w.heap2 page) (put_at 3 s w.heap3 page) ps y in
      let old = four_ids w.heap0 w.heap1 w.heap2 w.heap3 ps y in
      let here = λ (k : ℕ) (o : Option Page) (th : IsThere o k s) (e : k ≡ s). put_ids_here k s o page y th e in
      let other = λ (k : ℕ) (o : Option Page) (n : k ≢ s). put_ids_other k s o page y n in
      elim (same_or 0 s) [
        | inl e ↦ let a = here 0 w.heap0 t0 e in let b = other 1 w.heap1 (omega (arith, e)) in let c = other 2 w.heap2 (omega (arith, e)) in let d = other 3 w.heap3 (omega (arith, e)) in omega (arith, new, old, a, b, c, d)
        | inr n0 ↦ elim (same_or 1 s) [
          | inl e ↦ let a = other 0 w.heap0 n0 in let b = here 1 w.heap1 t1 e in let c = other 2 w.heap2 (omega (arith, e)) in let d = other 3 w.heap3 (omega (arith, e)) in omega (arith, new, old, a, b, c, d)
          | inr n1 ↦ elim (same_or 2 s) [
            | inl e ↦ let a = other 0 w.heap0 n0 in let b = other 1 w.heap1 n1 in let c = here 2 w.heap2 t2 e in let d = other 3 w.heap3 (omega (arith, e)) in omega (arith, new, old, a, b, c, d)
            | inr n2 ↦ let a = other 0 w.heap0 n0 in let b = other 1 w.heap1 n1 in let c = other 2 w.heap2 n2 in let d = here 3 w.heap3 t3 (omega (arith, few, n0, n1, n2)) in omega (arith, new, old, a, b, c, d)
          ]
        ]
      ]

  -- the heap pages say the same after the open one was sealed
  pub sealed_heaps_same : (w : Writer Page) (p : OpenPage) (page : Page) → IsThere w.heap0 0 w.sealed_heaps → IsThere w.heap1 1 w.sealed_heaps → IsThere w.heap2 2 w.sealed_heaps → IsThere w.heap3 3 w.sealed_heaps → t.content page ≡ bytes_of (Some p) → heaps_now t (with_sealed (record w { open_heap = None }) page) ≡ heaps_now t (record w { open_heap = Some p })
  sealed_heaps_same w p page t0 t1 t2 t3 same =
      let s = w.sealed_heaps in
      let b = bytes_of (Some p) in
      let e0 = slot_same 0 s w.heap0 page b t0 same in
      let e1 = slot_same 1 s w.heap1 page b t1 same in
      let e2 = slot_same 2 s w.heap2 page b t2 same in
      let e3 = slot_same 3 s w.heap3 page b t3 same in
      λ i. e0 i ∷ e1 i ∷ e2 i ∷ e3 i ∷ []

  -- the writer with its open heap page sealed
  pub sealed_cells : (w : Writer Page) (p : OpenPage) (page : Page) → Written t (record w { open_heap = Some p }) → t.content page ≡ bytes_of (Some p) → written_cells t (with_sealed (record w { open_heap = None }) page) ≡ written_cells t (record w { open_heap = Some p })
  sealed_cells w p page writing same =
      let f = writing.filled in
      ap (λ heaps. joined (lists_in t w.layout w.pages.items) ++ open_list w.layout heaps w.open_rows) (sealed_heaps_same w p page f.0 f.1 f.2 f.3 same)

  pub base_none : (page_bytes place : ℕ) (o : Option OpenPage) → IsBase page_bytes place o None
  base_none page_bytes place None = tt
  base_none page_bytes place (Some rows) = tt

  pub rows_there : (o : Option OpenPage) (s n : ℕ) (p : OpenPage) → NoHeaps o s (Some p) → NoHeaps o n None
  rows_there None s n p waits = absurd (some_none p waits.1)
    where
      some_none : (p : OpenPage) → Some p ≡ None → ⊥
      some_none p e = cc
  rows_there (Some rows) s n p waits = tt

  pub sealed_writing : (w : Writer Page) (p : OpenPage) (page : Page) → Written t (record w { open_heap = Some p }) → count_used (Some p) ≡ 1 → t.content page ≡ bytes_of (Some p) → t.kind page ≡ Heap → Differ t (writer_ids t (with_sealed (record w { open_heap = None }) page)) → Written t (with_sealed (record w { open_heap = None }) page)
  sealed_writing w p page writing used same kind differ =
      let s = w.sealed_heaps in
      let f = writing.filled in
      let k = writing.heap_kinds in
      let most = writing.most in
      let count : s + count_used (Some p) ≡ s + 1 + 0 = omega (arith, used) in
      let cells = sealed_cells w p page writing same in
      record {
        packs = tt;
        columns = writing.columns;
        is_page = writing.is_page;
        pages = writing.pages;
        open_rows = subst (λ heaps. IfSome w.open_rows (IsOpenRows w.layout w.page_bytes (s + 1 + 0) w.first_heap heaps)) (sym (sealed_heaps_same w p page f.0 f.1 f.2 f.3 same))
            (subst (λ n. IfSome w.open_rows (IsOpenRows w.layout w.page_bytes n w.first_heap (heaps_now t (record w { open_heap = Some p })))) count writing.open_rows);
        open_heap = tt;
        base = base_none w.page_bytes (s + 1) w.open_rows;
        filled = (there_more 0 s w.heap0 page f.0, there_more 1 s w.heap1 page f.1, there_more 2 s w.heap2 page f.2, there_more 3 s w.heap3 page f.3);
        heap_kinds = (kind_more 0 s w.heap0 page kind k.0, kind_more 1 s w.heap1 page kind k.1, kind_more 2 s w.heap2 page kind k.2, kind_more 3 s w.heap3 page kind k.3);
        most = omega (arith, most);
        low = writing.low;
        waits = rows_there w.open_rows s (s + 1) p writing.waits;
        differ = differ;
        counted = writing.counted ∙ sym (ap length cells);
        long = writing.long ∙ sym (ap long_total cells);
        few_rows = writing.few_rows;
        few_long = writing.few_long;
      }
