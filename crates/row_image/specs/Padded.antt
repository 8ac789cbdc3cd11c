-- What a layout keeps beside its list of kinds: the list filled up to 65 kinds, and the offsets.
use Rattle.std.specs.Prelude.{◌≡◌, ℕ, ◌≤◌, Bool, List, ◌++◌, ◌-◌, length, take, drop, replicate, map}
use Rattle.std.specs.List.{range_with_len}
use Rattle.std.proofs.Common.{◌∙◌, ap, sym, arith, length-take, take-append-drop}
use Rattle.row_image.specs.declared.layout.CellKind.{CellKind}
use Rattle.row_image.specs.declared.layout.CellKind.TheVariants.{Bit}
use Rattle.row_image.specs.Layout.{offset_of, has_texts}

abbrev pub padded : List CellKind → List CellKind
padded kinds = kinds ++ replicate (65 - length kinds) Bit

-- where each column's cell begins, and past the last column the width of a row
unfoldable pub offsets_of : List CellKind → List ℕ
offsets_of kinds = map (λ column. offset_of kinds column) (range_with_len 0 66)

pub length_front : (kinds : List CellKind) (n : ℕ) → n ≤ 65 → length kinds ≡ 65 → length (take n kinds) ≡ n
length_front kinds n h e = omega (arith, length-take n kinds)

pub padded_front : (kinds : List CellKind) (n : ℕ) → n ≤ 65 → length kinds ≡ 65 → drop n kinds ≡ replicate (65 - n) Bit → padded (take n kinds) ≡ kinds
padded_front kinds n h e rest =
    ap (λ m. take n kinds ++ replicate (65 - m) Bit) (length_front kinds n h e) ∙ ap (λ r. take n kinds ++ r) (sym rest) ∙ take-append-drop n kinds

-- what a layout keeps
pub record IsKept (kinds : List CellKind) (count : ℕ) (offsets : List ℕ) (texts : Bool) : Type 0 where
  pub most : count ≤ 65
  pub whole : length kinds ≡ 65
  pub rest : drop count kinds ≡ replicate (65 - count) Bit
  pub places : offsets_of (take count kinds) ≡ offsets
  pub has : has_texts (take count kinds) ≡ texts
