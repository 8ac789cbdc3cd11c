-- The parts of a page of which one has another base.
use Rattle.std.proofs.Common.{◌≡◌, ◌≢◌, ℕ, ◌<◌, List, length, get_or, sym, ap, ◌∙◌, arith, length-set, get_or-set_same, get_or-set_other}
use Rattle.std.specs.Prelude.{slice_set}
use Rattle.row_image.specs.declared.image.Part.{Part}
use Rattle.row_image.specs.Image.{part_count, part_at, parts_of, no_part}
use Rattle.row_image.proofs.PartLemmas.{parts_length, parts_at}

module _ (old new : List ℕ) (part : ℕ) (value : Part) (moved : parts_of new ≡ slice_set (parts_of old) part value) where
  pub same_count : part_count new ≡ part_count old
  same_count = sym (parts_length new) ∙ ap length moved ∙ length-set (parts_of old) part value ∙ parts_length old

  pub here : part < part_count old → part_at new part ≡ value
  here within =
      let room : part < length (parts_of old) = omega (arith, within, parts_length old) in
      let within' : part < part_count new = omega (arith, within, same_count) in
      sym (parts_at new part no_part within') ∙ ap (λ ps. get_or ps part no_part) moved ∙ get_or-set_same (parts_of old) part value no_part room

  pub elsewhere : (k : ℕ) → k < part_count old → k ≢ part → part_at new k ≡ part_at old k
  elsewhere k within other =
      let within' : k < part_count new = omega (arith, within, same_count) in
      sym (parts_at new k no_part within') ∙ ap (λ ps. get_or ps k no_part) moved ∙ get_or-set_other (parts_of old) part k value no_part other ∙ parts_at old k no_part within
