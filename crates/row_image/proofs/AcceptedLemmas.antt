-- What it says that no rule of a row page fails, rule by rule.
use Rattle.std.proofs.Common.{◌≡◌, ℕ, ◌+◌, ◌*◌, ◌-◌, ◌/◌, ◌<◌, ◌≤◌, true, cond, eqb, leb, List, [], ◌∷◌, ◌++◌, length, None, refl, ◌∙◌, arith}
use Rattle.std.specs.Prelude.{◌&&◌}
use Rattle.std.specs.List.{range_with_len, flat_map}
use Rattle.std.proofs.lemmas.Bool.{eqb-true, leb-true, eq-eqb, le-leb}
use Rattle.std.proofs.lemmas.Nat.{div-add-mod', mul-le}
use Rattle.row_image.specs.declared.layout.CellKind.{CellKind}
use Rattle.row_image.specs.declared.image.ImageKind.TheVariants.{Rows}
use Rattle.row_image.specs.Bytes.{number_at}
use Rattle.row_image.specs.Layout.{width_of, rows_that_fit, row_place}
use Rattle.row_image.specs.Image.{row_count, part_count}
use Rattle.row_image.specs.Rules.{Rule, first_damage, kind_rule, width_rule, rows_rule, parts_rule, head_rules, part_rules, cell_rules, row_rules, rules_of, needs_parts, IsAccepted}
use Rattle.row_image.proofs.RuleLemmas.{sound_cons, cons_sound, append_next, sound_front, sound_back, each_sound, sound_at}
use Rattle.row_image.proofs.LayoutLemmas.{width_of_least}

-- the rule on the count of parts
abbrev pub HasParts : List CellKind → List ℕ → Type 0
HasParts kinds image = cond (needs_parts kinds image) (leb 1 (part_count image) && leb (part_count image) 4) (eqb (part_count image) 0) ≡ true

pub record Sound (kinds : List CellKind) (image : List ℕ) : Type 0 where
  pub kind : number_at image 0 4 ≡ 1
  pub width : number_at image 4 4 ≡ width_of kinds
  pub rows : row_count image ≤ rows_that_fit kinds (length image)
  pub parts : HasParts kinds image
  pub part : (k : ℕ) → k < part_count image → first_damage (part_rules image k) ≡ None
  pub cell : (row column : ℕ) → row < row_count image → column < length kinds → first_damage (cell_rules kinds image row column) ≡ None

all_parts : List ℕ → List Rule
all_parts image = flat_map (λ part. part_rules image part) (range_with_len 0 (part_count image))

all_rows : List CellKind → List ℕ → List Rule
all_rows kinds image = flat_map (λ row. row_rules kinds image row) (range_with_len 0 (row_count image))

pub sound_of : (kinds : List CellKind) (image : List ℕ) → IsAccepted (Rows kinds) image → Sound kinds image
unfolding rules_of head_rules row_rules all_parts all_rows
sound_of kinds image accepted =
    let h = accepted.sound in
    let front = sound_front (head_rules kinds image ++ all_parts image) (all_rows kinds image) h in
    let rows = sound_back (head_rules kinds image ++ all_parts image) (all_rows kinds image) h in
    let head = sound_front (head_rules kinds image) (all_parts image) front in
    let parts = sound_back (head_rules kinds image) (all_parts image) front in
    let first = sound_cons (kind_rule 1 image) (width_rule kinds image ∷ rows_rule kinds image ∷ parts_rule kinds image ∷ []) head in
    let second = sound_cons (width_rule kinds image) (rows_rule kinds image ∷ parts_rule kinds image ∷ []) first.1 in
    let third = sound_cons (rows_rule kinds image) (parts_rule kinds image ∷ []) second.1 in
    let fourth = sound_cons (parts_rule kinds image) [] third.1 in
    record {
      kind = eqb-true _ _ first.0;
      width = eqb-true _ _ second.0;
      rows = leb-true _ _ third.0;
      parts = fourth.0;
      part = λ k below. sound_at (λ part. part_rules image part) (part_count image) k parts below;
      cell = λ row column r c. sound_at (λ column. cell_rules kinds image row column) (length kinds) column (sound_at (λ row. row_rules kinds image row) (row_count image) row rows r) c;
    }

pub accepted_of : (kinds : List CellKind) (image : List ℕ) → Sound kinds image → IsAccepted (Rows kinds) image
unfolding rules_of head_rules row_rules all_parts all_rows
accepted_of kinds image s = record {
  sound =
      let head : first_damage (head_rules kinds image) ≡ None =
      cons_sound (kind_rule 1 image) (width_rule kinds image ∷ rows_rule kinds image ∷ parts_rule kinds image ∷ []) (eq-eqb _ _ s.kind)
      (cons_sound (width_rule kinds image) (rows_rule kinds image ∷ parts_rule kinds image ∷ []) (eq-eqb _ _ s.width)
      (cons_sound (rows_rule kinds image) (parts_rule kinds image ∷ []) (le-leb _ _ s.rows)
      (cons_sound (parts_rule kinds image) [] s.parts refl))) in
      let parts : first_damage (all_parts image) ≡ None = each_sound (λ part. part_rules image part) (part_count image) s.part in
      let rows : first_damage (all_rows kinds image) ≡ None =
      each_sound (λ row. row_rules kinds image row) (row_count image) (λ row r. each_sound (λ column. cell_rules kinds image row column) (length kinds) (λ column c. s.cell row column r c)) in
      append_next (head_rules kinds image ++ all_parts image) (all_rows kinds image) (append_next (head_rules kinds image) (all_parts image) head ∙ parts) ∙ rows;
}

-- a row of those that fit lies on the page
pub row_fits : (kinds : List CellKind) (page row : ℕ) → 128 ≤ page → 0 < width_of kinds → row < rows_that_fit kinds page → row_place kinds row + width_of kinds ≤ page
unfolding rows_that_fit row_place
row_fits kinds page row low wide h =
    let all : (row + 1) * width_of kinds ≤ (page - 128) / width_of kinds * width_of kinds = mul-le (row + 1) (width_of kinds) ((page - 128) / width_of kinds) (width_of kinds) (omega arith) (omega arith) in
    omega (arith, all, div-add-mod' (page - 128) (width_of kinds))

-- a row of an accepted image lies on its page
pub row_lies : (kinds : List CellKind) (image : List ℕ) (row : ℕ) → IsAccepted (Rows kinds) image → 128 ≤ length image → row < row_count image → row_place kinds row + width_of kinds ≤ length image
row_lies kinds image row accepted long below = row_fits kinds (length image) row long (omega (arith, width_of_least kinds)) (omega (arith, (sound_of kinds image accepted).rows))
