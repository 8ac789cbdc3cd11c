-- The rules of a page, as a list in the order in which they are tested.
use Rattle.std.specs.Prelude.{◌≡◌, ℕ, ◌+◌, ◌-◌, ◌/◌, ◌%◌, ◌^◌, ◌==◌, nat_le, nat_lt, not, ◌&&◌, Bool, if◌then◌else◌, List, [], ◌∷◌, ◌++◌, length, get_or, map, slice_index, slice_range, find, unwrap_or, Option, Some, None, Result, Ok, Err}
use Rattle.std.specs.List.{range_with_len, sum_by, flat_map}
use Rattle.row_image.specs.declared.limits.TheConstants.{HEAP_HEAD, MOST_TEXTS}
use Rattle.row_image.specs.declared.layout.CellKind.{CellKind}
use Rattle.row_image.specs.declared.layout.CellKind.TheVariants.{Bit, Four, Eight, Sixteen, Text}
use Rattle.row_image.specs.declared.image.Part.{Part}
use Rattle.row_image.specs.declared.image.Shape.{Shape}
use Rattle.row_image.specs.declared.image.Damage.{Damage}
use Rattle.row_image.specs.declared.image.DamageField.{DamageField}
use Rattle.row_image.specs.declared.image.DamageField.TheVariants.{Kind, Width, Rows as RowsField, Parts, PartFirst, PartRows, PartBase, CellBit, CellLength, CellPad, CellAddress, HeapUsed}
use Rattle.row_image.specs.declared.image.ImageKind.{ImageKind}
use Rattle.row_image.specs.declared.image.ImageKind.TheVariants.{Rows, Heap, Plain}
use Rattle.row_image.specs.Bytes.{number_at}
use Rattle.row_image.specs.Layout.{offset_of, width_of, has_texts, rows_that_fit, row_place}
use Rattle.row_image.specs.Image.{row_count, part_count, is_null, part_at, part_for, no_heap}

-- a rule: its field, whether it holds, the value found, and the bound
pub record Rule : Type 0 where
  pub field : DamageField
  pub holds : Bool
  pub found : ℕ
  pub bound : ℕ

abbrev pub rule_of : DamageField → Bool → ℕ → ℕ → Rule
rule_of field holds found bound = record { field = field; holds = holds; found = found; bound = bound }

abbrev pub damage_of : Rule → Damage
damage_of rule = record { field = rule.field; found = rule.found; bound = rule.bound }

-- the first rule of a list that doesn't hold
abbrev pub first_damage : List Rule → Option Damage
first_damage [] = None
first_damage (rule ∷ rules) = if rule.holds then first_damage rules else Some (damage_of rule)

-- how many bytes a text may have
unfoldable pub text_limit : ℕ → ℕ
text_limit page = (page - HEAP_HEAD) / MOST_TEXTS

-- there are parts where there are rows and columns of texts
unfoldable pub needs_parts : List CellKind → List ℕ → Bool
needs_parts kinds image = has_texts kinds && nat_lt 0 (row_count image)

-- the kind that was asked for
abbrev pub kind_rule : ℕ → List ℕ → Rule
kind_rule asked image = record { field = Kind; holds = number_at image 0 4 == asked; found = number_at image 0 4; bound = asked }

-- the layout's width
abbrev pub width_rule : List CellKind → List ℕ → Rule
width_rule kinds image = record { field = Width; holds = number_at image 4 4 == width_of kinds; found = number_at image 4 4; bound = width_of kinds }

-- at most the rows that fit
abbrev pub rows_rule : List CellKind → List ℕ → Rule
rows_rule kinds image =
    let fit = rows_that_fit kinds (length image) in
    record { field = RowsField; holds = nat_le (row_count image) fit; found = row_count image; bound = fit }

-- 1 to 4 parts where there are rows and columns of texts, and else none
abbrev pub parts_rule : List CellKind → List ℕ → Rule
parts_rule kinds image =
    let parts = part_count image in
    record {
      field = Parts;
      holds = if needs_parts kinds image then nat_le 1 parts && nat_le parts 4 else parts == 0;
      found = parts;
      bound = if needs_parts kinds image then 4 else 0;
    }

unfoldable pub head_rules : List CellKind → List ℕ → List Rule
head_rules kinds image = kind_rule 1 image ∷ width_rule kinds image ∷ rows_rule kinds image ∷ parts_rule kinds image ∷ []

-- the rows of the parts before one
unfoldable pub rows_before : List ℕ → ℕ → ℕ
rows_before image part = sum_by (λ p. p.rows) (map (λ k. part_at image k) (range_with_len 0 part))

-- a part begins where the ones before it end
abbrev pub first_rule : List ℕ → ℕ → Rule
first_rule image part =
    let before = rows_before image part in
    let first = (part_at image part).first in
    record { field = PartFirst; holds = first == before; found = first; bound = before }

-- it has a row at least, and at most those that are left; the last part has all of these
abbrev pub part_rows_rule : List ℕ → ℕ → Rule
part_rows_rule image part =
    let left = row_count image - rows_before image part in
    let rows = (part_at image part).rows in
    record {
      field = PartRows;
      holds = nat_le 1 rows && (if part + 1 == part_count image then rows == left else nat_le rows left);
      found = rows;
      bound = left;
    }

-- its base is a page's place below 2^48, and 0 without a heap page
abbrev pub base_rule : List ℕ → ℕ → Rule
base_rule image part =
    let base = (part_at image part).base in
    let none = (part_at image part).heap == no_heap in
    record {
      field = PartBase;
      holds = if none then base == 0 else base % length image == 0 && nat_lt base (2 ^ 48);
      found = base;
      bound = if none then 0 else 2 ^ 48;
    }

unfoldable pub part_rules : List ℕ → ℕ → List Rule
part_rules image part = first_rule image part ∷ part_rows_rule image part ∷ base_rule image part ∷ []

-- a truth is 0 or 1
abbrev pub bit_rule : ℕ → Rule
bit_rule byte = record { field = CellBit; holds = nat_le byte 1; found = byte; bound = 1 }

-- a text is within the limit of a page
abbrev pub size_rule : ℕ → ℕ → Rule
size_rule page size = record { field = CellLength; holds = nat_le size (text_limit page); found = size; bound = text_limit page }

-- the first byte that isn't 0, and 0 where there is none
unfoldable pub first_set : List ℕ → ℕ
first_set bytes = unwrap_or (find (λ byte. not (byte == 0)) bytes) 0

-- the bytes behind a short text are zeros
abbrev pub pad_rule : List ℕ → Rule
pad_rule bytes = record { field = CellPad; holds = first_set bytes == 0; found = first_set bytes; bound = 0 }

-- a long text lies on the heap page of its part
abbrev pub address_rule : ℕ → ℕ → ℕ → Part → Rule
address_rule page size address part =
    record {
      field = CellAddress;
      holds = not (part.heap == no_heap) && (nat_le (part.base + HEAP_HEAD) address && nat_le (address + size) (part.base + page));
      found = address;
      bound = part.base + page;
    }

-- the rule on the bytes behind a text's length
abbrev pub text_rule : List ℕ → ℕ → ℕ → Part → Rule
text_rule image at size part =
    if nat_le size 12
    then pad_rule (slice_range image (at + 4 + size) (at + 16))
    else address_rule (length image) size (number_at image (at + 8) 8) part

abbrev pub text_rules : List ℕ → ℕ → ℕ → Part → List Rule
text_rules image at size part = size_rule (length image) size ∷ text_rule image at size part ∷ []

-- the rules of the cell of a kind at a place, in a row of a part
unfoldable pub kind_rules : CellKind → List ℕ → ℕ → Part → List Rule
kind_rules Bit image at part = bit_rule (slice_index image at) ∷ []
kind_rules Four image at part = []
kind_rules Eight image at part = []
kind_rules Sixteen image at part = []
kind_rules Text image at part = text_rules image at (number_at image at 4) part

-- the rules of a cell, which is tested where it isn't NULL
unfoldable pub cell_rules : List CellKind → List ℕ → ℕ → ℕ → List Rule
cell_rules kinds image row column =
    if is_null image (row_place kinds row) column
    then []
    else kind_rules (get_or kinds column Bit) image (row_place kinds row + offset_of kinds column) (part_for image row)

-- the rules of a row page: of its head, part by part, and then row by row and cell by cell
unfoldable pub row_rules : List CellKind → List ℕ → ℕ → List Rule
row_rules kinds image row = flat_map (λ column. cell_rules kinds image row column) (range_with_len 0 (length kinds))

-- the texts of a heap page end on it
abbrev pub used_rule : List ℕ → Rule
used_rule image =
    let used = number_at image 4 4 in
    record { field = HeapUsed; holds = nat_le used (length image - HEAP_HEAD); found = used; bound = length image - HEAP_HEAD }

unfoldable pub rules_of : ImageKind → List ℕ → List Rule
rules_of (Rows kinds) image =
    head_rules kinds image
    ++ flat_map (λ part. part_rules image part) (range_with_len 0 (part_count image))
    ++ flat_map (λ row. row_rules kinds image row) (range_with_len 0 (row_count image))
rules_of Heap image = kind_rule 2 image ∷ used_rule image ∷ []
rules_of Plain image = []

-- no rule fails
pub record IsAccepted (kind : ImageKind) (image : List ℕ) : Type 0 where
  pub sound : first_damage (rules_of kind image) ≡ None

-- what an accepted image has
abbrev pub shape_of : ImageKind → List ℕ → Shape
shape_of (Rows kinds) image = record { rows = row_count image; parts = part_count image }
shape_of Heap image = record { rows = 0; parts = 0 }
shape_of Plain image = record { rows = 0; parts = 0 }

-- a test of some rules: it fails with the first that doesn't hold
abbrev pub Judges : {X : Type 0} → List Rule → Result X Damage → Type 0
Judges rules (Ok x) = first_damage rules ≡ None
Judges rules (Err damage) = first_damage rules ≡ Some damage
