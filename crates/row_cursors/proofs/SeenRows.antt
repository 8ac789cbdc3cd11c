-- A row that is seen.
use Rattle.std.proofs.Common.{◌≡◌, ℕ, ◌<◌, List, length, get_or, sym, ap, ◌∙◌, arith}
use Rattle.row_image.specs.Flat.{flat}
use Rattle.row_image.specs.declared.image.ImageKind.TheVariants.{Rows}
use Rattle.row_image.specs.Texts.{CellValue}
use Rattle.rebase_pins.specs.Images.{Seen}
use Rattle.rebase_pins.specs.Seen.{rows_seen, values_seen, hash_seen}
use Rattle.rebase_pins.proofs.Values.{rows_long, row_is}
use Rattle.row_cursors.specs.RowCursors.{no_row}

-- its hash and its values
pub row_seen : (s : Seen) (row hash : ℕ) (values : List CellValue) → row < length (rows_seen s) → hash ≡ hash_seen s row → values ≡ values_seen s row → get_or (rows_seen s) row no_row ≡ record { hash = hash; values = values }
row_seen s row hash values below hashed read =
    let content = flat (Rows s.kinds) s.image in
    let long = rows_long s.kinds content s.heaps in
    row_is s.kinds content s.heaps row no_row (omega (arith, below, long))
    ∙ ap (λ (h : ℕ). record { hash = h; values = values_seen s row }) (sym hashed)
    ∙ ap (λ (v : List CellValue). record { hash = hash; values = v }) (sym read)
