-- A row of values among those that were written.
use Rattle.std.proofs.Common.{◌≡◌, ℕ, List, [], ◌∷◌, ◌++◌, map, Result, Ok, Err, ap, ◌∙◌}
use Rattle.std.specs.Prelude.{OnOk}
use Rattle.std.proofs.lemmas.List.{map-append}
use Rattle.ooc_types.specs.Meets.{Meets}
use Rattle.ooc_types.specs.declared.value.Value.{Value}
use Rattle.row_image.specs.Texts.{CellValue}
use Rattle.page_body.specs.View.{PoolTerms}
use Rattle.page_body.specs.declared.fault.PoolFault.{PoolFault}
use Rattle.row_sets.specs.Closing.{SameColumns}
use Rattle.row_sets.specs.SetRows.{row_as, values_as, kept_as}
use Rattle.row_sets.specs.Writers.{written_cells, written_rows}
use Rattle.row_sets.specs.declared.writer.Writer.{Writer}
use Rattle.row_cursors.proofs.KeptValues.{kept_back}

module _ {Page Pin : Type 0} (t : PoolTerms Page Pin) where
  -- the row that is stored is the row of the values
  pub appended : (old new : Writer Page) (limit : ℕ) (row : List Value) (cells : List CellValue) (hash : ℕ) (r : Result Unit PoolFault) → Meets limit old.kinds row → cells ≡ map kept_as row → SameColumns old new
      → OnOk r (written_cells t new ≡ written_cells t old ++ record { hash = hash; values = cells } ∷ [])
      → OnOk r (written_rows t new ≡ written_rows t old ++ record { hash = hash; values = row } ∷ [])
  appended old new limit row cells hash (Err fault) meets kept same rows = tt
  appended old new limit row cells hash (Ok done) meets kept same rows =
      let back : values_as old.kinds cells ≡ row = ap (values_as old.kinds) kept ∙ kept_back limit old.kinds row meets in
      ap (λ kinds. map (row_as kinds) (written_cells t new)) same.kinds
      ∙ ap (map (row_as old.kinds)) rows
      ∙ map-append (row_as old.kinds) (written_cells t old) (record { hash = hash; values = cells } ∷ [])
      ∙ ap (λ (values : List Value). written_rows t old ++ record { hash = hash; values = values } ∷ []) back
