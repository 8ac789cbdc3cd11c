-- What one statement prints: exactly these bytes, or rows in any order.
use Rattle.std.specs.Prelude.{ℕ, ◌≡◌, List, []}
use Rattle.ooc_bags.specs.Bags.{SameBag}
use Rattle.ooc_types.specs.declared.schema.Column.{Column}
use Rattle.ooc_types.specs.declared.value.Value.{Value}
use Rattle.result_print.specs.Printed.{block_text}

pub data Block : Type 0 where
  -- these bytes
  Exactly : (bytes : List ℕ) → Block
  -- a header, these rows in some order, and an empty line
  InAnyOrder : (columns : List Column) → (rows : List (List Value)) → Block

abbrev pub no_block : Block
no_block = Exactly []

abbrev pub IsPrinted : Block → List ℕ → Type 0
IsPrinted (Exactly bytes) text = text ≡ bytes
IsPrinted (InAnyOrder columns rows) text = (order : List (List Value)) × SameBag rows order × (text ≡ block_text columns order)
