use Rattle.std.proofs.Common.{List, length, map, ap, sym, subst, arith, ◌∙◌}
use Rattle.std.proofs.lemmas.List.{length-map}
use Rattle.ooc_types.specs.declared.value.Value.{Value}
use Rattle.ooc_types.specs.declared.schema.Column.{Column}
use Rattle.std.specs.Prelude.{All}
use Rattle.result_print.specs.Printed.{row_text, line_text, value_text, IsShort}
use Rattle.result_print.proofs.Lengths.{all_short, as_many}
use Rattle.result_print.proofs.length.row_length.Goals as goal

pub line_length-requires-clause-few : goal.line_length-requires-clause-few
line_length-requires-clause-few c =
    omega (arith, ap length c.as_slice.ensures, as_many (map (λ (column : Column). column.kind) c.args.schema.now) c.args.row.now c.requires.meets, length-map c.args.schema.now (λ (column : Column). column.kind), c.requires.few)

pub line_length-requires-clause-short : goal.line_length-requires-clause-short
line_length-requires-clause-short c =
    let P : List Value → Type 0 = λ row. All IsShort row in
    subst P (sym c.as_slice.ensures) (all_short (map (λ (column : Column). column.kind) c.args.schema.now) c.args.row.now c.requires.meets)

pub returns : goal.returns
unfolding row_text
returns c = c.line_length.ensures ∙ ap (λ row. length (line_text (map value_text row))) c.as_slice.ensures
