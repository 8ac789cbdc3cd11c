use Rattle.std.proofs.Common.{ℕ, length, map, take, refl, ap, ◌∙◌}
use Rattle.std.specs.Prelude.{min}
use Rattle.sql_meaning.specs.Ordered.{limited, row_cmp, sorted}
use Rattle.sql_meaning.specs.Statements.{key_of}
use Rattle.table_scan.proofs.Parting.{cut-parts, rest-whole}
use Rattle.table_scan.proofs.cut.print_cut.Goals as goal

pub returns : goal.returns
returns c =
    let all = c.as_slice-all.result.now in
    let o = c.at_most-offset.result in
    cut-parts c.args.columns.now c.args.cut.now c.args.rows.items all (take o all) c.first_rows-shown.result.now o c.print_part.result
    (c.as_slice-all.ensures.value ∙ c.sort_rows.ensures ∙ ap (λ ks. sorted (row_cmp (map key_of ks)) c.args.rows.items) c.as_slice.ensures)
    (c.at_most-offset.ensures ∙ ap (λ (n : ℕ). min n (length all)) c.unwrap_or.ensures)
    refl
    (c.first_rows-shown.ensures ∙ ap (limited c.args.cut.now.limit) (rest-whole o all))
    c.print_part.ensures
