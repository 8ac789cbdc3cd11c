use Rattle.std.proofs.Common.{◌≡◌, ◌+◌, ◌-◌, ◌++◌, ℕ, List, false, nat_lt, length, ap, ap₂, sym, ◌∙◌}
use Rattle.result_print.specs.Printed.{header_text}
use Rattle.script_says.specs.Selecting.{most_result}
use Rattle.table_scan.specs.Sink.{lines_behind}
use Rattle.table_scan.proofs.Printing.{part-ends, part-over}
use Rattle.table_scan.proofs.cut.print_part.Goals as goal

pub returns-then-is_over : goal.returns-then-is_over
returns-then-is_over c =
    let was = c.in_ok-print_lines.ensures ∙ ap (λ (l : List ℕ). lines_behind most_result l c.args.skipped.now) c.new-text.ensures.items in
    part-over c.args.skipped.now c.args.rows.now c.print_lines.new.text.items was
    (ap (λ (l : List ℕ). nat_lt most_result (length l)) (sym c.as_slice.ensures.value) ∙ sym c.is_over.ensures ∙ c.if-is_over.true)

pub returns : goal.returns
returns c =
    let before = c.print_lines.new.text.items in
    let was = c.in_ok-print_lines.ensures ∙ ap (λ (l : List ℕ). lines_behind most_result l c.args.skipped.now) c.new-text.ensures.items in
    let small : nat_lt most_result (length before) ≡ false = ap (λ (l : List ℕ). nat_lt most_result (length l)) (sym c.as_slice.ensures.value) ∙ sym c.is_over.ensures ∙ c.if-is_over.false in
    let header = c.print_header.new.into.items in
    let is_header : header ≡ header_text c.args.columns.now = c.in_ok-print_header.ensures.ok ∙ ap (λ (l : List ℕ). l ++ header_text c.args.columns.now) c.clear.ensures.items in
    let limit = c.len-2.result + (most_result - c.len.result) in
    let room : limit ≡ length (header_text c.args.columns.now) + (most_result - length before) = ap₂ (λ (n m : ℕ). n + (most_result - m)) (c.len-2.ensures ∙ c.print_header.new.into.ok.0 ∙ ap (λ (l : List ℕ). length l) is_header) (c.len.ensures ∙ c.print_lines.new.text.ok.0) in
    let text = c.print_lines-2.new.text.items in
    part-ends c.args.columns.now c.args.skipped.now c.args.rows.now before text limit c.end_text.result was small room
    (c.in_ok-print_lines-2.ensures ∙ ap (λ (l : List ℕ). lines_behind limit l c.args.rows.now) is_header) c.end_text.ensures
