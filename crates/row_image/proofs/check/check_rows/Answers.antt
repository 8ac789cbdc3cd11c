use Rattle.std.proofs.Common.{◌++◌, arith, ◌∙◌, length}
use Rattle.std.specs.List.{flat_map, range_with_len}
use Rattle.std.proofs.lemmas.Result.{err_from_is_err_and}
use Rattle.row_image.specs.Image.{part_count, row_count, part_at}
use Rattle.row_image.specs.Rules.{head_rules, part_rules, row_rules, rules_of}
use Rattle.row_image.proofs.RuleLemmas.{append_next, append_damaged, sound_at}
use Rattle.row_image.proofs.PartFacts.{facts_of, base_low}
use Rattle.row_image.proofs.WrittenAccepted.{fit_most}
use Rattle.row_image.proofs.check.check_rows.Goals as goal

pub returns-in_err-check_head-clause-rules : goal.returns-in_err-check_head-clause-rules
unfolding rules_of
returns-in_err-check_head-clause-rules c =
    let p = err_from_is_err_and c.from_residual.result c.from_residual.ensures.1 in
    let head = head_rules c.args.layout.now c.args.image.now in
    let parts = flat_map (λ part. part_rules c.args.image.now part) (range_with_len 0 (part_count c.args.image.now)) in
    let rows = flat_map (λ row. row_rules c.args.layout.now c.args.image.now row) (range_with_len 0 (row_count c.args.image.now)) in
    rw (p.1, p.2) (append_damaged (head ++ parts) rows _ (append_damaged head parts _ c.in_err-check_head.ensures.rules))

pub returns-in_err-check_parts-clause-rules : goal.returns-in_err-check_parts-clause-rules
unfolding rules_of
returns-in_err-check_parts-clause-rules c =
    let p = err_from_is_err_and c.from_residual-in_err-check_parts.result c.from_residual-in_err-check_parts.ensures.1 in
    let head = head_rules c.args.layout.now c.args.image.now in
    let parts = flat_map (λ part. part_rules c.args.image.now part) (range_with_len 0 (part_count c.args.image.now)) in
    let rows = flat_map (λ row. row_rules c.args.layout.now c.args.image.now row) (range_with_len 0 (row_count c.args.image.now)) in
    rw (p.1, p.2) (append_damaged (head ++ parts) rows _ (append_next head parts c.in_ok-check_head.ensures.rules ∙ c.in_err-check_parts.ensures))

pub check_parts-requires-clause-rows : goal.check_parts-requires-clause-rows
check_parts-requires-clause-rows c = omega (arith, c.in_ok-check_head.ensures.rows, fit_most c.args.layout.now (length c.args.image.now), c.requires.most)

pub check_cells-requires-clause-bases : goal.check_cells-requires-clause-bases
check_cells-requires-clause-bases c = λ k inside. base_low (length c.args.image.now) (part_at c.args.image.now k) (facts_of c.args.image.now k (sound_at (λ part. part_rules c.args.image.now part) (part_count c.args.image.now) k c.in_ok-check_parts.ensures inside)).base

pub returns-in_err-check_cells-clause-rules : goal.returns-in_err-check_cells-clause-rules
unfolding rules_of
returns-in_err-check_cells-clause-rules c =
    let p = err_from_is_err_and c.from_residual-in_err-check_cells.result c.from_residual-in_err-check_cells.ensures.1 in
    let head = head_rules c.args.layout.now c.args.image.now in
    let parts = flat_map (λ part. part_rules c.args.image.now part) (range_with_len 0 (part_count c.args.image.now)) in
    let rows = flat_map (λ row. row_rules c.args.layout.now c.args.image.now row) (range_with_len 0 (row_count c.args.image.now)) in
    rw (p.1, p.2) (append_next (head ++ parts) rows (append_next head parts c.in_ok-check_head.ensures.rules ∙ c.in_ok-check_parts.ensures) ∙ c.in_err-check_cells.ensures)

pub returns-clause-rules : goal.returns-clause-rules
unfolding rules_of
returns-clause-rules c =
    let head = head_rules c.args.layout.now c.args.image.now in
    let parts = flat_map (λ part. part_rules c.args.image.now part) (range_with_len 0 (part_count c.args.image.now)) in
    let rows = flat_map (λ row. row_rules c.args.layout.now c.args.image.now row) (range_with_len 0 (row_count c.args.image.now)) in
    append_next (head ++ parts) rows (append_next head parts c.in_ok-check_head.ensures.rules ∙ c.in_ok-check_parts.ensures) ∙ c.in_ok-check_cells.ensures
