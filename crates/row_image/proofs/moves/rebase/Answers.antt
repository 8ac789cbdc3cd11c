use Rattle.std.proofs.Common.{◌≡◌, ◌+◌, ◌<◌, ℕ, length, arith, ap, sym, subst, inl, inr}
use Rattle.std.proofs.lemmas.Bool.{cases_lt}
use Rattle.row_image.specs.Layout.{row_place, width_of, mask_bytes}
use Rattle.row_image.specs.Image.{row_count, part_at}
use Rattle.row_image.specs.Moves.{MovesRow, IsReached}
use Rattle.row_image.proofs.ByteLemmas.{changes_joined, same_before, same_after, same_within}
use Rattle.row_image.proofs.LayoutLemmas.{width_of_least}
use Rattle.row_image.proofs.AcceptedLemmas.{sound_of, row_lies}
use Rattle.row_image.proofs.PartFacts.{facts_of}
use Rattle.row_image.proofs.WrittenLemmas.{rows_apart}
use Rattle.row_image.proofs.WrittenAccepted.{parts_most, fit_most}
use Rattle.row_image.proofs.MoveLemmas.{row_moves_then, then_row_moves, reached_same, cell_of_row}
use Rattle.row_image.proofs.Rebased.{reached, row_place_mono, rebased_of, parts_moved}
use Rattle.row_image.proofs.RebasedAccepted.{rebased_accepted}
use Rattle.row_image.proofs.FlatLemmas.{rebased_flat}
use Rattle.row_image.proofs.moves.rebase.Goals as goal

pub part_at-this-requires-clause-part : goal.part_at-this-requires-clause-part
part_at-this-requires-clause-part c = omega (arith, parts_most c.args.layout.now c.args.image.now (sound_of c.args.layout.now c.args.image.now c.requires.accepted).parts, c.requires.part)

pub overflow_add-row-end : goal.overflow_add-row-end
overflow_add-row-end c =
    let s = sound_of c.args.layout.now c.args.image.now c.requires.accepted in
    let f = facts_of c.args.image.now c.args.part (s.part c.args.part c.requires.part) in
    omega (arith, ap (λ p. p.first) c.part_at-this.ensures, ap (λ p. p.rows) c.part_at-this.ensures, f.first, f.most, s.rows, fit_most c.args.layout.now (length c.args.image.now), c.requires.page.most)

pub move_row-requires-clause-room : goal.move_row-requires-clause-room
move_row-requires-clause-room c =
    let kinds = c.args.layout.now in
    let old = c.args.image.now in
    let s = sound_of kinds old c.requires.accepted in
    let f = facts_of old c.args.part (s.part c.args.part c.requires.part) in
    let below : c.loop-row.row < row_count old = omega (arith, ap (λ p. p.first) c.part_at-this.ensures, ap (λ p. p.rows) c.part_at-this.ensures, f.first, f.most) in
    omega (arith, c.row_place.ensures, row_lies kinds old c.loop-row.row c.requires.accepted (omega (arith, c.requires.page.least)) below)

pub move_row-requires-clause-reach : goal.move_row-requires-clause-reach
move_row-requires-clause-reach c = λ column inside.
    let kinds = c.args.layout.now in
    let old = c.args.image.now in
    let row = c.loop-row.row in
    let s = sound_of kinds old c.requires.accepted in
    let first = ap (λ p. p.first) c.part_at-this.ensures in
    let rows = ap (λ p. p.rows) c.part_at-this.ensures in
    let kept = same_after old c.loop-row.image (row_place kinds c.part_at-this.result.first) (row_place kinds row) (row_place kinds row) (row_place kinds row + width_of kinds) (omega arith) c.loop-row.invariant.0 (omega arith) in
    let r = reached kinds old c.args.part row column s (λ k k_inside. facts_of old k (s.part k k_inside)) (omega (arith, c.requires.page.most)) c.requires.part (omega (arith, first)) (omega (arith, first, rows)) inside in
    let now = reached_same kinds old c.loop-row.image (row_place kinds row) (part_at old c.args.part).base column
    (same_within old c.loop-row.image (row_place kinds row) (row_place kinds row + width_of kinds) (row_place kinds row) (row_place kinds row + mask_bytes kinds) kept (omega arith) (omega (arith, width_of_least kinds)))
    (cell_of_row kinds old c.loop-row.image (row_place kinds row) column kept inside) inside r in
    let P : ℕ → Type 0 = λ at. IsReached kinds c.loop-row.image at (part_at old c.args.part).base column in
    let Q : ℕ → Type 0 = λ base. IsReached kinds c.loop-row.image c.row_place.result base column in
    subst Q (sym (ap (λ p. p.base) c.part_at-this.ensures)) (subst P (sym c.row_place.ensures) now)

pub loop-row-preserved : goal.loop-row-preserved
loop-row-preserved c =
    let kinds = c.args.layout.now in
    let old = c.args.image.now in
    let row = c.loop-row.row in
    let from = c.part_at-this.result.base in
    let first = row_place kinds c.part_at-this.result.first in
    let at = row_place kinds row in (
      changes_joined old c.loop-row.image c.move_row.new.image first at c.row_place.result (c.row_place.result + width_of kinds) first (row_place kinds (row + 1)) c.loop-row.invariant.0 c.move_row.ensures.others
          (omega arith) (omega (arith, c.row_place.ensures, row_place_mono kinds c.part_at-this.result.first row (omega arith))) (omega (arith, rows_apart kinds row (row + 1) (omega arith))) (omega (arith, c.row_place.ensures, rows_apart kinds row (row + 1) (omega arith))),
      λ r low below. elim (cases_lt r row) [
        | inl less ↦ row_moves_then kinds old c.loop-row.image c.move_row.new.image (row_place kinds r) from c.args.base (c.loop-row.invariant.1 r low less)
            (same_before c.loop-row.image c.move_row.new.image c.row_place.result (c.row_place.result + width_of kinds) (row_place kinds r) (row_place kinds r + width_of kinds) (omega arith) c.move_row.ensures.others (omega (arith, c.row_place.ensures, rows_apart kinds r row less)))
        | inr more ↦
            let is : row ≡ r = omega arith in
            let P : ℕ → Type 0 = λ x. MovesRow kinds old c.move_row.new.image (row_place kinds x) from c.args.base in
            let Q : ℕ → Type 0 = λ x. MovesRow kinds c.loop-row.image c.move_row.new.image x from c.args.base in
            subst P is (then_row_moves kinds old c.loop-row.image c.move_row.new.image at from c.args.base
            (same_after old c.loop-row.image first at at (at + width_of kinds) (omega arith) c.loop-row.invariant.0 (omega arith))
            (subst Q c.row_place.ensures c.move_row.ensures.row))
      ],
    )

pub set_long-requires : goal.set_long-requires
set_long-requires c = omega (arith, parts_most c.args.layout.now c.args.image.now (sound_of c.args.layout.now c.args.image.now c.requires.accepted).parts, c.requires.part, c.requires.page.least)

pub returns-clause-accepted : goal.returns-clause-accepted
returns-clause-accepted c =
    let few = parts_most c.args.layout.now c.args.image.now (sound_of c.args.layout.now c.args.image.now c.requires.accepted).parts in
    let r = rebased_of c.args.layout.now c.args.image.now c.loop-row.image c.set_long.new.image c.args.part c.args.base c.part_at-this.result c.loop-row.row c.part_at-this.ensures (omega (arith, few, c.requires.part)) (omega arith) (omega arith) (omega arith) c.loop-row.invariant.0 c.loop-row.invariant.1 c.set_long.ensures.others c.set_long.ensures.stored in
    rebased_accepted c.args.layout.now c.args.image.now c.set_long.new.image c.args.part c.args.base r c.requires.accepted c.requires.page.least c.requires.part c.requires.heap c.requires.aligned c.requires.low

pub returns-clause-flat : goal.returns-clause-flat
returns-clause-flat c =
    let few = parts_most c.args.layout.now c.args.image.now (sound_of c.args.layout.now c.args.image.now c.requires.accepted).parts in
    let r = rebased_of c.args.layout.now c.args.image.now c.loop-row.image c.set_long.new.image c.args.part c.args.base c.part_at-this.result c.loop-row.row c.part_at-this.ensures (omega (arith, few, c.requires.part)) (omega arith) (omega arith) (omega arith) c.loop-row.invariant.0 c.loop-row.invariant.1 c.set_long.ensures.others c.set_long.ensures.stored in
    rebased_flat c.args.layout.now c.args.image.now c.set_long.new.image c.args.part c.args.base r c.requires.accepted c.requires.page.least c.requires.part c.requires.heap c.requires.aligned c.requires.low

pub returns-clause-parts : goal.returns-clause-parts
returns-clause-parts c =
    let kinds = c.args.layout.now in
    let old = c.args.image.now in
    let new = c.set_long.new.image in
    let few = parts_most kinds old (sound_of kinds old c.requires.accepted).parts in
    let r = rebased_of kinds old c.loop-row.image new c.args.part c.args.base c.part_at-this.result c.loop-row.row c.part_at-this.ensures (omega (arith, few, c.requires.part)) (omega arith) (omega arith) (omega arith) c.loop-row.invariant.0 c.loop-row.invariant.1 c.set_long.ensures.others c.set_long.ensures.stored in
    parts_moved kinds old new c.args.part c.args.base r few c.requires.part
