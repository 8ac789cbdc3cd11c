use Rattle.std.proofs.Common.{◌+◌, ◌∷◌, ◌∙◌, drop, refl, ap, sym, arith}
use Rattle.std.proofs.lemmas.List.{drop_more}
use Rattle.row_sets.specs.Sets.{set_lists}
use Rattle.row_cursors.proofs.Places.{behind_page, counted_at, each_has_rows, lists_long}
use Rattle.row_cursors.proofs.row_cursor.RowCursor.settle.Goals as goal
use Rattle.row_cursors.proofs.row_cursor.RowCursor.settle.Goals.{else-self-via-then-self+then-self-len+else-self-index, else-self-via-then-self+else-self-len, else-self-via-else-self}

pub returns-then-self-index : goal.returns-then-self-index
returns-then-self-index g c =
    let t = g.P.Pages.terms in
    let set = c.args.set.now in
    let self = c.args.self.now in
    let before = c.if-self.true in
    let len = c.len.ensures in
    let within = c.if-self-len.true in
    let p = c.index.result.now in
    let counted = counted_at t set self.page p (omega (arith, len, within))
    (drop_more set.pages.items self.page p (omega (arith, len, within)) ∙ ap (λ q. q ∷ drop (self.page + 1) set.pages.items) (sym c.index.ensures)) c.requires in
    let count = counted.0 in
    let past = c.if-self-index.true in
    let long = lists_long t set.layout set.pages.items in
    record {
      rest = behind_page (set_lists t set) self.page self.end self.row (omega (arith, len, within, long)) before (omega (arith, past, count));
      inside = λ _ there. let some = each_has_rows t set (self.page + 1) there c.requires in omega (arith, some);
    }

pub returns : goal.returns
returns g c = record {
  rest = refl;
  inside = λ before there.
      let t = g.P.Pages.terms in
      let set = c.args.set.now in
      let self = c.args.self.now in
      elim c.else-self.branch [
        | else-self-via-then-self+then-self-len+else-self-index w ↦
            let p = w.index.result.now in
            let counted = counted_at t set self.page p there
            (drop_more set.pages.items self.page p there ∙ ap (λ q. q ∷ drop (self.page + 1) set.pages.items) (sym w.index.ensures)) c.requires in
            let count = counted.0 in
            let below = w.if-self-index.false in
            omega (arith, below, count)
        | else-self-via-then-self+else-self-len w ↦ let len = w.len.ensures in let past = w.if-self-len.false in absurd (omega (arith, len, past, there))
        | else-self-via-else-self w ↦ let past = w.if-self.false in absurd (omega (arith, past, before))
      ];
}
