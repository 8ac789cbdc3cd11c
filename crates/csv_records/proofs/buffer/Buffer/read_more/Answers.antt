use Rattle.std.proofs.Common.{◌≡◌, ◌≤◌, ◌+◌, ◌-◌, ℕ, List, take, length, arith, sym, ap, subst, ◌∙◌}
use Rattle.std.specs.Prelude.{slice_range}
use Rattle.std.proofs.lemmas.List.{with_items_is}
use Rattle.csv_records.specs.Ahead.{Same, told_text}
use Rattle.csv_records.specs.Buffer.{position_of}
use Rattle.csv_records.proofs.Filling.{buffer-grown}
use Rattle.csv_records.proofs.Ranges.{range-kept}
use Rattle.csv_records.proofs.buffer.Buffer.read_more.Goals as goal

pub returns-clause-text : goal.returns-clause-text
returns-clause-text g c =
    let s = c.args.self.now in
    let n = c.in_ok-count.count in
    let q = c.read_between.new.bytes in
    let size : length q ≡ s.buffer.len = omega (arith, c.read_between.auto.bytes, c.as_mut_slice.ensures.len, ap length c.as_mut_slice.ensures.value, s.buffer.ok.0) in
    let high : s.filled + n ≤ length q = omega (arith, c.in_ok-count.ensures.bound) in
    let few : n ≤ s.allowed = omega (arith, c.in_ok-count.ensures.bound) in
    let front : take s.filled q ≡ take s.filled s.buffer.items = c.in_ok-count.ensures.front ∙ ap (take s.filled) c.as_mut_slice.ensures.value in
    subst (λ (items : List ℕ). Same (told_text (position_of s) (g.F.Files.left c.args.files.now))
    (told_text (record { begun = s.begun; carried = slice_range items s.at (s.filled + n); allowed = s.allowed - n }) (g.F.Files.left c.read_between.new.files)))
    (sym (with_items_is s.buffer q size))
    (buffer-grown s.begun s.buffer.items q s.at s.filled n s.allowed (g.F.Files.left c.args.files.now) (g.F.Files.left c.read_between.new.files) s.range.0 high few front c.in_ok-count.ensures.read)

pub returns-clause-kept : goal.returns-clause-kept
returns-clause-kept g c none =
    let s = c.args.self.now in
    let n = c.in_ok-count.count in
    let q = c.read_between.new.bytes in
    let size : length q ≡ s.buffer.len = omega (arith, c.read_between.auto.bytes, c.as_mut_slice.ensures.len, ap length c.as_mut_slice.ensures.value, s.buffer.ok.0) in
    let front : take s.filled q ≡ take s.filled s.buffer.items = c.in_ok-count.ensures.front ∙ ap (take s.filled) c.as_mut_slice.ensures.value in
    let end : s.filled + n ≡ s.filled = omega (arith, none) in
    ap (λ (items : List ℕ). slice_range items s.at (s.filled + n)) (with_items_is s.buffer q size) ∙ ap (slice_range q s.at) end ∙ range-kept s.buffer.items q s.at s.filled s.range.0 front
