use Rattle.std.proofs.Common.{◌≡◌, ◌+◌, length, arith, ap, ◌∙◌}
use Rattle.row_image.specs.Bytes.{number_at}
use Rattle.row_image.proofs.ByteLemmas.{number_at_before, slice_range_same, same_before, same_after}
use Rattle.string_heap.proofs.HeapRules.{heap_facts, heap_accepted}
use Rattle.string_heap.proofs.heap.put.Goals as goal

pub returns-clause-accepted : goal.returns-clause-accepted
returns-clause-accepted c =
    let old = c.args.page.now in
    let mid = c.put_text.new.page in
    let new = c.set_word.new.image in
    let facts = heap_facts old c.requires.accepted in
    let start = c.word_at-used.ensures in
    let kind_mid : number_at mid 0 4 ≡ number_at old 0 4 = number_at_before old mid (64 + c.word_at-used.result) (64 + c.word_at-used.result + length c.args.text.now) c.put_text.ensures.others 0 4 (omega arith) in
    let kind_new : number_at new 0 4 ≡ number_at mid 0 4 = number_at_before mid new 4 8 c.set_word.ensures.others 0 4 (omega arith) in
    let kind = facts.kind in
    let least = c.requires.page.least in
    heap_accepted new (record {
      kind = kind_new ∙ kind_mid ∙ kind;
      used = let r = c.room.ensures in let s = c.set_word.ensures.stored in let f = c.if-text-room.false in let a = c.put_text.auto.page in let b = c.set_word.auto.image in omega (arith, r, s, f, a, b, start, least);
    })

pub returns-clause-put : goal.returns-clause-put
returns-clause-put c =
    let old = c.args.page.now in
    let mid = c.put_text.new.page in
    let new = c.set_word.new.image in
    let at = 64 + c.word_at-used.result in
    let r = c.room.ensures in
    let f = c.if-text-room.false in
    record {
      at_end = ap (λ n. 64 + n) c.word_at-used.ensures;
      counted = c.set_word.ensures.stored ∙ ap (λ n. n + length c.args.text.now) c.word_at-used.ensures;
      stored = slice_range_same mid new 8 (length mid) (same_after mid new 4 8 8 (length mid) c.set_word.auto.image c.set_word.ensures.others (omega arith)) at (at + length c.args.text.now) (omega arith) (let a = c.put_text.auto.page in omega (arith, r, f, a, c.word_at-used.ensures)) (let a = c.put_text.auto.page in omega (arith, r, f, a, c.word_at-used.ensures)) ∙ c.put_text.ensures.stored;
      kind = λ k below. c.set_word.ensures.others.before k below ∙ c.put_text.ensures.others.before k (omega arith);
      before = λ k low high. c.set_word.ensures.others.after k low ∙ c.put_text.ensures.others.before k high;
      behind = λ k past. c.set_word.ensures.others.after k (omega arith) ∙ c.put_text.ensures.others.after k past;
    }

pub returns-clause-kept : goal.returns-clause-kept
returns-clause-kept c =
    let old = c.args.page.now in
    let mid = c.put_text.new.page in
    let new = c.set_word.new.image in
    let at = 64 + c.word_at-used.result in
    let start = c.word_at-used.ensures in
    let r = c.room.ensures in
    let a = c.put_text.auto.page in
    let b = c.set_word.auto.image in
    let s = c.set_word.ensures.stored in
    record {
      long = b ∙ a;
      more = omega (arith, s, start);
      same = λ from to low high.
          slice_range_same mid new 8 (length mid) (same_after mid new 4 8 8 (length mid) b c.set_word.ensures.others (omega arith)) from to (omega arith) (omega (arith, a, r, start, high)) (omega (arith, a, r, start, high))
          ∙ slice_range_same old mid 0 at (same_before old mid at (at + length c.args.text.now) 0 at a c.put_text.ensures.others (omega arith)) from to (omega arith) (omega (arith, start, high)) (omega (arith, r, start, high));
    }
