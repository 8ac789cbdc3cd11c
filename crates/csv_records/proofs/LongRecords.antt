-- A record of which more bytes were read than a record may have.
use Rattle.std.proofs.Common.{◌≡◌, ◌≤◌, ◌<◌, ℕ, ◌+◌, ◌++◌, inl, inr, true, Option, Some, None, List, [], ◌∷◌, take, length, refl, sym, ap, ◌∙◌, arith, append_assoc, length-append}
use Rattle.std.specs.Prelude.{IfSome, IsSome, is_some, nat_le, slice_range}
use Rattle.std.specs.Io.KnownBytes.{IsAtEnd}
use Rattle.std.proofs.lemmas.Bool.Decides.{leb_tells}
use Rattle.csv_records.specs.Stops.{StopsAt}
use Rattle.csv_records.specs.Limits.{record_limit}
use Rattle.csv_records.specs.Table.{after, state_after}
use Rattle.csv_records.specs.Ahead.{Position, Text, told_records, text_ahead, Same, told_text, no_records, FirstIsLong}
use Rattle.csv_records.proofs.Cutting.{state-append, state-ended}
use Rattle.csv_records.proofs.Filling.{then-same, same-refl}
use Rattle.csv_records.proofs.Finding.{EndsIn, stop-ends, stop-runs, text-as, same-records, then-holds, over-ahead, long-last, long-ahead}
use Rattle.csv_records.specs.declared.mark.Mark.{Mark}
use Rattle.csv_records.specs.declared.mark.Mark.TheVariants.{FieldStart}

-- These bytes of the record were read: no end is in them, they are more than a record may have, and the text was
-- these and what is left.
pub record GoesOn (d : ℕ) (text : Option Text) (mark : Mark) (allowed : ℕ) (left : Option (List ℕ)) : Type 0 where
  pub bytes : List ℕ
  pub long : record_limit < length bytes
  pub ran : state_after d FieldStart bytes ≡ Some mark
  pub same : Same text (told_text (record { begun = true; carried = bytes; allowed = allowed }) left)

-- the bytes that are carried are all of it so far
pub goes-on : (d : ℕ) (p : Position) (mark : Mark) (left : Option (List ℕ)) → p.begun ≡ true → record_limit < length p.carried → state_after d FieldStart p.carried ≡ Some mark → GoesOn d (told_text p left) mark p.allowed left
goes-on d p mark left b long ran = record { bytes = p.carried; long = long; ran = ran; same = rw b (same-refl (told_text (record { begun = true; carried = p.carried; allowed = p.allowed }) left)) }

-- the same bytes in front of both texts
prefixed : (x : List ℕ) (p q : Position) (left after : Option (List ℕ)) → p.begun ≡ true → p.carried ≡ [] → q.begun ≡ true → Same (told_text p left) (told_text q after)
    → Same (told_text (record { begun = true; carried = x; allowed = p.allowed }) left) (told_text (record { begun = true; carried = x ++ q.carried; allowed = q.allowed }) after)
prefixed x p q None after b n c s = tt
prefixed x p q (Some left) None b n c s = cc s
prefixed x p q (Some left) (Some more) b n c s =
    let e : text_ahead q more ≡ text_ahead p left = cc s in
    let whole = sym (text-as q q.carried q.allowed more c refl refl) ∙ e ∙ text-as p [] p.allowed left b n refl in
    let bytes : q.carried ++ take q.allowed more ≡ take p.allowed left = ap (λ (t : Text). t.bytes) whole in
    let long : nat_le q.allowed (length more) ≡ nat_le p.allowed (length left) = ap (λ (t : Text). t.too_long) whole in
    rw (append_assoc x q.carried (take q.allowed more), bytes, long) refl

-- more of it was read
pub goes-on-more : (d : ℕ) (text : Option Text) (mark next : Mark) (p q : Position) (left after : Option (List ℕ)) → GoesOn d text mark p.allowed left → p.begun ≡ true → p.carried ≡ [] → q.begun ≡ true
    → Same (told_text p left) (told_text q after) → state_after d mark q.carried ≡ Some next → GoesOn d text next q.allowed after
goes-on-more d text mark next p q left after on b n c s ran =
    record {
      bytes = on.bytes ++ q.carried;
      long = omega (arith, on.long, length-append on.bytes q.carried);
      ran = state-append d FieldStart mark next on.bytes q.carried on.ran ran;
      same = then-same text (told_text (record { begun = true; carried = on.bytes; allowed = p.allowed }) left) (told_text (record { begun = true; carried = on.bytes ++ q.carried; allowed = q.allowed }) after)
          on.same (prefixed on.bytes p q left after b n c s);
    }

-- it has the first byte beyond the limit
pub goes-over : (d : ℕ) (p : Position) (mark : Mark) (allowed : ℕ) (left after : Option (List ℕ)) → GoesOn d (told_text p left) mark allowed after → allowed ≡ 0 → IfSome (told_records d p left) (λ all. all ≡ no_records true)
goes-over d p mark allowed left after on none =
    let q : Position = record { begun = true; carried = on.bytes; allowed = allowed } in
    then-holds (λ all. all ≡ no_records true) (told_records d p left) (told_records d q after) (same-records d p q left after on.same) (over-ahead d q mark after refl none on.ran)

-- it ends with the file
pub goes-to-end : (d : ℕ) (p : Position) (mark : Mark) (allowed : ℕ) (left after : Option (List ℕ)) → GoesOn d (told_text p left) mark allowed after → 0 < allowed → IsAtEnd after → IfSome (told_records d p left) FirstIsLong
goes-to-end d p mark allowed left after on more end =
    let q : Position = record { begun = true; carried = on.bytes; allowed = allowed } in
    then-holds FirstIsLong (told_records d p left) (told_records d q after) (same-records d p q left after on.same) (long-last d q mark on.bytes after refl refl more end on.ran on.long)

-- it ends in the bytes that were read
pub goes-to-stop : (d : ℕ) (p : Position) (mark : Mark) (left after : Option (List ℕ)) (y z : List ℕ) (q r : Position) → GoesOn d (told_text p left) mark q.allowed after
    → q.begun ≡ true → q.carried ≡ [] → r.begun ≡ true → (last : Option (List ℕ)) → Same (told_text q after) (told_text r last) → EndsIn d mark r.carried y z → IfSome (told_records d p left) FirstIsLong
goes-to-stop d p mark left after y z q r on b n c last s e =
    let x = on.bytes in
    let t : Position = record { begun = true; carried = x ++ r.carried; allowed = r.allowed } in
    let ends : EndsIn d FieldStart t.carried (x ++ y) z = record {
      state = e.state;
      byte = e.byte;
      parts = ap (λ w. x ++ w) e.parts ∙ sym (append_assoc x y (e.byte ∷ z));
      ran = state-append d FieldStart mark e.state x y on.ran e.ran;
      ends = e.ends;
    } in
    let long : record_limit < length (x ++ y) = omega (arith, on.long, length-append x y) in
    let same = then-same (told_text p left) (told_text (record { begun = true; carried = x; allowed = q.allowed }) after) (told_text t last) on.same (prefixed x q r after last b n c s) in
    then-holds FirstIsLong (told_records d p left) (told_records d t last) (same-records d p t left last same) (long-ahead d t (x ++ y) z last refl ends long)

-- bytes in which no record ends are passed whole
pub stays-within : (d : ℕ) (items : List ℕ) (at place filled : ℕ) (state : Mark) → at ≤ filled → filled ≤ length items → StopsAt d FieldStart (take filled items) at place state
    → IsSome (state_after d FieldStart (slice_range items at filled)) → state_after d FieldStart (slice_range items at filled) ≡ Some state
stays-within d items at place filled state low high stop some = elim (leb_tells filled place) [
  | inl ge ↦ stop-runs d FieldStart items at place filled state low high ge.1 stop
  | inr lt ↦
      let e = stop-ends d FieldStart items at place filled state high lt.1 stop in
      let none : state_after d FieldStart (slice_range items at filled) ≡ None = ap (state_after d FieldStart) e.parts ∙ state-ended d FieldStart e.state (slice_range items at place) e.byte (slice_range items (place + 1) filled) e.ran e.ends in
      let no_state : is_some {T = Mark} None ≡ true = rw none at some in
      cc no_state
]
