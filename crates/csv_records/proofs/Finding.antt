-- What a stop of the cutter says of the records ahead.
use Rattle.std.proofs.Common.{◌≡◌, ◌≤◌, ◌<◌, ℕ, ◌+◌, ◌++◌, Bool, true, false, Option, Some, None, List, [], ◌∷◌, take, length, refl, sym, ap, subst, ◌∙◌, arith, append_assoc, length-take}
use Rattle.std.proofs.lemmas.List.{append-nil, get_or-take}
use Rattle.std.proofs.lemmas.Bool.{le-leb, lt-leb}
use Rattle.std.specs.Prelude.{slice_range, slice_index, IfSome, nat_le}
use Rattle.std.specs.List.{list_any}
use Rattle.std.specs.Io.KnownBytes.{IsAtEnd}
use Rattle.csv_records.specs.Limits.{record_limit}
use Rattle.csv_records.specs.Table.{after, state_after, is_special, is_quoted, stops_quoted, ends_quoted}
use Rattle.csv_records.specs.Found.{IsFound}
use Rattle.csv_records.specs.Stops.{StopsAt}
use Rattle.csv_records.specs.Files.{Records}
use Rattle.csv_records.specs.Ahead.{Position, Same, told_text, told_records, records_of, text_ahead, SplitsOff, with_record, no_records, FirstIsLong}
use Rattle.csv_records.specs.declared.mark.Mark.{Mark}
use Rattle.csv_records.specs.declared.mark.Mark.TheVariants.{FieldStart}
use Rattle.csv_records.proofs.Ranges.{range-front, range-at}
use Rattle.csv_records.proofs.CutRecords.{record-ends, part-skipped, record-last, none-left, record-goes-on}
use Rattle.csv_records.proofs.Filling.{take-none}

-- a record that is in the state `mark` ends in these bytes: x, the byte that ends it, and y
pub record EndsIn (d : ℕ) (mark : Mark) (bytes x y : List ℕ) : Type 0 where
  pub state : Mark
  pub byte : ℕ
  pub parts : bytes ≡ x ++ byte ∷ y
  pub ran : state_after d mark x ≡ Some state
  pub ends : after d state byte ≡ None

pub stop-ends : (d : ℕ) (mark : Mark) (items : List ℕ) (at place filled : ℕ) (state : Mark) → filled ≤ length items → place < filled → StopsAt d mark (take filled items) at place state
    → EndsIn d mark (slice_range items at filled) (slice_range items at place) (slice_range items (place + 1) filled)
stop-ends d mark items at place filled state high lt stop =
    let size : place < length (take filled items) = omega (arith, length-take filled items) in
    let part = range-front items at place filled stop.low (omega arith) in
    let byte = get_or-take filled items place 0 lt in
    record {
      state = state;
      byte = slice_index items place;
      parts = range-at items at place filled stop.low lt high;
      ran = ap (λ (x : List ℕ). state_after d mark x) (sym part) ∙ stop.ran;
      ends = ap (λ b. after d state b) (sym byte) ∙ stop.ends size;
    }

-- a stop that isn't before the end is at the end
pub stop-end : {d : ℕ} {mark state : Mark} (items : List ℕ) (at place filled : ℕ) → filled ≤ length items → filled ≤ place → StopsAt d mark (take filled items) at place state → place ≡ filled
stop-end items at place filled high ge stop = omega (arith, stop.high, length-take filled items)

-- no end is in the bytes
pub stop-runs : (d : ℕ) (mark : Mark) (items : List ℕ) (at place filled : ℕ) (state : Mark) → at ≤ filled → filled ≤ length items → filled ≤ place → StopsAt d mark (take filled items) at place state
    → state_after d mark (slice_range items at filled) ≡ Some state
stop-runs d mark items at place filled state low high ge stop =
    let same : place ≡ filled = omega (arith, stop.high, length-take filled items) in
    ap (λ (x : List ℕ). state_after d mark x) (sym (range-front items at filled filled low (omega arith)) ∙ ap (slice_range (take filled items) at) (sym same)) ∙ stop.ran

-- the text of a position whose bytes were looked at for a mark
text-is : (p : Position) (left : List ℕ) → p.begun ≡ true → text_ahead p left ≡ record { bytes = p.carried ++ take p.allowed left; too_long = nat_le p.allowed (length left) }
text-is p left b = rw b refl

pub text-as : (p : Position) (carried : List ℕ) (allowed : ℕ) (left : List ℕ) → p.begun ≡ true → p.carried ≡ carried → p.allowed ≡ allowed → text_ahead p left ≡ record { bytes = carried ++ take allowed left; too_long = nat_le allowed (length left) }
text-as p carried allowed left b r al = rw (b, r, al) refl

text-ends : (d : ℕ) (mark : Mark) (bytes x y more : List ℕ) (e : EndsIn d mark bytes x y) → bytes ++ more ≡ x ++ e.byte ∷ (y ++ more)
text-ends d mark bytes x y more e = ap (λ z. z ++ more) e.parts ∙ append_assoc x (e.byte ∷ y) more

ahead-ends : (d : ℕ) (p q : Position) (x y left : List ℕ) → p.begun ≡ true → q.begun ≡ true → q.carried ≡ y → q.allowed ≡ p.allowed → EndsIn d FieldStart p.carried x y → 0 < length x
    → records_of d (text_ahead p left) ≡ with_record x (records_of d (text_ahead q left))
ahead-ends d p q x y left b c r al e some =
    ap (records_of d) (text-is p left b)
    ∙ ap (λ t. records_of d (record { bytes = t; too_long = nat_le p.allowed (length left) })) (text-ends d FieldStart p.carried x y (take p.allowed left) e)
    ∙ record-ends d e.state x e.byte (y ++ take p.allowed left) (nat_le p.allowed (length left)) e.ran e.ends some
    ∙ ap (λ t. with_record x (records_of d t)) (sym (text-as q y p.allowed left c r al))

pub record-ahead : (d : ℕ) (p q : Position) (x y : List ℕ) (left : Option (List ℕ)) → p.begun ≡ true → q.begun ≡ true → q.carried ≡ y → q.allowed ≡ p.allowed → EndsIn d FieldStart p.carried x y → 0 < length x
    → SplitsOff (told_records d p left) x (told_records d q left)
record-ahead d p q x y None b c r al e some = tt
record-ahead d p q x y (Some left) b c r al e some = ahead-ends d p q x y left b c r al e some

pub long-ahead : (d : ℕ) (p : Position) (x y : List ℕ) (left : Option (List ℕ)) → p.begun ≡ true → EndsIn d FieldStart p.carried x y → record_limit < length x
    → IfSome (told_records d p left) FirstIsLong
long-ahead d p x y None b e long = tt
long-ahead d p x y (Some left) b e long =
    let q : Position = record { begun = true; carried = y; allowed = p.allowed } in
    record { bytes = x; rest = records_of d (text_ahead q left); first = ahead-ends d p q x y left b refl refl refl e (omega arith); long = long }

pub part-ahead : (d : ℕ) (p q : Position) (x y : List ℕ) (left : Option (List ℕ)) → p.begun ≡ true → q.begun ≡ true → q.carried ≡ y → q.allowed ≡ p.allowed → EndsIn d FieldStart p.carried x y → x ≡ []
    → Same (told_records d p left) (told_records d q left)
part-ahead d p q x y None b c r al e none = tt
part-ahead d p q x y (Some left) b c r al e none = ap Some (sym (
    ap (records_of d) (text-is p left b)
    ∙ ap (λ t. records_of d (record { bytes = t; too_long = nat_le p.allowed (length left) })) (text-ends d FieldStart p.carried x y (take p.allowed left) e)
    ∙ part-skipped d e.state x e.byte (y ++ take p.allowed left) (nat_le p.allowed (length left)) e.ran e.ends none
    ∙ ap (records_of d) (sym (text-as q y p.allowed left c r al))))

-- at the end of the file
last-text : (p : Position) (x left : List ℕ) → p.begun ≡ true → p.carried ≡ x → left ≡ [] → 0 < p.allowed → text_ahead p left ≡ record { bytes = x; too_long = false }
last-text p x left b r end some =
    let none : take p.allowed left ≡ [] = take-none p.allowed left end in
    let few : nat_le p.allowed (length left) ≡ false = lt-leb p.allowed (length left) (omega (arith, ap length end)) in
    text-is p left b ∙ rw (none, few, r, append-nil x) refl

pub last-ahead : (d : ℕ) (p q : Position) (mark : Mark) (x : List ℕ) (left : Option (List ℕ)) → p.begun ≡ true → q.begun ≡ true → p.carried ≡ x → q.carried ≡ [] → q.allowed ≡ p.allowed → 0 < p.allowed → IsAtEnd left
    → state_after d FieldStart x ≡ Some mark → 0 < length x → SplitsOff (told_records d p left) x (told_records d q left)
last-ahead d p q mark x None b c r n al more end ran some = tt
last-ahead d p q mark x (Some left) b c r n al more end ran some =
    let some_q : 0 < q.allowed = omega arith in
    ap (records_of d) (last-text p x left b r end more) ∙ record-last d mark x ran some
    ∙ ap (with_record x) (sym (ap (records_of d) (last-text q [] left c n end some_q) ∙ none-left d))

pub long-last : (d : ℕ) (p : Position) (mark : Mark) (x : List ℕ) (left : Option (List ℕ)) → p.begun ≡ true → p.carried ≡ x → 0 < p.allowed → IsAtEnd left
    → state_after d FieldStart x ≡ Some mark → record_limit < length x → IfSome (told_records d p left) FirstIsLong
long-last d p mark x None b r more end ran long = tt
long-last d p mark x (Some left) b r more end ran long =
    let some : 0 < length x = omega arith in
    record { bytes = x; rest = no_records false; first = ap (records_of d) (last-text p x left b r end more) ∙ record-last d mark x ran some; long = long }

pub none-ahead : (d : ℕ) (p : Position) (left : Option (List ℕ)) → p.begun ≡ true → p.carried ≡ [] → 0 < p.allowed → IsAtEnd left → IfSome (told_records d p left) (λ all. all ≡ no_records false)
none-ahead d p None b r more end = tt
none-ahead d p (Some left) b r more end = ap (records_of d) (last-text p [] left b r end more) ∙ none-left d

-- no more bytes may be taken, and the record goes on
pub over-ahead : (d : ℕ) (p : Position) (mark : Mark) (left : Option (List ℕ)) → p.begun ≡ true → p.allowed ≡ 0 → state_after d FieldStart p.carried ≡ Some mark → IfSome (told_records d p left) (λ all. all ≡ no_records true)
over-ahead d p mark None b al ran = tt
over-ahead d p mark (Some left) b al ran =
    let all : nat_le p.allowed (length left) ≡ true = le-leb p.allowed (length left) (omega arith) in
    ap (records_of d) (text-is p left b ∙ rw (all, al, append-nil p.carried) refl) ∙ record-goes-on d mark p.carried ran

-- one step after another
pub same-records : (d : ℕ) (p q : Position) (left after : Option (List ℕ)) → Same (told_text p left) (told_text q after) → Same (told_records d p left) (told_records d q after)
same-records d p q None after s = tt
same-records d p q (Some left) None s = cc s
same-records d p q (Some left) (Some more) s = let e : text_ahead q more ≡ text_ahead p left = cc s in ap (λ t. Some (records_of d t)) e

pub then-splits : (a b c : Option Records) (x : List ℕ) → Same a b → SplitsOff b x c → SplitsOff a x c
then-splits None b c x s h = tt
then-splits (Some all) None c x s h = cc s
then-splits (Some all) (Some same) None x s h = absurd h
then-splits (Some all) (Some same) (Some rest) x s h = let e : same ≡ all = cc s in sym e ∙ h

pub then-holds : (P : Records → Type 0) (a b : Option Records) → Same a b → IfSome b P → IfSome a P
then-holds P None b s h = tt
then-holds P (Some all) None s h = cc s
then-holds P (Some all) (Some same) s h = let e : same ≡ all = cc s in subst P e h

-- the record up to a stop
pub stop-found : (d : ℕ) (x : List ℕ) (state : Mark) (quotes is_open : Bool) → state_after d FieldStart x ≡ Some state → 0 < length x → length x ≤ record_limit → is_open ≡ is_quoted state
    → (quotes ≡ false → list_any is_special x ≡ false) → IsFound d x quotes is_open
unfolding ends_quoted
stop-found d x state quotes is_open ran some most quoted plain =
    record { is = record { state = state; ran = ran; some = some; most = most }; quoted = quoted ∙ sym (ap stops_quoted ran); plain = plain }
