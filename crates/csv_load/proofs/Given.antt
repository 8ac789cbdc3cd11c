-- What is given of the records ahead.
use Rattle.std.proofs.Common.{◌≡◌, ◌<◌, ℕ, ◌+◌, true, false, Option, Some, None, List, length, refl, sym, ap, ◌∙◌}
use Rattle.std.proofs.lemmas.Bool.{lt-ltb, le-ltb}
use Rattle.std.specs.Prelude.{Result, Ok, Err, option_map, IfSome}
use Rattle.ooc_types.specs.declared.value.Value.{Value}
use Rattle.ooc_types.specs.declared.refusal.RefusalKind.TheVariants.{FileTooLong, RecordTooLong, OpenQuote}
use Rattle.csv_records.specs.Limits.{record_limit}
use Rattle.csv_records.specs.Table.{ends_quoted}
use Rattle.csv_records.specs.Fields.{fields}
use Rattle.csv_records.specs.Files.{Records}
use Rattle.csv_records.specs.Ahead.{Same, SplitsOff, FirstIsLong, IsRecord, no_records, with_record}
use Rattle.csv_load.specs.declared.fault.Reason.{Reason}
use Rattle.csv_load.specs.declared.fault.RowFault.{RowFault}
use Rattle.csv_load.specs.declared.fault.RowFault.TheVariants.{Refused, Read, OutOfMemory}
use Rattle.csv_load.specs.declared.fault.Refusal.{Refusal}
use Rattle.csv_records.specs.declared.fault.RecordFault.{RecordFault}
use Rattle.csv_records.specs.declared.fault.RecordFault.TheVariants as record_fault
use Rattle.csv_load.specs.Rows.{Reading, reason, refusal, rows_from, rows_behind_header, row_of, row_of_fields, record_reason}
use Rattle.csv_load.specs.Ahead.{Given, given_from, given_behind, outcome, with_next, GivesNext, GivesRow, GivesEnd, GivesRefusal, find_fault}

-- what the first record gives
pub from-next : (r : Reading) (n : ℕ) (bytes : List ℕ) (a b : Option Records) → SplitsOff a bytes b
    → GivesNext (option_map (given_from r n) a) (outcome r n bytes) (option_map (given_from r (n + 1)) b)
unfolding rows_from outcome
from-next r n bytes None b s = tt
from-next r n bytes (Some all) None s = absurd s
from-next r n bytes (Some all) (Some rest) s = ap (given_from r n) s ∙ by (row_of r bytes) refl
  where
    by : (o : Result (List Value) Reason) → row_of r bytes ≡ o → given_from r n (with_record bytes rest) ≡ with_next (outcome r n bytes) (given_from r (n + 1) rest)
    by (Ok row) e = rw (e, rows_from, outcome) refl
    by (Err why) e = rw (e, rows_from, outcome) refl

pub from-end : (r : Reading) (n : ℕ) (a : Option Records) → IfSome a (λ all. all ≡ no_records false) → GivesEnd (option_map (given_from r n) a)
unfolding rows_from
from-end r n None h = tt
from-end r n (Some all) h = rw h refl

pub from-over : (r : Reading) (n : ℕ) (a : Option Records) → IfSome a (λ all. all ≡ no_records true) → GivesRefusal (option_map (given_from r n) a) (Refused (refusal n (reason 0 FileTooLong)))
unfolding rows_from
from-over r n None h = tt
from-over r n (Some all) h = rw h refl

long-reason : (d : ℕ) (bytes : List ℕ) → record_limit < length bytes → record_reason d bytes ≡ Some (reason 0 RecordTooLong)
unfolding record_reason
long-reason d bytes long = rw (lt-ltb record_limit (length bytes) long) refl

pub reason-row : (r : Reading) (bytes : List ℕ) (why : Reason) → record_reason r.delimiter bytes ≡ Some why → row_of r bytes ≡ Err why
unfolding row_of
reason-row r bytes why e = rw (e, row_of) refl

pub from-long : (r : Reading) (n : ℕ) (a : Option Records) → IfSome a FirstIsLong → GivesRefusal (option_map (given_from r n) a) (Refused (refusal n (reason 0 RecordTooLong)))
unfolding rows_from
from-long r n None h = tt
from-long r n (Some all) h = rw (h.first, reason-row r h.bytes (reason 0 RecordTooLong) (long-reason r.delimiter h.bytes h.long), rows_from) refl

-- the header is passed
pub behind-passed : (r : Reading) (bytes : List ℕ) (a b : Option Records) → SplitsOff a bytes b → record_reason r.delimiter bytes ≡ None
    → Same (option_map (given_behind r) a) (option_map (given_from r 1) b)
unfolding rows_behind_header
behind-passed r bytes None b s e = tt
behind-passed r bytes (Some all) None s e = absurd s
behind-passed r bytes (Some all) (Some rest) s e = ap Some (sym (ap (given_behind r) s ∙ rw (e, rows_behind_header) refl))

pub behind-refused : (r : Reading) (bytes : List ℕ) (why : Reason) (a b : Option Records) → SplitsOff a bytes b → record_reason r.delimiter bytes ≡ Some why
    → GivesRefusal (option_map (given_behind r) a) (Refused (refusal 0 why))
unfolding rows_behind_header
behind-refused r bytes why None b s e = tt
behind-refused r bytes why (Some all) None s e = absurd s
behind-refused r bytes why (Some all) (Some rest) s e = rw (s, e, rows_behind_header) refl

pub behind-end : (r : Reading) (a : Option Records) → IfSome a (λ all. all ≡ no_records false) → GivesEnd (option_map (given_behind r) a)
unfolding rows_behind_header rows_from
behind-end r None h = tt
behind-end r (Some all) h = rw h refl

pub behind-over : (r : Reading) (a : Option Records) → IfSome a (λ all. all ≡ no_records true) → GivesRefusal (option_map (given_behind r) a) (Refused (refusal 0 (reason 0 FileTooLong)))
unfolding rows_behind_header rows_from
behind-over r None h = tt
behind-over r (Some all) h = rw h refl

pub behind-long : (r : Reading) (a : Option Records) → IfSome a FirstIsLong → GivesRefusal (option_map (given_behind r) a) (Refused (refusal 0 (reason 0 RecordTooLong)))
unfolding rows_behind_header
behind-long r None h = tt
behind-long r (Some all) h = rw (h.first, long-reason r.delimiter h.bytes h.long, rows_behind_header) refl

-- a record that isn't too long is refused only by an open quote
pub reason-open : (d : ℕ) (bytes : List ℕ) → IsRecord d bytes → ends_quoted d bytes ≡ true → record_reason d bytes ≡ Some (reason (length (fields d bytes)) OpenQuote)
unfolding record_reason
reason-open d bytes is open_ = rw (le-ltb record_limit (length bytes) is.most, open_) refl

pub reason-none : (d : ℕ) (bytes : List ℕ) → IsRecord d bytes → ends_quoted d bytes ≡ false → record_reason d bytes ≡ None
unfolding record_reason
reason-none d bytes is closed = rw (le-ltb record_limit (length bytes) is.most, closed) refl

-- the row of a record that isn't refused before its fields are read
pub row-read : (r : Reading) (bytes : List ℕ) → record_reason r.delimiter bytes ≡ None → row_of r bytes ≡ row_of_fields r (fields r.delimiter bytes)
unfolding row_of
row-read r bytes e = rw (e, row_of) refl

-- what is given stays as it was, and then a record of it is given
pub same-next : (a b c : Option Given) (next : Result (List Value) Refusal) → Same a b → GivesNext b next c → GivesNext a next c
same-next None b c next s h = tt
same-next (Some before) None c next s h = cc s
same-next (Some before) (Some same) None next s h = absurd h
same-next (Some before) (Some same) (Some rest) next s h = let e : same ≡ before = cc s in sym e ∙ h

-- the record gives a row, or a refusal
pub next-row : (a b : Option Given) (next : Result (List Value) Refusal) (row : List Value) → GivesNext a next b → next ≡ Ok row → GivesRow a row b
next-row None b next row h e = tt
next-row (Some before) None next row h e = absurd h
next-row (Some before) (Some rest) next row h e = h ∙ ap (λ o. with_next o rest) e

pub next-refused : (a b : Option Given) (next : Result (List Value) Refusal) (why : Refusal) → GivesNext a next b → next ≡ Err why → GivesRefusal a (Refused why)
next-refused None b next why h e = tt
next-refused (Some before) None next why h e = absurd h
next-refused (Some before) (Some rest) next why h e = h ∙ ap (λ o. with_next o rest) e

-- the row of a record
pub outcome-row : (r : Reading) (n : ℕ) (bytes : List ℕ) (row : List Value) → outcome r n bytes ≡ Ok row → row_of r bytes ≡ Ok row
unfolding outcome
outcome-row r n bytes row e = by (row_of r bytes) refl
  where
    by : (o : Result (List Value) Reason) → row_of r bytes ≡ o → row_of r bytes ≡ Ok row
    by (Ok values) is = let same : ◌≡◌ {A = Result (List Value) Refusal} (Ok values) (Ok row) = rw (is, outcome) at e in is ∙ (let v : values ≡ row = cc same in ap Ok v)
    by (Err why) is = let wrong : ◌≡◌ {A = Result (List Value) Refusal} (Err (refusal n why)) (Ok row) = rw (is, outcome) at e in cc wrong

-- what reading the record's fields tells
pub outcome-read : (r : Reading) (n : ℕ) (bytes : List ℕ) (values : List Value) → row_of r bytes ≡ Ok values → outcome r n bytes ≡ Ok values
unfolding outcome
outcome-read r n bytes values e = rw (e, outcome) refl

pub outcome-refused : (r : Reading) (n : ℕ) (bytes : List ℕ) (why : Reason) → row_of r bytes ≡ Err why → outcome r n bytes ≡ Err (refusal n why)
unfolding outcome
outcome-refused r n bytes why e = rw (e, outcome) refl

pub same-end : (a b : Option Given) → Same a b → GivesEnd b → GivesEnd a
same-end None b s h = tt
same-end (Some before) None s h = cc s
same-end (Some before) (Some same) s h = let e : same ≡ before = cc s in sym e ∙ h

-- the faults of a record that isn't found
pub from-fault : (r : Reading) (n : ℕ) (f : RecordFault) (a : Option Records) → (f ≡ record_fault.FileTooLong → IfSome a (λ all. all ≡ no_records true)) → (f ≡ record_fault.RecordTooLong → IfSome a FirstIsLong)
    → GivesRefusal (option_map (given_from r n) a) (find_fault n f)
from-fault r n record_fault.FileTooLong a over long = from-over r n a (over refl)
from-fault r n record_fault.RecordTooLong a over long = from-long r n a (long refl)
from-fault r n record_fault.Read a over long = tt
from-fault r n record_fault.OutOfMemory a over long = tt

pub behind-fault : (r : Reading) (f : RecordFault) (a : Option Records) → (f ≡ record_fault.FileTooLong → IfSome a (λ all. all ≡ no_records true)) → (f ≡ record_fault.RecordTooLong → IfSome a FirstIsLong)
    → GivesRefusal (option_map (given_behind r) a) (find_fault 0 f)
behind-fault r record_fault.FileTooLong a over long = behind-over r a (over refl)
behind-fault r record_fault.RecordTooLong a over long = behind-long r a (long refl)
behind-fault r record_fault.Read a over long = tt
behind-fault r record_fault.OutOfMemory a over long = tt

pub same-refused : (a b : Option Given) (f : RowFault) → Same a b → GivesRefusal b f → GivesRefusal a f
same-refused a b Read s h = tt
same-refused a b OutOfMemory s h = tt
same-refused None b (Refused why) s h = tt
same-refused (Some before) None (Refused why) s h = cc s
same-refused (Some before) (Some same) (Refused why) s h = let e : same ≡ before = cc s in sym e ∙ h
