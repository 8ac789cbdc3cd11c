-- What a run has written so far, and how it goes on.
use Rattle.std.proofs.Common.{◌≡◌, ℕ, ◌+◌, ◌⊎◌, inl, inr, List, [], ◌∷◌, ◌++◌, length, drop, Option, None, Some, refl, sym, ap, ◌∙◌, append_assoc, append-nil, subst, Ok, Err, get_or, suc, ◌<◌, drop-cons, add-one}
use Rattle.std.specs.List.{Contains}
use Rattle.std.specs.Io.KnownBytes.{Appends}
use Rattle.sql_grammar.specs.declared.tree.statement.Statement.{Statement}
use Rattle.run_settings.specs.declared.status.Status.{Status}
use Rattle.run_settings.specs.declared.status.Status.TheVariants.{Done, WriteFault, OutOfMemory}
use Rattle.run_settings.specs.Lines.{line_of}
use Rattle.script_says.specs.Catalog.{Catalog}
use Rattle.script_says.specs.Outcome.{Outcome, Does}
use Rattle.script_says.specs.Runs.{Run, IsWritten}
use Rattle.script_says.specs.Ends.{EndsWith, EndsBy, IsStep}
use Rattle.script_says.proofs.Known.{Appends-then}
use Rattle.script_says.proofs.RunLemmas.{Run-cut, Run-ran, Run-stopped, ends_run}

-- Some bytes were appended, and what may be written from here on may be written behind them.
pub record SoFar (may from : List ℕ → Status → Type 0) (old new : Option (List ℕ)) : Type 0 where
  pub done : List ℕ
  pub appended : Appends old new done
  pub goes_on : (more : List ℕ) (status : Status) → from more status → may (done ++ more) status

pub Appends-none : (old : Option (List ℕ)) → Appends old old []
Appends-none None = tt
Appends-none (Some xs) = sym (append-nil xs)

pub SoFar-none : (may : List ℕ → Status → Type 0) (old : Option (List ℕ)) → SoFar may may old old
SoFar-none may old = record { done = []; appended = Appends-none old; goes_on = λ more status h. h }

-- a text was appended, behind which what may be written from here on may be written
pub SoFar-then : (may from next : List ℕ → Status → Type 0) (old mid new : Option (List ℕ)) (text : List ℕ) → SoFar may from old mid → Appends mid new text → ((more : List ℕ) (status : Status) → next more status → from (text ++ more) status) → SoFar may next old new
SoFar-then may from next old mid new text s appended step = record {
  done = s.done ++ text;
  appended = Appends-then old mid new s.done text s.appended appended;
  goes_on = λ more status h. subst (λ (t : List ℕ). may t status) (sym (append_assoc s.done text more)) (s.goes_on (text ++ more) status (step more status h));
}

pub SoFar-ends : (may from : List ℕ → Status → Type 0) (old mid new : Option (List ℕ)) (text : List ℕ) (status result : Status) → SoFar may from old mid → from text status → from (line_of OutOfMemory) OutOfMemory → EndsWith mid new text status result → (out : List ℕ) × Appends old new out × IsWritten may out result
SoFar-ends may from old mid new text status result s allowed memory e =
    ends_run may old mid new s.done text status result s.appended (s.goes_on text status allowed) (s.goes_on (line_of OutOfMemory) OutOfMemory memory) e

-- the output failed within a text
pub SoFar-lost : (may from : List ℕ → Status → Type 0) (old mid new : Option (List ℕ)) (front rest : List ℕ) (whole : Status) → SoFar may from old mid → Appends mid new front → from (front ++ rest) whole → (out : List ℕ) × Appends old new out × IsWritten may out WriteFault
SoFar-lost may from old mid new front rest whole s appended allowed = (
  s.done ++ front,
  Appends-then old mid new s.done front s.appended appended,
  record {
    whole = whole;
    lost = rest;
    allowed = subst (λ (t : List ℕ). may t whole) (sym (append_assoc s.done front rest)) (s.goes_on (front ++ rest) whole allowed);
    ends = inr refl;
  },
)

-- the items from one on: that item, and those behind it
pub drop_next : {A : Type 0} (xs : List A) (i : ℕ) (x : A) → i < length xs → x ≡ get_or xs i x → drop i xs ≡ x ∷ drop (i + 1) xs
drop_next xs i x within is = drop-cons xs i x within ∙ rw (add-one i) (ap (λ y. y ∷ drop (suc i) xs) (sym is))

-- A run of all statements, of which those from a number on are left: `left` are they, over these tables.
module _ (does : Does) (closing : List ℕ) (may : List ℕ → Status → Type 0) where
  abbrev pub run_from : ℕ → Catalog → List Statement → List ℕ → Status → Type 0
  run_from number catalog ss = Run does closing number catalog ss

  module _ (number : ℕ) (catalog new : Catalog) (s : Statement) (left ss : List Statement) (is : left ≡ s ∷ ss) (old mid now : Option (List ℕ)) (so_far : SoFar may (run_from number catalog left) old mid) where
    at_first : SoFar may (run_from number catalog (s ∷ ss)) old mid
    at_first = subst (λ (xs : List Statement). SoFar may (run_from number catalog xs) old mid) is so_far

    -- its block was appended
    pub block_written : (text : List ℕ) → IsStep (does number catalog s) new (Ok text) → Appends mid now text → SoFar may (run_from (number + 1) new ss) old now
    block_written text step appended =
        SoFar-then may (run_from number catalog (s ∷ ss)) (run_from (number + 1) new ss) old mid now text at_first appended
        (λ more status h. Run-ran does closing number catalog new s ss step.0 text more status step.1 step.2 h)

    -- the output failed within its block
    pub block_lost : (text : List ℕ) → IsStep (does number catalog s) new (Ok text) → (front rest : List ℕ) × (front ++ rest ≡ text) × Appends mid now front → (out : List ℕ) × Appends old now out × IsWritten may out WriteFault
    block_lost text step broken =
        SoFar-lost may (run_from number catalog (s ∷ ss)) old mid now broken.0 (broken.1 ++ line_of OutOfMemory) OutOfMemory at_first broken.3
        (subst (λ (t : List ℕ). run_from number catalog (s ∷ ss) t OutOfMemory) (ap (λ (t : List ℕ). t ++ line_of OutOfMemory) (sym broken.2) ∙ append_assoc broken.0 broken.1 (line_of OutOfMemory))
        (Run-ran does closing number catalog new s ss step.0 text (line_of OutOfMemory) OutOfMemory step.1 step.2 (Run-cut does closing (number + 1) new ss OutOfMemory tt)))

    stops_here : (status : Status) → IsStep (does number catalog s) new (Err status) → run_from number catalog (s ∷ ss) (line_of status) status
    stops_here status (inl stops) = Run-stopped does closing number catalog s ss stops.0 status stops.1 stops.2
    stops_here status (inr cut) = Run-cut does closing number catalog (s ∷ ss) status cut

    -- it was refused, or cut the run
    pub run_stopped : (status result : Status) → IsStep (does number catalog s) new (Err status) → EndsBy mid now status result → (out : List ℕ) × Appends old now out × IsWritten may out result
    run_stopped status result step line =
        SoFar-ends may (run_from number catalog (s ∷ ss)) old mid now (line_of status) status result at_first (stops_here status step) (Run-cut does closing number catalog (s ∷ ss) OutOfMemory tt) line

  -- no statement is left
  pub run_done : (number : ℕ) (catalog : Catalog) (left : List Statement) (old mid now : Option (List ℕ)) (result : Status) → left ≡ [] → SoFar may (run_from number catalog left) old mid → EndsWith mid now closing Done result → (out : List ℕ) × Appends old now out × IsWritten may out result
  run_done number catalog left old mid now result none so_far line =
      SoFar-ends may (run_from number catalog left) old mid now closing Done result so_far
      (subst (λ (xs : List Statement). run_from number catalog xs closing Done) (sym none) (inl (refl, refl))) (Run-cut does closing number catalog left OutOfMemory tt) line
