-- How a run goes on from statement to statement, and how it ends.
use Rattle.std.proofs.Common.{◌≡◌, ℕ, ◌+◌, ◌⊎◌, inl, inr, List, [], ◌∷◌, ◌++◌, Option, Result, Ok, Err, refl, sym, ap, ◌∙◌, append_assoc, append-nil, subst, lit<}
use Rattle.std.specs.List.{Contains}
use Rattle.std.specs.FinMap.{get}
use Rattle.std.specs.Io.KnownBytes.{Appends}
use Rattle.ooc_io.specs.Held.{Held}
use Rattle.sql_grammar.specs.declared.tree.statement.Statement.{Statement}
use Rattle.run_settings.specs.declared.settings.Settings.{Settings}
use Rattle.run_settings.specs.declared.status.Status.{Status}
use Rattle.run_settings.specs.declared.status.Status.TheVariants.{Done, Usage, ReadFault, WriteFault, OutOfMemory}
use Rattle.run_settings.specs.declared.status.UsageFault.{UsageFault}
use Rattle.run_settings.specs.Lines.{line_of}
use Rattle.script_opening.specs.Trees.{MayCut}
use Rattle.script_opening.specs.Opened.{ScriptText}
use Rattle.script_says.specs.Catalog.{Catalog, no_tables}
use Rattle.script_says.specs.Block.{Block, IsPrinted}
use Rattle.script_says.specs.Outcome.{Outcome, Gives, Stops, Does}
use Rattle.script_says.specs.Runs.{Goes, Run, WritesScript, Writes, IsWritten, ends_after, run_ends, EndsScript, Ends, EndsOrCut}
use Rattle.script_says.specs.Ends.{EndsWith, EndsBy, EndsAs}
use Rattle.script_says.proofs.Known.{Appends-then}

-- a run may be cut at any statement
pub Run-cut : (does : Does) (closing : List ℕ) (number : ℕ) (catalog : Catalog) (ss : List Statement) (status : Status) → MayCut status → Run does closing number catalog ss (line_of status) status
Run-cut does closing number catalog [] status may = inr (may, refl)
Run-cut does closing number catalog (s ∷ ss) status may = inr (may, refl)

-- the run of one statement and then of the others
pub Run-ran : (does : Does) (closing : List ℕ) (number : ℕ) (catalog next : Catalog) (s : Statement) (ss : List Statement) (block : Block) (text more : List ℕ) (status : Status) → does number catalog s ≡ Gives next block → IsPrinted block text → Run does closing (number + 1) next ss more status → Run does closing number catalog (s ∷ ss) (text ++ more) status
Run-ran does closing number catalog next s ss block text more status gives printed run =
    inl (subst (λ (o : Outcome). Goes o (λ next more. Run does closing (number + 1) next ss more status) (text ++ more) status) (sym gives) (text, more, printed, refl, run))

pub Run-stopped : (does : Does) (closing : List ℕ) (number : ℕ) (catalog : Catalog) (s : Statement) (ss : List Statement) (stops : List Status) (status : Status) → does number catalog s ≡ Stops stops → Contains stops status → Run does closing number catalog (s ∷ ss) (line_of status) status
Run-stopped does closing number catalog s ss stops status is among =
    inl (subst (λ (o : Outcome). Goes o (λ next more. Run does closing (number + 1) next ss more status) (line_of status) status) (sym is) (among, refl))

-- what may be written, so far and then the text that ends the run
pub ends_run : (may : List ℕ → Status → Type 0) (old mid new : Option (List ℕ)) (done text : List ℕ) (status result : Status) → Appends old mid done → may (done ++ text) status → may (done ++ line_of OutOfMemory) OutOfMemory → EndsWith mid new text status result → (out : List ℕ) × Appends old new out × IsWritten may out result
ends_run may old mid new done text status result so_far ends memory e = (
  done ++ e.front,
  Appends-then old mid new done e.front so_far e.appended,
  record {
    whole = e.whole;
    lost = e.lost;
    allowed = subst (λ (t : List ℕ). may t e.whole) (ap (λ (t : List ℕ). done ++ t) (sym e.parts) ∙ sym (append_assoc done e.front e.lost)) (allowed e.which);
    ends = e.ends;
  },
)
  where
    allowed : ((e.whole ≡ status) × (e.all ≡ text)) ⊎ ((e.whole ≡ OutOfMemory) × (e.all ≡ line_of OutOfMemory)) → may (done ++ e.all) e.whole
    allowed (inl is) = rw (is.0, is.1) ends
    allowed (inr is) = rw (is.0, is.1) memory

-- the line of want of memory may stand in place of another
pub ends_in_memory : (old new : Option (List ℕ)) (text : List ℕ) (status result : Status) → EndsWith old new (line_of OutOfMemory) OutOfMemory result → EndsWith old new text status result
ends_in_memory old new text status result e = record {
  whole = e.whole;
  all = e.all;
  which = inr (memory e.which);
  front = e.front;
  lost = e.lost;
  parts = e.parts;
  appended = e.appended;
  ends = e.ends;
}
  where
    memory : ((e.whole ≡ OutOfMemory) × (e.all ≡ line_of OutOfMemory)) ⊎ ((e.whole ≡ OutOfMemory) × (e.all ≡ line_of OutOfMemory)) → (e.whole ≡ OutOfMemory) × (e.all ≡ line_of OutOfMemory)
    memory (inl is) = is
    memory (inr is) = is

-- a run that isn't cut ends as the definition has it
Contains-only : (x : Status) → Contains (x ∷ []) x
Contains-only x = (0, lit< tt, refl)

Goes-ends : (o : Outcome) (rest : Catalog → List ℕ → Type 0) (out : List ℕ) (status : Status) (ends : Catalog → List Status) → ((next : Catalog) (more : List ℕ) → rest next more → Contains (ends next) status ⊎ MayCut status) → Goes o rest out status → Contains (ends_after o ends) status ⊎ MayCut status
Goes-ends (Stops stops) rest out status ends f g = inl g.0
Goes-ends (Gives next block) rest out status ends f g = f next g.1 g.4

pub Run-ends : (does : Does) (closing : List ℕ) (number : ℕ) (catalog : Catalog) (ss : List Statement) (out : List ℕ) (status : Status) → Run does closing number catalog ss out status → Contains (run_ends does number catalog ss) status ⊎ MayCut status
Run-ends does closing number catalog [] out status (inl h) = inl (subst (λ (s : Status). Contains (Done ∷ []) s) (sym h.0) (Contains-only Done))
Run-ends does closing number catalog [] out status (inr h) = inr h.0
Run-ends does closing number catalog (s ∷ ss) out status (inl h) =
    Goes-ends (does number catalog s) (λ next more. Run does closing (number + 1) next ss more status) out status (λ next. run_ends does (number + 1) next ss) (λ next more run. Run-ends does closing (number + 1) next ss more status run) h
Run-ends does closing number catalog (s ∷ ss) out status (inr h) = inr h.0

script_ends : (does : List ℕ → Does) (closing : List ℕ) (file : Option (List ℕ)) (out : List ℕ) (status : Status) → WritesScript does closing file out status → EndsScript does file status ⊎ MayCut status
script_ends does closing file out status (inl h) = inl (inl (h.0, h.1, h.2))
script_ends does closing file out status (inr (inr h)) = inr h.0
script_ends does closing file out status (inr (inl h)) =
    elim (Run-ends (does h.0.bytes) closing 1 no_tables h.0.script.statements out status h.2) as (λ _. EndsScript does file status ⊎ MayCut status) [
      | inl among ↦ inl (inr (h.0, h.1, among))
      | inr may ↦ inr may
    ]

pub Writes-ends : (does : Settings → List ℕ → Does) (closing : List ℕ) (set : Result Settings UsageFault) (held : Held) (out : List ℕ) (status : Status) → Writes does closing set held out status → Ends does set held status ⊎ MayCut status
Writes-ends does closing (Ok s) held out status h = script_ends (does s) closing (get held s.script) out status h
Writes-ends does closing (Err fault) held out status h = h.0

-- a written run ends as the definition has it, or was cut, or its output failed
pub ended : (does : Settings → List ℕ → Does) (closing : List ℕ) (set : Result Settings UsageFault) (held : Held) (out : List ℕ) (status : Status) → IsWritten (Writes does closing set held) out status → EndsOrCut does set held status
ended does closing set held out status w = at w.ends
  where
    whole : status ≡ w.whole → Ends does set held w.whole ⊎ MayCut w.whole → EndsOrCut does set held status
    whole is (inl ends) = inl (rw is ends)
    whole is (inr may) = inr (inl (rw is may))

    at : ((status ≡ w.whole) × (w.lost ≡ [])) ⊎ (status ≡ WriteFault) → EndsOrCut does set held status
    at (inr failed) = inr (inr failed)
    at (inl is) = whole is.0 (Writes-ends does closing set held (out ++ w.lost) w.whole w.allowed)

-- a run that was to end with its line did so, unless memory ran out or the output failed
pub ends_as : (old new : Option (List ℕ)) (text : List ℕ) (status result : Status) → EndsWith old new text status result → EndsAs status result
ends_as old new text status result e = at e.ends
  where
    which : result ≡ e.whole → ((e.whole ≡ status) × (e.all ≡ text)) ⊎ ((e.whole ≡ OutOfMemory) × (e.all ≡ line_of OutOfMemory)) → EndsAs status result
    which is (inl same) = inl (is ∙ same.0)
    which is (inr memory) = inr (inl (is ∙ memory.0))

    at : ((result ≡ e.whole) × (e.lost ≡ [])) ⊎ (result ≡ WriteFault) → EndsAs status result
    at (inr failed) = inr (inr failed)
    at (inl is) = which is.0 e.which

-- a run that ends with a read fault has its line
pub read_line : (old new : Option (List ℕ)) (status result : Status) → EndsBy old new status result → result ≡ ReadFault → EndsBy old new ReadFault result
read_line old new status result e is = subst (λ (s : Status). EndsBy old new s result) (at e.ends) e
  where
    which : result ≡ e.whole → ((e.whole ≡ status) × (e.all ≡ line_of status)) ⊎ ((e.whole ≡ OutOfMemory) × (e.all ≡ line_of OutOfMemory)) → status ≡ ReadFault
    which ends (inl same) = sym same.0 ∙ sym ends ∙ is
    which ends (inr memory) = let h = sym memory.0 ∙ sym ends ∙ is in cc

    at : ((result ≡ e.whole) × (e.lost ≡ [])) ⊎ (result ≡ WriteFault) → status ≡ ReadFault
    at (inl ends) = which ends.0 e.which
    at (inr failed) = let h = sym failed ∙ is in cc
