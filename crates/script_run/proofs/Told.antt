-- A run over files that tell, statement by statement.
use Rattle.std.proofs.Common.{◌≡◌, ℕ, ◌+◌, ◌<◌, zero, suc, List, [], ◌∷◌, ◌++◌, length, get_or, Option, None, Some, Result, Ok, Err, sym, subst, arith}
use Rattle.std.specs.Prelude.{IfSome}
use Rattle.std.specs.List.{AllByRecursion}
use Rattle.std.specs.Io.KnownBytes.{Appends}
use Rattle.ooc_io.specs.Held.{Held}
use Rattle.sql_grammar.specs.declared.tree.statement.Statement.{Statement}
use Rattle.run_settings.specs.declared.status.Status.{Status}
use Rattle.run_settings.specs.declared.status.Status.TheVariants.{Done, WriteFault}
use Rattle.script_says.specs.Catalog.{Catalog}
use Rattle.script_says.specs.Ends.{EndsBy, IsStep}
use Rattle.script_says.specs.Runs.{Run, IsWritten}
use Rattle.script_says.proofs.Endings.{text_written}
use Rattle.script_says.proofs.SoFar.{SoFar, Appends-none, SoFar-none, block_written, block_lost, run_stopped, run_done}
use Rattle.statement_run.specs.Running.{run_statement, run_closing}

-- what holds of each item of a list holds of the one at a place
pub at_place : {A : Type 0} (P : A → Type 0) (xs : List A) (i : ℕ) (x : A) → AllByRecursion P xs → i < length xs → x ≡ get_or xs i x → P x
at_place P [] i x all within is = absurd (omega (arith, within))
at_place P (y ∷ ys) zero x all within is = subst P (sym is) all.0
at_place P (y ∷ ys) (suc i) x all within is = at_place P ys i x all.1 (omega (arith, within)) is

-- two facts of what there is give a third
pub if_both : {A : Type 0} (o : Option A) {P Q R : A → Type 0} → IfSome o P → IfSome o Q → ((x : A) → P x → Q x → R x) → IfSome o R
if_both None p q f = tt
if_both (Some x) p q f = f x p q

pub one_more : {A : Type 0} (o : Option A) {P Q : A → Type 0} → IfSome o P → ((x : A) → P x → Q x) → IfSome o Q
one_more None p f = tt
one_more (Some x) p f = f x p

pub always : {A : Type 0} (o : Option A) {P : A → Type 0} → ((x : A) → P x) → IfSome o P
always None f = tt
always (Some x) f = f x

-- A run of all statements over the tables `first`, over pages of so many bytes.
module _ (page : ℕ) (script : List ℕ) (first : Catalog) (all : List Statement) where
  abbrev pub may : Held → List ℕ → Status → Type 0
  may held = Run (run_statement held page script) run_closing 1 first all

  abbrev pub ToldSoFar : Option Held → ℕ → Catalog → List Statement → Option (List ℕ) → Option (List ℕ) → Type 0
  ToldSoFar holds number catalog left old mid = IfSome holds (λ held. SoFar (may held) (Run (run_statement held page script) run_closing number catalog left) old mid)

  abbrev pub IsSaid : Option Held → Option (List ℕ) → Option (List ℕ) → Status → Type 0
  IsSaid holds old new status = IfSome holds (λ held. (more : List ℕ) × Appends old new more × IsWritten (may held) more status)

  pub told_none : (holds : Option Held) (old : Option (List ℕ)) → ToldSoFar holds 1 first all old old
  told_none holds old = always holds (λ held. SoFar-none (may held) old)

  -- The step of a statement speaks of the files and of the pages at that moment, which are those of the beginning.
  abbrev pub IsStepNow : Option Held → ℕ → ℕ → Catalog → Statement → Catalog → Result (List ℕ) Status → Type 0
  IsStepNow now bytes number catalog s new r = IfSome now (λ held. IsStep (run_statement held bytes script number catalog s) new r)

  module _ (holds now : Option Held) (same : now ≡ holds) (bytes : ℕ) (same_bytes : bytes ≡ page) (number : ℕ) (catalog new : Catalog) (s : Statement) where
    pub step_of_first : (r : Result (List ℕ) Status) → IsStepNow now bytes number catalog s new r → IsStepNow holds page number catalog s new r
    step_of_first r step =
        subst (λ (o : Option Held). IsStepNow o page number catalog s new r) same
        (subst (λ (n : ℕ). IsStepNow now n number catalog s new r) same_bytes step)

    module _ (left ss : List Statement) (is : left ≡ s ∷ ss) (old mid later : Option (List ℕ)) (so_far : ToldSoFar holds number catalog left old mid) where
      -- its block was written
      pub told_written : (text : List ℕ) → IsStepNow now bytes number catalog s new (Ok text) → Appends mid later text → ToldSoFar holds (number + 1) new ss old later
      told_written text step appended =
          if_both holds so_far (step_of_first (Ok text) step)
          (λ held f h. block_written (run_statement held page script) run_closing (may held) number catalog new s left ss is old mid later f text h appended)

      -- the output failed within it
      pub told_lost : (text : List ℕ) → IsStepNow now bytes number catalog s new (Ok text) → (front rest : List ℕ) × (front ++ rest ≡ text) × Appends mid later front → IsSaid holds old later WriteFault
      told_lost text step broken =
          if_both holds so_far (step_of_first (Ok text) step)
          (λ held f h. block_lost (run_statement held page script) run_closing (may held) number catalog new s left ss is old mid later f text h broken)

      -- it was refused, or cut the run
      pub told_stopped : (status result : Status) → IsStepNow now bytes number catalog s new (Err status) → EndsBy mid later status result → IsSaid holds old later result
      told_stopped status result step line =
          if_both holds so_far (step_of_first (Err status) step)
          (λ held f h. run_stopped (run_statement held page script) run_closing (may held) number catalog new s left ss is old mid later f status result h line)

  -- no statement is left
  pub told_done : (holds : Option Held) (number : ℕ) (catalog : Catalog) (left : List Statement) (old mid : Option (List ℕ)) → left ≡ [] → ToldSoFar holds number catalog left old mid → IsSaid holds old mid Done
  told_done holds number catalog left old mid none so_far =
      one_more holds so_far
      (λ held f. run_done (run_statement held page script) run_closing (may held) number catalog left old mid mid Done none f (text_written mid mid run_closing Done (Appends-none mid)))
