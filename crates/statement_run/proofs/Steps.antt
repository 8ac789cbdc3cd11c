-- What the call of a statement answers.
use Rattle.std.proofs.Common.{◌≡◌, ◌<◌, ℕ, zero, suc, arith, length, map, inl, inr, Bool, true, false, cond, List, [], ◌∷◌, Option, Some, None, Result, Ok, Err, Vec, refl, ap, sym, ◌∙◌, subst, lit<}
use Rattle.std.specs.List.{Contains}
use Rattle.std.specs.Prelude.{IfOk, IfSome, IsSome, slice_index_or}
use Rattle.ooc_io.specs.Held.{Held}
use Rattle.ooc_types.specs.declared.value.Value.{Value}
use Rattle.ooc_types.specs.declared.schema.Column.{Column}
use Rattle.page_body.specs.Refusals.{CallFails}
use Rattle.page_body.specs.declared.fault.PoolFault.{PoolFault}
use Rattle.page_body.specs.declared.fault.PoolFault.TheVariants as pool
use Rattle.run_settings.specs.declared.status.Status.{Status}
use Rattle.run_settings.specs.declared.status.Status.TheVariants as status
use Rattle.run_settings.specs.declared.status.Place.TheVariants.{Whole, Record}
use Rattle.csv_load.specs.declared.fault.Refusal.{Refusal}
use Rattle.csv_tables.specs.declared.fault.LoadFault.{LoadFault}
use Rattle.csv_tables.specs.declared.fault.LoadFault.TheVariants as load
use Rattle.csv_tables.specs.Faults.{HasLoadCause}
use Rattle.plan_tree.specs.Planned.{Counts, plan_of_select}
use Rattle.plan_text.specs.Explained.{plan_text}
use Rattle.bound_tree.specs.declared.select.BoundSelect.{BoundSelect}
use Rattle.sql_expr.specs.declared.fault.ValueFault.{ValueFault}
use Rattle.sql_plan.specs.declared.counts.TableCount.{TableCount}
use Rattle.sql_plan.specs.Counted.{counts_in}
use Rattle.script_opening.specs.Trees.{MayCut}
use Rattle.script_says.specs.Block.{Exactly, no_block}
use Rattle.script_says.specs.Catalog.{Catalog, Table, with_rows}
use Rattle.script_says.specs.Ends.{IsStep}
use Rattle.script_says.specs.LastLine.{IsBlock}
use Rattle.script_says.specs.Outcome.{Outcome, Gives, Stops, refusal_at}
use Rattle.script_says.specs.Selecting.{Shown, Shows, Faulted, TooLarge}
use Rattle.paged_catalog.specs.Loading.{LoadsInto}
use Rattle.table_scan.specs.declared.fault.SelectFault.{SelectFault}
use Rattle.table_scan.specs.declared.fault.SelectFault.TheVariants as select
use Rattle.table_scan.specs.Outcomes.{HasCause, IsBlockOf, IsShown}
use Rattle.statement_run.specs.Causes.{HasStatementCause, HasTableCause}
use Rattle.statement_run.specs.Faults.{load_status, pool_status, select_status}
use Rattle.statement_run.specs.Running.{columns_in, copying, kind_of_fault, showing}

only : (x : Status) → Contains (x ∷ []) x
only x = (0, lit< tt, refl)

-- ---- outcomes

-- one refusal
pub step_stops : (new : Catalog) (stop seen : Status) → seen ≡ stop → IsStep (Stops (stop ∷ [])) new (Err seen)
step_stops new stop seen is = inl (stop ∷ [], refl, subst (λ (s : Status). Contains (stop ∷ []) s) (sym is) (only stop))

-- want of memory
pub step_cut : (outcome : Outcome) (new : Catalog) → IsStep outcome new (Err status.OutOfMemory)
step_cut outcome new = inr tt

pub all_cut : (holds : Option Held) (outcome : Held → Outcome) (new : Catalog) → IfSome holds (λ held. IsStep (outcome held) new (Err status.OutOfMemory))
all_cut None outcome new = tt
all_cut (Some held) outcome new = inr tt

-- tables, and nothing is printed
pub step_gives : (left new : Catalog) (text : List ℕ) → new ≡ left → text ≡ [] → IsStep (Gives left no_block) new (Ok text)
step_gives left new text is none = (no_block, ap (λ c. Gives c no_block) (sym is), none)

-- a text
pub step_prints : (catalog : Catalog) (bytes text : List ℕ) → text ≡ bytes → IsStep (Gives catalog (Exactly bytes)) catalog (Ok text)
step_prints catalog bytes text is = (Exactly bytes, refl, is)

-- it is the same whichever files are there
pub whatever : (holds : Option Held) (P : Held → Type 0) → ((held : Held) → P held) → IfSome holds P
whatever None P all = tt
whatever (Some held) P all = all held

-- ---- COPY

pub pool_cuts : (fault : PoolFault) → MayCut (pool_status fault)
pool_cuts pool.Spill = tt
pool_cuts (pool.Damaged damage) = tt
pool_cuts pool.OutOfMemory = tt

module _ (number : ℕ) (catalog new : Catalog) (name : List ℕ) where
  -- the rows that are meant
  done : (text : List ℕ) (meant : Result (List (List Value)) Refusal) → text ≡ [] → LoadsInto meant catalog name new (Ok tt) → IsStep (copying number catalog name meant) new (Ok text)
  done text meant none loads =
      subst (λ (m : Result (List (List Value)) Refusal). IsStep (copying number catalog name m) new (Ok text)) (sym loads.1) (step_gives (with_rows catalog name loads.0) new text loads.2 none)

  -- the refusal that is meant, or what may cut the run
  refused : (fault : LoadFault) (meant : Result (List (List Value)) Refusal) → LoadsInto meant catalog name new (Err fault) → IsStep (copying number catalog name meant) new (Err (load_status number fault))
  refused (load.Refused why) meant loads =
      subst (λ (m : Result (List (List Value)) Refusal). IsStep (copying number catalog name m) new (Err (load_status number (load.Refused why)))) (sym loads)
      (step_stops new (refusal_at number (Record why.number why.column) why.kind) (refusal_at number (Record why.number why.column) why.kind) refl)
  refused load.Read meant loads = inr tt
  refused (load.Pool fault) meant loads = inr (pool_cuts fault)
  refused load.OutOfMemory meant loads = inr tt

  pub load_done : (o : Option Table) (meant : List Column → Result (List (List Value)) Refusal) (text : List ℕ) → IsSome o → text ≡ [] → IfSome o (λ table. LoadsInto (meant table.columns) catalog name new (Ok tt))
      → IsStep (copying number catalog name (meant (columns_in o))) new (Ok text)
  load_done None meant text there none loads = cc
  load_done (Some table) meant text there none loads = done text (meant table.columns) none loads

  pub load_refused : (o : Option Table) (meant : List Column → Result (List (List Value)) Refusal) (fault : LoadFault) (seen : Status) → IsSome o → seen ≡ load_status number fault
      → IfSome o (λ table. LoadsInto (meant table.columns) catalog name new (Err fault)) → IsStep (copying number catalog name (meant (columns_in o))) new (Err seen)
  load_refused None meant fault seen there is loads = cc
  load_refused (Some table) meant fault seen there is loads =
      subst (λ (s : Status). IsStep (copying number catalog name (meant table.columns)) new (Err s)) (sym is) (refused fault (meant table.columns) loads)

pub load_cause : (told : Bool) (f g k m : ℕ) (number : ℕ) (fault : LoadFault) → HasLoadCause f g k m fault → HasStatementCause told f g k m (load_status number fault)
load_cause told f g k m number (load.Refused why) cause = tt
load_cause told f g k m number load.Read cause = cause
load_cause told f g k m number (load.Pool pool.Spill) cause = cause
load_cause told f g k m number (load.Pool (pool.Damaged damage)) cause = absurd cause
load_cause told f g k m number (load.Pool pool.OutOfMemory) cause = tt
load_cause told f g k m number load.OutOfMemory cause = tt

-- ---- EXPLAIN

module _ (counts : Counts) (select : BoundSelect) where
  -- by counts that are those of the tables
  pub plan_is : {A E : Type 0} (all seen : List TableCount) (r : Result (Vec ℕ A) E) → seen ≡ all → ((name : List ℕ) → counts_in all name ≡ counts name)
      → IfOk r (λ text. text.items ≡ plan_text (plan_of_select (counts_in seen) select)) → IfOk r (λ text. text.items ≡ plan_text (plan_of_select counts select))
  plan_is all seen (Err e) same are made = tt
  plan_is all seen (Ok text) same are made =
      let those : counts_in seen ≡ counts = ap counts_in same ∙ (λ k name. are name k) in
      made ∙ ap (λ (c : Counts). plan_text (plan_of_select c select)) those

  pub plan_block : (text : List ℕ) → text ≡ plan_text (plan_of_select counts select) → IsBlock text
  plan_block text is = inr (inr (plan_of_select counts select, is))

-- ---- SELECT

module _ (A : Type 0) (number : ℕ) (catalog : Catalog) where
  pub shows_step : (shown : Shown) (text : Vec ℕ A) → IsShown shown (Ok text) → IsStep (showing number catalog shown) catalog (Ok text.items)
  shows_step (Shows block) text shows = (block, refl, shows)
  shows_step (Faulted faults) text shows = absurd shows
  shows_step TooLarge text shows = absurd shows

  mapped_at : (f : ValueFault → Status) (faults : List ValueFault) (fault : ValueFault) (k : ℕ) → k < length faults → slice_index_or faults k fault ≡ fault → Contains (map f faults) (f fault)
  mapped_at f [] fault k within is = absurd (omega (arith, within))
  mapped_at f (y ∷ ys) fault zero within is = (zero, omega arith, ap f is)
  mapped_at f (y ∷ ys) fault (suc k) within is = let r = mapped_at f ys fault k (omega (arith, within)) is in let w = r.1 in (suc r.0, omega (arith, w), r.2)

  faults_step : (shown : Shown) (fault : SelectFault) → IsShown {A = A} shown (Err fault) → IsStep (showing number catalog shown) catalog (Err (select_status number fault))
  faults_step shown (select.Pool why) shows = inr (pool_cuts why)
  faults_step shown select.OutOfMemory shows = inr tt
  faults_step (Shows block) (select.Value fault) shows = absurd shows
  faults_step (Faulted faults) (select.Value fault) shows = inl (_, refl, mapped_at (λ f. refusal_at number Whole (kind_of_fault f)) faults fault shows.0 shows.1 shows.2)
  faults_step TooLarge (select.Value fault) shows = absurd shows
  faults_step (Shows block) select.TooLarge shows = absurd shows
  faults_step (Faulted faults) select.TooLarge shows = absurd shows
  faults_step TooLarge select.TooLarge shows = step_stops catalog (select_status number select.TooLarge) (select_status number select.TooLarge) refl

  pub fault_step : (shown : Shown) (fault : SelectFault) (seen : Status) → seen ≡ select_status number fault → IsShown {A = A} shown (Err fault) → IsStep (showing number catalog shown) catalog (Err seen)
  fault_step shown fault seen is shows = subst (λ (s : Status). IsStep (showing number catalog shown) catalog (Err s)) (sym is) (faults_step shown fault shows)

pub select_cause : (told : Bool) (k m number : ℕ) (fault : SelectFault) (seen : Status) → seen ≡ select_status number fault → HasCause told k m fault → HasTableCause told k m seen
select_cause told k m number fault seen is cause = subst (HasTableCause told k m) (sym is) (of fault cause)
  where
    of_pool : (why : PoolFault) → CallFails told k m why → HasTableCause told k m (pool_status why)
    of_pool pool.Spill cause = cause
    of_pool (pool.Damaged damage) cause = cause
    of_pool pool.OutOfMemory cause = tt

    of : (fault : SelectFault) → HasCause told k m fault → HasTableCause told k m (select_status number fault)
    of (select.Value value) cause = tt
    of select.TooLarge cause = tt
    of (select.Pool why) cause = of_pool why cause.1
    of select.OutOfMemory cause = tt

pub scan_block : (columns : List Column) (text : List ℕ) → IsBlockOf columns text → IsBlock text
scan_block columns text block = inr (inl (columns, block.0, block.1))

-- which of two outcomes it is
pub step_where : (b : Bool) (one other : Outcome) (new : Catalog) (result : Result (List ℕ) Status) → b ≡ true → IsStep one new result → IsStep (cond b one other) new result
step_where true one other new result is step = step
step_where false one other new result is step = cc

pub step_else : (b : Bool) (one other : Outcome) (new : Catalog) (result : Result (List ℕ) Status) → b ≡ false → IsStep other new result → IsStep (cond b one other) new result
step_else false one other new result is step = step
step_else true one other new result is step = cc

-- ---- causes

pub table_cause : (told : Bool) (f g k m : ℕ) (seen : Status) → HasTableCause told k m seen → HasStatementCause told f g k m seen
table_cause told f g k m (status.Refused r) cause = tt
table_cause told f g k m status.ReadFault cause = absurd cause
table_cause told f g k m status.SpillFault cause = cause
table_cause told f g k m (status.SpillDamaged damage) cause = cause
table_cause told f g k m status.OutOfMemory cause = tt
table_cause told f g k m status.Done cause = absurd cause
table_cause told f g k m (status.Usage fault) cause = absurd cause
table_cause told f g k m status.WriteFault cause = absurd cause

pub memory_cause : (told : Bool) (f g k m : ℕ) (seen : Status) → seen ≡ status.OutOfMemory → HasStatementCause told f g k m seen
memory_cause told f g k m seen is = subst (HasStatementCause told f g k m) (sym is) tt
