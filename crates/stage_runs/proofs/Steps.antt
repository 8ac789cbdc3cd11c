-- One number more, and what a stage keeps.
use Rattle.std.proofs.Common.{◌≡◌, ℕ, ◌%◌, List, [], ◌∷◌, ◌++◌, map, refl, sym, ap, ◌∙◌, append_assoc}
use Rattle.std.specs.Prelude.{flat_map, OnOk, IfErr, Result, Ok, Err}
use Rattle.worker_stage.specs.Stage.{IsDone, RefusedAt, StageRefused, HandRefused}
use Rattle.worker_stage.specs.declared.stage.HandFault.{HandFault}
use Rattle.worker_stage.specs.declared.stage.StageFault.{StageFault}
use Rattle.worker_stage.specs.declared.stage.StageFault.TheVariants.{OutOfMemory, Worker}
use Rattle.worker_stage.proofs.Survives.{AllBeside, done_beside, broken_beside, beside_same}
use Rattle.stage_runs.specs.declared.sevens.Sevens.{Sevens}
use Rattle.stage_runs.specs.declared.sevens.SevensFault.{SevensFault}
use Rattle.stage_runs.specs.Sevens.{rows_of, sevens, limit_of, Made, Failed}

sevens_snoc : (n : ℕ) (ns : List ℕ) → flat_map sevens (ns ++ n ∷ []) ≡ flat_map sevens ns ++ (n % 7) ∷ []
sevens_snoc n [] = refl
sevens_snoc n (m ∷ ns) = ap (λ (xs : List ℕ). (m % 7) ∷ xs) (sevens_snoc n ns)

pub one_more : (w : Sevens) (ns : List ℕ) (v u : Sevens) (n : ℕ) → Made w ns v → rows_of u ≡ rows_of v ++ (n % 7) ∷ [] → u.limit ≡ v.limit → Made w (ns ++ n ∷ []) u
one_more w ns v u n made rows limit = record {
  rows = rows ∙ (ap (λ (xs : List ℕ). xs ++ (n % 7) ∷ []) made.rows ∙ (append_assoc (rows_of w) (flat_map sevens ns) ((n % 7) ∷ []) ∙ ap (λ (xs : List ℕ). rows_of w ++ xs) (sym (sevens_snoc n ns))));
  limit = limit ∙ made.limit;
}

pub none_more : (w : Sevens) (ns : List ℕ) (v u : Sevens) → Made w ns v → rows_of u ≡ rows_of v → u.limit ≡ v.limit → Made w ns u
none_more w ns v u made rows limit = record { rows = rows ∙ made.rows; limit = limit ∙ made.limit }

done_limits : (items : List ℕ) (ws vs : List Sevens) → IsDone Made items ws vs → map limit_of vs ≡ map limit_of ws
done_limits items ws vs is = beside_same limit_of ws vs (done_beside Made (λ w v. v.limit ≡ w.limit) (λ w xs v (made : Made w xs v). made.limit) items ws vs is)

refused_limits : (items : List ℕ) (ws vs : List Sevens) (e : StageFault SevensFault) (drawn : ℕ) → RefusedAt Made Failed items ws e drawn vs → map limit_of vs ≡ map limit_of ws
refused_limits items ws vs OutOfMemory drawn is = ap (map limit_of) is
refused_limits items ws vs (Worker number fault) drawn is =
    beside_same limit_of ws vs
    (broken_beside Made (λ w v. v.limit ≡ w.limit) (λ w xs v (made : Made w xs v). made.limit) Failed (λ w xs x f v (failed : Failed w xs x f v). failed.kept.limit) items ws number fault drawn vs is)

pub limits : (items : List ℕ) (ws vs : List Sevens) (r : Result (Unit {0}) (StageFault SevensFault)) → OnOk r (IsDone Made items ws vs) → IfErr r (λ e. StageRefused Made Failed items ws e vs) → map limit_of vs ≡ map limit_of ws
limits items ws vs (Ok u) done refused = done_limits items ws vs done
limits items ws vs (Err e) done refused = refused_limits items ws vs e refused.0 refused.1

pub hand_limits : (items : List ℕ) (ws vs : List Sevens) (r : Result (Unit {0}) (HandFault SevensFault ℕ)) → OnOk r (IsDone Made items ws vs) → IfErr r (λ e. HandRefused Made Failed items ws e vs) → map limit_of vs ≡ map limit_of ws
hand_limits items ws vs (Ok u) done refused = done_limits items ws vs done
hand_limits items ws vs (Err e) done refused = refused_limits items ws vs e.fault refused.0 refused.1

pub on_ok : {A E P Q : Type 0} (r : Result A E) → (P → Q) → OnOk r P → OnOk r Q
on_ok (Ok x) f p = f p
on_ok (Err e) f p = tt
