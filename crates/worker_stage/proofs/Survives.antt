-- What one worker's work leaves as it was, or keeps true, is so for all, whether or not one gave up.
use Rattle.std.proofs.Common.{◌≡◌, ℕ, zero, suc, List, [], ◌∷◌, map, All, refl, ap, ◌∙◌, arith}
use Rattle.std.specs.Prelude.{Option, Some, None}
use Rattle.worker_stage.specs.Stage.{MadeAll, IsDone, Ended, EndedAll, IsBroken}

-- R holds of what each worker was and is
abbrev pub AllBeside : {W : Type 0} → (W → W → Type 0) → List W → List W → Type 0
AllBeside R [] [] = Unit {0}
AllBeside R (w ∷ ws) (v ∷ vs) = R w v × AllBeside R ws vs
AllBeside R ws vs = ⊥

module _ {W I : Type 0} (made : W → List I → W → Type 0) (R : W → W → Type 0) (says : (w : W) (xs : List I) (v : W) → made w xs v → R w v) where
  made_beside : (ws : List W) (xss : List (List I)) (vs : List W) → MadeAll made ws xss vs → AllBeside R ws vs
  made_beside [] [] [] each = tt
  made_beside [] [] (v ∷ vs) each = absurd each
  made_beside [] (xs ∷ xss) vs each = absurd each
  made_beside (w ∷ ws) [] vs each = absurd each
  made_beside (w ∷ ws) (xs ∷ xss) [] each = absurd each
  made_beside (w ∷ ws) (xs ∷ xss) (v ∷ vs) each = (says w xs v each.0, made_beside ws xss vs each.1)

  pub done_beside : (items : List I) (ws vs : List W) → IsDone made items ws vs → AllBeside R ws vs
  done_beside items ws vs is = made_beside ws is.lists vs is.each

  module _ {F : Type 0} (failed : W → List I → I → F → W → Type 0) (breaks : (w : W) (xs : List I) (x : I) (fault : F) (v : W) → failed w xs x fault v → R w v) where
    ended_one : (items : List I) (w : W) (ns : List ℕ) (f : Option F) (v : W) → Ended made failed items w ns f v → R w v
    ended_one items w ns None v ended = says w ended.0 v ended.2
    ended_one items w ns (Some fault) v ended = breaks w ended.2 ended.3 fault v ended.7

    ended_beside : (items : List I) (ws : List W) (nss : List (List ℕ)) (fs : List (Option F)) (vs : List W) → EndedAll made failed items ws nss fs vs → AllBeside R ws vs
    ended_beside items [] [] [] [] each = tt
    ended_beside items [] [] [] (v ∷ vs) each = absurd each
    ended_beside items [] [] (f ∷ fs) vs each = absurd each
    ended_beside items [] (ns ∷ nss) fs vs each = absurd each
    ended_beside items (w ∷ ws) [] fs vs each = absurd each
    ended_beside items (w ∷ ws) (ns ∷ nss) [] vs each = absurd each
    ended_beside items (w ∷ ws) (ns ∷ nss) (f ∷ fs) [] each = absurd each
    ended_beside items (w ∷ ws) (ns ∷ nss) (f ∷ fs) (v ∷ vs) each = (ended_one items w ns f v each.0, ended_beside items ws nss fs vs each.1)

    pub broken_beside : (items : List I) (ws : List W) (number : ℕ) (fault : F) (drawn : ℕ) (vs : List W) → IsBroken made failed items ws number fault drawn vs → AllBeside R ws vs
    broken_beside items ws number fault drawn vs is = ended_beside items ws is.numbers is.faults vs is.each

-- what stays is one equation of lists
pub beside_same : {W X : Type 0} (what : W → X) (ws vs : List W) → AllBeside (λ w v. what v ≡ what w) ws vs → map what vs ≡ map what ws
beside_same what [] [] same = refl
beside_same what [] (v ∷ vs) same = absurd same
beside_same what (w ∷ ws) [] same = absurd same
beside_same {X} what (w ∷ ws) (v ∷ vs) same = ap (λ (x : X). x ∷ map what vs) same.0 ∙ ap (λ (xs : List X). what w ∷ xs) (beside_same what ws vs same.1)

-- what is kept true is true of all
pub beside_all : {W : Type 0} (P : W → Type 0) (ws vs : List W) → AllBeside (λ w v. P w → P v) ws vs → All P ws → All P vs
beside_all P [] [] keeps all = all
beside_all P [] (v ∷ vs) keeps all = absurd keeps
beside_all P (w ∷ ws) [] keeps all = absurd keeps
beside_all P (w ∷ ws) (v ∷ vs) keeps all = cons (keeps.0 (all 0 w (omega arith))) (beside_all P ws vs keeps.1 (λ k d lt. all (suc k) d (omega (arith, lt))))
  where
    cons : P v → All P vs → All P (v ∷ vs)
    cons first rest zero d lt = first
    cons first rest (suc k) d lt = rest k d (omega (arith, lt))
