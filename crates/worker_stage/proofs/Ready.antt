-- Desks that are seated, with workers that begin, are ready; and what each desk's job leaves holds along the list.
use Rattle.std.proofs.Common.{◌≡◌, ℕ, zero, suc, ◌<◌, List, [], ◌∷◌, length, All, arith, subst, sym}
use Rattle.std.specs.Prelude.{slice_index_or}
use Rattle.worker_stage.specs.Source.{SeatSeen}
use Rattle.worker_stage.specs.Desks.{workers, IsFresh, IsReady, AllSeated, AllSat, Ran, RanAll}
use Rattle.worker_stage.specs.declared.desk.Desk.{Desk}

all_cons : {A : Type 0} (P : A → Type 0) (x : A) (xs : List A) → P x → All P xs → All P (x ∷ xs)
all_cons P x xs first rest zero d lt = first
all_cons P x xs first rest (suc k) d lt = rest k d (omega (arith, lt))

module _ {W I S F : Type 0} (made : W → List I → W → Type 0) (takes : W → I → Type 0) (owns : S → Type 0) (seen : S → SeatSeen) (items : List I) where
  pub ready : (ds : List (Desk W S F)) → AllSeated owns seen ds → All (IsFresh made takes items) (workers ds) → All (IsReady made takes owns seen items) ds
  ready [] seated fresh = λ k d lt. absurd (omega (arith, lt))
  ready (d ∷ ds) seated fresh =
      all_cons (IsReady made takes owns seen items) d ds (seated.0, seated.1, fresh 0 d.worker (omega arith)) (ready ds seated.2 (λ j w l. fresh (suc j) w (omega (arith, l))))

  pub ready_at : (ds es : List (Desk W S F)) → AllSeated owns seen es → workers es ≡ workers ds → All (IsFresh made takes items) (workers ds) → All (IsReady made takes owns seen items) es
  ready_at ds es seated same fresh = ready es seated (subst (All (IsFresh made takes items)) (sym same) fresh)

module _ {W I S F : Type 0} (made : W → List I → W → Type 0) (failed : W → List I → I → F → W → Type 0) (owns : S → Type 0) (seen : S → SeatSeen) (items : List I) where
  pub ran_all : (ds es : List (Desk W S F)) → length es ≡ length ds
      → ((i : ℕ) (d : Desk W S F) → i < length ds → Ran made failed owns seen items (slice_index_or ds i d).worker (slice_index_or es i d))
      → RanAll made failed owns seen items (workers ds) es
  ran_all [] [] same each = tt
  ran_all [] (e ∷ es) same each = absurd (omega (arith, same))
  ran_all (d ∷ ds) [] same each = absurd (omega (arith, same))
  ran_all (d ∷ ds) (e ∷ es) same each = (each 0 d (omega arith), ran_all ds es (omega (arith, same)) (λ i x lt. each (suc i) x (omega (arith, lt))))

  pub moved : (x x' y y' : Desk W S F) → x ≡ x' → y ≡ y' → Ran made failed owns seen items x.worker y → Ran made failed owns seen items x'.worker y'
  moved x x' y y' e e' ran = subst (λ (d : Desk W S F). Ran made failed owns seen items d.worker y') e (subst (λ (d : Desk W S F). Ran made failed owns seen items x.worker d) e' ran)

  pub sat : (ws : List W) (es : List (Desk W S F)) → RanAll made failed owns seen items ws es → AllSat owns seen es
  sat ws [] ran = tt
  sat [] (e ∷ es) ran = absurd ran
  sat (w ∷ ws) (e ∷ es) ran = (ran.0.seat, sat ws es ran.1)
