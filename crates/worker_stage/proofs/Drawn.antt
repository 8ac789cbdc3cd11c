-- One item more is drawn and worked on.
use Rattle.std.proofs.Common.{◌≡◌, ℕ, List, [], ◌∷◌, ◌++◌, sym, subst}
use Rattle.std.specs.Prelude.{slice_get, Option, Some, None, IfNone}
use Rattle.worker_stage.specs.Work.{AreItems, GoesOn, Breaks, Worked, Broke}

pub items_snoc : {I : Type 0} (items : List I) (ns : List ℕ) (xs : List I) (n : ℕ) (x : I) → AreItems items ns xs → slice_get items n ≡ Some x → AreItems items (ns ++ n ∷ []) (xs ++ x ∷ [])
items_snoc items [] [] n x are is = (is, tt)
items_snoc items [] (y ∷ ys) n x are is = absurd are
items_snoc items (m ∷ ns) [] n x are is = absurd are
items_snoc items (m ∷ ns) (y ∷ ys) n x are is = (are.0, items_snoc items ns ys n x are.1 is)

module _ {W I : Type 0} (made : W → List I → W → Type 0) where
  pub begins : (items : List I) (w : W) (draws : List ℕ) → draws ≡ [] → made w [] w → Worked made items w draws w
  begins items w draws none is = subst (λ (ns : List ℕ). Worked made items w ns w) (sym none) ([], tt, is)

  pub goes_on : (items : List I) (w : W) (draws draws' : List ℕ) (n : ℕ) (x : I) (v v' : W) → Worked made items w draws v → GoesOn made x v v' → slice_get items n ≡ Some x → draws' ≡ draws ++ n ∷ [] → Worked made items w draws' v'
  goes_on items w draws draws' n x v v' so goes is more =
      subst (λ (ns : List ℕ). Worked made items w ns v') (sym more) (so.0 ++ x ∷ [], items_snoc items draws so.0 n x so.1 is, goes w so.0 so.2)

  module _ {F : Type 0} (failed : W → List I → I → F → W → Type 0) where
    pub gives_up : (items : List I) (w : W) (draws draws' : List ℕ) (n : ℕ) (x : I) (v v' : W) (fault : F) → Worked made items w draws v → Breaks made failed x fault v v' → slice_get items n ≡ Some x → draws' ≡ draws ++ n ∷ []
        → Broke made failed items w draws' fault v'
    gives_up items w draws draws' n x v v' fault so breaks is more =
        record { done = draws; last = n; is = more; xs = so.0; x = x; before = so.1; here = is; broke = breaks w so.0 so.2 }

pub if_none : {A P : Type 0} (r : Option A) → P → IfNone r P
if_none None p = p
if_none (Some x) p = tt
