-- Parts behind one another.
use Rattle.std.proofs.Common.{◌≡◌, ℕ, zero, suc, ◌+◌, ◌<◌, List, [], ◌∷◌, ◌++◌, Result, Ok, Err, refl, sym, ap, subst, ◌∙◌, take, get_or, length, arith, append_assoc, append-nil}
use Rattle.std.specs.List.{flat_map}
use Rattle.std.specs.Prelude.{OnOk, OnErr}
use Rattle.ooc_decimal.specs.Kept.{KeepsFront}
use Rattle.plan_text.specs.Going.{Continues, IsWhole}

pub keeps_all : (old : List ℕ) → KeepsFront old old
keeps_all old = record { rest = []; front = sym (append-nil old) }

pub all_kept : {A E : Type 0} (r : Result A E) (old : List ℕ) → OnErr r (KeepsFront old old)
all_kept (Err e) old = keeps_all old
all_kept (Ok a) old = tt

pub keeps_then : {a b c : List ℕ} → KeepsFront a b → KeepsFront b c → KeepsFront a c
keeps_then {a} {b} {c} v w = record { rest = v.rest ++ w.rest; front = w.front ∙ ap (λ l. l ++ w.rest) v.front ∙ append_assoc a v.rest w.rest }

pub nothing_more : {A E : Type 0} (r : Result A E) (old : List ℕ) → Continues r old [] r old
nothing_more r old = record { whole = λ h. (h, sym (append-nil old)); front = keeps_all old }

pub and_then : {A E : Type 0} {before middle after : Result A E} {a b c s t : List ℕ} → Continues before a s middle b → Continues middle b t after c → Continues before a (s ++ t) after c
and_then {A} {E} {before} {middle} {after} {a} {b} {c} {s} {t} v w = record {
  whole = λ h. let m = w.whole h in let l = v.whole m.0 in (l.0, m.1 ∙ ap (λ x. x ++ t) l.1 ∙ append_assoc a s t);
  front = keeps_then v.front w.front;
}

-- the same part, said otherwise
pub same_part : {A E : Type 0} {before after : Result A E} {a c s t : List ℕ} → s ≡ t → Continues before a s after c → Continues before a t after c
same_part {A} {E} {before} {after} {a} {c} {s} {t} e v = record { whole = λ h. let l = v.whole h in (l.0, l.1 ∙ ap (λ x. a ++ x) e); front = v.front }

-- where memory ran out before
pub stopped : {A E : Type 0} {before : Result A E} {e f : E} {old part : List ℕ} → before ≡ Err e → Continues before old part (Err f) old
stopped {A} {E} {before} {e} {f} {old} {part} is = record { whole = λ h. absurd h; front = keeps_all old }

-- a part that is written behind all others
pub went_on : {A E : Type 0} {before r : Result A E} {u : A} {old part new : List ℕ} → before ≡ Ok u → OnOk r (new ≡ old ++ part) → OnErr r (KeepsFront old new) → Continues before old part r new
went_on {A} {E} {before} {r = Err e} {u} {old} {part} {new} is ok err = record { whole = λ h. absurd h; front = err }
went_on {A} {E} {before} {r = Ok v} {u} {old} {part} {new} is ok err =
    record { whole = λ h. (subst IsWhole (sym is) tt, ok); front = record { rest = part; front = ok } }

pub all_written : {A E : Type 0} {u : A} {r : Result A E} {old part new : List ℕ} → Continues (Ok u) old part r new → OnOk r (new ≡ old ++ part)
all_written {A} {E} {u} {r = Err e} v = tt
all_written {A} {E} {u} {r = Ok x} v = (v.whole tt).1

pub front_kept : {A E : Type 0} {before r : Result A E} {old part new : List ℕ} → Continues before old part r new → OnErr r (KeepsFront old new)
front_kept {A} {E} {before} {r = Err e} v = v.front
front_kept {A} {E} {before} {r = Ok x} v = tt

pub flat_next : {X : Type 0} (f : X → List ℕ) (xs : List X) (i : ℕ) (x : X) → i < length xs → x ≡ get_or xs i x → flat_map f (take i xs) ++ f x ≡ flat_map f (take (i + 1) xs)
flat_next f [] i x h is = absurd (omega arith)
flat_next f (y ∷ xs) zero x h is = ap f is ∙ sym (append-nil (f y))
flat_next f (y ∷ xs) (suc i) x h is =
    let next : suc (i + 1) ≡ suc i + 1 = omega arith in
    append_assoc (f y) (flat_map f (take i xs)) (f x) ∙ ap (λ l. f y ++ l) (flat_next f xs i x (omega arith) is) ∙ ap (λ n. flat_map f (take n (y ∷ xs))) next
