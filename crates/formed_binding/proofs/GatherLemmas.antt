-- The different aggregates of a core: each once, as written, and each call's column is that of its aggregate.
use Rattle.std.proofs.Common.{◌≡◌, ℕ, zero, suc, ◌+◌, ◌-◌, ◌<◌, ◌≤◌, Bool, true, false, ◌==◌, nat_le, List, [], ◌∷◌, ◌++◌, map, length, refl, sym, ap, ◌∙◌, subst, Option, Some, None, cond, arith, inl, inr}
use Rattle.std.specs.Prelude.{◌||◌, ◌&&◌, ◌⊎◌, not, slice_get}
use Rattle.std.specs.Option.{option_map}
use Rattle.std.specs.List.{AllByRecursion}
use Rattle.std.proofs.lemmas.Bool.{and_parts, leb-true}
use Rattle.ooc_types.specs.declared.schema.SqlType.{SqlType}
use Rattle.sql_expr.specs.declared.tree.Expr.{Expr}
use Rattle.sql_expr.specs.Kinds.{kind_of}
use Rattle.bound_tree.specs.declared.kinds.AggregateKind.{AggregateKind}
use Rattle.bound_tree.specs.declared.kinds.AggregateKind.TheVariants.{CountRows, Count, CountDistinct, Sum, Min, Max}
use Rattle.bound_tree.specs.declared.select.Aggregate.{Aggregate}
use Rattle.sql_scope.specs.declared.part.Call.{Call}
use Rattle.sql_scope.specs.Equality.{same}
use Rattle.sql_scope.proofs.Sameness.{equal-same, same-equal}
use Rattle.sql_clauses.specs.Aggregates.{are_unmixed, gathered, gathered_from, has_distinct, has_other, is_distinct, place_from, same_aggregate, same_argument, same_kind, with_aggregate, with_call}
use Rattle.sql_expr.specs.Typing.{IsTyped}
use Rattle.sql_clauses.specs.Grouping.{group_place, is_of_call, key_from, over_group}
use Rattle.formed_binding.specs.Covered.{Covered}
use Rattle.formed_binding.proofs.TreeLemmas.{over-typed}
use Rattle.typed_scope.specs.Typed.{IsCalled, IsTypedOver, seen_of}
use Rattle.well_formed.specs.Aggregates.{AreDifferent, AreSame, IsAggregate, StandsAlone, aggregate_type}
use Rattle.formed_binding.specs.Parts.{calls_at, one_if}
use Rattle.formed_binding.proofs.TableLemmas.{all-behind, false-of}

-- ---- the same aggregate

kinds-same : (k l : AggregateKind) → k ≡ l → same_kind k l ≡ true
kinds-same CountRows l is = subst (λ (x : AggregateKind). same_kind CountRows x ≡ true) is refl
kinds-same Count l is = subst (λ (x : AggregateKind). same_kind Count x ≡ true) is refl
kinds-same CountDistinct l is = subst (λ (x : AggregateKind). same_kind CountDistinct x ≡ true) is refl
kinds-same Sum l is = subst (λ (x : AggregateKind). same_kind Sum x ≡ true) is refl
kinds-same Min l is = subst (λ (x : AggregateKind). same_kind Min x ≡ true) is refl
kinds-same Max l is = subst (λ (x : AggregateKind). same_kind Max x ≡ true) is refl

same-kinds : (k l : AggregateKind) → same_kind k l ≡ true → k ≡ l
same-kinds CountRows CountRows e = refl
same-kinds Count Count e = refl
same-kinds CountDistinct CountDistinct e = refl
same-kinds Sum Sum e = refl
same-kinds Min Min e = refl
same-kinds Max Max e = refl
same-kinds _ _ e = cc

arguments-same : (a b : Option Expr) → a ≡ b → same_argument a b ≡ true
arguments-same None b is = subst (λ (x : Option Expr). same_argument None x ≡ true) is refl
arguments-same (Some e) b is = subst (λ (x : Option Expr). same_argument (Some e) x ≡ true) is (same-equal e e refl)

same-arguments : (a b : Option Expr) → same_argument a b ≡ true → a ≡ b
same-arguments None None e = refl
same-arguments None (Some b) e = cc
same-arguments (Some a) None e = cc
same-arguments (Some a) (Some b) e = ap Some (equal-same a b e)

both-true : (a b : Bool) → a ≡ true → b ≡ true → (a && b) ≡ true
both-true true b p q = q
both-true false b p q = cc

pub told-same : (a b : Aggregate) → AreSame a b → same_aggregate a b ≡ true
told-same a b is = both-true (same_kind a.kind b.kind) (same_argument a.of b.of) (kinds-same a.kind b.kind is.0) (arguments-same a.of b.of is.1)

pub same-told : (a b : Aggregate) → same_aggregate a b ≡ true → AreSame a b
same-told a b e = let p = and_parts (same_kind a.kind b.kind) (same_argument a.of b.of) e in (same-kinds a.kind b.kind p.0, same-arguments a.of b.of p.1)

-- ---- a place among others

-- it is another than each of these
abbrev IsNew : List Aggregate → Aggregate → Type 0
IsNew aggregates aggregate = AllByRecursion (λ other. AreSame other aggregate → ⊥) aggregates

-- where it is among them, or that it is new
record Placed (at : ℕ) (aggregates : List Aggregate) (aggregate : Aggregate) (place : ℕ) : Type 0 where
  found : (place < at + length aggregates) → (i : ℕ) × ((place ≡ at + i) × ((a : Aggregate) × ((slice_get aggregates i ≡ Some a) × AreSame a aggregate)))
  new : (at + length aggregates ≤ place) → IsNew aggregates aggregate
  within : place ≤ at + length aggregates

placed : (at : ℕ) (aggregates : List Aggregate) (aggregate : Aggregate) → Placed at aggregates aggregate (place_from at aggregates aggregate)
placed at [] aggregate = record { found = λ h. absurd (omega arith); new = λ h. tt; within = omega arith }
placed at (other ∷ others) aggregate = by (same_aggregate other aggregate) refl (placed (at + 1) others aggregate)
  where
    by : (b : Bool) → same_aggregate other aggregate ≡ b → Placed (at + 1) others aggregate (place_from (at + 1) others aggregate) → Placed at (other ∷ others) aggregate (cond b at (place_from (at + 1) others aggregate))
    by true e next = record {
      found = λ h. (0, (omega arith, (other, (refl, same-told other aggregate e))));
      new = λ h. absurd (omega arith);
      within = omega arith;
    }
    by false e next = record {
      found = λ h. let f = next.found (omega arith) in let p = f.1.0 in (suc f.0, (omega arith, f.1.1));
      new = λ h. (λ is. let t = told-same other aggregate is in cc, next.new (omega arith));
      within = let w = next.within in omega arith;
    }

different-behind : (aggregates : List Aggregate) (aggregate : Aggregate) → AreDifferent aggregates → IsNew aggregates aggregate → AreDifferent (aggregates ++ aggregate ∷ [])
different-behind [] aggregate different new = (tt, tt)
different-behind (first ∷ aggregates) aggregate different new =
    (all-behind (λ other. AreSame first other → ⊥) aggregates aggregate different.0 new.0, different-behind aggregates aggregate different.1 new.1)

-- ---- all of them

pub different-next : (aggregates : List Aggregate) (aggregate : Aggregate) → AreDifferent aggregates → AreDifferent (with_aggregate aggregates (place_from 0 aggregates aggregate) aggregate)
different-next aggregates aggregate different = by (nat_le (length aggregates) (place_from 0 aggregates aggregate)) refl
  where
    by : (b : Bool) → nat_le (length aggregates) (place_from 0 aggregates aggregate) ≡ b → AreDifferent (cond b (aggregates ++ aggregate ∷ []) aggregates)
    by true e = let l : length aggregates ≤ place_from 0 aggregates aggregate = leb-true (length aggregates) (place_from 0 aggregates aggregate) e in
        different-behind aggregates aggregate different ((placed 0 aggregates aggregate).new (omega arith))
    by false e = different

pub all-next : (P : Aggregate → Type 0) (aggregates : List Aggregate) (place : ℕ) (aggregate : Aggregate) → AllByRecursion P aggregates → P aggregate → AllByRecursion P (with_aggregate aggregates place aggregate)
all-next P aggregates place aggregate all one = by (nat_le (length aggregates) place)
  where
    by : (b : Bool) → AllByRecursion P (cond b (aggregates ++ aggregate ∷ []) aggregates)
    by true = all-behind P aggregates aggregate all one
    by false = all

pub different-from : (all : _) (calls : List Call) → AreDifferent (gathered_from all []).aggregates → AreDifferent (gathered_from all calls).aggregates
different-from all [] different = different
different-from all (call ∷ calls) different = different-from (with_call all call) calls (different-next all.aggregates call.aggregate different)

pub all-from : (P : Aggregate → Type 0) (all : _) (calls : List Call) → AllByRecursion P (gathered_from all []).aggregates → AllByRecursion (λ (call : Call). P call.aggregate) calls → AllByRecursion P (gathered_from all calls).aggregates
all-from P all [] have each = have
all-from P all (call ∷ calls) have each =
    all-from P (with_call all call) calls (all-next P all.aggregates (place_from 0 all.aggregates call.aggregate) call.aggregate have each.0) each.1

-- ---- count(DISTINCT x) stands alone

neither : (a b : Bool) → (a || b) ≡ false → (a ≡ false) × (b ≡ false)
neither true b e = cc
neither false b e = (refl, e)

no-distinct : (calls : List Call) → has_distinct calls ≡ false → AllByRecursion (λ (call : Call). call.aggregate.kind ≡ CountDistinct → ⊥) calls
no-distinct [] e = tt
no-distinct (call ∷ calls) e =
    let p = neither (is_distinct call.aggregate.kind) (has_distinct calls) e in
    (λ is. let t : is_distinct call.aggregate.kind ≡ true = ap is_distinct is in cc, no-distinct calls p.1)

not-false : (b : Bool) → not b ≡ false → b ≡ true
not-false true e = refl
not-false false e = cc

-- all are the first one
stays : (first : Aggregate) (all : _) (calls : List Call) → (gathered_from all []).aggregates ≡ first ∷ [] → has_other first calls ≡ false → (gathered_from all calls).aggregates ≡ first ∷ []
stays first all [] is other = is
stays first all (call ∷ calls) is other =
    let p = neither (not (same_aggregate first call.aggregate)) (has_other first calls) other in
    let s = not-false (same_aggregate first call.aggregate) p.0 in
    let place : place_from 0 all.aggregates call.aggregate ≡ 0 =
    ap (λ (list : List Aggregate). place_from 0 list call.aggregate) is ∙ ap (λ (b : Bool). cond b 0 1) s in
    stays first (with_call all call) calls
    (ap (λ (n : ℕ). with_aggregate all.aggregates n call.aggregate) place ∙ ap (λ (list : List Aggregate). with_aggregate list 0 call.aggregate) is) p.1

alone-none : (whole aggregates : List Aggregate) → AllByRecursion (λ a. a.kind ≡ CountDistinct → ⊥) aggregates → AllByRecursion (StandsAlone whole) aggregates
alone-none whole [] all = tt
alone-none whole (a ∷ aggregates) all = (λ is. absurd (all.0 is), alone-none whole aggregates all.1)

alone-one : (whole aggregates : List Aggregate) → length whole ≡ 1 → AllByRecursion (StandsAlone whole) aggregates
alone-one whole [] one = tt
alone-one whole (a ∷ aggregates) one = (λ is. one, alone-one whole aggregates one)

pub alone : (calls : List Call) → are_unmixed calls ≡ true → AllByRecursion (StandsAlone (gathered calls).aggregates) (gathered calls).aggregates
alone [] e = tt
alone (first ∷ calls) e =
    by (has_distinct (first ∷ calls)) (has_other first.aggregate (first ∷ calls)) refl refl (false-of (has_distinct (first ∷ calls) && has_other first.aggregate (first ∷ calls)) e)
  where
    by : (d o : Bool) → has_distinct (first ∷ calls) ≡ d → has_other first.aggregate (first ∷ calls) ≡ o → (d && o) ≡ false → AllByRecursion (StandsAlone (gathered (first ∷ calls)).aggregates) (gathered (first ∷ calls)).aggregates
    by false o d_is o_is e =
        alone-none (gathered (first ∷ calls)).aggregates (gathered (first ∷ calls)).aggregates
        (all-from (λ a. a.kind ≡ CountDistinct → ⊥) (record { aggregates = []; calls = [] }) (first ∷ calls) tt (no-distinct (first ∷ calls) d_is))
    by true true d_is o_is e = cc
    by true false d_is o_is e =
        let p = neither (not (same_aggregate first.aggregate first.aggregate)) (has_other first.aggregate calls) o_is in
        alone-one (gathered (first ∷ calls)).aggregates (gathered (first ∷ calls)).aggregates
        (ap length (stays first.aggregate (with_call (record { aggregates = []; calls = [] }) first) calls refl p.1))

-- ---- the column of each call

-- the first call at a place is this aggregate's
abbrev Found : {A : Type 0} → List A → (A → ℕ) → (A → ℕ) → ℕ → ℕ → Type 0
Found [] p a place i = ⊥
Found (call ∷ calls) p a place i = ((p call ≡ place) × (a call ≡ i)) ⊎ ((p call ≡ place → ⊥) × Found calls p a place i)

abbrev columns_at : {A : Type 0} → List A → (A → ℕ) → ℕ → ℕ
columns_at [] p place = 0
columns_at (call ∷ calls) p place = one_if (p call == place) + columns_at calls p place

found-more : {A : Type 0} (calls : List A) (p a : A → ℕ) (other : A) (place i : ℕ) → Found calls p a place i → Found (calls ++ other ∷ []) p a place i
found-more [] p a other place i f = absurd f
found-more (call ∷ calls) p a other place i (inl here) = inl here
found-more (call ∷ calls) p a other place i (inr later) = inr (later.0, found-more calls p a other place i later.1)

equal-number : (m n : ℕ) → (m == n) ≡ true → m ≡ n
equal-number m n e = grind arith

same-number : (m n : ℕ) → m ≡ n → (m == n) ≡ true
same-number m n e = grind arith

found-new : {A : Type 0} (calls : List A) (p a : A → ℕ) (other : A) → columns_at calls p (p other) ≡ 0 → Found (calls ++ other ∷ []) p a (p other) (a other)
found-new [] p a other none = inl (refl, refl)
found-new (call ∷ calls) p a other none =
    inr (λ is. let t = same-number (p call) (p other) is in let h : one_if (p call == p other) ≡ 1 = ap one_if t in absurd (omega arith), found-new calls p a other (omega arith))

columns-more : {A : Type 0} (calls : List A) (p : A → ℕ) (other : A) (place : ℕ) → columns_at (calls ++ other ∷ []) p place ≡ columns_at calls p place + one_if (p other == place)
columns-more [] p other place = omega arith
columns-more (call ∷ calls) p other place = let h = columns-more calls p other place in omega arith

slice-more : {A : Type 0} (xs ys : List A) (i : ℕ) (a : A) → slice_get xs i ≡ Some a → slice_get (xs ++ ys) i ≡ Some a
slice-more [] ys i a is = cc
slice-more (x ∷ xs) ys zero a is = is
slice-more (x ∷ xs) ys (suc i) a is = slice-more xs ys i a is

slice-next : {A : Type 0} (xs : List A) (a : A) → slice_get (xs ++ a ∷ []) (length xs) ≡ Some a
slice-next [] a = refl
slice-next (x ∷ xs) a = slice-next xs a

pub slice-behind : {A : Type 0} (xs ys : List A) (i : ℕ) → slice_get (xs ++ ys) (length xs + i) ≡ slice_get ys i
slice-behind [] ys i = ap (slice_get ys) (let e : 0 + i ≡ i = omega arith in e)
slice-behind (x ∷ xs) ys i = ap (slice_get (x ∷ (xs ++ ys))) (let e : suc (length xs) + i ≡ suc (length xs + i) = omega arith in e) ∙ slice-behind xs ys i

slice-map : {A B : Type 0} (f : A → B) (xs : List A) (i : ℕ) (a : A) → slice_get xs i ≡ Some a → slice_get (map f xs) i ≡ Some (f a)
slice-map f [] i a is = cc
slice-map f (x ∷ xs) zero a is = let e : x ≡ a = cc in ap (λ b. Some (f b)) e
slice-map f (x ∷ xs) (suc i) a is = slice-map f xs i a is

abbrev result_of : Aggregate → SqlType
result_of a = a.result

record Known {A : Type 0} (aggregates : List Aggregate) (calls : List A) (p a : A → ℕ) (place : ℕ) (kind : SqlType) : Type 0 where
  at : ℕ
  found : Found calls p a place at
  shown : (aggregate : Aggregate) × ((slice_get aggregates at ≡ Some aggregate) × (aggregate.result ≡ kind))

known-more : {A : Type 0} (aggregates : List Aggregate) (calls : List A) (p a : A → ℕ) (n : ℕ) (aggregate : Aggregate) (other : A) (place : ℕ) (kind : SqlType) → Known aggregates calls p a place kind
    → Known (with_aggregate aggregates n aggregate) (calls ++ other ∷ []) p a place kind
known-more aggregates calls p a n aggregate other place kind k = record {
  at = k.at;
  found = found-more calls p a other place k.at k.found;
  shown = (k.shown.0, (by (nat_le (length aggregates) n), k.shown.1.1));
}
  where
    by : (b : Bool) → slice_get (cond b (aggregates ++ aggregate ∷ []) aggregates) k.at ≡ Some k.shown.0
    by true = slice-more aggregates (aggregate ∷ []) k.at k.shown.0 k.shown.1.0
    by false = k.shown.1.0

abbrev KnownIn : (all : _) → (place : ℕ) → (kind : SqlType) → (same : gathered_from all [] ≡ gathered_from all []) → Type 0
KnownIn all place kind same = Known all.aggregates all.calls (λ c. c.place) (λ c. c.at) place kind

known-from : (all : _) (calls : List Call) (place : ℕ) (kind : SqlType) → KnownIn all place kind refl → KnownIn (gathered_from all calls) place kind refl
known-from all [] place kind k = k
known-from all (call ∷ calls) place kind k =
    known-from (with_call all call) calls place kind
    (known-more all.aggregates all.calls (λ c. c.place) (λ c. c.at) (place_from 0 all.aggregates call.aggregate) call.aggregate (record { place = call.place; at = place_from 0 all.aggregates call.aggregate }) place kind k)

module _ (limit : ℕ) (columns : List SqlType) where
  result-same : (a b : Aggregate) → IsAggregate limit columns a → IsAggregate limit columns b → AreSame a b → a.result ≡ b.result
  result-same a b p q same =
      let e : Some a.result ≡ Some b.result = sym p.result ∙ ap (λ (k : AggregateKind). aggregate_type k (option_map kind_of a.of)) same.0 ∙ ap (λ (o : Option Expr). aggregate_type b.kind (option_map kind_of o)) same.1 ∙ q.result in
      cc

  known-here : (all : _) (call : Call) → AllByRecursion (IsAggregate limit columns) (gathered_from all []).aggregates → IsAggregate limit columns call.aggregate → columns_at all.calls (λ c. c.place) call.place ≡ 0
      → KnownIn (with_call all call) call.place call.aggregate.result refl
  known-here all call have is none = record {
    at = place_from 0 all.aggregates call.aggregate;
    found = found-new all.calls (λ c. c.place) (λ c. c.at) (record { place = call.place; at = place_from 0 all.aggregates call.aggregate }) none;
    shown = by (nat_le (length all.aggregates) (place_from 0 all.aggregates call.aggregate)) refl;
  }
    where
      among : (list : List Aggregate) (i : ℕ) (a : Aggregate) → AllByRecursion (IsAggregate limit columns) list → slice_get list i ≡ Some a → IsAggregate limit columns a
      among [] i a all is = cc
      among (x ∷ list) zero a all is = let e : x ≡ a = cc in subst (IsAggregate limit columns) e all.0
      among (x ∷ list) (suc i) a all is = among list i a all.1 is

      by : (b : Bool) → nat_le (length all.aggregates) (place_from 0 all.aggregates call.aggregate) ≡ b
          → (a : Aggregate) × ((slice_get (cond b (all.aggregates ++ call.aggregate ∷ []) all.aggregates) (place_from 0 all.aggregates call.aggregate) ≡ Some a) × (a.result ≡ call.aggregate.result))
      by true e =
          let low : length all.aggregates ≤ place_from 0 all.aggregates call.aggregate = leb-true (length all.aggregates) (place_from 0 all.aggregates call.aggregate) e in
          let high = (placed 0 all.aggregates call.aggregate).within in
          let n : length all.aggregates ≡ place_from 0 all.aggregates call.aggregate = omega arith in
          (call.aggregate, (subst (λ (i : ℕ). slice_get (all.aggregates ++ call.aggregate ∷ []) i ≡ Some call.aggregate) n (slice-next all.aggregates call.aggregate), refl))
      by false e =
          let low : place_from 0 all.aggregates call.aggregate < length all.aggregates = below (length all.aggregates) (place_from 0 all.aggregates call.aggregate) e in
          let f = (placed 0 all.aggregates call.aggregate).found (omega arith) in
          let i : f.0 ≡ place_from 0 all.aggregates call.aggregate = let h = f.1.0 in omega arith in
          let a = f.1.1.0 in
          (a, (subst (λ (j : ℕ). slice_get all.aggregates j ≡ Some a) i f.1.1.1.0, result-same a call.aggregate (among all.aggregates f.0 a have f.1.1.1.0) is f.1.1.1.1))
        where
          below : (m n : ℕ) → nat_le m n ≡ false → n < m
          below m n e = grind arith

  known-all : (all : _) (calls : List Call) → AllByRecursion (IsAggregate limit columns) (gathered_from all []).aggregates → AllByRecursion (λ (call : Call). IsAggregate limit columns call.aggregate) calls
      → ((place : ℕ) → columns_at all.calls (λ c. c.place) place + calls_at calls place ≤ 1) → AllByRecursion (λ (call : Call). KnownIn (gathered_from all calls) call.place call.aggregate.result refl) calls
  known-all all [] have each few = tt
  known-all all (call ∷ calls) have each few =
      let one : one_if (call.place == call.place) ≡ 1 = ap one_if (same-number call.place call.place refl) in
      let here = few call.place in
      let none : columns_at all.calls (λ c. c.place) call.place ≡ 0 = omega arith in (
        known-from (with_call all call) calls call.place call.aggregate.result (known-here all call have each.0 none),
        known-all (with_call all call) calls (all-next (IsAggregate limit columns) all.aggregates (place_from 0 all.aggregates call.aggregate) call.aggregate have each.0) each.1
            (λ place. let f = few place in let m = columns-more all.calls (λ c. c.place) (record { place = call.place; at = place_from 0 all.aggregates call.aggregate }) place in omega arith),
      )

-- where a call is found, its column stands behind the keys
other-call : (width place : ℕ) (call : _) (b : Bool) → is_of_call width (width + place) call ≡ b → (call.place ≡ place → ⊥) → b ≡ false
other-call width place call false e differs = refl
other-call width place call true e differs =
    let p = and_parts (nat_le width (width + place)) ((width + place) - width == call.place) e in
    absurd (differs (let h : (width + place) - width ≡ call.place = equal-number ((width + place) - width) call.place p.1 in omega arith))

this-call : (width place : ℕ) (call : _) (b : Bool) → is_of_call width (width + place) call ≡ b → call.place ≡ place → b ≡ true
this-call width place call true e is = refl
this-call width place call false e is =
    let t : is_of_call width (width + place) call ≡ true = both-true (nat_le width (width + place)) ((width + place) - width == call.place) (grind arith) (same-number ((width + place) - width) call.place (omega arith)) in cc

found-place : (keys width : ℕ) (calls : _) (place i n : ℕ) → group_place keys width calls (width + place) ≡ n → Found calls (λ c. c.place) (λ c. c.at) place i → n ≡ keys + i
found-place keys width [] place i n is f = absurd f
found-place keys width (call ∷ calls) place i n is (inl here) =
    sym is ∙ ap (λ (b : Bool). cond b (keys + call.at) (group_place keys width calls (width + place))) (this-call width place call (is_of_call width (width + place) call) refl here.0) ∙ ap (λ (m : ℕ). keys + m) here.1
found-place keys width (call ∷ calls) place i n is (inr later) =
    found-place keys width calls place i n
    (sym (ap (λ (b : Bool). cond b (keys + call.at) (group_place keys width calls (width + place))) (other-call width place call (is_of_call width (width + place) call) refl later.0)) ∙ is) later.1

-- ---- keys

pub key-kind : (at : ℕ) (keys : List Expr) (e : Expr) (key : ℕ) → Some key ≡ key_from at keys e → (i : ℕ) × ((key ≡ at + i) × (slice_get (map kind_of keys) i ≡ Some (kind_of e)))
key-kind at [] e key is = cc
key-kind at (first ∷ keys) e key is = by (same first e) refl (λ later. key-kind (at + 1) keys e key later) is
  where
    by : (b : Bool) → same first e ≡ b → (Some key ≡ key_from (at + 1) keys e → (i : ℕ) × ((key ≡ (at + 1) + i) × (slice_get (map kind_of keys) i ≡ Some (kind_of e))))
        → Some key ≡ cond b (Some at) (key_from (at + 1) keys e) → (i : ℕ) × ((key ≡ at + i) × (slice_get (map kind_of (first ∷ keys)) i ≡ Some (kind_of e)))
    by true s later is = let n : key ≡ at = cc in (0, (omega arith, ap (λ (x : Expr). Some (kind_of x)) (equal-same first e s)))
    by false s later is = let l = later is in let p = l.1.0 in (suc l.0, (omega arith, l.1.1))

-- ---- the row of a group has the columns of the keys, and those of the calls

pub group-key : (keys : List Expr) (more : List SqlType) (e : Expr) (key : ℕ) → Some key ≡ key_from 0 keys e → slice_get (map kind_of keys ++ more) key ≡ Some (kind_of e)
group-key keys more e key is =
    let k = key-kind 0 keys e key is in
    let n : k.0 ≡ key = let h = k.1.0 in omega arith in
    subst (λ (i : ℕ). slice_get (map kind_of keys ++ more) i ≡ Some (kind_of e)) n (slice-more (map kind_of keys) more k.0 (kind_of e) k.1.1)

pub length-map : {A B : Type 0} (f : A → B) (xs : List A) → length (map f xs) ≡ length xs
length-map f [] = refl
length-map f (x ∷ xs) = ap suc (length-map f xs)

group-known : (keys : List Expr) (width : ℕ) (all : _) (place : ℕ) (kind : SqlType) → KnownIn all place kind refl
    → slice_get (map kind_of keys ++ map (λ aggregate. aggregate.result) all.aggregates) (group_place (length keys) width all.calls (width + place)) ≡ Some kind
group-known keys width all place kind k =
    let results = map (λ (aggregate : Aggregate). aggregate.result) all.aggregates in
    ap (slice_get (map kind_of keys ++ results)) (found-place (length keys) width all.calls place k.at (group_place (length keys) width all.calls (width + place)) refl k.found)
    ∙ ap (λ (n : ℕ). slice_get (map kind_of keys ++ results) (n + k.at)) (sym (length-map kind_of keys))
    ∙ slice-behind (map kind_of keys) results k.at
    ∙ slice-map (λ (aggregate : Aggregate). aggregate.result) all.aggregates k.at k.shown.0 k.shown.1.0
    ∙ ap Some k.shown.1.1

called-known : (keys : List Expr) (width : ℕ) (all : _) (calls : List Call) (place : ℕ) (kind : SqlType) → AllByRecursion (λ (call : Call). KnownIn all call.place call.aggregate.result refl) calls → IsCalled width calls place kind
    → slice_get (map kind_of keys ++ map (λ aggregate. aggregate.result) all.aggregates) (group_place (length keys) width all.calls place) ≡ Some kind
called-known keys width all [] place kind known called = absurd called
called-known keys width all (call ∷ calls) place kind known (inl here) =
    subst (λ (k : SqlType). slice_get (map kind_of keys ++ map (λ (aggregate : Aggregate). aggregate.result) all.aggregates) (group_place (length keys) width all.calls place) ≡ Some k) (sym here.1)
    (subst (λ (p : ℕ). slice_get (map kind_of keys ++ map (λ (aggregate : Aggregate). aggregate.result) all.aggregates) (group_place (length keys) width all.calls p) ≡ Some call.aggregate.result) (sym here.0)
    (group-known keys width all call.place call.aggregate.result known.0))
called-known keys width all (call ∷ calls) place kind known (inr later) = called-known keys width all calls place kind known.1 later

beyond : (columns : List SqlType) (place : ℕ) (kind : SqlType) → length columns ≤ place → slice_get columns place ≡ Some kind → ⊥
beyond [] place kind h is = cc
beyond (k ∷ columns) zero kind h is = omega arith
beyond (k ∷ columns) (suc place) kind h is = beyond columns place kind (omega arith) is

pub group-call : (limit : ℕ) (columns : List SqlType) (keys : List Expr) (calls : List Call) → AllByRecursion (λ (call : Call). IsAggregate limit columns call.aggregate) calls → ((place : ℕ) → calls_at calls place ≤ 1)
    → (place : ℕ) (kind : SqlType) → length columns ≤ place → seen_of columns calls place kind
    → slice_get (map kind_of keys ++ map (λ aggregate. aggregate.result) (gathered calls).aggregates) (group_place (length keys) (length columns) (gathered calls).calls place) ≡ Some kind
group-call limit columns keys calls each few place kind h (inl is) = absurd (beyond columns place kind h is)
group-call limit columns keys calls each few place kind h (inr called) =
    called-known keys (length columns) (gathered calls) calls place kind
    (known-all limit columns (record { aggregates = []; calls = [] }) calls tt each (λ at. let f = few at in omega arith)) called

pub group-typed : (limit : ℕ) (columns : List SqlType) (keys : List Expr) (calls : List Call) (e : Expr) → AllByRecursion (λ (call : Call). IsAggregate limit columns call.aggregate) calls → ((place : ℕ) → calls_at calls place ≤ 1)
    → Covered keys (length columns) e → IsTypedOver (seen_of columns calls) e
    → IsTyped (map kind_of keys ++ map (λ aggregate. aggregate.result) (gathered calls).aggregates) (over_group keys (group_place (length keys) (length columns) (gathered calls).calls) e)
group-typed limit columns keys calls e each few covered typed =
    let results = map (λ (aggregate : Aggregate). aggregate.result) (gathered calls).aggregates in
    over-typed keys (group_place (length keys) (length columns) (gathered calls).calls) (seen_of columns calls) (length columns) (map kind_of keys ++ results)
    (λ key_tree key is. group-key keys results key_tree key is) (group-call limit columns keys calls each few) covered typed

pub all-different : (calls : List Call) → AreDifferent (gathered calls).aggregates
all-different calls = different-from (record { aggregates = []; calls = [] }) calls tt

pub all-formed : (limit : ℕ) (columns : List SqlType) (calls : List Call) → AllByRecursion (λ (call : Call). IsAggregate limit columns call.aggregate) calls → AllByRecursion (IsAggregate limit columns) (gathered calls).aggregates
all-formed limit columns calls each = all-from (IsAggregate limit columns) (record { aggregates = []; calls = [] }) calls tt each
