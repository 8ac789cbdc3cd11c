-- The parts of the open row page with one row more.
use Rattle.std.proofs.Common.{◌≡◌, ◌≢◌, ℕ, ◌+◌, ◌-◌, ◌<◌, Bool, true, false, not, List, [], ◌∷◌, ◌++◌, length, get_or, set, Option, Some, None, refl, sym, ap, subst, inl, inr, ◌⊎◌, ◌∙◌, arith, eq-eqb, ne_eqb}
use Rattle.std.specs.Prelude.{◌==◌, ◌&&◌, ◌||◌, if◌then◌else◌}
use Rattle.std.proofs.lemmas.Bool.{lt-ltb, le-ltb, cases_eq}
use Rattle.std.proofs.lemmas.List.{length-set, length-append, get_or-set_same, get_or-set_other, get_or_append_left, get_or_push}
use Rattle.row_image.specs.declared.image.Part.{Part}
use Rattle.row_image.specs.Image.{no_heap, no_part}
use Rattle.row_image.specs.Parts.{last_part, takes_row, joins, grown, begun, parts_with, begins_fifth}
use Rattle.row_sets.specs.Put.{IsKnown}
use Rattle.row_sets.specs.Writers.{number_of, AreParts}
use Rattle.row_sets.proofs.Numbering.{number_low, number_apart}

-- the parts where the last one takes the row, and where it doesn't
with_joined : (parts : List Part) (row : ℕ) (want : Option (ℕ × ℕ)) → joins parts want ≡ true → parts_with parts row want ≡ set parts (length parts - 1) (grown (last_part parts) want)
unfolding parts_with
with_joined parts row want e = ap (λ b. if b then set parts (length parts - 1) (grown (last_part parts) want) else parts ++ begun row want ∷ []) e

with_begun : (parts : List Part) (row : ℕ) (want : Option (ℕ × ℕ)) → joins parts want ≡ false → parts_with parts row want ≡ parts ++ begun row want ∷ []
unfolding parts_with
with_begun parts row want e = ap (λ b. if b then set parts (length parts - 1) (grown (last_part parts) want) else parts ++ begun row want ∷ []) e

joins_by : (parts : List Part) (want : Option (ℕ × ℕ)) (b : Bool) → 0 < length parts → takes_row (last_part parts) want ≡ b → joins parts want ≡ b
unfolding joins
joins_by parts want b some e = ap (λ c. c && takes_row (last_part parts) want) (lt-ltb 0 (length parts) some) ∙ e

joins_empty : (parts : List Part) (want : Option (ℕ × ℕ)) → length parts ≡ 0 → joins parts want ≡ false
unfolding joins
joins_empty parts want none = ap (λ c. c && takes_row (last_part parts) want) (le-ltb 0 (length parts) (omega (arith, none)))

not_fifth : (parts : List Part) (want : Option (ℕ × ℕ)) → joins parts want ≡ true → begins_fifth parts want ≡ false
unfolding begins_fifth
not_fifth parts want e = ap (λ b. not b && (length parts == 4)) e

both_false : (b : Bool) → (b && false) ≡ false
both_false true = refl
both_false false = refl

few_fifth : (parts : List Part) (want : Option (ℕ × ℕ)) → length parts ≢ 4 → begins_fifth parts want ≡ false
unfolding begins_fifth
few_fifth parts want ne = ap (λ b. not (joins parts want) && b) (ne_eqb (length parts) 4 ne) ∙ both_false (not (joins parts want))

-- a row without long texts changes no part's heap page
pub parts_short : (count first row : ℕ) (parts : List Part) → AreParts count first parts → AreParts count first (parts_with parts row None)
parts_short count first row parts are = elim (cases_eq (length parts) 0) [
  | inl none ↦
      let new = with_begun parts row None (joins_empty parts None none) in
      subst (AreParts count first) (sym new) (record {
        heaps = λ k less. let h = (are.heaps k less).0 in absurd (omega (arith, h, none));
        few = λ some. let h = (are.heaps 0 (omega (arith, some))).0 in absurd (omega (arith, h, none));
        one = λ zero. let l = length-append parts (begun row None ∷ []) in omega (arith, l, none);
        bare = λ zero some. ap (λ (p : Part). p.heap) (first_new parts (begun row None) none);
      })
  | inr some ↦
      let m = length parts - 1 in
      let new = with_joined parts row None (joins_by parts None true (omega (arith, some)) refl) in
      let long = length-set parts m (grown (last_part parts) None) in
      subst (AreParts count first) (sym new) (record {
        heaps = λ k less. (let h = (are.heaps k less).0 in omega (arith, h, long), kept parts some k (are.heaps k less).0 ∙ (are.heaps k less).1);
        few = λ one. let f = are.few one in omega (arith, f, long);
        one = λ zero. let f = are.one zero in omega (arith, f, long);
        bare = λ zero _. kept parts some 0 (omega (arith, some)) ∙ are.bare zero (omega (arith, some));
      })
]
  where
    first_new : (parts : List Part) (x : Part) → length parts ≡ 0 → get_or (parts ++ x ∷ []) 0 no_part ≡ x
    first_new [] x none = refl
    first_new (p ∷ ps) x none = absurd (omega (arith, none))

    kept : (parts : List Part) → length parts ≢ 0 → (k : ℕ) → k < length parts → (get_or (set parts (length parts - 1) (grown (last_part parts) None)) k no_part).heap ≡ (get_or parts k no_part).heap
    kept parts some k inside = elim (cases_eq k (length parts - 1)) [
      | inl e ↦ ap (λ (i : ℕ). (get_or (set parts (length parts - 1) (grown (last_part parts) None)) i no_part).heap) e ∙ ap (λ (p : Part). p.heap) (get_or-set_same parts (length parts - 1) (grown (last_part parts) None) no_part (omega (arith, some))) ∙ ap (λ (i : ℕ). (get_or parts i no_part).heap) (sym e)
      | inr ne ↦ ap (λ (p : Part). p.heap) (get_or-set_other parts (length parts - 1) k (grown (last_part parts) None) no_part ne)
    ]

-- nor its base
pub base_short : (row k : ℕ) (parts : List Part) → k < length parts → (get_or (parts_with parts row None) k no_part).base ≡ (get_or parts k no_part).base
base_short row k parts inside =
    let m = length parts - 1 in
    let more = grown (last_part parts) None in
    let new = with_joined parts row None (joins_by parts None true (omega (arith, inside)) refl) in
    ap (λ (ps : List Part). (get_or ps k no_part).base) new
    ∙ elim (cases_eq k m) [
      | inl e ↦ ap (λ (i : ℕ). (get_or (set parts m more) i no_part).base) e ∙ ap (λ (p : Part). p.base) (get_or-set_same parts m more no_part (omega (arith, inside))) ∙ ap (λ (i : ℕ). (get_or parts i no_part).base) (sym e)
      | inr ne ↦ ap (λ (p : Part). p.base) (get_or-set_other parts m k more no_part ne)
    ]

-- What becomes of the parts when a row's long texts lie on the heap page at a place.
pub record LongParts (place first row base : ℕ) (parts : List Part) : Type 0 where
  pub are : AreParts (place + 1) first (parts_with parts row (Some (number_of first place, base)))
  pub based : (get_or (parts_with parts row (Some (number_of first place, base))) place no_part).base ≡ base
  pub fifth : begins_fifth parts (Some (number_of first place, base)) ≡ false
  pub known : IsKnown parts (number_of first place) base

takes_yes : (part : Part) (number base : ℕ) → (part.heap ≡ no_heap) ⊎ (part.heap ≡ number) → takes_row part (Some (number, base)) ≡ true
takes_yes part number base either = elim either [
  | inl none ↦ ap (λ b. b || part.heap == number) (eq-eqb part.heap no_heap none)
  | inr same ↦ ap (λ b. part.heap == no_heap || b) (eq-eqb part.heap number same) ∙ or_true (part.heap == no_heap)
]
  where
    or_true : (b : Bool) → (b || true) ≡ true
    or_true true = refl
    or_true false = refl

takes_no : (part : Part) (number base : ℕ) → part.heap ≢ no_heap → part.heap ≢ number → takes_row part (Some (number, base)) ≡ false
takes_no part number base a b = ap (λ c. c || part.heap == number) (ne_eqb part.heap no_heap a) ∙ ne_eqb part.heap number b

-- the last part takes the row
long_joined : (place first row base : ℕ) (parts : List Part) → length parts ≡ place + 1 → ((last_part parts).heap ≡ no_heap) ⊎ ((last_part parts).heap ≡ number_of first place) → ((k : ℕ) → k < place → (get_or parts k no_part).heap ≡ number_of first k) → IsKnown parts (number_of first place) base → LongParts place first row base parts
long_joined place first row base parts long either before known =
    let want : Option (ℕ × ℕ) = Some (number_of first place, base) in
    let takes = joins_by parts want true (omega (arith, long)) (takes_yes (last_part parts) (number_of first place) base either) in
    let new = with_joined parts row want takes in
    let m = length parts - 1 in
    let more = grown (last_part parts) want in
    let same = length-set parts m more in
    let here : get_or (set parts m more) m no_part ≡ more = get_or-set_same parts m more no_part (omega (arith, long)) in
    let at : m ≡ place = omega (arith, long) in
    record {
      are = subst (AreParts (place + 1) first) (sym new) (record {
        heaps = λ k less. (
          omega (arith, less, same, long),
          elim (cases_eq k m) [
            | inl e ↦ ap (λ (i : ℕ). (get_or (set parts m more) i no_part).heap) e ∙ ap (λ (p : Part). p.heap) here ∙ ap {A = ℕ} {B = ℕ} (λ (i : ℕ). number_of first i) (let z : place ≡ k = sym at ∙ sym e in z)
            | inr ne ↦ ap (λ (p : Part). p.heap) (get_or-set_other parts m k more no_part ne) ∙ before k (omega (arith, less, ne, at))
          ],
        );
        few = λ _. omega (arith, same, long);
        one = λ zero. absurd (omega (arith, zero));
        bare = λ zero. absurd (omega (arith, zero));
      });
      based = ap (λ (ps : List Part). (get_or ps place no_part).base) new ∙ ap (λ (i : ℕ). (get_or (set parts m more) i no_part).base) (sym at) ∙ ap (λ (p : Part). p.base) here;
      fifth = not_fifth parts want takes;
      known = known;
    }

-- the row begins a part
long_begun : (place first row base : ℕ) (parts : List Part) → place < 4 → length parts ≡ place → joins parts (Some (number_of first place, base)) ≡ false → ((k : ℕ) → k < place → (get_or parts k no_part).heap ≡ number_of first k) → IsKnown parts (number_of first place) base → LongParts place first row base parts
long_begun place first row base parts few long apart before known =
    let want : Option (ℕ × ℕ) = Some (number_of first place, base) in
    let new = with_begun parts row want apart in
    let last = begun row want in
    let here : get_or (parts ++ last ∷ []) place no_part ≡ last = get_or_push parts last no_part place long in
    let same = length-append parts (last ∷ []) in
    record {
      are = subst (AreParts (place + 1) first) (sym new) (record {
        heaps = λ k less. (
          omega (arith, less, same, long),
          elim (cases_eq k place) [
            | inl e ↦ ap (λ (i : ℕ). (get_or (parts ++ last ∷ []) i no_part).heap) e ∙ ap (λ (p : Part). p.heap) here ∙ ap {A = ℕ} {B = ℕ} (λ (i : ℕ). number_of first i) (let z : place ≡ k = sym e in z)
            | inr ne ↦ ap (λ (p : Part). p.heap) (get_or_append_left parts (last ∷ []) no_part k (omega (arith, less, ne, long))) ∙ before k (omega (arith, less, ne))
          ],
        );
        few = λ _. omega (arith, same, long);
        one = λ zero. absurd (omega (arith, zero));
        bare = λ zero. absurd (omega (arith, zero));
      });
      based = ap (λ (ps : List Part). (get_or ps place no_part).base) new ∙ ap (λ (p : Part). p.base) here;
      fifth = few_fifth parts want (omega (arith, long, few));
      known = known;
    }

pub parts_long : (count place first row base : ℕ) (parts : List Part) → first < no_heap → place < 4 → AreParts count first parts → (count ≡ place) ⊎ (count ≡ place + 1) → (count ≡ place + 1 → (get_or parts place no_part).base ≡ base) → LongParts place first row base parts
parts_long count place first row base parts low few are either base_is = elim either [
  | inr used ↦
      let long = are.few (omega (arith, used)) in
      let at : length parts - 1 ≡ place = omega (arith, long, used) in
      let last : last_part parts ≡ get_or parts place no_part = ap (λ (i : ℕ). get_or parts i no_part) at in
      long_joined place first row base parts (omega (arith, long, used)) (inr (ap (λ (p : Part). p.heap) last ∙ (are.heaps place (omega (arith, used))).1)) (λ k less. (are.heaps k (omega (arith, less, used))).1)
      (λ some same. ap (λ (p : Part). p.base) last ∙ base_is used)
  | inl fresh ↦ elim (cases_eq place 0) [
    | inl zero_place ↦
        let zero_count : count ≡ 0 = omega (arith, fresh, zero_place) in
        let no_less : (k : ℕ) → k < place → (get_or parts k no_part).heap ≡ number_of first k = λ k less. absurd (omega (arith, less, zero_place)) in
        let n0 = number_low first place low (omega (arith, few)) in
        elim (cases_eq (length parts) 0) [
          | inl none ↦ long_begun place first row base parts few (omega (arith, none, zero_place)) (joins_empty parts (Some (number_of first place, base)) none) no_less (λ some. absurd (omega (arith, some, none)))
          | inr some ↦
              let one = are.one zero_count in
              let at : length parts - 1 ≡ 0 = omega (arith, one) in
              let last : last_part parts ≡ get_or parts 0 no_part = ap (λ (i : ℕ). get_or parts i no_part) at in
              let bare = ap (λ (p : Part). p.heap) last ∙ are.bare zero_count (omega (arith, some)) in
              long_joined place first row base parts (omega (arith, one, some, zero_place)) (inl bare) no_less (λ _ same. absurd (omega (arith, bare, same, n0)))
        ]
    | inr more ↦
        let long = are.few (omega (arith, fresh, more)) in
        let at : length parts - 1 ≡ place - 1 = omega (arith, long, fresh) in
        let last : last_part parts ≡ get_or parts (place - 1) no_part = ap (λ (i : ℕ). get_or parts i no_part) at in
        let heap = ap (λ (p : Part). p.heap) last ∙ (are.heaps (place - 1) (omega (arith, fresh, more))).1 in
        let n1 = number_low first (place - 1) low (omega (arith, few)) in
        let differs : (last_part parts).heap ≢ number_of first place = λ e. let same = number_apart first (place - 1) place low (omega (arith, few)) (omega (arith, few)) (sym heap ∙ e) in absurd (omega (arith, same, more)) in
        let there : (last_part parts).heap ≢ no_heap = λ e. absurd (omega (arith, e, heap, n1)) in
        long_begun place first row base parts few (omega (arith, long, fresh)) (joins_by parts (Some (number_of first place, base)) false (omega (arith, long, fresh, more)) (takes_no (last_part parts) (number_of first place) base there differs)) (λ k less. (are.heaps k (omega (arith, less, fresh))).1) (λ _ same. absurd (differs same))
  ]
]
