-- Tables by their names: where the first stands, and that names differ.
use Rattle.std.proofs.Common.{◌≡◌, ℕ, suc, zero, ◌+◌, ◌<◌, Bool, true, false, cond, List, [], ◌∷◌, ◌++◌, length, take, get_or, refl, sym, ap, ◌∙◌, arith, ⊎_elim, Option, None, Some}
use Rattle.std.specs.Prelude.{is_some, MatchOption}
use Rattle.std.specs.Str.{bytes_eq}
use Rattle.std.specs.List.{remove}
use Rattle.std.proofs.lemmas.Bool.{cases_Bool, false≢true}
use Rattle.std.proofs.lemmas.Slice.Eq.{bytes_eq-Decides}
use Rattle.sql_scope.specs.declared.scope.TableColumns.{TableColumns}
use Rattle.paged_catalog.specs.Finding.{has_table, IsFirst, NamesDiffer}

-- an item behind those of a list that room was made in
pub pushed : {A : Type 0} (old mid new : List A) (x : A) → mid ≡ old → new ≡ mid ++ x ∷ [] → new ≡ old ++ x ∷ []
pushed old mid new x same added = added ∙ ap (λ xs. xs ++ x ∷ []) same

same_bytes : (xs : List ℕ) → bytes_eq xs xs ≡ true
same_bytes xs = (bytes_eq-Decides xs xs).1 refl

equal_bytes : (xs ys : List ℕ) → bytes_eq xs ys ≡ true → xs ≡ ys
equal_bytes xs ys h = (bytes_eq-Decides xs ys).0 h

-- names that differ do so either way round
pub other_way : (xs ys : List ℕ) → bytes_eq xs ys ≡ false → bytes_eq ys xs ≡ false
other_way xs ys h = ⊎_elim
    (λ (e : bytes_eq ys xs ≡ true). absurd (false≢true (sym h ∙ ap (λ n. bytes_eq xs n) (equal_bytes ys xs e) ∙ same_bytes xs)))
    (λ e. e) (cases_Bool (bytes_eq ys xs))

pub neither : (a b : Bool) → cond a true b ≡ false → (a ≡ false) × (b ≡ false)
neither true b h = absurd (false≢true (sym h))
neither false b h = (refl, h)

-- the first of a name is there
pub has_first : (ts : List TableColumns) (name : List ℕ) (i : ℕ) → IsFirst ts name i → has_table ts name ≡ true
has_first [] name i f = absurd f
has_first (t ∷ ts) name zero f = ap (λ b. cond b true (has_table ts name)) f
has_first (t ∷ ts) name (suc i) f = ap (λ b. cond b true (has_table ts name)) f.0 ∙ has_first ts name i f.1

pub has_placed : (ts : List TableColumns) (name : List ℕ) (place : Option ℕ) → MatchOption place (has_table ts name ≡ false) (IsFirst ts name) → has_table ts name ≡ is_some place
has_placed ts name None h = h
has_placed ts name (Some i) h = has_first ts name i h

-- one table more that has another name
pub passed : (ts : List TableColumns) (name : List ℕ) (i : ℕ) (at : TableColumns) → i < length ts → at ≡ get_or ts i at → has_table (take i ts) name ≡ false → bytes_eq at.name name ≡ false → has_table (take (i + 1) ts) name ≡ false
passed [] name i at h is none other = absurd (omega (arith, h))
passed (t ∷ ts) name zero at h is none other =
    ap (λ b. cond b true false) (ap (λ (x : TableColumns). bytes_eq x.name name) (sym is) ∙ other)
passed (t ∷ ts) name (suc i) at h is none other =
    let apart = neither (bytes_eq t.name name) (has_table (take i ts) name) none in
    let more : suc i + 1 ≡ suc (i + 1) = omega arith in
    rw more (ap (λ b. cond b true (has_table (take (i + 1) ts) name)) apart.0 ∙ passed ts name i at (omega (arith, h)) is apart.1 other)

-- the tables before a place, and the one at it
pub first_found : (ts : List TableColumns) (name : List ℕ) (i : ℕ) (at : TableColumns) → i < length ts → at ≡ get_or ts i at → has_table (take i ts) name ≡ false → bytes_eq at.name name ≡ true → IsFirst ts name i
first_found [] name i at h is none same = absurd (omega (arith, h))
first_found (t ∷ ts) name zero at h is none same = ap (λ (x : TableColumns). bytes_eq x.name name) (sym is) ∙ same
first_found (t ∷ ts) name (suc i) at h is none same =
    let apart = neither (bytes_eq t.name name) (has_table (take i ts) name) none in
    (apart.0, first_found ts name i at (omega (arith, h)) is apart.1 same)

pub first_within : (ts : List TableColumns) (name : List ℕ) (i : ℕ) → IsFirst ts name i → i < length ts
first_within [] name i f = absurd f
first_within (t ∷ ts) name zero f = omega arith
first_within (t ∷ ts) name (suc i) f = let k = first_within ts name i f.1 in omega (arith, k)

-- ---- names that differ

has_pushed : (ts : List TableColumns) (n : TableColumns) (name : List ℕ) → has_table ts name ≡ false → bytes_eq n.name name ≡ false → has_table (ts ++ n ∷ []) name ≡ false
has_pushed [] n name none other = ap (λ b. cond b true false) other
has_pushed (t ∷ ts) n name none other =
    let apart = neither (bytes_eq t.name name) (has_table ts name) none in
    ap (λ b. cond b true (has_table (ts ++ n ∷ []) name)) apart.0 ∙ has_pushed ts n name apart.1 other

-- a table with another name behind them
pub names_pushed : (ts : List TableColumns) (n : TableColumns) → has_table ts n.name ≡ false → NamesDiffer ts → NamesDiffer (ts ++ n ∷ [])
names_pushed [] n none differ = (refl, tt)
names_pushed (t ∷ ts) n none differ =
    let apart = neither (bytes_eq t.name n.name) (has_table ts n.name) none in
    (has_pushed ts n t.name differ.0 (other_way t.name n.name apart.0), names_pushed ts n apart.1 differ.1)

has_removed : (ts : List TableColumns) (i : ℕ) (name : List ℕ) → has_table ts name ≡ false → has_table (remove ts i) name ≡ false
has_removed [] zero name none = none
has_removed [] (suc i) name none = none
has_removed (t ∷ ts) zero name none = (neither (bytes_eq t.name name) (has_table ts name) none).1
has_removed (t ∷ ts) (suc i) name none =
    let apart = neither (bytes_eq t.name name) (has_table ts name) none in
    ap (λ b. cond b true (has_table (remove ts i) name)) apart.0 ∙ has_removed ts i name apart.1

-- without one of them
pub names_removed : (ts : List TableColumns) (i : ℕ) → NamesDiffer ts → NamesDiffer (remove ts i)
names_removed [] zero differ = differ
names_removed [] (suc i) differ = differ
names_removed (t ∷ ts) zero differ = differ.1
names_removed (t ∷ ts) (suc i) differ = (has_removed ts i t.name differ.0, names_removed ts i differ.1)

-- the table itself
pub found : (ts : List TableColumns) (name : List ℕ) (i : ℕ) → IsFirst ts name i → (c : TableColumns) × (c ≡ get_or ts i c)
found [] name i f = absurd f
found (t ∷ ts) name zero f = (t, refl)
found (t ∷ ts) name (suc i) f = found ts name i f.1
