-- A table taken out of the list.
use Rattle.std.proofs.Common.{◌≡◌, ℕ, zero, suc, ◌+◌, ◌<◌, ◌≤◌, Bool, true, false, List, [], ◌∷◌, ◌++◌, length, take, drop, map, get_or, refl, ap, sym, ◌∙◌, arith}
use Rattle.std.specs.Bool.{⊤}
use Rattle.std.specs.List.{remove}
use Rattle.std.specs.Str.{bytes_eq}
use Rattle.sql_scope.specs.declared.scope.TableColumns.{TableColumns}
use Rattle.script_says.specs.Catalog.{with_table, without_table, schemas_of}
use Rattle.script_check.specs.Tables.{catalog_in, empty_table}

-- the first tables don't have the name
abbrev pub AreOthers : ℕ → List TableColumns → List ℕ → Type 0
AreOthers zero ts name = ⊤
AreOthers (suc k) [] name = ⊤
AreOthers (suc k) (t ∷ ts) name = (bytes_eq t.name name ≡ false) × AreOthers k ts name

-- one more of them doesn't
pub one_more : (at : ℕ) (ts : List TableColumns) (name : List ℕ) (t : TableColumns) → at < length ts → get_or ts at t ≡ t → bytes_eq t.name name ≡ false → AreOthers at ts name → AreOthers (suc at) ts name
one_more zero (u ∷ ts) name t within is other others = (rw is other, tt)
one_more (suc k) (u ∷ ts) name t within is other others = (others.0, one_more k ts name t (omega (arith, within)) is other others.1)
one_more at [] name t within is other others = absurd (omega (arith, within))

-- the first that does is taken out
pub taken_out : (at : ℕ) (ts : List TableColumns) (name : List ℕ) (t : TableColumns) → at < length ts → get_or ts at t ≡ t → bytes_eq t.name name ≡ true → AreOthers at ts name → catalog_in (remove ts at) ≡ without_table (catalog_in ts) name
taken_out zero (u ∷ ts) name t within is same others = rw (is, same) refl
taken_out (suc k) (u ∷ ts) name t within is same others = rw (others.0) (ap (λ x. empty_table u ∷ x) (taken_out k ts name t (omega (arith, within)) is same others.1))
taken_out at [] name t within is same others = absurd (omega (arith, within))

-- none has the name
pub none_out : (at : ℕ) (ts : List TableColumns) (name : List ℕ) → length ts ≤ at → AreOthers at ts name → catalog_in ts ≡ without_table (catalog_in ts) name
none_out at [] name long others = refl
none_out zero (u ∷ ts) name long others = absurd (omega (arith, long))
none_out (suc k) (u ∷ ts) name long others = rw (others.0) (ap (λ x. empty_table u ∷ x) (none_out k ts name (omega (arith, long)) others.1))

-- a table behind the others
pub put_behind : (ts : List TableColumns) (t : TableColumns) → catalog_in (ts ++ t ∷ []) ≡ with_table (catalog_in ts) t.name t.columns
put_behind [] t = refl
put_behind (u ∷ ts) t = ap (λ x. empty_table u ∷ x) (put_behind ts t)

-- what binding sees of the tables
pub seen_columns : (ts : List TableColumns) → schemas_of (catalog_in ts) ≡ ts
seen_columns [] = refl
seen_columns (t ∷ ts) = ap (λ x. t ∷ x) (seen_columns ts)
