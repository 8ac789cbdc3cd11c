-- CREATE TABLE and DROP TABLE.
use Rattle.std.proofs.Common.{◌≡◌, ◌≢◌, ℕ, ◌≤◌, Bool, true, false, nat_le, List, [], ◌∷◌, ◌++◌, map, length, refl, sym, ap, subst, cond, codes, arith, Option, Some, None, Ok}
use Rattle.std.specs.Prelude.{not, is_some, is_none, ◌||◌, ◌&&◌}
use Rattle.std.specs.Str.{bytes_eq}
use Rattle.std.proofs.lemmas.Slice.Eq.{bytes_eq-Decides}
use Rattle.std.specs.List.{AllByRecursion}
use Rattle.std.proofs.lemmas.Bool.{and_parts, leb-true}
use Rattle.ooc_types.specs.declared.schema.Column.{Column}
use Rattle.ooc_types.specs.declared.schema.SqlType.{SqlType}
use Rattle.ooc_types.specs.declared.schema.SqlType.TheVariants as kinds
use Rattle.ooc_types.specs.declared.refusal.RefusalKind.TheVariants.{NoTable, TableExists, DuplicateName, TooManyColumns, NoType, DecimalTooWide}
use Rattle.sql_expr.specs.Operations.{IsProper}
use Rattle.bound_tree.specs.declared.statement.Bound.{Bound}
use Rattle.bound_tree.specs.declared.statement.Bound.TheVariants.{CreateTable}
use Rattle.sql_grammar.specs.declared.tree.expr.Span.{Span}
use Rattle.sql_grammar.specs.declared.tree.statement.Column.{Column as WrittenColumn}
use Rattle.sql_grammar.specs.declared.tree.statement.Sizes.{Sizes}
use Rattle.sql_scope.specs.Answer.{◌>>=◌, each}
use Rattle.sql_scope.specs.Texts.{folded, folded_at}
use Rattle.sql_scope.specs.Scopes.{View, columns_of}
use Rattle.sql_clauses.specs.Numbers.{number_at}
use Rattle.sql_clauses.specs.Tables.{a_column, column_behind, create_table, drop_table, dropped, has_column, is_called, is_table, known_table, most_columns, named_column, new_table, table_of}
use Rattle.sql_clauses.specs.Types.{decimal_type, declared_type, is_decimal, is_either, scale_of, sized_decimal, sized_varchar, type_of_word, type_word, unsized_type}
use Rattle.well_formed.specs.Names.{AreApart, in_small_letters}
use Rattle.well_formed.specs.Statements.{IsThere, IsWellFormed}
use Rattle.formed_binding.specs.Answers.{OfAnswer}
use Rattle.formed_binding.proofs.EachLemmas.{any-answer, asked-for, each-keeps, of-answer, on-answer}

-- ---- lists, one item longer

pub all-behind : {A : Type 0} (P : A → Type 0) (xs : List A) (x : A) → AllByRecursion P xs → P x → AllByRecursion P (xs ++ x ∷ [])
all-behind P [] x all h = (h, tt)
all-behind P (y ∷ xs) x all h = (all.0, all-behind P xs x all.1 h)

pub map-behind : {A B : Type 0} (f : A → B) (xs : List A) (x : A) → map f (xs ++ x ∷ []) ≡ map f xs ++ f x ∷ []
map-behind f [] x = refl
map-behind f (y ∷ xs) x = ap (λ rest. f y ∷ rest) (map-behind f xs x)

-- ---- names that differ

pub false-of : (b : Bool) → not b ≡ true → b ≡ false
false-of true e = cc
false-of false e = refl

pub other-texts : (a b : List ℕ) → bytes_eq a b ≡ false → a ≢ b
other-texts a b e is = let t : bytes_eq a b ≡ true = (bytes_eq-Decides a b).1 is in cc

pub neither : (a b : Bool) → (a || b) ≡ false → (a ≡ false) × (b ≡ false)
neither true b e = cc
neither false b e = (refl, e)

pub apart-behind : (names : List (List ℕ)) (name : List ℕ) → AreApart names → AllByRecursion (λ (other : List ℕ). in_small_letters other ≢ in_small_letters name) names → AreApart (names ++ name ∷ [])
apart-behind [] name apart new = (tt, tt)
apart-behind (first ∷ names) name apart new =
    (all-behind (λ (other : List ℕ). in_small_letters first ≢ in_small_letters other) names name apart.0 new.0, apart-behind names name apart.1 new.1)

new-column : (name : List ℕ) (columns : List Column) → has_column name columns ≡ false → AllByRecursion (λ (other : List ℕ). in_small_letters other ≢ name) (map (λ (column : Column). column.name) columns)
new-column name [] e = tt
new-column name (column ∷ columns) e =
    let parts = neither (is_called name column) (has_column name columns) e in
    (other-texts (folded column.name) name parts.0, new-column name columns parts.1)

-- ---- types

proper-decimal : (place width scale : ℕ) → OfAnswer IsProper (decimal_type place width scale)
proper-decimal place width scale = asked-for IsProper (is_decimal width scale) place DecimalTooWide (kinds.Decimal width scale)
    (λ e. let parts = and_parts (nat_le 1 width && nat_le width 38) (nat_le scale width) e in
    let ends = and_parts (nat_le 1 width) (nat_le width 38) parts.0 in
    (leb-true 1 width ends.0, leb-true width 38 ends.1, leb-true scale width parts.1))

proper-sized : (view : View) (place : ℕ) (sizes : Option Sizes) → OfAnswer IsProper (sized_decimal view place sizes)
proper-sized view place None = let a : 1 ≤ 18 = omega arith in let b : 18 ≤ 38 = omega arith in let c : 3 ≤ 18 = omega arith in (a, b, c)
proper-sized view place (Some sizes) =
    on-answer (λ (w : ℕ). number_at view sizes.first ≡ Ok w) IsProper (number_at view sizes.first) (λ (width : ℕ). scale_of view sizes.second >>= decimal_type place width) (any-answer (number_at view sizes.first))
    (λ width is. on-answer (λ (s : ℕ). scale_of view sizes.second ≡ Ok s) IsProper (scale_of view sizes.second) (decimal_type place width) (any-answer (scale_of view sizes.second)) (λ scale is. proper-decimal place width scale))

proper-text : (place : ℕ) (sizes : Option Sizes) → OfAnswer IsProper (sized_varchar place sizes)
proper-text place None = tt
proper-text place (Some sizes) = asked-for IsProper (is_none sizes.second) place NoType kinds.Varchar (λ e. tt)

chosen : {A : Type 0} (P : A → Type 0) (b : Bool) (x y : A) → P x → P y → P (cond b x y)
chosen P true x y h g = h
chosen P false x y h g = g

proper-word : (view : View) (place : ℕ) (sizes : Option Sizes) (name : List ℕ) → OfAnswer IsProper (type_of_word view place sizes (type_word name))
proper-word view place sizes name =
    let plain : (kind : SqlType) → IsProper kind → OfAnswer IsProper (unsized_type place sizes kind) = λ kind proper. asked-for IsProper (is_none sizes) place NoType kind (λ e. proper) in
    chosen (λ word. OfAnswer IsProper (type_of_word view place sizes word)) (is_either name (codes "boolean") (codes "bool")) _ _ (plain kinds.Boolean tt)
    (chosen (λ word. OfAnswer IsProper (type_of_word view place sizes word)) (is_either name (codes "integer") (codes "int")) _ _ (plain kinds.Integer tt)
    (chosen (λ word. OfAnswer IsProper (type_of_word view place sizes word)) (bytes_eq name (codes "bigint")) _ _ (plain kinds.BigInt tt)
    (chosen (λ word. OfAnswer IsProper (type_of_word view place sizes word)) (bytes_eq name (codes "hugeint")) _ _ (plain kinds.HugeInt tt)
    (chosen (λ word. OfAnswer IsProper (type_of_word view place sizes word)) (is_either name (codes "decimal") (codes "numeric")) _ _ (proper-sized view place sizes)
    (chosen (λ word. OfAnswer IsProper (type_of_word view place sizes word)) (bytes_eq name (codes "date")) _ _ (plain kinds.Date tt)
    (chosen (λ word. OfAnswer IsProper (type_of_word view place sizes word)) (is_either name (codes "varchar") (codes "text")) _ _ (proper-text place sizes) tt))))))

-- ---- the columns of a new table

record AreColumns (columns : List Column) : Type 0 where
  proper : AllByRecursion (λ (column : Column). IsProper column.kind) columns
  names : AreApart (map (λ (column : Column). column.name) columns)

next-column : (view : View) (written : WrittenColumn) (columns : List Column) → AreColumns columns → OfAnswer AreColumns (column_behind view written columns)
next-column view written columns are =
    on-answer IsProper AreColumns (declared_type view written.kind) (named_column view written columns) (proper-word view written.kind.name.start written.kind.sizes (folded_at view.script written.kind.name))
    (λ kind proper.
    let column = a_column view written kind in
    let name = folded_at view.script written.name in
    asked-for AreColumns (not (has_column name columns)) written.name.start DuplicateName (columns ++ column ∷ [])
    (λ e. record {
      proper = all-behind (λ (c : Column). IsProper c.kind) columns column are.proper proper;
      names = subst AreApart (sym (map-behind (λ (c : Column). c.name) columns column))
          (apart-behind (map (λ (c : Column). c.name) columns) column.name are.names (new-column name columns (false-of (has_column name columns) e)));
    }))

all-columns : (view : View) (columns : List WrittenColumn) → OfAnswer AreColumns (each (column_behind view) (Ok []) columns)
all-columns view columns = each-keeps AreColumns (column_behind view) (Ok []) columns (record { proper = tt; names = tt }) (λ written before are. next-column view written before are)

-- ---- statements

pub not-there : (o : Option (List Column)) → not (is_some o) ≡ true → o ≡ None
not-there None e = refl
not-there (Some columns) e = cc

pub is-there : (o : Option (List Column)) → is_some o ≡ true → o ≢ None
is-there None e is = cc
is-there (Some columns) e is = cc

pub created-formed : (limit : ℕ) (view : View) (name : Span) (columns : List WrittenColumn) (bound : Bound) → create_table view name columns ≡ Ok bound → IsWellFormed limit (columns_of view.tables) bound
created-formed limit view name columns bound is =
    let Formed = IsWellFormed limit (columns_of view.tables) in
    let table = folded_at view.script name in
    of-answer Formed (create_table view name columns) bound
    (on-answer (λ (t : List ℕ). columns_of view.tables t ≡ None) Formed (new_table view name) (λ (t : List ℕ). each (column_behind view) (Ok []) columns >>= table_of name.start t)
    (asked-for (λ (t : List ℕ). columns_of view.tables t ≡ None) (not (is_table view table)) name.start TableExists table (λ e. not-there (columns_of view.tables table) e))
    (λ t new. on-answer AreColumns Formed (each (column_behind view) (Ok []) columns) (table_of name.start t) (all-columns view columns)
    (λ list are. asked-for Formed (nat_le (length list) most_columns) name.start TooManyColumns (CreateTable t list)
    (λ e. record { new = new; schema = record { few = leb-true (length list) most_columns e; proper = are.proper; names = are.names } }))))
    is

pub known : (view : View) (name : Span) → OfAnswer (IsThere (columns_of view.tables)) (known_table view name)
known view name =
    let table = folded_at view.script name in
    asked-for (IsThere (columns_of view.tables)) (is_table view table) name.start NoTable table (λ e. is-there (columns_of view.tables table) e)

pub dropped-formed : (limit : ℕ) (view : View) (name : Span) (bound : Bound) → drop_table view name ≡ Ok bound → IsWellFormed limit (columns_of view.tables) bound
dropped-formed limit view name bound is =
    let Formed = IsWellFormed limit (columns_of view.tables) in
    of-answer Formed (drop_table view name) bound
    (on-answer (IsThere (columns_of view.tables)) Formed (known_table view name) dropped (known view name) (λ t there. there)) is
