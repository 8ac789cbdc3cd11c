-- Set operations over well-formed rows.
use Rattle.std.proofs.Common.{◌≡◌, ℕ, Bool, true, false, ◌==◌, List, [], ◌∷◌, ◌++◌, length, refl, sym, ap, ◌∙◌, subst, Some, Ok, Err, cond, inl, inr, arith}
use Rattle.std.specs.Prelude.{zip}
use Rattle.std.proofs.lemmas.Bool.{and_parts}
use Rattle.ooc_types.specs.declared.schema.Column.{Column}
use Rattle.ooc_types.specs.declared.schema.SqlType.{SqlType}
use Rattle.ooc_types.specs.declared.schema.SqlType.TheVariants.{Boolean, Integer, BigInt, HugeInt, Decimal, Date, Varchar}
use Rattle.ooc_types.specs.declared.refusal.RefusalKind.TheVariants.{ColumnCount, TypeMismatch}
use Rattle.std.specs.List.{AllByRecursion}
use Rattle.sql_expr.specs.Operations.{IsProper, wider}
use Rattle.bound_tree.specs.declared.select.BoundRows.TheVariants.{rolls-Set}
use Rattle.bound_tree.specs.declared.select.BoundRows.TheOpen.{BoundRows-F}
use Rattle.bound_tree.specs.declared.select.BoundRows.TheViews.{out-BoundRows, out-roll-BoundRows}
use Rattle.sql_grammar.specs.declared.tree.select.SetKind.{SetKind as WrittenKind}
use Rattle.sql_scope.specs.Answer.{Answer, ◌>>=◌, each, or_refuse, unless}
use Rattle.sql_clauses.specs.declared.cores.NamedRows.{NamedRows}
use Rattle.sql_clauses.specs.Rows.{combined, set_kind, set_rows}
use Rattle.sql_clauses.specs.Sets.{common_columns, common_type, pair_behind, same_type, types_of, with_column}
use Rattle.well_formed.specs.Cores.{IsCoreNode}
use Rattle.well_formed.specs.From.{IsSourceNode}
use Rattle.well_formed.specs.Given.{Schemas, kinds_in_rows, kinds_of_columns, kinds_of_rows}
use Rattle.well_formed.specs.Rows.{AnyConjunct, AnyInput, AreCommon, AreWellFormedRows, IsCommon, IsRowsNode, IsSelectNode}
use Rattle.well_formed.proofs.Parts.{rows_made}
use Rattle.formed_binding.specs.Named.{AreNamed}
use Rattle.formed_binding.specs.Answers.{OfAnswer}
use Rattle.formed_binding.proofs.EachLemmas.{asked-for, each-on, of-answer, on-answer, or-refused}
use Rattle.formed_binding.proofs.TableLemmas.{map-behind}

equal-numbers : (m n : ℕ) → (m == n) ≡ true → m ≡ n
equal-numbers m n e = grind arith

same-kind : (k l : SqlType) → same_type k l ≡ true → k ≡ l
same-kind Boolean Boolean e = refl
same-kind Integer Integer e = refl
same-kind BigInt BigInt e = refl
same-kind HugeInt HugeInt e = refl
same-kind (Decimal w s) (Decimal v t) e =
    let parts = and_parts (w == v) (s == t) e in
    ap (λ n. Decimal n s) (equal-numbers w v parts.0) ∙ ap (Decimal v) (equal-numbers s t parts.1)
same-kind Date Date e = refl
same-kind Varchar Varchar e = refl
same-kind _ _ e = cc

common : (k l kind : SqlType) → common_type k l ≡ Some kind → IsCommon k l kind
common k l kind is = by (same_type k l) refl is
  where
    by : (b : Bool) → same_type k l ≡ b → cond b (Some k) (wider k l) ≡ Some kind → IsCommon k l kind
    by true e is = let same : k ≡ kind = cc in inl (same-kind k l e, sym same)
    by false e is = inr is

-- the columns behind those so far
record Paired (before : List Column) (left right : List SqlType) (all : List Column) : Type 0 where
  more : List SqlType
  behind : kinds_of_columns all ≡ kinds_of_columns before ++ more
  are : AreCommon left right more

nothing-behind : (xs : List SqlType) → xs ≡ xs ++ []
nothing-behind [] = refl
nothing-behind (x ∷ xs) = ap (λ rest. x ∷ rest) (nothing-behind xs)

one-behind : (xs : List SqlType) (x : SqlType) (more : List SqlType) → (xs ++ x ∷ []) ++ more ≡ xs ++ x ∷ more
one-behind [] x more = refl
one-behind (y ∷ xs) x more = ap (λ rest. y ∷ rest) (one-behind xs x more)

keep : (place : ℕ) (l r : Column) (left right before after : List Column) (kind : SqlType) → IsCommon l.kind r.kind kind → kinds_of_columns after ≡ kinds_of_columns before ++ kind ∷ []
    → (m : Answer (List Column)) → OfAnswer (Paired after (kinds_of_columns left) (kinds_of_columns right)) m
    → OfAnswer (Paired before (l.kind ∷ kinds_of_columns left) (r.kind ∷ kinds_of_columns right)) m
keep place l r left right before after kind is behind (Err refusal) fact = tt
keep place l r left right before after kind is behind (Ok all) fact = record {
  more = kind ∷ fact.more;
  behind = fact.behind ∙ ap (λ front. front ++ fact.more) behind ∙ one-behind (kinds_of_columns before) kind fact.more;
  are = (is, fact.are);
}

whole-paired : (place : ℕ) (left right : List Column) (m : Answer (List Column)) → OfAnswer (Paired [] (kinds_of_columns left) (kinds_of_columns right)) m
    → OfAnswer (λ (columns : List Column). AreCommon (kinds_of_columns left) (kinds_of_columns right) (kinds_of_columns columns)) m
whole-paired place left right (Err refusal) fact = tt
whole-paired place left right (Ok all) fact = subst (AreCommon (kinds_of_columns left) (kinds_of_columns right)) (sym fact.behind) fact.are

paired : (place : ℕ) (left right before : List Column) → length left ≡ length right
    → OfAnswer (Paired before (kinds_of_columns left) (kinds_of_columns right)) (each (pair_behind place) (Ok before) (zip left right))
paired place [] [] before same = record { more = []; behind = nothing-behind (kinds_of_columns before); are = tt }
paired place [] (r ∷ right) before same = absurd (omega arith)
paired place (l ∷ left) [] before same = absurd (omega arith)
paired place (l ∷ left) (r ∷ right) before same =
    let All = Paired before (l.kind ∷ kinds_of_columns left) (r.kind ∷ kinds_of_columns right) in
    let Next : List Column → Type 0 = λ after. (kind : SqlType) × ((IsCommon l.kind r.kind kind) × (kinds_of_columns after ≡ kinds_of_columns before ++ kind ∷ [])) in
    each-on Next All (pair_behind place) (or_refuse (common_type l.kind r.kind) place TypeMismatch >>= with_column l before) (zip left right)
    (on-answer (IsCommon l.kind r.kind) Next (or_refuse (common_type l.kind r.kind) place TypeMismatch) (with_column l before)
    (or-refused (IsCommon l.kind r.kind) (common_type l.kind r.kind) place TypeMismatch (λ kind is. common l.kind r.kind kind is))
    (λ kind is. (kind, (is, map-behind (λ (c : Column). c.kind) before (record { name = l.name; kind = kind; nullable = true })))))
    (λ after next. keep place l r left right before after next.0 next.1.0 next.1.1 (each (pair_behind place) (Ok after) (zip left right)) (paired place left right after (omega arith)))

wider-proper : (k l kind : SqlType) → wider k l ≡ Some kind → IsProper kind
wider-proper Integer Integer kind is = let e : Integer ≡ kind = cc in subst IsProper e tt
wider-proper Integer BigInt kind is = let e : BigInt ≡ kind = cc in subst IsProper e tt
wider-proper Integer HugeInt kind is = let e : HugeInt ≡ kind = cc in subst IsProper e tt
wider-proper BigInt Integer kind is = let e : BigInt ≡ kind = cc in subst IsProper e tt
wider-proper BigInt BigInt kind is = let e : BigInt ≡ kind = cc in subst IsProper e tt
wider-proper BigInt HugeInt kind is = let e : HugeInt ≡ kind = cc in subst IsProper e tt
wider-proper HugeInt Integer kind is = let e : HugeInt ≡ kind = cc in subst IsProper e tt
wider-proper HugeInt BigInt kind is = let e : HugeInt ≡ kind = cc in subst IsProper e tt
wider-proper HugeInt HugeInt kind is = let e : HugeInt ≡ kind = cc in subst IsProper e tt
wider-proper _ _ kind is = cc

one-proper : (k l kind : SqlType) → IsCommon k l kind → IsProper k → IsProper kind
one-proper k l kind (inl same) proper = subst IsProper (sym same.1) proper
one-proper k l kind (inr wide) proper = wider-proper k l kind wide

common-proper : (ks ls kinds : List SqlType) → AllByRecursion IsProper ks → AreCommon ks ls kinds → AllByRecursion IsProper kinds
common-proper [] [] [] proper are = tt
common-proper (k ∷ ks) (l ∷ ls) (kind ∷ kinds) proper are = (one-proper k l kind are.0 proper.0, common-proper ks ls kinds proper.1 are.1)
common-proper _ _ _ proper are = absurd are

pub combined-named : (limit : ℕ) (schemas : Schemas) (kind : WrittenKind) (all : Bool) (place : ℕ) (left right named : NamedRows) → AreNamed limit schemas left → AreNamed limit schemas right
    → combined kind all place left right ≡ Ok named → AreNamed limit schemas named
combined-named limit schemas kind all place left right named l r is =
    of-answer (AreNamed limit schemas) (combined kind all place left right) named
    (on-answer (λ (columns : List Column). AreCommon (kinds_of_columns left.columns) (kinds_of_columns right.columns) (kinds_of_columns columns)) (AreNamed limit schemas)
    (common_columns place left.columns right.columns) (set_rows (set_kind kind) all left right)
    (on-answer (λ (pairs : List (Column × Column)). (pairs ≡ zip left.columns right.columns) × (length left.columns ≡ length right.columns)) (λ (columns : List Column). AreCommon (kinds_of_columns left.columns) (kinds_of_columns right.columns) (kinds_of_columns columns))
    (unless (length left.columns == length right.columns) place ColumnCount (zip left.columns right.columns)) (each (pair_behind place) (Ok []))
    (asked-for (λ (pairs : List (Column × Column)). (pairs ≡ zip left.columns right.columns) × (length left.columns ≡ length right.columns)) (length left.columns == length right.columns) place ColumnCount (zip left.columns right.columns)
    (λ e. (refl, equal-numbers (length left.columns) (length right.columns) e)))
    (λ pairs h. subst (λ (list : List (Column × Column)). OfAnswer (λ (columns : List Column). AreCommon (kinds_of_columns left.columns) (kinds_of_columns right.columns) (kinds_of_columns columns)) (each (pair_behind place) (Ok []) list)) (sym h.0)
    (whole-paired place left.columns right.columns (each (pair_behind place) (Ok []) (zip left.columns right.columns)) (paired place left.columns right.columns [] h.1))))
    (λ columns are.
    let kinds = types_of columns in
    let node = BoundRows-F.Set (set_kind kind) all left.rows right.rows kinds in
    let common_kinds : AreCommon (kinds_of_rows left.rows) (kinds_of_rows right.rows) kinds =
    subst (λ (k : List SqlType). AreCommon k (kinds_of_rows right.rows) kinds) l.kinds (subst (λ (k : List SqlType). AreCommon (kinds_of_columns left.columns) k kinds) r.kinds are) in
    record {
      rows = subst (AreWellFormedRows limit schemas) (rolls-Set (set_kind kind) all left.rows right.rows kinds)
          (rows_made IsRowsNode AnyConjunct AnyInput (IsCoreNode limit) IsSelectNode (IsSourceNode schemas) node (l.rows, r.rows) common_kinds);
      proper = common-proper (kinds_of_columns left.columns) (kinds_of_columns right.columns) (kinds_of_columns columns) l.proper are;
      kinds = sym (ap kinds_in_rows (ap out-BoundRows (sym (rolls-Set (set_kind kind) all left.rows right.rows kinds)) ∙ out-roll-BoundRows node));
    }))
    is
