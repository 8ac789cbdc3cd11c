-- The sources of FROM.
use Rattle.std.proofs.Common.{◌≡◌, ◌≢◌, ℕ, ◌+◌, ◌≤◌, Bool, true, false, ◌==◌, nat_le, List, [], ◌∷◌, ◌++◌, map, length, refl, sym, ap, ◌∙◌, subst, Option, Some, None, cond, arith}
use Rattle.std.specs.Prelude.{not}
use Rattle.std.specs.Option.{option_map}
use Rattle.std.specs.Str.{bytes_eq}
use Rattle.std.specs.List.{AllByRecursion}
use Rattle.std.proofs.lemmas.Bool.{leb-true}
use Rattle.ooc_types.specs.declared.schema.Column.{Column}
use Rattle.ooc_types.specs.declared.schema.SqlType.{SqlType}
use Rattle.ooc_types.specs.declared.refusal.RefusalKind.TheVariants.{DuplicateName, NoTable, TooManyColumns}
use Rattle.sql_expr.specs.Operations.{IsProper}
use Rattle.bound_tree.specs.declared.kinds.JoinKind.{JoinKind}
use Rattle.bound_tree.specs.declared.select.BoundCore.{BoundCore}
use Rattle.bound_tree.specs.declared.select.BoundRows.{BoundRows}
use Rattle.bound_tree.specs.declared.select.BoundSelect.{BoundSelect}
use Rattle.bound_tree.specs.declared.select.BoundSource.{BoundSource}
use Rattle.bound_tree.specs.declared.select.Conjunct.{Conjunct}
use Rattle.bound_tree.specs.declared.select.SourceRows.{SourceRows}
use Rattle.bound_tree.specs.declared.select.SourceRows.TheVariants.{Table, Query, rolls-Table, rolls-Query}
use Rattle.bound_tree.specs.declared.select.BoundRows.TheOpen.{BoundSource-F, SourceRows-F}
use Rattle.bound_tree.specs.declared.select.BoundRows.TheViews.{out-BoundSelect, out-BoundSource, out-SourceRows, out-roll-BoundSource, out-roll-SourceRows}
use Rattle.sql_grammar.specs.declared.tree.expr.Span.{Span}
use Rattle.sql_scope.specs.declared.scope.ScopeColumn.{ScopeColumn}
use Rattle.sql_scope.specs.declared.scope.TableColumns.{TableColumns}
use Rattle.sql_scope.specs.Answer.{or_refuse}
use Rattle.sql_scope.specs.Texts.{folded, folded_at}
use Rattle.sql_scope.specs.Scopes.{View, columns_of}
use Rattle.sql_clauses.specs.declared.sources.Sources.{Sources}
use Rattle.sql_clauses.specs.Names.{name_of}
use Rattle.sql_clauses.specs.Sets.{types_of}
use Rattle.sql_clauses.specs.Sources.{a_source, all_sources, few_columns, few_sources, has_source, is_called, most_sources, query_source, scope_columns, source_behind, source_name, table_source, with_source}
use Rattle.sql_clauses.specs.Tables.{most_columns}
use Rattle.well_formed.specs.Cores.{IsCoreNode}
use Rattle.well_formed.specs.From.{HasKinds, HasKindsIn, IsSourceNode, names_of}
use Rattle.well_formed.specs.Given.{Schemas, kinds_of_columns, kinds_of_source, kinds_of_sources}
use Rattle.well_formed.specs.Names.{AreApart, in_small_letters}
use Rattle.well_formed.specs.Rows.{AnyConjunct, AnyInput, IsRowsNode, IsSelectNode, IsWellFormedInput, IsWellFormedSource}
use Rattle.well_formed.proofs.Parts.{from_made, input_made}
use Rattle.formed_binding.specs.Answers.{OfAnswer}
use Rattle.formed_binding.specs.Named.{IsSelected}
use Rattle.formed_binding.specs.Sources.{AreAll, AreSources}
use Rattle.formed_binding.specs.Tables.{AreProper}
use Rattle.formed_binding.proofs.EachLemmas.{asked-for, on-answer, or-refused}
use Rattle.formed_binding.proofs.TableLemmas.{all-behind, apart-behind, false-of, map-behind, neither, other-texts}

-- ---- lists

pub append-assoc : {A : Type 0} (xs ys zs : List A) → (xs ++ ys) ++ zs ≡ xs ++ (ys ++ zs)
append-assoc [] ys zs = refl
append-assoc (x ∷ xs) ys zs = ap (λ rest. x ∷ rest) (append-assoc xs ys zs)

pub append-nothing : {A : Type 0} (xs : List A) → xs ++ [] ≡ xs
append-nothing [] = refl
append-nothing (x ∷ xs) = ap (λ rest. x ∷ rest) (append-nothing xs)

pub map-append : {A B : Type 0} (f : A → B) (xs ys : List A) → map f (xs ++ ys) ≡ map f xs ++ map f ys
map-append f [] ys = refl
map-append f (x ∷ xs) ys = ap (λ rest. f x ∷ rest) (map-append f xs ys)

pub all-append : {A : Type 0} (P : A → Type 0) (xs ys : List A) → AllByRecursion P xs → AllByRecursion P ys → AllByRecursion P (xs ++ ys)
all-append P [] ys a b = b
all-append P (x ∷ xs) ys a b = (a.0, all-append P xs ys a.1 b)

pub sources-behind : (list : List BoundSource) (source : BoundSource) → kinds_of_sources (list ++ source ∷ []) ≡ kinds_of_sources list ++ kinds_of_source source
sources-behind [] source = append-nothing (kinds_of_source source)
sources-behind (first ∷ list) source = ap (λ rest. kinds_of_source first ++ rest) (sources-behind list source) ∙ sym (append-assoc (kinds_of_source first) (kinds_of_sources list) (kinds_of_source source))

scope-kinds : (source : List ℕ) (columns : List Column) → map (λ (c : ScopeColumn). c.kind) (scope_columns source columns) ≡ types_of columns
scope-kinds source [] = refl
scope-kinds source (c ∷ columns) = ap (λ rest. c.kind ∷ rest) (scope-kinds source columns)

new-source : (name : List ℕ) (list : List BoundSource) → has_source name list ≡ false → AllByRecursion (λ (other : List ℕ). in_small_letters other ≢ name) (names_of list)
new-source name [] e = tt
new-source name (s ∷ list) e =
    let p = neither (is_called name s) (has_source name list) e in
    (other-texts (folded (out-BoundSource s).name) name p.0, new-source name list p.1)

few-next : (n : ℕ) (ninth : Option ℕ) (place : ℕ) → (ninth ≡ None → n ≤ 8) → cond (n == most_sources) (Some place) ninth ≡ None → n + 1 ≤ 8
few-next n ninth place few is = by (n == 8) refl is
  where
    by : (b : Bool) → (n == 8) ≡ b → ◌≡◌ {A = Option ℕ} (cond b (Some place) ninth) None → n + 1 ≤ 8
    by true e is = cc
    by false e is = let h : n ≤ 8 = few is in grind arith

pub length-behind : {A : Type 0} (xs : List A) (x : A) → length (xs ++ x ∷ []) ≡ length xs + 1
length-behind [] x = refl
length-behind (y ∷ xs) x = let h = length-behind xs x in omega arith

schema-proper : (columns : List Column) → AreProper columns → AllByRecursion IsProper (types_of columns)
schema-proper columns schema = go columns schema
  where
    go : (columns : List Column) → AllByRecursion (λ (c : Column). IsProper c.kind) columns → AllByRecursion IsProper (types_of columns)
    go [] all = tt
    go (c ∷ columns) all = (all.0, go columns all.1)

there : (tables : List TableColumns) (name : List ℕ) (columns : List Column) → AllByRecursion (λ (t : TableColumns). AreProper t.columns) tables → columns_of tables name ≡ Some columns → AreProper columns
there [] name columns all is = cc
there (t ∷ tables) name columns all is = by (bytes_eq t.name name) (λ later. there tables name columns all.1 later) is
  where
    by : (b : Bool) → (columns_of tables name ≡ Some columns → AreProper columns) → cond b (Some t.columns) (columns_of tables name) ≡ Some columns → AreProper columns
    by true later is = let e : t.columns ≡ columns = cc in subst AreProper e all.0
    by false later is = later is

-- ---- one source more

module _ (view : View) where
  abbrev schemas : Schemas
  schemas = columns_of view.tables

  pub source-next : (place at : ℕ) (name : List ℕ) (join : JoinKind) (rows : SourceRows) (columns : List Column) (sources : Sources) (joins : List JoinKind) → IsWellFormedInput view.limit schemas rows → HasKinds schemas (types_of columns) rows
      → AllByRecursion IsProper (types_of columns) → AreSources view sources joins → OfAnswer (λ t. AreSources view t (joins ++ join ∷ [])) (source_behind place at name join rows columns sources)
  source-next place at name join rows columns sources joins input has proper are =
      let node : BoundSource-F BoundRows Conjunct SourceRows BoundCore BoundSelect BoundSource = record { name = name; rows = rows; kinds = types_of columns; join = join; on = [] } in
      let source = a_source name join rows columns in
      let is = out-roll-BoundSource node in
      let named : (out-BoundSource source).name ≡ name = ap (λ (s : BoundSource-F BoundRows Conjunct SourceRows BoundCore BoundSelect BoundSource). s.name) is in
      let joined : (out-BoundSource source).join ≡ join = ap (λ (s : BoundSource-F BoundRows Conjunct SourceRows BoundCore BoundSelect BoundSource). s.join) is in
      let kinds : kinds_of_source source ≡ types_of columns = ap (λ (s : BoundSource-F BoundRows Conjunct SourceRows BoundCore BoundSelect BoundSource). s.kinds) is in
      let kind_of_scope : ScopeColumn → SqlType = λ c. c.kind in
      asked-for (λ t. AreSources view t (joins ++ join ∷ [])) (not (has_source (folded name) sources.list)) at DuplicateName (with_source place name join rows columns sources)
      (λ e. record {
        names = subst AreApart (sym (map-behind (λ (s : BoundSource). (out-BoundSource s).name) sources.list source ∙ ap (λ (n : List ℕ). names_of sources.list ++ n ∷ []) named))
            (apart-behind (names_of sources.list) name are.names (new-source (folded name) sources.list (false-of (has_source (folded name) sources.list) e)));
        few = λ none. let h = few-next (length sources.list) sources.ninth place are.few none in let l = length-behind sources.list source in omega arith;
        kinds = map-append kind_of_scope sources.columns (scope_columns (folded name) columns)
            ∙ ap (λ (front : List SqlType). front ++ map kind_of_scope (scope_columns (folded name) columns)) are.kinds
            ∙ ap (λ (back : List SqlType). kinds_of_sources sources.list ++ back) (scope-kinds (folded name) columns ∙ sym kinds)
            ∙ sym (sources-behind sources.list source);
        proper = subst (AllByRecursion IsProper) (sym (map-append kind_of_scope sources.columns (scope_columns (folded name) columns)))
            (all-append IsProper (map kind_of_scope sources.columns) (map kind_of_scope (scope_columns (folded name) columns)) are.proper (subst (AllByRecursion IsProper) (sym (scope-kinds (folded name) columns)) proper));
        well = all-behind (IsWellFormedSource view.limit schemas) sources.list source are.well
            (from_made IsRowsNode AnyConjunct AnyInput (IsCoreNode view.limit) IsSelectNode (IsSourceNode schemas) node input has);
        joins = map-behind (λ (s : BoundSource). (out-BoundSource s).join) sources.list source ∙ ap (λ (j : JoinKind). map (λ (s : BoundSource). (out-BoundSource s).join) sources.list ++ j ∷ []) joined ∙ ap (λ (front : List JoinKind). front ++ join ∷ []) are.joins;
        plain = all-behind (λ (s : BoundSource). (out-BoundSource s).on ≡ []) sources.list source are.plain (ap (λ (s : BoundSource-F BoundRows Conjunct SourceRows BoundCore BoundSelect BoundSource). s.on) is);
      })

  pub table-next : (join : JoinKind) (name : Span) (alias : Option Span) (sources : Sources) (joins : List JoinKind) → AllByRecursion (λ (t : TableColumns). AreProper t.columns) view.tables → AreSources view sources joins
      → OfAnswer (λ t. AreSources view t (joins ++ join ∷ [])) (table_source view join name alias sources)
  table-next join name alias sources joins tables are =
      let table = folded_at view.script name in
      on-answer (λ (columns : List Column). columns_of view.tables table ≡ Some columns) (λ t. AreSources view t (joins ++ join ∷ []))
      (or_refuse (columns_of view.tables table) name.start NoTable) (λ (columns : List Column). source_behind name.start (source_name name alias).start (name_of view (source_name name alias)) join (Table table) columns sources)
      (or-refused (λ (columns : List Column). columns_of view.tables table ≡ Some columns) (columns_of view.tables table) name.start NoTable (λ columns is. is))
      (λ columns is. source-next name.start (source_name name alias).start (name_of view (source_name name alias)) join (Table table) columns sources joins
      (subst (IsWellFormedInput view.limit schemas) (rolls-Table table) (input_made IsRowsNode AnyConjunct AnyInput (IsCoreNode view.limit) IsSelectNode (IsSourceNode schemas) (SourceRows-F.Table table) tt tt))
      (subst (HasKindsIn schemas (types_of columns)) (sym (ap out-SourceRows (sym (rolls-Table table)) ∙ out-roll-SourceRows (SourceRows-F.Table table))) (ap (option_map kinds_of_columns) is))
      (schema-proper columns (there view.tables table columns tables is)) are)

  pub query-next : (join : JoinKind) (place : ℕ) (alias : Span) (sources : Sources) (joins : List JoinKind) (query : BoundSelect) → IsSelected view.limit schemas query → AreSources view sources joins
      → OfAnswer (λ t. AreSources view t (joins ++ join ∷ [])) (query_source view join place alias sources query)
  query-next join place alias sources joins query selected are =
      source-next place alias.start (name_of view alias) join (Query query) (out-BoundSelect query).columns sources joins
      (subst (IsWellFormedInput view.limit schemas) (rolls-Query query) (input_made IsRowsNode AnyConjunct AnyInput (IsCoreNode view.limit) IsSelectNode (IsSourceNode schemas) (SourceRows-F.Query query) selected.formed tt))
      (subst (HasKindsIn schemas (types_of (out-BoundSelect query).columns)) (sym (ap out-SourceRows (sym (rolls-Query query)) ∙ out-roll-SourceRows (SourceRows-F.Query query))) refl)
      selected.proper are

  pub all-there : (place : ℕ) (sources : Sources) (joins : List JoinKind) → AreSources view sources joins → OfAnswer (λ t. AreAll view t joins) (all_sources place sources)
  all-there place sources joins are =
      on-answer (λ t. (t ≡ sources) × (length sources.list ≤ 8)) (λ t. AreAll view t joins) (few_sources sources sources.ninth) (few_columns place) (by sources.ninth refl)
      (λ t h. subst (λ u. OfAnswer (λ t. AreAll view t joins) (few_columns place u)) (sym h.0)
      (asked-for (λ t. AreAll view t joins) (nat_le (length sources.columns) most_columns) place TooManyColumns sources (λ e. record { are = are; few = h.1; narrow = leb-true (length sources.columns) 64 e })))
    where
      by : (o : Option ℕ) → sources.ninth ≡ o → OfAnswer (λ t. (t ≡ sources) × (length sources.list ≤ 8)) (few_sources sources o)
      by None e = (refl, are.few e)
      by (Some ninth) e = tt
