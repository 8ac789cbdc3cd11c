-- The sources of FROM.
use Rattle.std.proofs.Common.{◌≡◌, ℕ, ◌+◌, ◌≤◌, nat_le, List, [], ◌∷◌, ◌++◌, map, length, refl, ap, ◌∙◌, subst, Option, Some, None, arith, length-append}
use Rattle.std.specs.Prelude.{⊤, not}
use Rattle.std.proofs.lemmas.Bool.{leb-true}
use Rattle.ooc_types.specs.declared.schema.Column.{Column}
use Rattle.ooc_types.specs.declared.refusal.RefusalKind.TheVariants.{DuplicateName, NoTable, TooManyColumns}
use Rattle.bound_tree.specs.declared.kinds.JoinKind.{JoinKind}
use Rattle.bound_tree.specs.declared.select.BoundCore.{BoundCore}
use Rattle.bound_tree.specs.declared.select.BoundRows.{BoundRows}
use Rattle.bound_tree.specs.declared.select.BoundSelect.{BoundSelect}
use Rattle.bound_tree.specs.declared.select.BoundSource.{BoundSource}
use Rattle.bound_tree.specs.declared.select.Conjunct.{Conjunct}
use Rattle.bound_tree.specs.declared.select.SourceRows.{SourceRows}
use Rattle.bound_tree.specs.declared.select.SourceRows.TheVariants.{Table, Query, rolls-Table, rolls-Query}
use Rattle.bound_tree.specs.declared.select.BoundRows.TheOpen.{BoundSource-F, SourceRows-F}
use Rattle.bound_tree.specs.declared.select.BoundRows.TheViews.{out-BoundSelect, out-roll-BoundSource}
use Rattle.plan_tree.specs.Plannable.{columns_of_source, columns_of_sources}
use Rattle.sql_plan.specs.Numbered.{AreNumbered, AreNumberedInput, AreNumberedSource, IsNumberedCore}
use Rattle.sql_grammar.specs.declared.tree.expr.Span.{Span}
use Rattle.sql_scope.specs.Answer.{or_refuse}
use Rattle.sql_scope.specs.Texts.{folded, folded_at}
use Rattle.sql_scope.specs.Scopes.{View, columns_of}
use Rattle.sql_clauses.specs.declared.sources.Sources.{Sources}
use Rattle.sql_clauses.specs.Names.{name_of}
use Rattle.sql_clauses.specs.Sets.{types_of}
use Rattle.sql_clauses.specs.Sources.{a_source, all_sources, few_columns, few_sources, has_source, query_source, scope_column, scope_columns, source_behind, source_name, table_source, with_source}
use Rattle.sql_clauses.specs.Tables.{most_columns}
use Rattle.well_formed.proofs.Parts.{from_made, input_made}
use Rattle.numbered_binding.specs.Kept.{AreFew, AreSources, OfAnswer}
use Rattle.numbered_binding.proofs.AnswerLemmas.{all-behind, asked-for, behind-any, on-answer}

pub columns-behind : (list : List BoundSource) (source : BoundSource) → columns_of_sources (list ++ source ∷ []) ≡ columns_of_sources list + columns_of_source source
columns-behind [] source = omega arith
columns-behind (first ∷ list) source = let h = columns-behind list source in omega arith

length-map : {A B : Type 0} (f : A → B) (xs : List A) → length (map f xs) ≡ length xs
length-map f [] = refl
length-map f (x ∷ xs) = let h = length-map f xs in omega arith

source-next : (place at : ℕ) (name : List ℕ) (join : JoinKind) (rows : SourceRows) (columns : List Column) (sources : Sources) → AreNumberedInput rows → AreSources sources
    → OfAnswer AreSources (source_behind place at name join rows columns sources)
source-next place at name join rows columns sources input are =
    let node : BoundSource-F BoundRows Conjunct SourceRows BoundCore BoundSelect BoundSource = record { name = name; rows = rows; kinds = types_of columns; join = join; on = [] } in
    let source = a_source name join rows columns in
    asked-for AreSources (not (has_source (folded name) sources.list)) at DuplicateName (with_source place name join rows columns sources)
    (λ e. record {
      numbered = all-behind AreNumberedSource sources.list source are.numbered (from_made (λ x. ⊤) (λ x. ⊤) (λ x. ⊤) IsNumberedCore (λ x. ⊤) (λ x. ⊤) node input tt);
      columns =
          let a = columns-behind sources.list source in
          let b : columns_of_source source ≡ length columns =
          ap (λ (s : BoundSource-F BoundRows Conjunct SourceRows BoundCore BoundSelect BoundSource). length s.kinds) (out-roll-BoundSource node) ∙ length-map (λ (c : Column). c.kind) columns in
          let c = length-append sources.columns (scope_columns (folded name) columns) in
          let d : length (scope_columns (folded name) columns) ≡ length columns = length-map (scope_column (folded name)) columns in
          let e = are.columns in
          omega arith;
    })

pub table-next : (view : View) (join : JoinKind) (name : Span) (alias : Option Span) (sources : Sources) → AreSources sources → OfAnswer AreSources (table_source view join name alias sources)
table-next view join name alias sources are =
    let table = folded_at view.script name in
    behind-any AreSources (or_refuse (columns_of view.tables table) name.start NoTable)
    (λ (columns : List Column). source_behind name.start (source_name name alias).start (name_of view (source_name name alias)) join (Table table) columns sources)
    (λ columns. source-next name.start (source_name name alias).start (name_of view (source_name name alias)) join (Table table) columns sources
    (subst AreNumberedInput (rolls-Table table) (input_made (λ x. ⊤) (λ x. ⊤) (λ x. ⊤) IsNumberedCore (λ x. ⊤) (λ x. ⊤) (SourceRows-F.Table table) tt tt)) are)

pub query-next : (view : View) (join : JoinKind) (place : ℕ) (alias : Span) (sources : Sources) (query : BoundSelect) → AreNumbered query → AreSources sources
    → OfAnswer AreSources (query_source view join place alias sources query)
query-next view join place alias sources query numbered are =
    source-next place alias.start (name_of view alias) join (Query query) (out-BoundSelect query).columns sources
    (subst AreNumberedInput (rolls-Query query) (input_made (λ x. ⊤) (λ x. ⊤) (λ x. ⊤) IsNumberedCore (λ x. ⊤) (λ x. ⊤) (SourceRows-F.Query query) numbered tt)) are

few-found : (sources : Sources) (ninth : Option ℕ) → AreSources sources → OfAnswer AreSources (few_sources sources ninth)
few-found sources None are = are
few-found sources (Some ninth) are = tt

pub all-there : (place : ℕ) (sources : Sources) → AreSources sources → OfAnswer AreFew (all_sources place sources)
all-there place sources are =
    on-answer AreSources AreFew (few_sources sources sources.ninth) (few_columns place) (few-found sources sources.ninth are)
    (λ all h. asked-for AreFew (nat_le (length all.columns) most_columns) place TooManyColumns all
    (λ e. record { numbered = h.numbered; few = let n : length all.columns ≤ 64 = leb-true (length all.columns) most_columns e in let c = h.columns in omega arith }))
