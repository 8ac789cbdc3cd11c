-- ORDER BY, LIMIT and OFFSET, and the SELECT whole.
use Rattle.std.proofs.Common.{◌≡◌, ℕ, ◌+◌, ◌-◌, ◌<◌, ◌≤◌, ◌^◌, Bool, true, false, nat_le, List, [], ◌∷◌, length, refl, sym, subst, Option, Some, None, Ok, Err, cond, arith}
use Rattle.std.specs.Prelude.{pos, ◌&&◌, IfSome}
use Rattle.std.specs.Str.Parse.{digits_value}
use Rattle.std.specs.List.{AllByRecursion}
use Rattle.std.proofs.lemmas.Bool.{and_parts, leb-true, ltb-true}
use Rattle.ooc_types.specs.declared.schema.Column.{Column}
use Rattle.ooc_types.specs.declared.refusal.RefusalKind.TheVariants.{BadPosition, NoColumn}
use Rattle.bound_tree.specs.declared.select.SortKey.{SortKey}
use Rattle.bound_tree.specs.declared.select.Cut.{Cut}
use Rattle.bound_tree.specs.declared.select.BoundSelect.{BoundSelect}
use Rattle.bound_tree.specs.declared.select.BoundRows.TheViews.{out-roll-BoundSelect}
use Rattle.sql_grammar.specs.declared.tree.expr.Span.{Span}
use Rattle.sql_grammar.specs.declared.tree.select.Key.{Key}
use Rattle.sql_grammar.specs.declared.tree.select.KeyColumn.{KeyColumn}
use Rattle.sql_grammar.specs.declared.tree.select.KeyColumn.TheVariants.{Position, Name}
use Rattle.sql_lex.specs.Values.{integer_value, is_integer}
use Rattle.sql_scope.specs.declared.scope.ScopeColumn.{ScopeColumn}
use Rattle.sql_scope.specs.Answer.{Answer, ◌>>=◌}
use Rattle.sql_scope.specs.Scopes.{View}
use Rattle.sql_scope.specs.Texts.{folded_at, text_at}
use Rattle.sql_clauses.specs.declared.cores.NamedRows.{NamedRows}
use Rattle.sql_clauses.specs.declared.rows.Unordered.{Unordered}
use Rattle.sql_clauses.specs.declared.rows.Unordered.TheVariants.{Core, Set}
use Rattle.sql_clauses.specs.Cores.{rows_of}
use Rattle.sql_clauses.specs.Aggregates.{gathered}
use Rattle.sql_clauses.specs.Numbers.{number_at, some_number, whole_number, written_number}
use Rattle.sql_clauses.specs.Order.{cut, cut_of, key_behind, key_place, named_key, only_output, position, shows_column, sort_keys, with_key}
use Rattle.sql_clauses.specs.Places.{first_place, places, seen}
use Rattle.sql_clauses.specs.Rows.{cut_rows, finished_rows, output_columns, plain_outputs, select_of, select_with, source_columns}
use Rattle.sql_clauses.specs.Tables.{is_called}
use Rattle.well_formed.specs.Cores.{IsCoreNode}
use Rattle.well_formed.specs.From.{IsSourceNode}
use Rattle.well_formed.specs.Given.{Schemas, kinds_of_columns}
use Rattle.well_formed.specs.Rows.{AnyConjunct, AnyInput, IsCut, IsNumber, IsRowsNode, IsSelectNode}
use Rattle.well_formed.proofs.Parts.{whole_made}
use Rattle.sql_expr.specs.Operations.{IsProper}
use Rattle.bound_tree.specs.declared.select.BoundCore.{BoundCore}
use Rattle.bound_tree.specs.declared.select.BoundRows.{BoundRows}
use Rattle.bound_tree.specs.declared.select.BoundSource.{BoundSource}
use Rattle.bound_tree.specs.declared.select.Conjunct.{Conjunct}
use Rattle.bound_tree.specs.declared.select.SourceRows.{SourceRows}
use Rattle.bound_tree.specs.declared.select.BoundRows.TheOpen.{BoundSelect-F}
use Rattle.formed_binding.specs.Named.{AreNamed, AreUnordered, IsSelected}
use Rattle.formed_binding.specs.Answers.{OfAnswer}
use Rattle.formed_binding.proofs.EachLemmas.{any-answer, asked-for, each-keeps, on-answer, or-refused, whenever}
use Rattle.formed_binding.proofs.TableLemmas.{all-behind}

-- ---- numbers that a token writes

small-number : (place : ℕ) (text : List ℕ) → OfAnswer IsNumber (whole_number place (integer_value text))
small-number place text = by (is_integer text) refl
  where
    by : (b : Bool) → is_integer text ≡ b → OfAnswer IsNumber (whole_number place (cond b (Some (pos (digits_value 10 text))) None))
    by false e = tt
    by true e = ltb-true (digits_value 10 text) (2 ^ 127) (and_parts _ _ e).1

written-small : (view : View) (span : Option Span) → OfAnswer (λ (n : Option ℕ). IfSome n IsNumber) (written_number view span)
written-small view None = tt
written-small view (Some span) =
    on-answer IsNumber (λ (n : Option ℕ). IfSome n IsNumber) (number_at view span) some_number (small-number span.start (text_at view.script span)) (λ n small. small)

-- ---- places of outputs

places-within : {A : Type 0} (test : A → Bool) (at : ℕ) (list : List A) (count : ℕ) → at + length list ≤ count → AllByRecursion (λ (place : ℕ). place < count) (places test at list)
places-within test at [] count h = tt
places-within test at (item ∷ list) count h =
    let rest = places-within test (at + 1) list count (omega arith) in
    let here : at < count = omega arith in
    by (test item) rest here
  where
    by : (b : Bool) → AllByRecursion (λ (place : ℕ). place < count) (places test (at + 1) list) → at < count
        → AllByRecursion (λ (place : ℕ). place < count) (cond b (at ∷ places test (at + 1) list) (places test (at + 1) list))
    by true rest here = (here, rest)
    by false rest here = rest

first-within : {A : Type 0} (test : A → Bool) (at : ℕ) (list : List A) (count place : ℕ) → at + length list ≤ count → first_place test at list ≡ Some place → place < count
first-within test at [] count place h is = cc
first-within test at (item ∷ list) count place h is =
    let here : at < count = omega arith in
    by (test item) (λ later. first-within test (at + 1) list count place (omega arith) later) here is
  where
    by : (b : Bool) → (first_place test (at + 1) list ≡ Some place → place < count) → at < count → cond b (Some at) (first_place test (at + 1) list) ≡ Some place → place < count
    by true later here is = let same : at ≡ place = cc in subst (λ (n : ℕ). n < count) same here
    by false later here is = later is

only-within : (at : ℕ) (list : List ℕ) (count : ℕ) → AllByRecursion (λ (place : ℕ). place < count) list → OfAnswer (λ (place : ℕ). place < count) (only_output at (seen list))
only-within at [] count all = tt
only-within at (place ∷ []) count all = all.0
only-within at (place ∷ other ∷ more) count all = tt

position-within : (count at n : ℕ) → OfAnswer (λ (place : ℕ). place < count) (position count at n)
position-within count at n = asked-for (λ (place : ℕ). place < count) (nat_le 1 n && nat_le n count) at BadPosition (n - 1)
    (λ e. let parts = and_parts (nat_le 1 n) (nat_le n count) e in
    let low : 1 ≤ n = leb-true 1 n parts.0 in
    let high : n ≤ count = leb-true n count parts.1 in omega arith)

module _ (view : View) (sources : List ScopeColumn) (columns : List Column) (plain : List (Option ℕ)) (few : length plain ≤ length columns) where
  abbrev Within : ℕ → Type 0
  Within place = place < length columns

  named-within : (source : Option Span) (name : Span) → OfAnswer Within (named_key view sources columns plain source name)
  named-within None name =
      only-within name.start (places (is_called (folded_at view.script name)) 0 columns) (length columns) (places-within (is_called (folded_at view.script name)) 0 columns (length columns) (omega arith))
  named-within (Some source) name =
      let test = shows_column sources (folded_at view.script source) (folded_at view.script name) in
      or-refused Within (first_place test 0 plain) source.start NoColumn (λ place is. first-within test 0 plain (length columns) place (omega arith) is)

  key-within : (key : KeyColumn) → OfAnswer Within (key_place view sources columns plain key)
  key-within (Position span) =
      on-answer (λ (n : ℕ). number_at view span ≡ Ok n) Within (number_at view span) (position (length columns) span.start) (any-answer (number_at view span)) (λ n is. position-within (length columns) span.start n)
  key-within (Name written) = named-within written.source written.name

  abbrev AreWithin : List SortKey → Type 0
  AreWithin keys = AllByRecursion (λ (key : SortKey). key.place < length columns) keys

  next-key : (written : Key) (keys : List SortKey) → AreWithin keys → OfAnswer AreWithin (key_behind view sources columns plain written keys)
  next-key written keys are =
      on-answer Within AreWithin (key_place view sources columns plain written.column) (with_key written.descending keys) (key-within written.column)
      (λ place within. all-behind (λ (key : SortKey). key.place < length columns) keys (record { place = place; descending = written.descending }) are within)

  keys-within : (written : List Key) → OfAnswer AreWithin (sort_keys view sources columns plain written)
  keys-within written = each-keeps AreWithin (key_behind view sources columns plain) (Ok []) written tt (λ key keys are. next-key key keys are)

  cut-formed : (keys : List SortKey) (limit offset : Option ℕ) → AreWithin keys → IfSome limit IsNumber → IfSome offset IsNumber → IfSome (cut_of keys limit offset) (IsCut (length columns))
  cut-formed [] None None keys limit offset = tt
  cut-formed [] None (Some m) keys limit offset = record { keys = keys; limit = limit; offset = offset; written = tt }
  cut-formed [] (Some n) offset keys limit from = record { keys = keys; limit = limit; offset = from; written = tt }
  cut-formed (key ∷ more) limit offset keys most from = record { keys = keys; limit = most; offset = from; written = tt }

  whole-cut : (order : List Key) (limit offset : Option Span) → OfAnswer (λ (c : Option Cut). IfSome c (IsCut (length columns))) (cut view sources columns plain order limit offset)
  whole-cut order limit offset =
      let Formed : Option Cut → Type 0 = λ c. IfSome c (IsCut (length columns)) in
      let Small : Option ℕ → Type 0 = λ n. IfSome n IsNumber in
      on-answer AreWithin Formed (sort_keys view sources columns plain order) (λ (keys : List SortKey). written_number view limit >>= (λ (most : Option ℕ). written_number view offset >>= (λ (from : Option ℕ). Ok (cut_of keys most from))))
      (keys-within order)
      (λ keys are. on-answer Small Formed (written_number view limit) (λ (most : Option ℕ). written_number view offset >>= (λ (from : Option ℕ). Ok (cut_of keys most from))) (written-small view limit)
      (λ most small. on-answer Small Formed (written_number view offset) (λ (from : Option ℕ). Ok (cut_of keys most from)) (written-small view offset)
      (λ from little. cut-formed keys most from are small little)))

-- ---- the whole

finished-columns : (rows : Unordered) → OfAnswer (λ (named : NamedRows). named.columns ≡ output_columns rows) (finished_rows rows)
finished-columns (Core core) =
    asked-for (λ (named : NamedRows). named.columns ≡ core.selected.outputs.columns) _ core.place _ (record { rows = rows_of core (gathered core.selected.outputs.calls); columns = core.selected.outputs.columns }) (λ e. refl)
finished-columns (Set rows) = refl

both-answers : {A : Type 0} (P Q : A → Type 0) (m : Answer A) → OfAnswer P m → OfAnswer Q m → OfAnswer (λ (a : A). P a × Q a) m
both-answers P Q (Err refusal) p q = tt
both-answers P Q (Ok a) p q = (p, q)

pub select-formed : (limit : ℕ) (schemas : Schemas) (view : View) (order : List Key) (most from : Option Span) (rows : Unordered) → AreUnordered limit schemas rows
    → OfAnswer (IsSelected limit schemas) (select_of view order most from rows)
select-formed limit schemas view order most from rows are =
    let Formed = IsSelected limit schemas in
    let columns = output_columns rows in
    let Given : NamedRows → Type 0 = λ named. AreNamed limit schemas named × (named.columns ≡ columns) in
    on-answer (λ (c : Option Cut). IfSome c (IsCut (length columns))) Formed (cut_rows view rows order most from) (λ (window : Option Cut). finished_rows rows >>= select_with window)
    (whole-cut view (source_columns rows) columns (plain_outputs rows) are.plain order most from)
    (λ window formed. on-answer Given Formed (finished_rows rows) (select_with window)
    (both-answers (AreNamed limit schemas) (λ (named : NamedRows). named.columns ≡ columns) (finished_rows rows) (whenever (AreNamed limit schemas) (finished_rows rows) are.finished) (finished-columns rows))
    (λ named given.
    let node : BoundSelect-F BoundRows Conjunct SourceRows BoundCore BoundSelect BoundSource = record { rows = named.rows; columns = named.columns; cut = window } in
    record {
      formed = whole_made IsRowsNode AnyConjunct AnyInput (IsCoreNode limit) IsSelectNode (IsSourceNode schemas) node given.0.rows
          (record { columns = given.0.kinds; cut = subst (λ (list : List Column). IfSome window (IsCut (length list))) (sym given.1) formed });
      proper = subst (λ (s : BoundSelect-F BoundRows Conjunct SourceRows BoundCore BoundSelect BoundSource). AllByRecursion IsProper (kinds_of_columns s.columns)) (sym (out-roll-BoundSelect node)) given.0.proper;
    }))
