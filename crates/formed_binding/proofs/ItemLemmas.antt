-- The items of a core, and its HAVING.
use Rattle.std.proofs.Common.{◌≡◌, ℕ, zero, suc, ◌+◌, ◌≤◌, Bool, true, false, List, [], ◌∷◌, ◌++◌, map, length, refl, sym, ap, ◌∙◌, subst, Option, Some, None, Ok, cond, arith, inl}
use Rattle.std.specs.Prelude.{slice_get}
use Rattle.std.specs.List.{AllByRecursion}
use Rattle.ooc_types.specs.declared.schema.Column.{Column as Declared}
use Rattle.ooc_types.specs.declared.schema.SqlType.{SqlType}
use Rattle.ooc_types.specs.declared.schema.SqlType.TheVariants.{Boolean}
use Rattle.ooc_types.specs.declared.refusal.RefusalKind.TheVariants.{DistinctMix, NoTable, TypeMismatch}
use Rattle.sql_expr.specs.declared.tree.Expr.TheOpen.{Expr-F}
use Rattle.sql_expr.specs.declared.tree.Expr.TheVariants.{Column, rolls-Column}
use Rattle.sql_expr.specs.declared.tree.Expr.TheViews.{out-Expr, out-roll-Expr}
use Rattle.sql_expr.specs.Kinds.{kind_of}
use Rattle.sql_expr.specs.Operations.{IsProper}
use Rattle.sql_expr.specs.Values.{HasShortTexts, IsShortNode}
use Rattle.sql_expr.proofs.Every.{every_column}
use Rattle.sql_expr.proofs.Nodes.{kind_out}
use Rattle.sql_grammar.specs.declared.tree.expr.Span.{Span}
use Rattle.sql_scope.specs.declared.scope.ScopeColumn.{ScopeColumn}
use Rattle.sql_scope.specs.declared.part.Call.{Call}
use Rattle.sql_scope.specs.declared.part.Part.{Part}
use Rattle.sql_scope.specs.Answer.{◌>>=◌, each, unless}
use Rattle.sql_scope.specs.Operations.{is_boolean}
use Rattle.sql_scope.specs.Parts.{part_of}
use Rattle.sql_scope.specs.Scopes.{Spot, View, kinds, spots}
use Rattle.sql_scope.specs.Texts.{folded_at}
use Rattle.sql_clauses.specs.declared.cores.Selected.{Selected}
use Rattle.sql_clauses.specs.declared.items.Outputs.{Outputs}
use Rattle.sql_clauses.specs.Aggregates.{are_unmixed, first_call}
use Rattle.sql_clauses.specs.Conditions.{condition}
use Rattle.sql_clauses.specs.Cores.{unmixed, with_having, with_test}
use Rattle.sql_clauses.specs.Items.{column_item, covered, is_any, is_of_source, is_source, no_outputs, output_name, plain_column, source_columns, source_item, star_item, value_item, with_bare, with_output}
use Rattle.typed_scope.specs.Typed.{IsTypedNodeOver, IsTypedOver, seen_of}
use Rattle.typed_scope.proofs.PartLemmas.{back, front, truth-kind}
use Rattle.formed_binding.specs.Answers.{OfAnswer}
use Rattle.formed_binding.specs.Covered.{Covered}
use Rattle.formed_binding.specs.Items.{AreOutputs, AreShown}
use Rattle.formed_binding.specs.Parts.{IsPart, IsView}
use Rattle.formed_binding.proofs.EachLemmas.{asked-for, each-of, on-answer}
use Rattle.formed_binding.proofs.Facts.{made}
use Rattle.formed_binding.proofs.OperationLemmas.{joined-calls}
use Rattle.formed_binding.proofs.SourceLemmas.{length-behind}
use Rattle.formed_binding.proofs.TableLemmas.{all-behind, map-behind}

pub none-shown : (view : View) (grouped : Bool) (n : ℕ → ℕ) → AreOutputs view grouped n no_outputs
none-shown view grouped n = record { typed = λ calls seen. tt; short = tt; proper = tt; columns = refl; plain = refl; calls = tt; counted = λ place. omega arith; covered = λ e. tt }

-- what was bound is covered, where it is asked for
covered-bare : (grouped : Bool) (part : Part) → OfAnswer (λ (p : Part). (p ≡ part) × (grouped ≡ true → part.bare ≡ None)) (covered grouped part)
covered-bare false part = (refl, λ e. cc)
covered-bare true part = by part.bare refl
  where
    by : (o : Option ℕ) → part.bare ≡ o → OfAnswer (λ (p : Part). (p ≡ part) × (true ≡ true → part.bare ≡ None)) (with_bare part o)
    by None e = (refl, λ t. e)
    by (Some place) e = tt

module _ (view : View) (grouped : Bool) where
  with-next : (g : Bool) (n m k : ℕ → ℕ) (alias : Option Span) (outputs : Outputs) (part : Part) → AreOutputs view grouped m outputs → IsPart view g k part → (g ≡ true → grouped ≡ true)
      → ((place : ℕ) → m place + k place ≤ n place) → (grouped ≡ true → part.bare ≡ None) → OfAnswer (AreOutputs view grouped n) (with_output view alias outputs part)
  with-next g n m k alias outputs part are is to together none =
      let j = joined-calls view grouped n grouped g m k outputs.calls part.calls are.calls is.calls (λ e. e) to are.counted is.counted together in
      let width = length (kinds view) in
      let plain = plain_column view part.tree in
      let column : Declared = record { name = output_name view (length outputs.trees + 1) alias plain; kind = kind_of part.tree; nullable = true } in
      record {
        typed = λ calls seen. all-behind (IsTypedOver (seen_of (kinds view) calls)) outputs.trees part.tree
            (are.typed calls (front (λ (call : Call). seen_of (kinds view) calls (width + call.place) call.aggregate.result) outputs.calls part.calls seen))
            ((is.typed calls).typed (back (λ (call : Call). seen_of (kinds view) calls (width + call.place) call.aggregate.result) outputs.calls part.calls seen));
        short = all-behind (HasShortTexts view.limit) outputs.trees part.tree are.short (is.typed []).short;
        proper = subst (AllByRecursion IsProper) (sym (map-behind kind_of outputs.trees part.tree)) (all-behind IsProper (map kind_of outputs.trees) (kind_of part.tree) are.proper (is.typed []).proper);
        columns = map-behind (λ (c : Declared). c.kind) outputs.columns column ∙ ap (λ (l : List SqlType). l ++ kind_of part.tree ∷ []) are.columns ∙ sym (map-behind kind_of outputs.trees part.tree);
        plain = length-behind outputs.plain plain ∙ ap (λ (i : ℕ). i + 1) are.plain ∙ sym (length-behind outputs.columns column);
        calls = j.0;
        counted = j.1;
        covered = λ e. all-behind (Covered view.keys (length view.columns)) outputs.trees part.tree (are.covered e) (is.covered (none e));
      }

  pub value-next : (g : Bool) (n m k : ℕ → ℕ) (alias : Option Span) (outputs : Outputs) (part : Part) → AreOutputs view grouped m outputs → IsPart view g k part → (g ≡ true → grouped ≡ true)
      → ((place : ℕ) → m place + k place ≤ n place) → OfAnswer (AreOutputs view grouped n) (value_item view grouped alias outputs part)
  value-next g n m k alias outputs part are is to together =
      on-answer (λ (p : Part). (p ≡ part) × (grouped ≡ true → part.bare ≡ None)) (AreOutputs view grouped n) (covered grouped part) (with_output view alias outputs) (covered-bare grouped part)
      (λ p h. subst (λ (q : Part). OfAnswer (AreOutputs view grouped n) (with_output view alias outputs q)) (sym h.0) (with-next g n m k alias outputs part are is to together h.1))

-- ---- `*`

abbrev Stands : List SqlType → Spot → Type 0
Stands columns spot = slice_get columns spot.place ≡ Some spot.kind

spots-stand : (test : ScopeColumn → Bool) (at : ℕ) (scope : List ScopeColumn) (columns : List SqlType)
    → ((k : ℕ) (kind : SqlType) → slice_get (map (λ (c : ScopeColumn). c.kind) scope) k ≡ Some kind → slice_get columns (at + k) ≡ Some kind) → AllByRecursion (Stands columns) (spots test at scope)
spots-stand test at [] columns h = tt
spots-stand test at (c ∷ scope) columns h =
    by (test c) (spots-stand test (at + 1) scope columns (λ k kind is. subst (λ (n : ℕ). slice_get columns n ≡ Some kind) (let e : at + suc k ≡ (at + 1) + k = omega arith in e) (h (suc k) kind is)))
  where
    by : (b : Bool) → AllByRecursion (Stands columns) (spots test (at + 1) scope) → AllByRecursion (Stands columns) (cond b (record { place = at; kind = c.kind } ∷ spots test (at + 1) scope) (spots test (at + 1) scope))
    by true rest = (subst (λ (n : ℕ). slice_get columns n ≡ Some c.kind) (let e : at + 0 ≡ at = omega arith in e) (h 0 c.kind refl), rest)
    by false rest = rest

proper-at : (columns : List SqlType) (place : ℕ) (kind : SqlType) → AllByRecursion IsProper columns → slice_get columns place ≡ Some kind → IsProper kind
proper-at [] place kind all is = cc
proper-at (k ∷ columns) zero kind all is = let e : k ≡ kind = cc in subst IsProper e all.0
proper-at (k ∷ columns) (suc place) kind all is = proper-at columns place kind all.1 is

column-kind : (place : ℕ) (kind : SqlType) → kind_of (Column place kind) ≡ kind
column-kind place kind = kind_out (Column place kind) (Expr-F.Column place kind) (ap out-Expr (sym (rolls-Column place kind)) ∙ out-roll-Expr (Expr-F.Column place kind))

column-shown : (view : View) (place : ℕ) (spot : Spot) → IsView view → Stands (kinds view) spot → IsPart view false (λ at. 0) (part_of view (Column spot.place spot.kind) (Some place) [])
column-shown view place spot sees stands =
    made view false (λ at. 0) (Column spot.place spot.kind) (Some place) [] (part_of view (Column spot.place spot.kind) (Some place) [])
    (λ calls. record {
      typed = λ all. every_column (IsTypedNodeOver (seen_of (kinds view) calls)) spot.place spot.kind (inl stands);
      short = every_column (IsShortNode view.limit) spot.place spot.kind tt;
      proper = subst IsProper (sym (column-kind spot.place spot.kind)) (proper-at (kinds view) spot.place spot.kind sees.proper stands);
    })
    tt (λ at. omega arith) (λ none. cc) refl

module _ (view : View) (grouped : Bool) (n : ℕ → ℕ) (place : ℕ) (sees : IsView view) where
  columns-shown : (test : ScopeColumn → Bool) (outputs : Outputs) → AreOutputs view grouped n outputs → OfAnswer (AreOutputs view grouped n) (each (column_item view grouped place) (Ok outputs) (spots test 0 view.columns))
  columns-shown test outputs are =
      each-of (AreOutputs view grouped n) (Stands (kinds view)) (column_item view grouped place) (Ok outputs) (spots test 0 view.columns) are
      (λ spot before stands h. value-next view grouped false n n (λ at. 0) None before (part_of view (Column spot.place spot.kind) (Some place) []) h (column-shown view place spot sees stands) (λ e. cc) (λ at. omega arith))
      (spots-stand test 0 view.columns (kinds view) (λ k kind is. subst (λ (i : ℕ). slice_get (kinds view) i ≡ Some kind) (let e : k ≡ 0 + k = omega arith in e) is))

  pub star-next : (outputs : Outputs) → AreOutputs view grouped n outputs → OfAnswer (AreOutputs view grouped n) (star_item view grouped place outputs)
  star-next outputs are = columns-shown is_any outputs are

pub source-next : (view : View) (grouped : Bool) (n : ℕ → ℕ) (source : Span) (outputs : Outputs) → IsView view → AreOutputs view grouped n outputs → OfAnswer (AreOutputs view grouped n) (source_item view grouped source outputs)
source-next view grouped n source outputs sees are =
    let name = folded_at view.script source in
    on-answer (AreOutputs view grouped n) (AreOutputs view grouped n) (unless (is_source name view.columns) source.start NoTable outputs) (source_columns view grouped source.start name)
    (asked-for (AreOutputs view grouped n) (is_source name view.columns) source.start NoTable outputs (λ e. are))
    (λ before h. columns-shown view grouped n source.start sees (is_of_source name) before h)

-- ---- HAVING

pub having-next : (view : View) (grouped g : Bool) (n m k : ℕ → ℕ) (place : ℕ) (outputs : Outputs) (part : Part) → grouped ≡ true → AreOutputs view grouped m outputs → IsPart view g k part
    → ((place : ℕ) → m place + k place ≤ n place) → OfAnswer (AreShown view grouped n) (with_having place outputs part)
having-next view grouped g n m k place outputs part on are is together =
    on-answer (λ (p : Part). (p ≡ part) × (kind_of part.tree ≡ Boolean)) (AreShown view grouped n) (condition place part) (λ (test : Part). covered true test >>= with_test outputs)
    (asked-for (λ (p : Part). (p ≡ part) × (kind_of part.tree ≡ Boolean)) (is_boolean (kind_of part.tree)) place TypeMismatch part (λ e. (refl, truth-kind (kind_of part.tree) e)))
    (λ p h. subst (λ (q : Part). OfAnswer (AreShown view grouped n) (covered true q >>= with_test outputs)) (sym h.0)
    (on-answer (λ (q : Part). (q ≡ part) × (true ≡ true → part.bare ≡ None)) (AreShown view grouped n) (covered true part) (with_test outputs) (covered-bare true part)
    (λ q i. subst (λ (r : Part). OfAnswer (AreShown view grouped n) (with_test outputs r)) (sym i.0) (shown h.1 (i.1 refl)))))
  where
    shown : kind_of part.tree ≡ Boolean → part.bare ≡ None → OfAnswer (AreShown view grouped n) (with_test outputs part)
    shown boolean bare =
        let j = joined-calls view grouped n grouped g m k outputs.calls part.calls are.calls is.calls (λ e. e) (λ e. on) are.counted is.counted together in
        let width = length (kinds view) in
        record {
          outputs = record {
            typed = λ calls seen. are.typed calls (front (λ (call : Call). seen_of (kinds view) calls (width + call.place) call.aggregate.result) outputs.calls part.calls seen);
            short = are.short;
            proper = are.proper;
            columns = are.columns;
            plain = are.plain;
            calls = j.0;
            counted = j.1;
            covered = are.covered;
          };
          having = record {
            typed = λ calls seen. (is.typed calls).typed (back (λ (call : Call). seen_of (kinds view) calls (width + call.place) call.aggregate.result) outputs.calls part.calls seen);
            short = (is.typed []).short;
            boolean = boolean;
            covered = is.covered bare;
          };
        }

pub without-next : (view : View) (grouped : Bool) (n : ℕ → ℕ) (outputs : Outputs) → AreOutputs view grouped n outputs → AreShown view grouped n (record { outputs = outputs; having = None })
without-next view grouped n outputs are = record { outputs = are; having = tt }

pub unmixed-next : (view : View) (grouped : Bool) (n : ℕ → ℕ) (selected : Selected) → AreShown view grouped n selected → OfAnswer (AreShown view grouped n) (unmixed selected)
unmixed-next view grouped n selected are = asked-for (AreShown view grouped n) (are_unmixed selected.outputs.calls) (first_call selected.outputs.calls) DistinctMix selected (λ e. are)

pub alone-next : (view : View) (grouped : Bool) (n : ℕ → ℕ) (selected : Selected) → AreShown view grouped n selected → OfAnswer (λ (s : Selected). are_unmixed s.outputs.calls ≡ true) (unmixed selected)
alone-next view grouped n selected are = asked-for (λ (s : Selected). are_unmixed s.outputs.calls ≡ true) (are_unmixed selected.outputs.calls) (first_call selected.outputs.calls) DistinctMix selected (λ e. e)
