-- A core, once its clauses are bound.
use Rattle.std.proofs.Common.{◌≡◌, ℕ, ◌+◌, ◌≤◌, Bool, true, false, nat_le, List, [], ◌∷◌, ◌++◌, map, length, refl, sym, ap, ◌∙◌, subst, Option, Some, None, cond, arith, inl, inr}
use Rattle.std.specs.Prelude.{IfSome}
use Rattle.std.specs.List.{AllByRecursion}
use Rattle.std.proofs.lemmas.Bool.{and_parts, leb-true}
use Rattle.ooc_types.specs.declared.schema.SqlType.{SqlType}
use Rattle.ooc_types.specs.declared.refusal.RefusalKind.TheVariants.{TooManyColumns}
use Rattle.sql_expr.specs.declared.tree.Expr.{Expr}
use Rattle.sql_expr.specs.Kinds.{kind_of}
use Rattle.sql_expr.specs.Operations.{IsProper}
use Rattle.sql_expr.specs.Typing.{IsTyped}
use Rattle.sql_expr.specs.Values.{HasShortTexts}
use Rattle.bound_tree.specs.declared.select.Aggregate.{Aggregate}
use Rattle.bound_tree.specs.declared.select.Grouping.{Grouping}
use Rattle.bound_tree.specs.declared.select.BoundCore.{BoundCore}
use Rattle.bound_tree.specs.declared.select.BoundRows.{BoundRows}
use Rattle.bound_tree.specs.declared.select.BoundSelect.{BoundSelect}
use Rattle.bound_tree.specs.declared.select.BoundSource.{BoundSource}
use Rattle.bound_tree.specs.declared.select.Conjunct.{Conjunct}
use Rattle.bound_tree.specs.declared.select.SourceRows.{SourceRows}
use Rattle.bound_tree.specs.declared.select.BoundRows.TheOpen.{BoundCore-F, BoundRows-F}
use Rattle.bound_tree.specs.declared.select.BoundRows.TheVariants.{rolls-Core}
use Rattle.bound_tree.specs.declared.select.BoundRows.TheViews.{out-BoundRows, out-roll-BoundCore, out-roll-BoundRows, roll-BoundCore}
use Rattle.sql_scope.specs.declared.part.Call.{Call}
use Rattle.sql_scope.specs.declared.scope.ScopeColumn.{ScopeColumn}
use Rattle.sql_scope.specs.Scopes.{View, columns_of, kinds}
use Rattle.sql_clauses.specs.declared.cores.Core.{Core as Clauses}
use Rattle.sql_clauses.specs.declared.rows.Unordered.TheVariants.{Core}
use Rattle.sql_clauses.specs.Aggregates.{gathered}
use Rattle.sql_clauses.specs.Cores.{core_rows, finished, grouped_rows, grouped_trees, having_over, is_narrow, most_items, plain_rows, rows_of}
use Rattle.sql_clauses.specs.Grouping.{group_place, over_group}
use Rattle.sql_clauses.specs.Tables.{most_columns}
use Rattle.typed_scope.specs.Typed.{AreSeen, IsCalled, IsTypedOver, seen_of}
use Rattle.well_formed.specs.Aggregates.{IsAggregate, IsGrouping}
use Rattle.well_formed.specs.Cores.{IsConjunct, IsCoreNode}
use Rattle.well_formed.specs.Exprs.{IsCondition, IsExpr}
use Rattle.well_formed.specs.From.{IsSourceNode}
use Rattle.well_formed.specs.Given.{Schemas, kinds_in_rows, kinds_of_rows}
use Rattle.well_formed.specs.Rows.{AnyConjunct, AnyInput, AreWellFormedRows, IsRowsNode, IsSelectNode, IsWellFormedConjunct, IsWellFormedSource}
use Rattle.well_formed.proofs.Parts.{core_made, rows_made}
use Rattle.formed_binding.specs.Answers.{OfAnswer}
use Rattle.formed_binding.specs.Cores.{HasClauses, seen_by}
use Rattle.formed_binding.specs.Covered.{Covered}
use Rattle.formed_binding.specs.Items.{IsTested}
use Rattle.formed_binding.specs.Named.{AreNamed, AreUnordered}
use Rattle.formed_binding.specs.Parts.{AreCalls, calls_at}
use Rattle.formed_binding.proofs.EachLemmas.{asked-for, of-answer}
use Rattle.formed_binding.proofs.Facts.{closed, no-flag}
use Rattle.formed_binding.proofs.GatherLemmas.{all-different, all-formed, alone, group-typed, length-map}
use Rattle.formed_binding.proofs.JoinLemmas.{conjuncts-formed}
use Rattle.formed_binding.proofs.TreeLemmas.{over-kind, over-short}

-- ---- lists

mapped : {A B : Type 0} (P : A → Type 0) (Q : B → Type 0) (f : A → B) → ((a : A) → P a → Q (f a)) → (list : List A) → AllByRecursion P list → AllByRecursion Q (map f list)
mapped P Q f to [] all = tt
mapped P Q f to (a ∷ list) all = (to a all.0, mapped P Q f to list all.1)

three : {A : Type 0} (P Q R : A → Type 0) (list : List A) → AllByRecursion P list → AllByRecursion Q list → AllByRecursion R list → AllByRecursion (λ (a : A). P a × (Q a × R a)) list
three P Q R [] p q r = tt
three P Q R (a ∷ list) p q r = ((p.0, (q.0, r.0)), three P Q R list p.1 q.1 r.1)

two-exprs : (limit : ℕ) (columns : List SqlType) (list : List Expr) → AllByRecursion (IsTyped columns) list → AllByRecursion (HasShortTexts limit) list → AllByRecursion (IsExpr limit columns) list
two-exprs limit columns [] typed short = tt
two-exprs limit columns (e ∷ list) typed short = (record { typed = typed.0; short = short.0 }, two-exprs limit columns list typed.1 short.1)

every-to : {A : Type 0} (P Q : A → Type 0) → ((a : A) → P a → Q a) → (list : List A) → AllByRecursion P list → AllByRecursion Q list
every-to P Q to [] all = tt
every-to P Q to (a ∷ list) all = (to a all.0, every-to P Q to list all.1)

same-kinds : (f : Expr → Expr) → ((e : Expr) → kind_of (f e) ≡ kind_of e) → (list : List Expr) → map kind_of (map f list) ≡ map kind_of list
same-kinds f is [] = refl
same-kinds f is (e ∷ list) = ap (λ (k : SqlType). k ∷ map kind_of (map f list)) (is e) ∙ ap (λ (l : List SqlType). kind_of e ∷ l) (same-kinds f is list)

-- ---- calls

called : (width : ℕ) (calls xs : List Call) → ((place : ℕ) (kind : SqlType) → IsCalled width xs place kind → IsCalled width calls place kind) → AllByRecursion (λ (call : Call). IsCalled width calls (width + call.place) call.aggregate.result) xs
called width calls [] to = tt
called width calls (x ∷ xs) to = (to (width + x.place) x.aggregate.result (inl (refl, refl)), called width calls xs (λ place kind h. to place kind (inr h)))

-- the aggregates of a core are seen by its items
seen-all : (columns : List SqlType) (calls : List Call) → AreSeen (seen_of columns calls) (length columns) calls
seen-all columns calls =
    every-to (λ (call : Call). IsCalled (length columns) calls (length columns + call.place) call.aggregate.result) (λ (call : Call). seen_of columns calls (length columns + call.place) call.aggregate.result) (λ call h. inr h) calls
    (called (length columns) calls calls (λ place kind h. h))

aggregates-of : (view : View) (flag : Bool) (calls : List Call) → AreCalls view flag calls → AllByRecursion (λ (call : Call). IsAggregate view.limit (kinds view) call.aggregate) calls
aggregates-of view flag [] all = tt
aggregates-of view flag (call ∷ calls) all = (all.0.aggregate, aggregates-of view flag calls all.1)

abbrev group_kinds : List Expr → List Call → List SqlType
group_kinds keys calls = map kind_of keys ++ map (λ (aggregate : Aggregate). aggregate.result) (gathered calls).aggregates

abbrev over : List Expr → ℕ → List Call → Expr → Expr
over keys width calls e = over_group keys (group_place (length keys) width (gathered calls).calls) e

-- a tree of a grouped core
over-expr : (limit width : ℕ) (columns : List SqlType) (keys : List Expr) (calls : List Call) (e : Expr) → length columns ≡ width → AllByRecursion (λ (call : Call). IsAggregate limit columns call.aggregate) calls
    → ((place : ℕ) → calls_at calls place ≤ 1) → Covered keys width e → IsTypedOver (seen_of columns calls) e → HasShortTexts limit e → IsExpr limit (group_kinds keys calls) (over keys width calls e)
over-expr limit width columns keys calls e is each few covers typed short = record {
  typed = subst (λ (w : ℕ). IsTyped (group_kinds keys calls) (over keys w calls e)) is (group-typed limit columns keys calls e each few (subst (λ (w : ℕ). Covered keys w e) (sym is) covers) typed);
  short = over-short keys (group_place (length keys) width (gathered calls).calls) limit e short;
}

-- ---- rows of a core

module _ (limit : ℕ) (schemas : Schemas) (core : Clauses) (grouping : Option Grouping) (items : List Expr) where
  abbrev Node : Type 0
  Node = BoundCore-F BoundRows Conjunct SourceRows BoundCore BoundSelect BoundSource

  abbrev node : Node
  node = record { sources = core.sources; conjuncts = core.conjuncts; grouping = grouping; items = items; distinct = core.distinct }

  rows-kinds : kinds_of_rows (core_rows core grouping items) ≡ map kind_of items
  rows-kinds =
      ap kinds_in_rows (ap out-BoundRows (sym (rolls-Core (roll-BoundCore node))) ∙ out-roll-BoundRows (BoundRows-F.Core (roll-BoundCore node)))
      ∙ ap (λ (c : Node). map kind_of c.items) (out-roll-BoundCore node)

  rows-formed : AllByRecursion (IsWellFormedSource limit schemas) core.sources → AllByRecursion (IsWellFormedConjunct limit schemas) core.conjuncts → IsCoreNode limit node
      → AreWellFormedRows limit schemas (core_rows core grouping items)
  rows-formed sources conditions is =
      subst (AreWellFormedRows limit schemas) (rolls-Core (roll-BoundCore node))
      (rows_made IsRowsNode AnyConjunct AnyInput (IsCoreNode limit) IsSelectNode (IsSourceNode schemas) (BoundRows-F.Core (roll-BoundCore node))
      (core_made IsRowsNode AnyConjunct AnyInput (IsCoreNode limit) IsSelectNode (IsSourceNode schemas) node (sources, conditions) is) tt)

module _ (view : View) (core : Clauses) (has : HasClauses view core) where
  abbrev seen : View
  seen = seen_by view core

  abbrev columns : List SqlType
  columns = kinds seen

  abbrev calls : List Call
  calls = core.selected.outputs.calls

  abbrev trees : List Expr
  trees = core.selected.outputs.trees

  abbrev schemas : Schemas
  schemas = columns_of view.tables

  abbrev group_of : Grouping
  group_of = record { keys = core.keys; aggregates = (gathered calls).aggregates; having = having_over core (gathered calls) core.selected.having }

  record IsGood (rows : BoundRows) : Type 0 where
    formed : AreWellFormedRows view.limit schemas rows
    kinds_are : kinds_of_rows rows ≡ map kind_of trees

  few-items : is_narrow core (gathered calls) ≡ true → (length trees ≤ 64) × (length core.keys + length (gathered calls).aggregates ≤ 64)
  few-items e =
      let p = and_parts (nat_le (length trees) most_items) (nat_le (length core.keys + length (gathered calls).aggregates) most_columns) e in
      (leb-true (length trees) 64 p.0, leb-true (length core.keys + length (gathered calls).aggregates) 64 p.1)

  width-is : length columns ≡ length core.columns
  width-is = length-map (λ (c : ScopeColumn). c.kind) core.columns

  -- ---- a core that isn't grouped has no aggregate

  plain-items : core.grouped ≡ false → AllByRecursion (IsExpr view.limit columns) trees
  plain-items off =
      let none = no-flag seen core.grouped calls off has.shown.outputs.calls in
      two-exprs view.limit columns trees
      (every-to (IsTypedOver (seen_of columns [])) (IsTyped columns) (λ e typed. closed columns e typed) trees
      (has.shown.outputs.typed [] (subst (λ (list : List Call). AreSeen (seen_of columns []) (length columns) list) (sym none) tt)))
      has.shown.outputs.short

  plain-good : core.grouped ≡ false → is_narrow core (gathered calls) ≡ true → IsGood (plain_rows core)
  plain-good off narrow = record {
    formed = rows-formed view.limit schemas core None trees has.sources has.conjuncts.formed (record {
      from = has.from;
      conjuncts = subst (λ (k : List SqlType). AllByRecursion (IsConjunct view.limit k) core.conjuncts) has.seen has.conjuncts.conjuncts;
      grouping = tt;
      items = subst (λ (k : List SqlType). AllByRecursion (IsExpr view.limit k) trees) has.seen (plain-items off);
      most = (few-items narrow).0;
    });
    kinds_are = rows-kinds view.limit schemas core None trees;
  }

  -- ---- a grouped core

  aggregates-are : AllByRecursion (λ (call : Call). IsAggregate view.limit columns call.aggregate) calls
  aggregates-are = aggregates-of seen core.grouped calls has.shown.outputs.calls

  one-over : (e : Expr) → Covered core.keys (length core.columns) e → IsTypedOver (seen_of columns calls) e → HasShortTexts view.limit e → IsExpr view.limit (group_kinds core.keys calls) (over core.keys (length core.columns) calls e)
  one-over e covers typed short = over-expr view.limit (length core.columns) columns core.keys calls e width-is aggregates-are has.shown.outputs.counted covers typed short

  grouped-items : core.grouped ≡ true → AllByRecursion (IsExpr view.limit (group_kinds core.keys calls)) (grouped_trees core (gathered calls) trees)
  grouped-items on =
      mapped (λ (e : Expr). Covered core.keys (length core.columns) e × (IsTypedOver (seen_of columns calls) e × HasShortTexts view.limit e)) (IsExpr view.limit (group_kinds core.keys calls)) (over core.keys (length core.columns) calls)
      (λ e h. one-over e h.0 h.1.0 h.1.1) trees
      (three (Covered core.keys (length core.columns)) (IsTypedOver (seen_of columns calls)) (HasShortTexts view.limit) trees (has.shown.outputs.covered on) (has.shown.outputs.typed calls (seen-all columns calls)) has.shown.outputs.short)

  having-formed : (having : Option Expr) → IfSome having (IsTested seen calls) → IfSome (having_over core (gathered calls) having) (AllByRecursion (IsCondition view.limit (group_kinds core.keys calls)))
  having-formed None tested = tt
  having-formed (Some tree) tested =
      conjuncts-formed view.limit (group_kinds core.keys calls) (over core.keys (length core.columns) calls tree)
      (one-over tree tested.covered (tested.typed calls (seen-all columns calls)) tested.short)
      (over-kind core.keys (group_place (length core.keys) (length core.columns) (gathered calls).calls) tree ∙ tested.boolean)

  grouping-formed : is_narrow core (gathered calls) ≡ true → IsGrouping view.limit columns group_of
  grouping-formed narrow = record {
    keys = has.keys;
    aggregates = all-formed view.limit columns calls aggregates-are;
    different = all-different calls;
    distinct = alone calls has.unmixed;
    having = having-formed core.selected.having has.shown.having;
    most = (few-items narrow).1;
  }

  grouped-good : core.grouped ≡ true → is_narrow core (gathered calls) ≡ true → IsGood (grouped_rows core (gathered calls))
  grouped-good on narrow =
      let items = grouped_trees core (gathered calls) trees in
      let few = (few-items narrow).0 in
      let long : length items ≡ length trees = length-map (over core.keys (length core.columns) calls) trees in
      record {
        formed = rows-formed view.limit schemas core (Some group_of) items has.sources has.conjuncts.formed (record {
          from = has.from;
          conjuncts = subst (λ (k : List SqlType). AllByRecursion (IsConjunct view.limit k) core.conjuncts) has.seen has.conjuncts.conjuncts;
          grouping = subst (λ (k : List SqlType). IsGrouping view.limit k group_of) has.seen (grouping-formed narrow);
          items = grouped-items on;
          most = omega arith;
        });
        kinds_are = rows-kinds view.limit schemas core (Some group_of) items ∙ same-kinds (over core.keys (length core.columns) calls) (λ e. over-kind core.keys (group_place (length core.keys) (length core.columns) (gathered calls).calls) e) trees;
      }

  either-good : is_narrow core (gathered calls) ≡ true → IsGood (rows_of core (gathered calls))
  either-good narrow = by core.grouped refl
    where
      by : (b : Bool) → core.grouped ≡ b → IsGood (cond b (grouped_rows core (gathered calls)) (plain_rows core))
      by true e = grouped-good e narrow
      by false e = plain-good e narrow

  core-named : OfAnswer (AreNamed view.limit schemas) (finished core)
  core-named =
      asked-for (AreNamed view.limit schemas) (is_narrow core (gathered calls)) core.place TooManyColumns (record { rows = rows_of core (gathered calls); columns = core.selected.outputs.columns })
      (λ narrow. let good = either-good narrow in record {
        rows = good.formed;
        kinds = has.shown.outputs.columns ∙ sym good.kinds_are;
        proper = subst (AllByRecursion IsProper) (sym has.shown.outputs.columns) has.shown.outputs.proper;
      })

  pub core-formed : AreUnordered view.limit schemas (Core core)
  core-formed = record {
    finished = λ named is. of-answer (AreNamed view.limit schemas) (finished core) named core-named is;
    plain = let e = has.shown.outputs.plain in omega arith;
    proper = subst (AllByRecursion IsProper) (sym has.shown.outputs.columns) has.shown.outputs.proper;
  }
