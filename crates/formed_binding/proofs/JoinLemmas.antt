-- ON, and the sources joined.
use Rattle.std.proofs.Common.{◌≡◌, ℕ, ◌+◌, ◌-◌, List, [], ◌∷◌, ◌++◌, map, length, refl, sym, ap, ◌∙◌, subst, arith, length-append}
use Rattle.std.specs.Prelude.{take}
use Rattle.std.specs.List.{AllByRecursion}
use Rattle.ooc_types.specs.declared.schema.SqlType.{SqlType}
use Rattle.ooc_types.specs.declared.schema.SqlType.TheVariants.{Boolean}
use Rattle.ooc_types.specs.declared.refusal.RefusalKind.TheVariants.{TypeMismatch}
use Rattle.sql_expr.specs.declared.tree.Expr.{Expr}
use Rattle.sql_expr.specs.declared.tree.Link.{Link}
use Rattle.sql_expr.specs.declared.tree.Expr.TheOpen.{Expr-F}
use Rattle.sql_expr.specs.declared.tree.Expr.TheViews.{out-Expr}
use Rattle.sql_expr.specs.Kinds.{kind_of}
use Rattle.sql_expr.specs.Typing.{IsTyped, IsTypedNode}
use Rattle.sql_expr.specs.Values.{HasShortTexts, IsShortNode}
use Rattle.sql_expr.proofs.Opened.{AllOf}
use Rattle.bound_tree.specs.declared.kinds.JoinKind.{JoinKind}
use Rattle.bound_tree.specs.declared.select.BoundCore.{BoundCore}
use Rattle.bound_tree.specs.declared.select.BoundRows.{BoundRows}
use Rattle.bound_tree.specs.declared.select.BoundSelect.{BoundSelect}
use Rattle.bound_tree.specs.declared.select.BoundSource.{BoundSource}
use Rattle.bound_tree.specs.declared.select.Conjunct.{Conjunct}
use Rattle.bound_tree.specs.declared.select.SourceRows.{SourceRows}
use Rattle.bound_tree.specs.declared.select.BoundRows.TheOpen.{BoundSource-F}
use Rattle.bound_tree.specs.declared.select.BoundRows.TheViews.{out-BoundSource, out-roll-BoundSource}
use Rattle.sql_scope.specs.declared.part.Part.{Part}
use Rattle.sql_scope.specs.Operations.{is_boolean}
use Rattle.sql_scope.specs.Scopes.{View, columns_of, kinds}
use Rattle.sql_clauses.specs.declared.joins.Joined.{Joined}
use Rattle.sql_clauses.specs.Conditions.{condition, conjuncts, conjuncts_of, on_condition, operands_in}
use Rattle.sql_clauses.specs.Joins.{join_next, join_on, join_plainly, join_with, on_width, with_on}
use Rattle.typed_scope.proofs.PartLemmas.{truth-kind}
use Rattle.well_formed.specs.Cores.{IsCoreNode}
use Rattle.well_formed.specs.Exprs.{IsCondition, IsExpr}
use Rattle.well_formed.specs.From.{AreJoined, IsOn, IsSourceNode, MayHave, names_of}
use Rattle.well_formed.specs.Given.{kinds_of_source, kinds_of_sources}
use Rattle.well_formed.specs.Rows.{AnyConjunct, AnyInput, IsRowsNode, IsSelectNode, IsWellFormedSource}
use Rattle.well_formed.proofs.Parts.{from_held, from_here, from_made}
use Rattle.formed_binding.specs.Answers.{OfAnswer}
use Rattle.formed_binding.specs.Sources.{AreJoinedAs, AreJoinedTo}
use Rattle.formed_binding.proofs.EachLemmas.{asked-for, on-answer}
use Rattle.formed_binding.proofs.SourceLemmas.{append-assoc, append-nothing, sources-behind}
use Rattle.formed_binding.proofs.TableLemmas.{all-behind, map-behind}
use Rattle.formed_binding.proofs.TreeLemmas.{open-node}

-- ---- the conjuncts of a condition

all-conditions : (limit : ℕ) (columns : List SqlType) (list : List Expr) → AllByRecursion (λ (e : Expr). kind_of e ≡ Boolean) list → AllOf (IsTyped columns) list → AllOf (HasShortTexts limit) list → AllByRecursion (IsCondition limit columns) list
all-conditions limit columns [] kinds typed short = tt
all-conditions limit columns (e ∷ list) kinds typed short = (record { whole = record { typed = typed.0; short = short.0 }; boolean = kinds.0 }, all-conditions limit columns list kinds.1 typed.1 short.1)

pub conjuncts-formed : (limit : ℕ) (columns : List SqlType) (e : Expr) → IsExpr limit columns e → kind_of e ≡ Boolean → AllByRecursion (IsCondition limit columns) (conjuncts e)
conjuncts-formed limit columns e is boolean = go (out-Expr e) refl
  where
    go : (x : Expr-F Expr Link) → out-Expr e ≡ x → AllByRecursion (IsCondition limit columns) (operands_in e x)
    go (Expr-F.Every list) out =
        let t = open-node (IsTypedNode columns) e (Expr-F.Every list) is.typed out in
        let s = open-node (IsShortNode limit) e (Expr-F.Every list) is.short out in
        all-conditions limit columns list t.node t.children s.children
    go _ out = (record { whole = is; boolean = boolean }, tt)

pub on-formed : (limit : ℕ) (columns : List SqlType) (place : ℕ) (part : Part) → IsExpr limit columns part.tree → OfAnswer (AllByRecursion (IsCondition limit columns)) (on_condition place part)
on-formed limit columns place part is =
    on-answer (λ (p : Part). (p ≡ part) × (kind_of part.tree ≡ Boolean)) (AllByRecursion (IsCondition limit columns)) (condition place part) conjuncts_of
    (asked-for (λ (p : Part). (p ≡ part) × (kind_of part.tree ≡ Boolean)) (is_boolean (kind_of part.tree)) place TypeMismatch part (λ e. (refl, truth-kind (kind_of part.tree) e)))
    (λ p h. subst (λ (q : Part). AllByRecursion (IsCondition limit columns) (conjuncts q.tree)) (sym h.0) (conjuncts-formed limit columns part.tree is h.1))

-- ---- sources that are joined so far

joined-behind : (limit : ℕ) (columns : List SqlType) (list : List BoundSource) (source : BoundSource) → AreJoined limit columns list → IsOn limit (columns ++ kinds_of_sources list) source → AreJoined limit columns (list ++ source ∷ [])
joined-behind limit columns [] source are on = (subst (λ (c : List SqlType). IsOn limit c source) (append-nothing columns) on, tt)
joined-behind limit columns (first ∷ list) source are on =
    (are.0, joined-behind limit (columns ++ kinds_of_source first) list source are.1 (subst (λ (c : List SqlType). IsOn limit c source) (sym (append-assoc columns (kinds_of_source first) (kinds_of_sources list))) on))

take-front : {A : Type 0} (xs ys : List A) (n : ℕ) → n ≡ length xs → take n (xs ++ ys) ≡ xs
take-front [] [] n is = ap (λ (m : ℕ). take m []) is
take-front [] (y ∷ ys) n is = ap (λ (m : ℕ). take m (y ∷ ys)) is
take-front (x ∷ xs) ys n is = ap (λ (m : ℕ). take m (x ∷ (xs ++ ys))) is ∙ ap (λ rest. x ∷ rest) (take-front xs ys (length xs) refl)

one-behind : {A : Type 0} (xs : List A) (x : A) (ys : List A) → (xs ++ x ∷ []) ++ ys ≡ xs ++ x ∷ ys
one-behind [] x ys = refl
one-behind (y ∷ xs) x ys = ap (λ rest. y ∷ rest) (one-behind xs x ys)

module _ (view : View) (names : List (List ℕ)) (all : List JoinKind) where
  abbrev Node : Type 0
  Node = BoundSource-F BoundRows Conjunct SourceRows BoundCore BoundSelect BoundSource

  abbrev join_of : BoundSource → JoinKind
  join_of s = (out-BoundSource s).join

  -- what the next ON sees
  seen-next : (joined rest : List BoundSource) (source : BoundSource) (columns behind : ℕ) → kinds view ≡ kinds_of_sources joined ++ kinds_of_sources (source ∷ rest) → columns ≡ length (kinds view) → behind ≡ length (kinds_of_sources (source ∷ rest))
      → take (columns - (behind - length (kinds_of_source source))) (kinds view) ≡ kinds_of_sources joined ++ kinds_of_source source
  seen-next joined rest source columns behind whole width more =
      let front_kinds = kinds_of_sources joined ++ kinds_of_source source in
      let again : kinds view ≡ front_kinds ++ kinds_of_sources rest = whole ∙ sym (append-assoc (kinds_of_sources joined) (kinds_of_source source) (kinds_of_sources rest)) in
      let a : length (front_kinds ++ kinds_of_sources rest) ≡ length front_kinds + length (kinds_of_sources rest) = length-append front_kinds (kinds_of_sources rest) in
      let b : length (kinds_of_sources (source ∷ rest)) ≡ length (kinds_of_source source) + length (kinds_of_sources rest) = length-append (kinds_of_source source) (kinds_of_sources rest) in
      let c : length (kinds view) ≡ length (front_kinds ++ kinds_of_sources rest) = ap length again in
      let n : columns - (behind - length (kinds_of_source source)) ≡ length front_kinds = omega arith in
      ap (take (columns - (behind - length (kinds_of_source source)))) again ∙ take-front front_kinds (kinds_of_sources rest) (columns - (behind - length (kinds_of_source source))) n

  step : (kind : JoinKind) (left : List JoinKind) (joined rest : List BoundSource) (columns behind : ℕ) (on : List Expr) → AreJoinedTo view names all (kind ∷ left) joined rest columns behind → MayHave kind on
      → AllByRecursion (IsCondition view.limit (take (on_width (record { joined = joined; rest = rest; columns = columns; behind = behind })) (kinds view))) on
      → AreJoinedAs view names all left (join_next (record { joined = joined; rest = rest; columns = columns; behind = behind }) on)
  step kind left joined [] columns behind on are may conditions = let none = are.by_rest in cc
  step kind left joined (source ∷ rest) columns behind on are may conditions =
      let node : Node = record { name = (out-BoundSource source).name; rows = (out-BoundSource source).rows; kinds = (out-BoundSource source).kinds; join = (out-BoundSource source).join; on = on } in
      let put = with_on source on in
      let is = out-roll-BoundSource node in
      let named : (out-BoundSource put).name ≡ (out-BoundSource source).name = ap (λ (s : Node). s.name) is in
      let joined_by : join_of put ≡ join_of source = ap (λ (s : Node). s.join) is in
      let kinds_are : kinds_of_source put ≡ kinds_of_source source = ap (λ (s : Node). s.kinds) is in
      let on_is : (out-BoundSource put).on ≡ on = ap (λ (s : Node). s.on) is in
      let first : join_of source ≡ kind = let h = are.by_rest in cc in
      let later : map join_of rest ≡ left = let h = are.by_rest in cc in
      let sees = seen-next joined rest source columns behind are.whole are.width are.more in
      let b : length (kinds_of_sources (source ∷ rest)) ≡ length (kinds_of_source source) + length (kinds_of_sources rest) = length-append (kinds_of_source source) (kinds_of_sources rest) in
      let old = are.more in
      let Here = λ (c : List SqlType). IsOn view.limit c put in
      record {
        done = joined-behind view.limit [] joined put are.done (record {
          join = subst (λ (j : JoinKind). MayHave j (out-BoundSource put).on) (sym (joined_by ∙ first)) (subst (MayHave kind) (sym on_is) may);
          conditions = subst (λ (list : List Expr). AllByRecursion (IsCondition view.limit (kinds_of_sources joined ++ kinds_of_source put)) list) (sym on_is)
              (subst (λ (c : List SqlType). AllByRecursion (IsCondition view.limit c) on) (sees ∙ ap (λ (k : List SqlType). kinds_of_sources joined ++ k) (sym kinds_are)) conditions);
        });
        whole = are.whole ∙ sym (append-assoc (kinds_of_sources joined) (kinds_of_source source) (kinds_of_sources rest))
            ∙ ap (λ (k : List SqlType). (kinds_of_sources joined ++ k) ++ kinds_of_sources rest) (sym kinds_are)
            ∙ ap (λ (k : List SqlType). k ++ kinds_of_sources rest) (sym (sources-behind joined put));
        width = are.width;
        more = omega arith;
        well = all-behind (IsWellFormedSource view.limit (columns_of view.tables)) joined put are.well
            (from_made IsRowsNode AnyConjunct AnyInput (IsCoreNode view.limit) IsSelectNode (IsSourceNode (columns_of view.tables)) node
            (from_held IsRowsNode AnyConjunct AnyInput (IsCoreNode view.limit) IsSelectNode (IsSourceNode (columns_of view.tables)) source (out-BoundSource source) are.well_rest.0 refl)
            (from_here IsRowsNode AnyConjunct AnyInput (IsCoreNode view.limit) IsSelectNode (IsSourceNode (columns_of view.tables)) source (out-BoundSource source) are.well_rest.0 refl));
        well_rest = are.well_rest.1;
        called = ap (λ (n : List (List ℕ)). n ++ names_of rest) (map-behind (λ (s : BoundSource). (out-BoundSource s).name) joined put ∙ ap (λ (n : List ℕ). names_of joined ++ n ∷ []) named)
            ∙ one-behind (names_of joined) (out-BoundSource source).name (names_of rest) ∙ are.called;
        by = ap (λ (n : List JoinKind). n ++ map join_of rest) (map-behind join_of joined put ∙ ap (λ (n : JoinKind). map join_of joined ++ n ∷ []) joined_by)
            ∙ one-behind (map join_of joined) (join_of source) (map join_of rest) ∙ are.by;
        by_rest = later;
      }

  pub plainly-joined : (kind : JoinKind) (left : List JoinKind) (j : Joined) → MayHave kind [] → AreJoinedAs view names all (kind ∷ left) j → OfAnswer (AreJoinedAs view names all left) (join_plainly j)
  plainly-joined kind left j may are = step kind left j.joined j.rest j.columns j.behind [] are may tt

  pub joined-on : (kind : JoinKind) (left : List JoinKind) (place : ℕ) (j : Joined) (part : Part) → ((on : List Expr) → MayHave kind on) → AreJoinedAs view names all (kind ∷ left) j
      → IsExpr view.limit (take (on_width j) (kinds view)) part.tree → OfAnswer (AreJoinedAs view names all left) (join_on place j part)
  joined-on kind left place j part may are is =
      on-answer (AllByRecursion (IsCondition view.limit (take (on_width j) (kinds view)))) (AreJoinedAs view names all left) (on_condition place part) (join_with j)
      (on-formed view.limit (take (on_width j) (kinds view)) place part is)
      (λ on conditions. step kind left j.joined j.rest j.columns j.behind on are (may on) conditions)
