-- What holds of a SELECT whose columns have numbers holds of its parts.
use Rattle.std.proofs.Common.{◌≡◌, Bool, List, [], ◌∷◌, map, ap, ◌∙◌, subst}
use Rattle.std.specs.Prelude.{⊤}
use Rattle.std.specs.List.{AllByRecursion}
use Rattle.ooc_types.specs.declared.schema.SqlType.{SqlType}
use Rattle.sql_expr.specs.declared.tree.Expr.{Expr}
use Rattle.bound_tree.specs.declared.kinds.SetKind.{SetKind}
use Rattle.bound_tree.specs.declared.select.BoundCore.{BoundCore}
use Rattle.bound_tree.specs.declared.select.BoundRows.{BoundRows}
use Rattle.bound_tree.specs.declared.select.BoundSelect.{BoundSelect}
use Rattle.bound_tree.specs.declared.select.BoundSource.{BoundSource}
use Rattle.bound_tree.specs.declared.select.Conjunct.{Conjunct}
use Rattle.bound_tree.specs.declared.select.SourceRows.{SourceRows}
use Rattle.bound_tree.specs.declared.select.BoundRows.TheOpen.{BoundCore-F, BoundRows-F, BoundSelect-F, BoundSource-F, Conjunct-F, SourceRows-F}
use Rattle.bound_tree.specs.declared.select.BoundRows.TheFolds.{every_here-BoundCore, every_held-BoundRows, every_held-Conjunct, every_held-SourceRows, every_held-BoundCore, every_held-BoundSelect, every_held-BoundSource, map-BoundRows, map-Conjunct, map-SourceRows}
use Rattle.bound_tree.specs.declared.select.BoundRows.TheViews.{out-BoundCore, out-BoundRows, out-BoundSelect, out-BoundSource, out-Conjunct, out-SourceRows}
use Rattle.sql_plan.specs.Numbered.{IsNumberedCore, AreNumbered, AreNumberedRows, AreNumberedConjunct, AreNumberedInput, AreNumberedCore, AreNumberedSource}

abbrev R : Type 0
R = (x : BoundRows) × AreNumberedRows x

abbrev C : Type 0
C = (x : Conjunct) × AreNumberedConjunct x

abbrev I : Type 0
I = (x : SourceRows) × AreNumberedInput x

abbrev K : Type 0
K = (x : BoundCore) × AreNumberedCore x

abbrev S : Type 0
S = (x : BoundSelect) × AreNumbered x

abbrev O : Type 0
O = (x : BoundSource) × AreNumberedSource x

all-first : {A : Type 0} (P : A → Type 0) (ys : List ((x : A) × P x)) → AllByRecursion P (map (λ e. e.0) ys)
all-first P [] = tt
all-first P (y ∷ ys) = (y.1, all-first P ys)

core-case : (y : BoundRows-F R C I K S O) (core : BoundCore)
    → map-BoundRows R C I K S O BoundRows Conjunct SourceRows BoundCore BoundSelect BoundSource (λ e. e.0) (λ e. e.0) (λ e. e.0) (λ e. e.0) (λ e. e.0) (λ e. e.0) y ≡ BoundRows-F.Core core → AreNumberedCore core
core-case (BoundRows-F.Core y) core e = let same : y.0 ≡ core = cc in subst AreNumberedCore same y.1
core-case (BoundRows-F.Set kind all left right kinds) core e = cc

set-case : (y : BoundRows-F R C I K S O) (kind : SetKind) (all : Bool) (left right : BoundRows) (kinds : List SqlType)
    → map-BoundRows R C I K S O BoundRows Conjunct SourceRows BoundCore BoundSelect BoundSource (λ e. e.0) (λ e. e.0) (λ e. e.0) (λ e. e.0) (λ e. e.0) (λ e. e.0) y ≡ BoundRows-F.Set kind all left right kinds
    → AreNumberedRows left × AreNumberedRows right
set-case (BoundRows-F.Core y) kind all left right kinds e = cc
set-case (BoundRows-F.Set kind' all' left' right' kinds') kind all left right kinds e =
    let l : left'.0 ≡ left = cc in
    let r : right'.0 ≡ right = cc in
    (subst AreNumberedRows l left'.1, subst AreNumberedRows r right'.1)

pub rows-core : (x : BoundRows) (core : BoundCore) → out-BoundRows x ≡ BoundRows-F.Core core → AreNumberedRows x → AreNumberedCore core
rows-core x core is every = let held = every_held-BoundRows (λ x. ⊤) (λ x. ⊤) (λ x. ⊤) IsNumberedCore (λ x. ⊤) (λ x. ⊤) x every in core-case held.0 core (held.1 ∙ is)

pub rows-set : (x : BoundRows) (kind : SetKind) (all : Bool) (left right : BoundRows) (kinds : List SqlType) → out-BoundRows x ≡ BoundRows-F.Set kind all left right kinds → AreNumberedRows x
    → AreNumberedRows left × AreNumberedRows right
rows-set x kind all left right kinds is every =
    let held = every_held-BoundRows (λ x. ⊤) (λ x. ⊤) (λ x. ⊤) IsNumberedCore (λ x. ⊤) (λ x. ⊤) x every in set-case held.0 kind all left right kinds (held.1 ∙ is)

member-case : (y : Conjunct-F R C I K S O) (of : Expr) (query : BoundSelect) (negated : Bool)
    → map-Conjunct R C I K S O BoundRows Conjunct SourceRows BoundCore BoundSelect BoundSource (λ e. e.0) (λ e. e.0) (λ e. e.0) (λ e. e.0) (λ e. e.0) (λ e. e.0) y ≡ Conjunct-F.Member of query negated → AreNumbered query
member-case (Conjunct-F.Condition expr) of query negated e = cc
member-case (Conjunct-F.Member of' query' negated') of query negated e = let same : query'.0 ≡ query = cc in subst AreNumbered same query'.1

pub conjunct-query : (x : Conjunct) (of : Expr) (query : BoundSelect) (negated : Bool) → out-Conjunct x ≡ Conjunct-F.Member of query negated → AreNumberedConjunct x → AreNumbered query
conjunct-query x of query negated is every =
    let held = every_held-Conjunct (λ x. ⊤) (λ x. ⊤) (λ x. ⊤) IsNumberedCore (λ x. ⊤) (λ x. ⊤) x every in member-case held.0 of query negated (held.1 ∙ is)

query-case : (y : SourceRows-F R C I K S O) (select : BoundSelect)
    → map-SourceRows R C I K S O BoundRows Conjunct SourceRows BoundCore BoundSelect BoundSource (λ e. e.0) (λ e. e.0) (λ e. e.0) (λ e. e.0) (λ e. e.0) (λ e. e.0) y ≡ SourceRows-F.Query select → AreNumbered select
query-case (SourceRows-F.Table name) select e = cc
query-case (SourceRows-F.Query y) select e = let same : y.0 ≡ select = cc in subst AreNumbered same y.1

pub input-query : (x : SourceRows) (select : BoundSelect) → out-SourceRows x ≡ SourceRows-F.Query select → AreNumberedInput x → AreNumbered select
input-query x select is every =
    let held = every_held-SourceRows (λ x. ⊤) (λ x. ⊤) (λ x. ⊤) IsNumberedCore (λ x. ⊤) (λ x. ⊤) x every in query-case held.0 select (held.1 ∙ is)

pub core-here : (x : BoundCore) → AreNumberedCore x → IsNumberedCore (out-BoundCore x)
core-here x every = every_here-BoundCore (λ x. ⊤) (λ x. ⊤) (λ x. ⊤) IsNumberedCore (λ x. ⊤) (λ x. ⊤) x every

pub core-sources : (x : BoundCore) → AreNumberedCore x → AllByRecursion AreNumberedSource (out-BoundCore x).sources
core-sources x every =
    let held = every_held-BoundCore (λ x. ⊤) (λ x. ⊤) (λ x. ⊤) IsNumberedCore (λ x. ⊤) (λ x. ⊤) x every in
    subst (AllByRecursion AreNumberedSource) (ap (λ (c : BoundCore-F BoundRows Conjunct SourceRows BoundCore BoundSelect BoundSource). c.sources) held.1) (all-first AreNumberedSource held.0.sources)

pub core-conjuncts : (x : BoundCore) → AreNumberedCore x → AllByRecursion AreNumberedConjunct (out-BoundCore x).conjuncts
core-conjuncts x every =
    let held = every_held-BoundCore (λ x. ⊤) (λ x. ⊤) (λ x. ⊤) IsNumberedCore (λ x. ⊤) (λ x. ⊤) x every in
    subst (AllByRecursion AreNumberedConjunct) (ap (λ (c : BoundCore-F BoundRows Conjunct SourceRows BoundCore BoundSelect BoundSource). c.conjuncts) held.1) (all-first AreNumberedConjunct held.0.conjuncts)

pub select-rows : (x : BoundSelect) → AreNumbered x → AreNumberedRows (out-BoundSelect x).rows
select-rows x every =
    let held = every_held-BoundSelect (λ x. ⊤) (λ x. ⊤) (λ x. ⊤) IsNumberedCore (λ x. ⊤) (λ x. ⊤) x every in
    subst AreNumberedRows (ap (λ (c : BoundSelect-F BoundRows Conjunct SourceRows BoundCore BoundSelect BoundSource). c.rows) held.1) held.0.rows.1

pub source-rows : (x : BoundSource) → AreNumberedSource x → AreNumberedInput (out-BoundSource x).rows
source-rows x every =
    let held = every_held-BoundSource (λ x. ⊤) (λ x. ⊤) (λ x. ⊤) IsNumberedCore (λ x. ⊤) (λ x. ⊤) x every in
    subst AreNumberedInput (ap (λ (c : BoundSource-F BoundRows Conjunct SourceRows BoundCore BoundSelect BoundSource). c.rows) held.1) held.0.rows.1
