-- The lines of a node, by its parts.
use Rattle.std.proofs.Common.{◌≡◌, ℕ, Bool, List, [], ◌∷◌, ◌++◌, map, refl, sym, ap, ◌∙◌, length, Option, Some, None}
use Rattle.std.specs.List.{flat_map}
use Rattle.std.proofs.lemmas.List.{length-map}
use Rattle.sql_expr.specs.declared.tree.Expr.{Expr}
use Rattle.bound_tree.specs.declared.kinds.SetKind.{SetKind}
use Rattle.plan_tree.specs.declared.stages.PlanConjunct.{PlanConjunct}
use Rattle.plan_tree.specs.declared.stages.PlanCore.{PlanCore}
use Rattle.plan_tree.specs.declared.stages.PlanInput.{PlanInput}
use Rattle.plan_tree.specs.declared.stages.PlanRows.{PlanRows}
use Rattle.plan_tree.specs.declared.stages.PlanSelect.{PlanSelect}
use Rattle.plan_tree.specs.declared.stages.PlanSource.{PlanSource}
use Rattle.plan_tree.specs.declared.stages.PlanConjunct.TheOpen.{PlanConjunct-F, PlanInput-F, PlanRows-F}
use Rattle.plan_tree.specs.declared.stages.PlanConjunct.TheFolds.{fold_out-PlanConjunct, fold_out-PlanCore, fold_out-PlanInput, fold_out-PlanRows, fold_out-PlanSelect, fold_out-PlanSource, map-PlanConjunct, map-PlanInput, map-PlanRows}
use Rattle.plan_tree.specs.declared.stages.PlanConjunct.TheViews.{out-PlanConjunct, out-PlanCore, out-PlanInput, out-PlanRows, out-PlanSelect, out-PlanSource}
use Rattle.plan_text.specs.Lines.{subquery_line, end_line, in_line, end_in_line, filter_line, grouping_lines, project_line, distinct_line, set_line, cut_lines}
use Rattle.plan_text.specs.Explained.{SourceText, named_query, conjunct_step, input_step, rows_step, core_step, select_step, source_step, from_lines, conjunct_lines, input_lines, rows_lines, core_lines, select_lines, source_text, query_lines, scan_of, join_of, from_of, stages_of}

abbrev T : Type 0
T = List ℕ

abbrev rows_map : PlanRows-F PlanConjunct PlanInput PlanRows PlanCore PlanSelect PlanSource → PlanRows-F T (Option T) T T T SourceText
rows_map = map-PlanRows PlanConjunct PlanInput PlanRows PlanCore PlanSelect PlanSource T (Option T) T T T SourceText conjunct_lines input_lines rows_lines core_lines select_lines source_text

abbrev conjunct_map : PlanConjunct-F PlanConjunct PlanInput PlanRows PlanCore PlanSelect PlanSource → PlanConjunct-F T (Option T) T T T SourceText
conjunct_map = map-PlanConjunct PlanConjunct PlanInput PlanRows PlanCore PlanSelect PlanSource T (Option T) T T T SourceText conjunct_lines input_lines rows_lines core_lines select_lines source_text

abbrev input_map : PlanInput-F PlanConjunct PlanInput PlanRows PlanCore PlanSelect PlanSource → PlanInput-F T (Option T) T T T SourceText
input_map = map-PlanInput PlanConjunct PlanInput PlanRows PlanCore PlanSelect PlanSource T (Option T) T T T SourceText conjunct_lines input_lines rows_lines core_lines select_lines source_text

rows_out : (x : PlanRows) → rows_lines x ≡ rows_step (rows_map (out-PlanRows x))
rows_out x = fold_out-PlanRows T (Option T) T T T SourceText conjunct_step input_step rows_step core_step select_step source_step x

pub rows_core : (x : PlanRows) (core : PlanCore) → out-PlanRows x ≡ PlanRows-F.Core core → core_lines core ≡ rows_lines x
rows_core x core is = sym (rows_out x ∙ ap (λ y. rows_step (rows_map y)) is)

pub rows_set : (x : PlanRows) (kind : SetKind) (all : Bool) (left right l r : PlanRows) → out-PlanRows x ≡ PlanRows-F.Set kind all left right → l ≡ left → r ≡ right
    → rows_lines l ++ (rows_lines r ++ set_line kind all) ≡ rows_lines x
rows_set x kind all left right l r is a b =
    ap (λ y. rows_lines y ++ (rows_lines r ++ set_line kind all)) a
    ∙ ap (λ y. rows_lines left ++ (rows_lines y ++ set_line kind all)) b
    ∙ sym (rows_out x ∙ ap (λ y. rows_step (rows_map y)) is)

conjunct_out : (x : PlanConjunct) → conjunct_lines x ≡ conjunct_step (conjunct_map (out-PlanConjunct x))
conjunct_out x = fold_out-PlanConjunct T (Option T) T T T SourceText conjunct_step input_step rows_step core_step select_step source_step x

pub conjunct_member : (x : PlanConjunct) (of : Expr) (query q : PlanSelect) (negated : Bool) → out-PlanConjunct x ≡ PlanConjunct-F.Member of query negated → q ≡ query
    → in_line ++ (select_lines q ++ end_in_line) ≡ conjunct_lines x
conjunct_member x of query q negated is a =
    ap (λ y. in_line ++ (select_lines y ++ end_in_line)) a ∙ sym (conjunct_out x ∙ ap (λ y. conjunct_step (conjunct_map y)) is)

pub conjunct_condition : (x : PlanConjunct) (expr : Expr) → out-PlanConjunct x ≡ PlanConjunct-F.Condition expr → [] ≡ conjunct_lines x
conjunct_condition x expr is = sym (conjunct_out x ∙ ap (λ y. conjunct_step (conjunct_map y)) is)

source_out : (x : PlanSource) → source_text x
    ≡ record {
      query = named_query (out-PlanSource x).name (input_lines (out-PlanSource x).rows);
      scan = scan_of x;
      join = join_of x;
    }
source_out x = fold_out-PlanSource T (Option T) T T T SourceText conjunct_step input_step rows_step core_step select_step source_step x

input_out : (x : PlanInput) → input_lines x ≡ input_step (input_map (out-PlanInput x))
input_out x = fold_out-PlanInput T (Option T) T T T SourceText conjunct_step input_step rows_step core_step select_step source_step x

pub source_query : (x : PlanSource) (query q : PlanSelect) → out-PlanInput (out-PlanSource x).rows ≡ PlanInput-F.Query query → q ≡ query
    → subquery_line (out-PlanSource x).name ++ (select_lines q ++ end_line (out-PlanSource x).name) ≡ query_lines x
source_query x query q is a =
    ap (λ y. subquery_line (out-PlanSource x).name ++ (select_lines y ++ end_line (out-PlanSource x).name)) a
    ∙ sym (ap (λ (t : SourceText). t.query) (source_out x)
    ∙ ap (named_query (out-PlanSource x).name) (input_out (out-PlanSource x).rows ∙ ap (λ y. input_step (input_map y)) is))

pub source_table : (x : PlanSource) (name : List ℕ) → out-PlanInput (out-PlanSource x).rows ≡ PlanInput-F.Table name → [] ≡ query_lines x
source_table x name is =
    sym (ap (λ (t : SourceText). t.query) (source_out x)
    ∙ ap (named_query (out-PlanSource x).name) (input_out (out-PlanSource x).rows ∙ ap (λ y. input_step (input_map y)) is))

pub select_rows : (x : PlanSelect) (r : PlanRows) → r ≡ (out-PlanSelect x).rows → rows_lines r ++ cut_lines (out-PlanSelect x).cut ≡ select_lines x
select_rows x r a =
    ap (λ y. rows_lines y ++ cut_lines (out-PlanSelect x).cut) a
    ∙ sym (fold_out-PlanSelect T (Option T) T T T SourceText conjunct_step input_step rows_step core_step select_step source_step x)

-- ---- a core

flat_over : {A B : Type 0} (g : A → B) (f : B → T) (xs : List A) → flat_map f (map g xs) ≡ flat_map (λ x. f (g x)) xs
flat_over g f [] = refl
flat_over g f (x ∷ xs) = ap (λ l. f (g x) ++ l) (flat_over g f xs)

joins_out : (xs : List PlanSource) → flat_map (λ (t : SourceText). t.join) (map source_text xs) ≡ flat_map join_of xs
joins_out [] = refl
joins_out (x ∷ xs) =
    ap (λ (t : SourceText). t.join ++ flat_map (λ (t : SourceText). t.join) (map source_text xs)) (source_out x) ∙ ap (λ l. join_of x ++ l) (joins_out xs)

from_out : (xs : List PlanSource) → from_lines (map source_text xs) ≡ from_of xs
from_out [] = refl
from_out (x ∷ xs) =
    ap (λ (t : SourceText). t.scan ++ flat_map (λ (t : SourceText). t.join) (map source_text xs)) (source_out x) ∙ ap (λ l. scan_of x ++ l) (joins_out xs)

four_parts : {q q' m m' f f' : T} {n n' : ℕ} (rest : ℕ → T) → q ≡ q' → m ≡ m' → f ≡ f' → n ≡ n' → q ++ (m ++ (f ++ rest n)) ≡ q' ++ (m' ++ (f' ++ rest n'))
four_parts {q} {q'} {m} {m'} {f} {f'} {n} {n'} rest a b c d =
    ap (λ x. x ++ (m ++ (f ++ rest n))) a
    ∙ ap (λ x. q' ++ (x ++ (f ++ rest n))) b
    ∙ ap (λ x. q' ++ (m' ++ (x ++ rest n))) c
    ∙ ap (λ x. q' ++ (m' ++ (f' ++ rest x))) d

core_out : (x : PlanCore) → core_lines x ≡ flat_map query_lines (out-PlanCore x).sources ++ (flat_map conjunct_lines (out-PlanCore x).others ++ stages_of x)
core_out x =
    fold_out-PlanCore T (Option T) T T T SourceText conjunct_step input_step rows_step core_step select_step source_step x
    ∙ four_parts (λ others. filter_line (length (out-PlanCore x).plain) others ++ (grouping_lines (out-PlanCore x).grouping ++ (project_line (length (out-PlanCore x).items) ++ distinct_line (out-PlanCore x).distinct)))
    (flat_over source_text (λ (t : SourceText). t.query) (out-PlanCore x).sources)
    (flat_over conjunct_lines (λ (lines : T). lines) (out-PlanCore x).others)
    (from_out (out-PlanCore x).sources)
    (length-map (out-PlanCore x).others conjunct_lines)

pub core_parts : (x : PlanCore) (sources : List PlanSource) (others : List PlanConjunct) → sources ≡ (out-PlanCore x).sources → others ≡ (out-PlanCore x).others
    → flat_map query_lines sources ++ (flat_map conjunct_lines others ++ stages_of x) ≡ core_lines x
core_parts x sources others a b =
    ap (λ l. flat_map query_lines l ++ (flat_map conjunct_lines others ++ stages_of x)) a
    ∙ ap (λ l. flat_map query_lines (out-PlanCore x).sources ++ (flat_map conjunct_lines l ++ stages_of x)) b
    ∙ sym (core_out x)
