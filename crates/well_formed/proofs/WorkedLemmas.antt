-- The worked statement is well-formed.
use Rattle.std.proofs.Common.{◌≡◌, ℕ, pos, ◌≤◌, List, [], ◌∷◌, ◌++◌, length, refl, sym, ap, ◌∙◌, subst, arith}
use Rattle.std.specs.Prelude.{codes, true, false, map, slice_get, Some, None}
use Rattle.std.specs.List.{AllByRecursion}
use Rattle.ooc_types.specs.declared.value.Value.TheVariants.{Number}
use Rattle.ooc_types.specs.declared.schema.SqlType.{SqlType}
use Rattle.ooc_types.specs.declared.schema.SqlType.TheVariants.{Integer, BigInt}
use Rattle.sql_expr.specs.declared.tree.CompareSign.TheVariants.{Greater}
use Rattle.sql_expr.specs.declared.tree.Expr.{Expr}
use Rattle.sql_expr.specs.declared.tree.Expr.TheOpen.{Expr-F}
use Rattle.sql_expr.specs.declared.tree.Expr.TheVariants.{Column, Constant, rolls-Column, rolls-Constant, rolls-Compare}
use Rattle.sql_expr.specs.declared.tree.Expr.TheViews.{out-Expr, out-roll-Expr}
use Rattle.sql_expr.specs.Kinds.{kind_of}
use Rattle.sql_expr.specs.Operations.{IsComparable}
use Rattle.sql_expr.specs.Values.{IsShortNode}
use Rattle.sql_expr.proofs.Every.{every_column, every_constant, every_compare}
use Rattle.sql_expr.proofs.Nodes.{kind_out}
use Rattle.sql_expr.proofs.Typed.{typed_column, typed_constant, typed_compare}
use Rattle.bound_tree.specs.declared.kinds.JoinKind.TheVariants.{First}
use Rattle.bound_tree.specs.declared.select.BoundCore.{BoundCore}
use Rattle.bound_tree.specs.declared.select.BoundRows.{BoundRows}
use Rattle.bound_tree.specs.declared.select.BoundSelect.{BoundSelect}
use Rattle.bound_tree.specs.declared.select.BoundSource.{BoundSource}
use Rattle.bound_tree.specs.declared.select.Conjunct.{Conjunct}
use Rattle.bound_tree.specs.declared.select.SourceRows.{SourceRows}
use Rattle.bound_tree.specs.declared.select.BoundRows.TheOpen.{BoundCore-F, BoundRows-F, BoundSelect-F, BoundSource-F, Conjunct-F, SourceRows-F}
use Rattle.bound_tree.specs.declared.select.BoundRows.TheVariants.{Core, rolls-Core}
use Rattle.bound_tree.specs.declared.select.Conjunct.TheVariants.{Member, rolls-Member}
use Rattle.bound_tree.specs.declared.select.SourceRows.TheVariants.{Table, rolls-Table}
use Rattle.bound_tree.specs.declared.select.BoundRows.TheViews.{out-BoundRows, out-BoundSource, out-Conjunct, out-SourceRows, out-roll-BoundCore, out-roll-BoundRows, out-roll-BoundSelect, out-roll-BoundSource, out-roll-Conjunct, out-roll-SourceRows}
use Rattle.well_formed.specs.Exprs.{IsCondition, IsExpr}
use Rattle.well_formed.specs.From.{HasKindsIn, IsFirst, IsFrom, IsSourceNode, MayHave}
use Rattle.well_formed.specs.Aggregates.{IsGrouping}
use Rattle.well_formed.specs.Cores.{IsConjunctIn, IsConjunct, IsCoreNode, IsOneComparable}
use Rattle.well_formed.specs.Given.{kinds_in_rows, kinds_of_columns, kinds_of_core, kinds_of_rows, kinds_of_select, kinds_of_source, kinds_of_sources}
use Rattle.well_formed.specs.Rows.{AnyConjunct, AnyInput, AreWellFormedRows, IsRowsNode, IsSelectNode, IsWellFormedConjunct, IsWellFormedCore, IsWellFormedInput, IsWellFormedSelect, IsWellFormedSource}
use Rattle.well_formed.specs.Worked.{key_column, count_column, worked_schemas, named_table, key, inner_core, inner_select, count, above_one, worked_grouping, worked_core, worked_select}
use Rattle.well_formed.proofs.Parts.{rows_made, part_made, input_made, core_made, whole_made, from_made}

abbrev Node : Type 0
Node = BoundCore-F BoundRows Conjunct SourceRows BoundCore BoundSelect BoundSource

-- ---- expressions

column_is : (columns : List SqlType) (place : ℕ) (kind : SqlType) → slice_get columns place ≡ Some kind → IsExpr 63 columns (Column place kind)
column_is columns place kind there = record { typed = typed_column columns place kind there; short = every_column (IsShortNode 63) place kind tt }

column_kind : (place : ℕ) (kind : SqlType) → kind_of (Column place kind) ≡ kind
column_kind place kind = kind_out (Column place kind) (Expr-F.Column place kind) (ap out-Expr (sym (rolls-Column place kind)) ∙ out-roll-Expr (Expr-F.Column place kind))

one : Expr
one = Constant (Number (pos 1) 0) Integer

one_is : (columns : List SqlType) → IsExpr 63 columns one
unfolding one
one_is columns = record { typed = typed_constant columns (Number (pos 1) 0) Integer (refl, refl); short = every_constant (IsShortNode 63) (Number (pos 1) 0) Integer tt }

one_kind : kind_of one ≡ Integer
unfolding one
one_kind = kind_out one (Expr-F.Constant (Number (pos 1) 0) Integer) (ap out-Expr (sym (rolls-Constant (Number (pos 1) 0) Integer)) ∙ out-roll-Expr (Expr-F.Constant (Number (pos 1) 0) Integer))

above_one_is : IsCondition 63 (Integer ∷ BigInt ∷ []) above_one
unfolding one
above_one_is =
    let columns = Integer ∷ BigInt ∷ [] in
    let left = column_is columns 1 BigInt refl in
    let right = one_is columns in
    record {
      whole = record {
        typed = typed_compare columns Greater count one left.typed right.typed (subst (λ (k : SqlType). IsComparable k (kind_of one)) (sym (column_kind 1 BigInt)) (subst (λ (k : SqlType). IsComparable BigInt k) (sym one_kind) refl));
        short = every_compare (IsShortNode 63) Greater count one left.short right.short tt;
      };
      boolean = kind_out above_one (Expr-F.Compare Greater count one) (ap out-Expr (sym (rolls-Compare Greater count one)) ∙ out-roll-Expr (Expr-F.Compare Greater count one));
    }

-- ---- the source

source_is : (name : List ℕ) → out-BoundSource (named_table name) ≡ record { name = name; rows = Table (codes "t"); kinds = Integer ∷ []; join = First; on = [] }
source_is name = out-roll-BoundSource (record { name = name; rows = Table (codes "t"); kinds = Integer ∷ []; join = First; on = [] })

table_is : out-SourceRows (Table (codes "t")) ≡ SourceRows-F.Table (codes "t")
table_is = ap out-SourceRows (sym (rolls-Table (codes "t"))) ∙ out-roll-SourceRows (SourceRows-F.Table (codes "t"))

input : IsWellFormedInput 63 worked_schemas (Table (codes "t"))
input = subst (IsWellFormedInput 63 worked_schemas) (rolls-Table (codes "t"))
    (input_made IsRowsNode AnyConjunct AnyInput (IsCoreNode 63) IsSelectNode (IsSourceNode worked_schemas) (SourceRows-F.Table (codes "t")) tt tt)

source : (name : List ℕ) → IsWellFormedSource 63 worked_schemas (named_table name)
source name = from_made IsRowsNode AnyConjunct AnyInput (IsCoreNode 63) IsSelectNode (IsSourceNode worked_schemas)
    (record { name = name; rows = Table (codes "t"); kinds = Integer ∷ []; join = First; on = [] }) input
    (subst (HasKindsIn worked_schemas (Integer ∷ [])) (sym table_is) refl)

kinds_are : (name : List ℕ) → kinds_of_sources (named_table name ∷ []) ≡ Integer ∷ []
kinds_are name = ap (λ (x : BoundSource-F BoundRows Conjunct SourceRows BoundCore BoundSelect BoundSource). x.kinds ++ []) (source_is name)

from : (name : List ℕ) → IsFrom 63 (named_table name ∷ [])
from name =
    let is = source_is name in
    record {
      first = (subst (λ (x : BoundSource-F BoundRows Conjunct SourceRows BoundCore BoundSelect BoundSource). IsFirst x.join) (sym is) tt, tt);
      names = (tt, tt);
      few = omega arith;
      narrow = subst (λ (ks : List SqlType). length ks ≤ 64) (sym (kinds_are name)) (omega arith);
      joined = (
        record {
          join = subst (λ (x : BoundSource-F BoundRows Conjunct SourceRows BoundCore BoundSelect BoundSource). MayHave x.join x.on) (sym is) refl;
          conditions = subst (λ (x : BoundSource-F BoundRows Conjunct SourceRows BoundCore BoundSelect BoundSource). AllByRecursion (IsCondition 63 ([] ++ kinds_of_source (named_table name))) x.on) (sym is) tt;
        },
        tt,
      );
    }

key_is : (name : List ℕ) → IsExpr 63 (kinds_of_sources (named_table name ∷ [])) key
key_is name = subst (λ (ks : List SqlType). IsExpr 63 ks key) (sym (kinds_are name)) (column_is (Integer ∷ []) 0 Integer refl)

-- ---- the subquery

core_rows : (core : BoundCore) → IsWellFormedCore 63 worked_schemas core → AreWellFormedRows 63 worked_schemas (Core core)
core_rows core well = subst (AreWellFormedRows 63 worked_schemas) (rolls-Core core)
    (rows_made IsRowsNode AnyConjunct AnyInput (IsCoreNode 63) IsSelectNode (IsSourceNode worked_schemas) (BoundRows-F.Core core) well tt)

core_kinds : (core : BoundCore) → kinds_of_rows (Core core) ≡ kinds_of_core core
core_kinds core = ap kinds_in_rows (ap out-BoundRows (sym (rolls-Core core)) ∙ out-roll-BoundRows (BoundRows-F.Core core))

inner_kinds : kinds_of_core inner_core ≡ Integer ∷ []
inner_kinds =
    ap (λ (x : Node). map kind_of x.items) (out-roll-BoundCore (record { sources = named_table (codes "u") ∷ []; conjuncts = []; grouping = None; items = key ∷ []; distinct = false }))
    ∙ ap (λ k. k ∷ []) (column_kind 0 Integer)

inner : IsWellFormedSelect 63 worked_schemas inner_select
inner = whole_made IsRowsNode AnyConjunct AnyInput (IsCoreNode 63) IsSelectNode (IsSourceNode worked_schemas)
    (record { rows = Core inner_core; columns = key_column ∷ []; cut = None })
    (core_rows inner_core (core_made IsRowsNode AnyConjunct AnyInput (IsCoreNode 63) IsSelectNode (IsSourceNode worked_schemas)
    (record { sources = named_table (codes "u") ∷ []; conjuncts = []; grouping = None; items = key ∷ []; distinct = false })
    ((source (codes "u"), tt), tt)
    (record { from = from (codes "u"); conjuncts = tt; grouping = tt; items = (key_is (codes "u"), tt); most = omega arith })))
    (record { columns = sym (core_kinds inner_core ∙ inner_kinds); cut = tt })

-- ---- the whole

query_kinds : kinds_of_select inner_select ≡ Integer ∷ []
query_kinds = ap (λ (x : BoundSelect-F BoundRows Conjunct SourceRows BoundCore BoundSelect BoundSource). kinds_of_columns x.columns) (out-roll-BoundSelect (record { rows = Core inner_core; columns = key_column ∷ []; cut = None }))

member_is : IsConjunct 63 (kinds_of_sources (named_table (codes "t") ∷ [])) (Member key inner_select false)
member_is =
    subst (IsConjunctIn 63 (kinds_of_sources (named_table (codes "t") ∷ [])))
    (sym (ap out-Conjunct (sym (rolls-Member key inner_select false)) ∙ out-roll-Conjunct (Conjunct-F.Member key inner_select false)))
    (record {
      operand = key_is (codes "t");
      column = subst (IsOneComparable (kind_of key)) (sym query_kinds) (subst (λ k. IsComparable k Integer) (sym (column_kind 0 Integer)) refl);
    })

member : IsWellFormedConjunct 63 worked_schemas (Member key inner_select false)
member = subst (IsWellFormedConjunct 63 worked_schemas) (rolls-Member key inner_select false)
    (part_made IsRowsNode AnyConjunct AnyInput (IsCoreNode 63) IsSelectNode (IsSourceNode worked_schemas) (Conjunct-F.Member key inner_select false) inner tt)

group_kinds : kind_of key ∷ BigInt ∷ [] ≡ Integer ∷ BigInt ∷ []
group_kinds = ap (λ k. k ∷ BigInt ∷ []) (column_kind 0 Integer)

grouping_is : IsGrouping 63 (kinds_of_sources (named_table (codes "t") ∷ [])) worked_grouping
grouping_is = record {
  keys = (key_is (codes "t"), tt);
  aggregates = (record { argument = tt; result = refl }, tt);
  different = (tt, tt);
  distinct = ((λ distinct. refl), tt);
  having = (subst (λ (ks : List SqlType). IsCondition 63 ks above_one) (sym group_kinds) above_one_is, tt);
  most = omega arith;
}

worked_node : IsCoreNode 63 (record { sources = named_table (codes "t") ∷ []; conjuncts = Member key inner_select false ∷ []; grouping = Some worked_grouping; items = key ∷ count ∷ []; distinct = false })
worked_node = record {
  from = from (codes "t");
  conjuncts = (member_is, tt);
  grouping = grouping_is;
  items = (
    subst (λ (ks : List SqlType). IsExpr 63 ks key) (sym group_kinds) (column_is (Integer ∷ BigInt ∷ []) 0 Integer refl),
    (subst (λ (ks : List SqlType). IsExpr 63 ks count) (sym group_kinds) (column_is (Integer ∷ BigInt ∷ []) 1 BigInt refl), tt),
  );
  most = omega arith;
}

worked_kinds : kinds_of_core worked_core ≡ Integer ∷ BigInt ∷ []
worked_kinds =
    ap (λ (x : Node). map kind_of x.items) (out-roll-BoundCore (record { sources = named_table (codes "t") ∷ []; conjuncts = Member key inner_select false ∷ []; grouping = Some worked_grouping; items = key ∷ count ∷ []; distinct = false }))
    ∙ ap (λ k. k ∷ kind_of count ∷ []) (column_kind 0 Integer)
    ∙ ap (λ k. Integer ∷ k ∷ []) (column_kind 1 BigInt)

pub worked_is_well_formed : IsWellFormedSelect 63 worked_schemas worked_select
worked_is_well_formed = whole_made IsRowsNode AnyConjunct AnyInput (IsCoreNode 63) IsSelectNode (IsSourceNode worked_schemas)
    (record {
      rows = Core worked_core;
      columns = key_column ∷ count_column ∷ [];
      cut = Some (record { keys = record { place = 1; descending = true } ∷ []; limit = Some 2; offset = None });
    })
    (core_rows worked_core (core_made IsRowsNode AnyConjunct AnyInput (IsCoreNode 63) IsSelectNode (IsSourceNode worked_schemas)
    (record { sources = named_table (codes "t") ∷ []; conjuncts = Member key inner_select false ∷ []; grouping = Some worked_grouping; items = key ∷ count ∷ []; distinct = false })
    ((source (codes "t"), tt), (member, tt)) worked_node))
    (record {
      columns = sym (core_kinds worked_core ∙ worked_kinds);
      cut = record { keys = (omega arith, tt); limit = omega arith; offset = tt; written = tt };
    })
