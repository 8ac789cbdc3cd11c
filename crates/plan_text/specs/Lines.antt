-- The lines of a plan's stages, each with its line feed.
use Rattle.std.specs.Prelude.{ℕ, ◌+◌, Bool, true, false, ◌&&◌, ◌==◌, if◌then◌else◌, List, [], ◌++◌, length, codes, decimal, Option, Some, None, is_some}
use Rattle.std.specs.List.{list_any}
use Rattle.bound_tree.specs.declared.kinds.AggregateKind.{AggregateKind}
use Rattle.bound_tree.specs.declared.kinds.AggregateKind.TheVariants as kind
use Rattle.bound_tree.specs.declared.kinds.SetKind.{SetKind}
use Rattle.bound_tree.specs.declared.kinds.SetKind.TheVariants.{Union, Except, Intersect}
use Rattle.bound_tree.specs.declared.select.Aggregate.{Aggregate}
use Rattle.bound_tree.specs.declared.select.Cut.{Cut}
use Rattle.bound_tree.specs.declared.select.Grouping.{Grouping}

-- ---- FROM

-- before and behind the lines of a subquery in FROM
abbrev pub subquery_line : List ℕ → List ℕ
subquery_line name = codes "subquery " ++ (name ++ codes "\n")

abbrev pub end_line : List ℕ → List ℕ
end_line name = codes "end " ++ (name ++ codes "\n")

abbrev pub scan_counts : ℕ → List ℕ
scan_counts filters = codes " filter " ++ (decimal filters ++ codes "\n")

-- the first source, by its name and how many filters it has
abbrev pub scan_line : List ℕ → ℕ → List ℕ
scan_line name filters = codes "scan " ++ (name ++ scan_counts filters)

abbrev pub join_words : Bool → List ℕ
join_words true = codes "join left "
join_words false = codes "join inner "

abbrev pub join_counts : ℕ → ℕ → ℕ → List ℕ
join_counts keys filters rest = codes " keys " ++ (decimal keys ++ (codes " filter " ++ (decimal filters ++ (codes " rest " ++ (decimal rest ++ codes "\n")))))

-- a later source, by its name and how many keys, filters and conjuncts of the rest it has
abbrev pub join_line : Bool → List ℕ → ℕ → ℕ → ℕ → List ℕ
join_line pads name keys filters rest = join_words pads ++ (name ++ join_counts keys filters rest)

-- ---- WHERE

-- before and behind the lines of a subquery of IN
abbrev pub in_line : List ℕ
in_line = codes "subquery in\n"

abbrev pub end_in_line : List ℕ
end_in_line = codes "end in\n"

-- where conjuncts are left: how many are plain, and how many others there are
abbrev pub filter_line : ℕ → ℕ → List ℕ
filter_line plain others =
    if (plain == 0) && (others == 0) then [] else codes "filter " ++ (decimal plain ++ (codes " then " ++ (decimal others ++ codes "\n")))

-- ---- what stands above

abbrev pub group_line : ℕ → ℕ → List ℕ
group_line keys aggregates = codes "group keys " ++ (decimal keys ++ (codes " aggregates " ++ (decimal aggregates ++ codes "\n")))

abbrev pub counts_distinct : AggregateKind → Bool
counts_distinct kind.CountRows = false
counts_distinct kind.Count = false
counts_distinct kind.CountDistinct = true
counts_distinct kind.Sum = false
counts_distinct kind.Min = false
counts_distinct kind.Max = false

abbrev pub is_distinct_count : Aggregate → Bool
is_distinct_count aggregate = counts_distinct aggregate.kind

-- count(DISTINCT x) is two groupings: first x is one more key, and then the rows of each group are counted
abbrev pub two_group_lines : ℕ → ℕ → List ℕ
two_group_lines keys aggregates = group_line (keys + 1) 0 ++ group_line keys aggregates

abbrev pub group_lines : ℕ → List Aggregate → List ℕ
group_lines keys aggregates =
    if list_any is_distinct_count aggregates then two_group_lines keys (length aggregates) else group_line keys (length aggregates)

abbrev pub having_line : Bool → List ℕ
having_line true = codes "having\n"
having_line false = []

abbrev pub grouping_lines : Option Grouping → List ℕ
grouping_lines None = []
grouping_lines (Some grouping) = group_lines (length grouping.keys) grouping.aggregates ++ having_line (is_some grouping.having)

-- how many columns the output has
abbrev pub project_line : ℕ → List ℕ
project_line columns = codes "project " ++ (decimal columns ++ codes "\n")

abbrev pub distinct_line : Bool → List ℕ
distinct_line true = codes "distinct\n"
distinct_line false = []

-- ---- set operations

-- behind the lines of a later operand
abbrev pub set_line : SetKind → Bool → List ℕ
set_line Union true = codes "union all\n"
set_line Union false = codes "union\n"
set_line Except true = codes "except all\n"
set_line Except false = codes "except\n"
set_line Intersect true = codes "intersect all\n"
set_line Intersect false = codes "intersect\n"

-- ---- order

-- how many keys are written
abbrev pub order_line : ℕ → List ℕ
order_line keys = codes "order " ++ (decimal keys ++ codes "\n")

-- where LIMIT or OFFSET stands
abbrev pub limit_line : Option ℕ → Option ℕ → List ℕ
limit_line None None = []
limit_line None (Some offset) = codes "limit all offset " ++ (decimal offset ++ codes "\n")
limit_line (Some limit) None = codes "limit " ++ (decimal limit ++ codes " offset 0\n")
limit_line (Some limit) (Some offset) = codes "limit " ++ (decimal limit ++ (codes " offset " ++ (decimal offset ++ codes "\n")))

abbrev pub cut_lines : Option Cut → List ℕ
cut_lines None = []
cut_lines (Some cut) = order_line (length cut.keys) ++ limit_line cut.limit cut.offset
