-- The rows of tables by a list of counts.
use Rattle.std.specs.Prelude.{if◌then◌else◌, List, [], ◌∷◌}
use Rattle.std.specs.Str.{bytes_eq}
use Rattle.plan_tree.specs.Planned.{Counts}
use Rattle.sql_plan.specs.declared.counts.TableCount.{TableCount}

-- the first count of a table is the one that holds; a table that has none has no rows
abbrev pub counts_in : List TableCount → Counts
counts_in [] name = 0
counts_in (count ∷ counts) name = if bytes_eq count.name name then count.rows else counts_in counts name
