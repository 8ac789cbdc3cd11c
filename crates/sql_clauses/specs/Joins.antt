-- The conditions of joins, source after source.
use Rattle.std.specs.Prelude.{ℕ, ◌-◌, List, [], ◌∷◌, ◌++◌, length, Ok}
use Rattle.sql_expr.specs.declared.tree.Expr.{Expr as Tree}
use Rattle.bound_tree.specs.declared.select.BoundSource.{BoundSource}
use Rattle.bound_tree.specs.declared.select.BoundRows.TheViews.{out-BoundSource, roll-BoundSource}
use Rattle.sql_scope.specs.declared.part.Part.{Part}
use Rattle.sql_scope.specs.Answer.{Answer, ◌>>=◌}
use Rattle.sql_clauses.specs.declared.joins.Joined.{Joined}
use Rattle.sql_clauses.specs.Conditions.{on_condition}

-- a source with its ON
abbrev pub with_on : BoundSource → List Tree → BoundSource
with_on source on = roll-BoundSource (record {
  name = (out-BoundSource source).name;
  rows = (out-BoundSource source).rows;
  kinds = (out-BoundSource source).kinds;
  join = (out-BoundSource source).join;
  on = on;
})

abbrev pub width_of : List BoundSource → ℕ
width_of [] = 0
width_of (source ∷ sources) = length (out-BoundSource source).kinds

-- the sources of these columns, none of which is joined yet
abbrev pub not_joined : ℕ → List BoundSource → Joined
not_joined columns sources = record { joined = []; rest = sources; columns = columns; behind = columns }

-- how many columns stand behind those of the next source
abbrev pub behind_next : Joined → ℕ
behind_next all = all.behind - width_of all.rest

-- how many columns the ON of the next source sees: those of the sources before it and its own
abbrev pub on_width : Joined → ℕ
on_width all = all.columns - behind_next all

abbrev pub join_first : List BoundSource → List Tree → Joined → Joined
join_first [] on all = all
join_first (source ∷ rest) on all = record {
  joined = all.joined ++ with_on source on ∷ [];
  rest = rest;
  columns = all.columns;
  behind = behind_next all;
}

-- the next source is joined on these conditions
abbrev pub join_next : Joined → List Tree → Joined
join_next all on = join_first all.rest on all

-- the first source, and one behind CROSS JOIN
abbrev pub join_plainly : Joined → Answer Joined
join_plainly all = Ok (join_next all [])

abbrev pub join_with : Joined → List Tree → Answer Joined
join_with all on = Ok (join_next all on)

-- one behind JOIN and its ON
abbrev pub join_on : ℕ → Joined → Part → Answer Joined
join_on place all part = on_condition place part >>= join_with all
