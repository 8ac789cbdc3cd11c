-- The lists of a core are smaller than its rows.
use Rattle.std.proofs.Common.{◌≡◌, ℕ, ◌<◌, Bool, List, rules}
use Rattle.std.specs.Prelude.{Option}
use denote.Param.Weighed.{most}
use Rattle.sql_grammar.specs.declared.tree.expr.Argument.TheShapes.{weighed-Argument-Value-0}
use Rattle.sql_grammar.specs.declared.tree.expr.Argument.TheViews.{the_lemmas}
use Rattle.sql_grammar.specs.declared.tree.expr.Expr.{Expr, size-Expr}
use Rattle.sql_grammar.specs.declared.tree.select.Condition.{Condition}
use Rattle.sql_grammar.specs.declared.tree.select.Item.{Item, size-Item}
use Rattle.sql_grammar.specs.declared.tree.select.Join.{Join, size-Join}
use Rattle.sql_grammar.specs.declared.tree.select.Rows.{Rows, size-Rows}
use Rattle.sql_grammar.specs.declared.tree.select.Rows.TheVariants.{Core}
use Rattle.sql_grammar.specs.declared.tree.select.Source.{Source}

pub joins_below : (e : Rows) (place : ℕ) (distinct : Bool) (items : List Item) (first : Source) (joins lent : List Join) (filter : Option Condition) (group : List Expr) (having : Option Condition)
    → e ≡ Core place distinct items first joins filter group having → lent ≡ joins → most size-Join lent < size-Rows e
joins_below e place distinct items first joins lent filter group having is same = search (rules, the_lemmas)

pub items_below : (e : Rows) (place : ℕ) (distinct : Bool) (items lent : List Item) (first : Source) (joins : List Join) (filter : Option Condition) (group : List Expr) (having : Option Condition)
    → e ≡ Core place distinct items first joins filter group having → lent ≡ items → most size-Item lent < size-Rows e
items_below e place distinct items lent first joins filter group having is same = search (rules, the_lemmas)

pub keys_below : (e : Rows) (place : ℕ) (distinct : Bool) (items : List Item) (first : Source) (joins : List Join) (filter : Option Condition) (group lent : List Expr) (having : Option Condition)
    → e ≡ Core place distinct items first joins filter group having → lent ≡ group → most (λ x. weighed-Argument-Value-0.weight Expr size-Expr x) lent < size-Rows e
keys_below e place distinct items first joins filter group lent having is same = search (rules, the_lemmas)
