-- Where the calls of each node of a tree fit, by where those of its parts do.
use Rattle.std.proofs.Common.{◌≡◌, ◌==◌, ◌≤◌, ℕ, ◌+◌, Bool, List, [], Option, Some, None, map, sym, subst, arith}
use Rattle.sql_grammar.specs.declared.tree.expr.Argument.{Argument}
use Rattle.sql_grammar.specs.declared.tree.expr.Argument.TheVariants as a
use Rattle.sql_grammar.specs.declared.tree.expr.ColumnName.{ColumnName}
use Rattle.sql_grammar.specs.declared.tree.expr.CompareSign.{CompareSign}
use Rattle.sql_grammar.specs.declared.tree.expr.Constant.{Constant}
use Rattle.sql_grammar.specs.declared.tree.expr.Expr.{Expr}
use Rattle.sql_grammar.specs.declared.tree.expr.Expr.TheVariants as e
use Rattle.sql_grammar.specs.declared.tree.expr.Link.{Link}
use Rattle.sql_grammar.specs.declared.tree.expr.Literal.{Literal}
use Rattle.sql_grammar.specs.declared.tree.expr.Operand.{Operand}
use Rattle.sql_grammar.specs.declared.tree.expr.Span.{Span}
use Rattle.sql_grammar.specs.declared.tree.select.Condition.{Condition}
use Rattle.sql_grammar.specs.declared.tree.select.Item.{Item}
use Rattle.sql_grammar.specs.declared.tree.select.Item.TheVariants as i
use Rattle.sql_grammar.specs.declared.tree.select.Join.{Join}
use Rattle.sql_grammar.specs.declared.tree.select.Join.TheVariants as j
use Rattle.sql_grammar.specs.declared.tree.select.Rows.{Rows}
use Rattle.sql_grammar.specs.declared.tree.select.Rows.TheVariants as r
use Rattle.sql_grammar.specs.declared.tree.select.Select.{Select}
use Rattle.sql_grammar.specs.declared.tree.select.SetOperand.{SetOperand}
use Rattle.sql_grammar.specs.declared.tree.select.Source.{Source}
use Rattle.sql_grammar.specs.declared.tree.select.Source.TheVariants as o
use Rattle.sql_grammar.specs.declared.tree.expr.Argument.TheOpen.{Argument-F, Expr-F, Item-F, Join-F, Rows-F, Source-F}
use Rattle.sql_grammar.specs.declared.tree.expr.Argument.TheViews.{out-Argument, out-Expr, out-Item, out-Join, out-Rows, out-Source, outs-Argument::Star, outs-Argument::Value, outs-Distinct, outs-Between, outs-Call, outs-Chain, outs-Column, outs-Compare, outs-Either, outs-Every, outs-IsNull, outs-Like, outs-Literal, outs-Member, outs-Minus, outs-Not, outs-OneOf, outs-Item::Star, outs-SourceStar, outs-Item::Value, outs-Cross, outs-On, outs-Core, outs-Sets, outs-Table, outs-Query}
use Rattle.formed_binding.specs.Parts.{one_if}
use Rattle.formed_binding.specs.Placed.{Placed, all_of, argument_places, argument_step, both, condition_places, core_apart, expr_places, expr_step, if_there, item_places, item_step, join_places, join_step, link_places, operand_places, rows_places, rows_step, select_places, set_places, source_places, source_step}
use Rattle.formed_binding.proofs.PlacedNodes.{argument_below, argument_placed, condition_placed, expr_below, expr_placed, item_below, item_placed, join_below, join_placed, link_placed, operand_placed, rows_below, rows_placed, select_placed, set_placed, source_below, source_placed}
use Rattle.apart_calls.proofs.Fits.{Fits, Places, Room, both-fit, call-fits, core-fits, inside-fits, nowhere-fits}
use Rattle.apart_calls.proofs.Keeping.{Each, Of, Told, each-fits}

-- ---- what is told of each part

abbrev pub OfExpr : Told Expr
OfExpr = Of expr_places

abbrev pub OfArgument : Told Argument
OfArgument = Of argument_places

abbrev pub OfLink : Told Link
OfLink = Of link_places

abbrev pub OfOperand : Told Operand
OfOperand = Of operand_places

abbrev pub OfItem : Told Item
OfItem = Of item_places

abbrev pub OfJoin : Told Join
OfJoin = Of join_places

abbrev pub OfRows : Told Rows
OfRows = Of rows_places

abbrev pub OfSource : Told Source
OfSource = Of source_places

abbrev pub OfCondition : Told Condition
OfCondition = Of condition_places

abbrev pub OfSelect : Told Select
OfSelect = Of select_places

abbrev pub OfSet : Told SetOperand
OfSet = Of set_places

-- a name begins at one of the places
abbrev pub Named : Told Span
Named name n = (place : ℕ) → one_if (name.start == place) ≤ n place

expr-node : (x : Expr) (y : Expr-F Argument Expr Item Join Rows Source Link Operand Condition Select SetOperand) (n : Places) → out-Expr x ≡ y → Fits (expr_step (expr_below y)) n → OfExpr x n
expr-node x y n is fits = subst (λ c. Fits c n) (sym (expr_placed x y is)) fits

argument-node : (x : Argument) (y : Argument-F Argument Expr Item Join Rows Source Link Operand Condition Select SetOperand) (n : Places) → out-Argument x ≡ y → Fits (argument_step (argument_below y)) n → OfArgument x n
argument-node x y n is fits = subst (λ c. Fits c n) (sym (argument_placed x y is)) fits

item-node : (x : Item) (y : Item-F Argument Expr Item Join Rows Source Link Operand Condition Select SetOperand) (n : Places) → out-Item x ≡ y → Fits (item_step (item_below y)) n → OfItem x n
item-node x y n is fits = subst (λ c. Fits c n) (sym (item_placed x y is)) fits

join-node : (x : Join) (y : Join-F Argument Expr Item Join Rows Source Link Operand Condition Select SetOperand) (n : Places) → out-Join x ≡ y → Fits (join_step (join_below y)) n → OfJoin x n
join-node x y n is fits = subst (λ c. Fits c n) (sym (join_placed x y is)) fits

rows-node : (x : Rows) (y : Rows-F Argument Expr Item Join Rows Source Link Operand Condition Select SetOperand) (n : Places) → out-Rows x ≡ y → Fits (rows_step (rows_below y)) n → OfRows x n
rows-node x y n is fits = subst (λ c. Fits c n) (sym (rows_placed x y is)) fits

source-node : (x : Source) (y : Source-F Argument Expr Item Join Rows Source Link Operand Condition Select SetOperand) (n : Places) → out-Source x ≡ y → Fits (source_step (source_below y)) n → OfSource x n
source-node x y n is fits = subst (λ c. Fits c n) (sym (source_placed x y is)) fits

pub of-link : (x : Link) (n : Places) → OfExpr x.right n → OfLink x n
of-link x n fits = subst (λ c. Fits c n) (sym (link_placed x)) fits

pub of-operand : (x : Operand) (n : Places) → OfExpr x.right n → OfOperand x n
of-operand x n fits = subst (λ c. Fits c n) (sym (operand_placed x)) fits

pub of-condition : (x : Condition) (n : Places) → OfExpr x.test n → OfCondition x n
of-condition x n fits = subst (λ c. Fits c n) (sym (condition_placed x)) fits

pub of-select : (x : Select) (n : Places) → OfRows x.rows n → OfSelect x n
of-select x n fits = subst (λ c. Fits c n) (sym (select_placed x)) fits

pub of-set : (x : SetOperand) (n : Places) → OfRows x.right n → OfSet x n
of-set x n fits = subst (λ c. Fits c n) (sym (set_placed x)) fits

-- ---- expressions

pub literal-node : (written : Literal) (n : Places) → OfExpr (e.Literal written) n
literal-node written n = expr-node (e.Literal written) (Expr-F.Literal written) n (outs-Literal written) (nowhere-fits n)

pub column-node : (written : ColumnName) (n : Places) → OfExpr (e.Column written) n
column-node written n = expr-node (e.Column written) (Expr-F.Column written) n (outs-Column written) (nowhere-fits n)

pub call-node : (name : Span) (argument : Argument) (n m k : Places) → Named name n → OfArgument argument m → Room n m k → OfExpr (e.Call name argument) k
call-node name argument n m k named of room =
    expr-node (e.Call name argument) (Expr-F.Call name argument) k (outs-Call name argument) (call-fits name.start (argument_places argument) n m k named of room)

pub minus-node : (place : ℕ) (operand : Expr) (n : Places) → OfExpr operand n → OfExpr (e.Minus place operand) n
minus-node place operand n of = expr-node (e.Minus place operand) (Expr-F.Minus place operand) n (outs-Minus place operand) of

pub not-node : (place : ℕ) (operand : Expr) (n : Places) → OfExpr operand n → OfExpr (e.Not place operand) n
not-node place operand n of = expr-node (e.Not place operand) (Expr-F.Not place operand) n (outs-Not place operand) of

pub chain-node : (first : Expr) (links : List Link) (n m k : Places) → OfExpr first n → Each OfLink links m → Room n m k → OfExpr (e.Chain first links) k
chain-node first links n m k of more room =
    expr-node (e.Chain first links) (Expr-F.Chain first links) k (outs-Chain first links) (both-fit (expr_places first) (all_of (map link_places links)) n m k of (each-fits link_places links m more) room)

pub every-node : (first : Expr) (others : List Operand) (n m k : Places) → OfExpr first n → Each OfOperand others m → Room n m k → OfExpr (e.Every first others) k
every-node first others n m k of more room =
    expr-node (e.Every first others) (Expr-F.Every first others) k (outs-Every first others) (both-fit (expr_places first) (all_of (map operand_places others)) n m k of (each-fits operand_places others m more) room)

pub either-node : (first : Expr) (others : List Operand) (n m k : Places) → OfExpr first n → Each OfOperand others m → Room n m k → OfExpr (e.Either first others) k
either-node first others n m k of more room =
    expr-node (e.Either first others) (Expr-F.Either first others) k (outs-Either first others) (both-fit (expr_places first) (all_of (map operand_places others)) n m k of (each-fits operand_places others m more) room)

pub compare-node : (place : ℕ) (sign : CompareSign) (left right : Expr) (n m k : Places) → OfExpr left n → OfExpr right m → Room n m k → OfExpr (e.Compare place sign left right) k
compare-node place sign left right n m k of also room =
    expr-node (e.Compare place sign left right) (Expr-F.Compare place sign left right) k (outs-Compare place sign left right) (both-fit (expr_places left) (expr_places right) n m k of also room)

pub null-node : (place : ℕ) (negated : Bool) (operand : Expr) (n : Places) → OfExpr operand n → OfExpr (e.IsNull place negated operand) n
null-node place negated operand n of = expr-node (e.IsNull place negated operand) (Expr-F.IsNull place negated operand) n (outs-IsNull place negated operand) of

pub like-node : (place : ℕ) (negated : Bool) (operand : Expr) (pattern : Span) (n : Places) → OfExpr operand n → OfExpr (e.Like place negated operand pattern) n
like-node place negated operand pattern n of = expr-node (e.Like place negated operand pattern) (Expr-F.Like place negated operand pattern) n (outs-Like place negated operand pattern) of

pub one-of-node : (place : ℕ) (negated : Bool) (operand : Expr) (list : List Constant) (n : Places) → OfExpr operand n → OfExpr (e.OneOf place negated operand list) n
one-of-node place negated operand list n of = expr-node (e.OneOf place negated operand list) (Expr-F.OneOf place negated operand list) n (outs-OneOf place negated operand list) of

pub member-node : (place : ℕ) (negated : Bool) (operand : Expr) (query : Select) (n m k : Places) → OfExpr operand n → OfSelect query m → Room n m k → OfExpr (e.Member place negated operand query) k
member-node place negated operand query n m k of also room =
    expr-node (e.Member place negated operand query) (Expr-F.Member place negated operand query) k (outs-Member place negated operand query)
    (both-fit (expr_places operand) (record { calls = []; apart = (select_places query).apart }) n m k of (inside-fits (select_places query) m also) room)

pub between-node : (place : ℕ) (negated : Bool) (operand low high : Expr) (n m h k l : Places) → OfExpr operand n → OfExpr low m → OfExpr high h → Room m h k → Room n k l
    → OfExpr (e.Between place negated operand low high) l
between-node place negated operand low high n m h k l of from to bounds room =
    expr-node (e.Between place negated operand low high) (Expr-F.Between place negated operand low high) l (outs-Between place negated operand low high)
    (both-fit (expr_places operand) (both (expr_places low) (expr_places high)) n k l of (both-fit (expr_places low) (expr_places high) m h k from to bounds) room)

pub star-argument : (n : Places) → OfArgument a.Star n
star-argument n = argument-node a.Star Argument-F.Argument::Star n outs-Argument::Star (nowhere-fits n)

pub value-argument : (value : Expr) (n : Places) → OfExpr value n → OfArgument (a.Value value) n
value-argument value n of = argument-node (a.Value value) (Argument-F.Argument::Value value) n (outs-Argument::Value value) (inside-fits (expr_places value) n of)

pub distinct-argument : (value : Expr) (n : Places) → OfExpr value n → OfArgument (a.Distinct value) n
distinct-argument value n of = argument-node (a.Distinct value) (Argument-F.Distinct value) n (outs-Distinct value) (inside-fits (expr_places value) n of)

-- ---- selects

pub star-item : (place : ℕ) (n : Places) → OfItem (i.Star place) n
star-item place n = item-node (i.Star place) (Item-F.Item::Star place) n (outs-Item::Star place) (nowhere-fits n)

pub source-item : (source : Span) (n : Places) → OfItem (i.SourceStar source) n
source-item source n = item-node (i.SourceStar source) (Item-F.SourceStar source) n (outs-SourceStar source) (nowhere-fits n)

pub value-item : (value : Expr) (alias : Option Span) (n : Places) → OfExpr value n → OfItem (i.Value value alias) n
value-item value alias n of = item-node (i.Value value alias) (Item-F.Item::Value value alias) n (outs-Item::Value value alias) of

pub table-source : (name : Span) (alias : Option Span) (n : Places) → OfSource (o.Table name alias) n
table-source name alias n = source-node (o.Table name alias) (Source-F.Table name alias) n (outs-Table name alias) (nowhere-fits n)

pub query-source : (place : ℕ) (query : Select) (alias : Span) (n : Places) → OfSelect query n → OfSource (o.Query place query alias) n
query-source place query alias n of = source-node (o.Query place query alias) (Source-F.Query place query alias) n (outs-Query place query alias) (inside-fits (select_places query) n of)

pub cross-join : (source : Source) (n : Places) → OfSource source n → OfJoin (j.Cross source) n
cross-join source n of = join-node (j.Cross source) (Join-F.Cross source) n (outs-Cross source) (inside-fits (source_places source) n of)

pub on-join : (outer : Bool) (source : Source) (on : Condition) (n m k : Places) → OfSource source n → OfCondition on m → Room n m k → OfJoin (j.On outer source on) k
on-join outer source on n m k of also room =
    join-node (j.On outer source on) (Join-F.On outer source on) k (outs-On outer source on)
    (inside-fits (both (source_places source) (condition_places on)) k (both-fit (source_places source) (condition_places on) n m k of also room))

-- a condition that may be there
abbrev pub OfIf : Told (Option Condition)
OfIf None n = Unit {0}
OfIf (Some condition) n = OfCondition condition n

abbrev some_places : Option Condition → Option Placed
some_places None = None
some_places (Some condition) = Some (condition_places condition)

if-fits : (condition : Option Condition) (n : Places) → OfIf condition n → Fits (if_there (some_places condition)) n
if-fits None n of = nowhere-fits n
if-fits (Some condition) n of = of

-- the parts of a core: items, sources, WHERE, keys of GROUP BY, HAVING
pub record CoreRoom (items : List Item) (first : Source) (joins : List Join) (filter : Option Condition) (group : List Expr) (having : Option Condition) (k : ℕ → ℕ) : Type 0 where
  pub at_items : ℕ → ℕ
  pub at_first : ℕ → ℕ
  pub at_joins : ℕ → ℕ
  pub at_filter : ℕ → ℕ
  pub at_group : ℕ → ℕ
  pub at_having : ℕ → ℕ
  pub items_fit : Each OfItem items at_items
  pub first_fits : OfSource first at_first
  pub joins_fit : Each OfJoin joins at_joins
  pub filter_fits : OfIf filter at_filter
  pub group_fits : Each OfExpr group at_group
  pub having_fits : OfIf having at_having
  pub room : (place : ℕ) → at_items place + at_first place + at_joins place + at_filter place + at_group place + at_having place ≤ k place

core-parts : (items : List Item) (first : Source) (joins : List Join) (filter : Option Condition) (group : List Expr) (having : Option Condition) (k : Places) → CoreRoom items first joins filter group having k
    → Fits (record {
      calls = [];
      apart = core_apart (both (all_of (map item_places items)) (if_there (some_places having)))
          (both (both (source_places first) (all_of (map join_places joins))) (both (if_there (some_places filter)) (all_of (map expr_places group))));
    }) k
core-parts items first joins filter group having k c =
    let shown = all_of (map item_places items) in
    let keys = all_of (map expr_places group) in
    let joined = all_of (map join_places joins) in
    let where_part = if_there (some_places filter) in
    let having_part = if_there (some_places having) in
    let own : Places = λ place. c.at_items place + c.at_having place in
    let from : Places = λ place. c.at_first place + c.at_joins place in
    let last : Places = λ place. c.at_filter place + c.at_group place in
    let others : Places = λ place. from place + last place in
    core-fits (both shown having_part) (both (both (source_places first) joined) (both where_part keys)) own others k
    (both-fit shown having_part c.at_items c.at_having own (each-fits item_places items c.at_items c.items_fit) (if-fits having c.at_having c.having_fits) (λ place. omega arith))
    (both-fit (both (source_places first) joined) (both where_part keys) from last others
    (both-fit (source_places first) joined c.at_first c.at_joins from c.first_fits (each-fits join_places joins c.at_joins c.joins_fit) (λ place. omega arith))
    (both-fit where_part keys c.at_filter c.at_group last (if-fits filter c.at_filter c.filter_fits) (each-fits expr_places group c.at_group c.group_fits) (λ place. omega arith))
    (λ place. omega arith))
    (λ place. omega (arith, c.room place))

pub core-node : (place : ℕ) (distinct : Bool) (items : List Item) (first : Source) (joins : List Join) (filter : Option Condition) (group : List Expr) (having : Option Condition) (k : Places)
    → CoreRoom items first joins filter group having k → OfRows (r.Core place distinct items first joins filter group having) k
core-node place distinct items first joins None group None k c =
    rows-node (r.Core place distinct items first joins None group None) (Rows-F.Core place distinct items first joins None group None) k (outs-Core place distinct items first joins None group None) (core-parts items first joins None group None k c)
core-node place distinct items first joins None group (Some having) k c =
    rows-node (r.Core place distinct items first joins None group (Some having)) (Rows-F.Core place distinct items first joins None group (Some having)) k (outs-Core place distinct items first joins None group (Some having)) (core-parts items first joins None group (Some having) k c)
core-node place distinct items first joins (Some filter) group None k c =
    rows-node (r.Core place distinct items first joins (Some filter) group None) (Rows-F.Core place distinct items first joins (Some filter) group None) k (outs-Core place distinct items first joins (Some filter) group None) (core-parts items first joins (Some filter) group None k c)
core-node place distinct items first joins (Some filter) group (Some having) k c =
    rows-node (r.Core place distinct items first joins (Some filter) group (Some having)) (Rows-F.Core place distinct items first joins (Some filter) group (Some having)) k (outs-Core place distinct items first joins (Some filter) group (Some having)) (core-parts items first joins (Some filter) group (Some having) k c)

pub sets-node : (first : Rows) (others : List SetOperand) (n m k : Places) → OfRows first n → Each OfSet others m → Room n m k → OfRows (r.Sets first others) k
sets-node first others n m k of more room =
    rows-node (r.Sets first others) (Rows-F.Sets first others) k (outs-Sets first others)
    (inside-fits (both (rows_places first) (all_of (map set_places others))) k (both-fit (rows_places first) (all_of (map set_places others)) n m k of (each-fits set_places others m more) room))
