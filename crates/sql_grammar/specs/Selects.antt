-- The grammar of selects.
use Rattle.std.specs.Prelude.{ℕ, List, [], ◌∷◌, Option, Bool, true, false}
use Rattle.sql_lex.specs.declared.token.Word.{Word}
use Rattle.sql_lex.specs.declared.token.Word.TheVariants as w
use Rattle.sql_lex.specs.declared.token.Sign.TheVariants as s
use Rattle.sql_grammar.specs.declared.tree.expr.Span.{Span}
use Rattle.sql_grammar.specs.declared.tree.expr.Expr.{Expr}
use Rattle.sql_grammar.specs.declared.tree.select.Condition.{Condition}
use Rattle.sql_grammar.specs.declared.tree.select.Item.{Item}
use Rattle.sql_grammar.specs.declared.tree.select.Item.TheVariants as i
use Rattle.sql_grammar.specs.declared.tree.select.Source.{Source}
use Rattle.sql_grammar.specs.declared.tree.select.Source.TheVariants as o
use Rattle.sql_grammar.specs.declared.tree.select.Join.{Join}
use Rattle.sql_grammar.specs.declared.tree.select.Join.TheVariants as j
use Rattle.sql_grammar.specs.declared.tree.select.Rows.{Rows}
use Rattle.sql_grammar.specs.declared.tree.select.Rows.TheVariants as r
use Rattle.sql_grammar.specs.declared.tree.select.SetKind.{SetKind}
use Rattle.sql_grammar.specs.declared.tree.select.SetKind.TheVariants as h
use Rattle.sql_grammar.specs.declared.tree.select.SetOperand.{SetOperand}
use Rattle.sql_grammar.specs.declared.tree.select.Key.{Key}
use Rattle.sql_grammar.specs.declared.tree.select.KeyColumn.{KeyColumn}
use Rattle.sql_grammar.specs.declared.tree.select.KeyColumn.TheVariants as k
use Rattle.sql_grammar.specs.declared.tree.select.Select.{Select}
use Rattle.sql_grammar.specs.Form.{Form, empty, many, nest, marked, phrase, a_select}
use Rattle.sql_grammar.specs.Classes.{sign_class, opens, names}
use Rattle.sql_grammar.specs.Combinators.{span_of, ◌<$>◌, ◌<*>◌, ◌<*◌, ◌>>◌, ◌or◌, token, word, sign, name, integer, optional, has, list}
use Rattle.sql_grammar.specs.Expressions.{expr, column_name}

-- [ [ AS ] name ]
unfoldable pub alias : Form (Option Span)
alias = optional (has (word w.As) >> name)

-- expr [ [ AS ] name ]
unfoldable pub value_item : Form Item
value_item = (λ value alias. i.Value value alias) <$> expr <*> alias

-- item = "*" | name "." "*" | expr [ [ AS ] name ]
unfoldable pub item : Form Item
item = token (sign_class s.Star) (λ x. i.Star x.start) or phrase names (sign_class s.Dot) (sign_class s.Star) (λ x. i.SourceStar (span_of x)) value_item

-- an expression, and where its first token stands
unfoldable pub condition : Form Condition
condition = marked (λ x test. record { place = x.start; test = test }) expr

-- ")" [ AS ] name
abbrev pub query_end : Form Span
query_end = sign s.RightParenthesis >> has (word w.As) >> name

-- "(" select ")" [ AS ] name
unfoldable pub subquery_source : Form Source
subquery_source = nest opens a_select (λ x query alias. o.Query x.start query alias) <*> query_end

-- source = name [ [ AS ] name ] | "(" select ")" [ AS ] name
unfoldable pub source : Form Source
source = subquery_source or ((λ name alias. o.Table name alias) <$> name <*> alias)

-- [ INNER ] JOIN | LEFT [ OUTER ] JOIN: whether it is outer
unfoldable pub join_word : Form Bool
join_word = ((λ _. true) <$> word w.Left >> has (word w.Outer) >> word w.Join) or ((λ _. false) <$> has (word w.Inner) >> word w.Join)

-- ON expr
abbrev pub join_end : Form Condition
join_end = word w.On >> condition

-- source ON expr
abbrev pub source_on : Form (Source × Condition)
source_on = (λ source on. (source, on)) <$> source <*> join_end

-- ( [ INNER ] JOIN | LEFT [ OUTER ] JOIN ) source ON expr
unfoldable pub join_on : Form Join
join_on = (λ outer end. j.On outer end.0 end.1) <$> join_word <*> source_on

-- CROSS JOIN
abbrev pub cross_word : Form ℕ
cross_word = word w.Cross >> word w.Join

-- CROSS JOIN source
unfoldable pub join_cross : Form Join
join_cross = (λ _ source. j.Cross source) <$> cross_word <*> source

-- ( [ INNER ] JOIN | LEFT [ OUTER ] JOIN ) source ON expr | CROSS JOIN source
unfoldable pub join : Form Join
join = join_cross or join_on

-- from = source { ( [ INNER ] JOIN | LEFT [ OUTER ] JOIN ) source ON expr | CROSS JOIN source }
unfoldable pub sources : Form (Source × List Join)
sources = (λ first joins. (first, joins)) <$> source <*> many join

-- [ ASC | DESC ]: whether it is descending
unfoldable pub direction : Form Bool
direction = ((λ _. true) <$> word w.Desc) or ((λ _. false) <$> word w.Asc) or empty false

-- int | name | name "." name
unfoldable pub key_column : Form KeyColumn
key_column = (k.Position <$> integer) or (k.Name <$> column_name)

-- key = ( int | name | name "." name ) [ ASC | DESC ]
unfoldable pub key : Form Key
key = (λ column descending. record { column = column; descending = descending }) <$> key_column <*> direction

-- an expression behind this word, if it is there
abbrev pub optional_condition : Word → Form (Option Condition)
optional_condition x = optional (word x >> condition)

-- [ WHERE expr ]
abbrev pub filter : Form (Option Condition)
filter = optional_condition w.Where

-- [ GROUP BY expr { "," expr } ]
unfoldable pub grouping : Form (List Expr)
grouping = (word w.Group >> word w.By >> list expr) or empty []

-- [ HAVING expr ]
abbrev pub having : Form (Option Condition)
having = optional_condition w.Having

-- [ ORDER BY key { "," key } ]
unfoldable pub ordering : Form (List Key)
ordering = (word w.Order >> word w.By >> list key) or empty []

-- [ LIMIT int ]
unfoldable pub limit : Form (Option Span)
limit = optional (word w.Limit >> integer)

-- [ OFFSET int ]
unfoldable pub offset : Form (Option Span)
offset = optional (word w.Offset >> integer)

-- SELECT [ DISTINCT ]: the place, and whether DISTINCT is there
abbrev pub core_head : Form (ℕ × Bool)
core_head = (λ place distinct. (place, distinct)) <$> word w.Select <*> has (word w.Distinct)

-- item { "," item } FROM
abbrev pub shown : Form (List Item)
shown = list item <* word w.From

-- [ GROUP BY expr { "," expr } ] [ HAVING expr ]
abbrev pub grouped : Form (List Expr × Option Condition)
grouped = (λ group having. (group, having)) <$> grouping <*> having

-- [ WHERE expr ] [ GROUP BY expr { "," expr } ] [ HAVING expr ]
abbrev pub conditions : Form (Option Condition × List Expr × Option Condition)
conditions = (λ filter grouped. (filter, grouped.0, grouped.1)) <$> filter <*> grouped

-- from [ WHERE expr ] [ GROUP BY expr { "," expr } ] [ HAVING expr ]
abbrev pub taken_rows : Form ((Source × List Join) × (Option Condition × List Expr × Option Condition))
taken_rows = (λ sources conditions. (sources, conditions)) <$> sources <*> conditions

-- what stands behind SELECT [ DISTINCT ]
abbrev pub core_end : Form (List Item × ((Source × List Join) × (Option Condition × List Expr × Option Condition)))
core_end = (λ items taken. (items, taken)) <$> shown <*> taken_rows

abbrev pub core_of : ℕ × Bool → List Item × ((Source × List Join) × (Option Condition × List Expr × Option Condition)) → Rows
core_of head end = r.Core head.0 head.1 end.0 end.1.0.0 end.1.0.1 end.1.1.0 end.1.1.1 end.1.1.2

-- core = SELECT [ DISTINCT ] item { "," item } FROM from [ WHERE expr ] [ GROUP BY expr { "," expr } ] [ HAVING expr ]
unfoldable pub core : Form Rows
core = core_of <$> core_head <*> core_end

-- operands of set operations: one alone is itself
abbrev pub sets_of : Rows → List SetOperand → Rows
sets_of first [] = first
sets_of first (operand ∷ others) = r.Sets first (operand ∷ others)

-- a rule, and where its first token stands
abbrev pub placed : {A : Type 0} → Form A → Form (ℕ × A)
placed p = marked (λ x a. (x.start, a)) p

-- an operand behind the word of its operation, and whether ALL is there
abbrev pub operand_of : SetKind × Bool → ℕ × Rows → SetOperand
operand_of head right = record { kind = head.0; all = head.1; place = right.0; right = right.1 }

-- INTERSECT [ ALL ]
abbrev pub intersect_head : Form (SetKind × Bool)
intersect_head = (λ all. (h.Intersect, all)) <$> word w.Intersect >> has (word w.All)

-- INTERSECT [ ALL ] core
unfoldable pub intersect : Form SetOperand
intersect = operand_of <$> intersect_head <*> placed core

-- operand = core { INTERSECT [ ALL ] core }
unfoldable pub operand : Form Rows
operand = sets_of <$> core <*> many intersect

-- ( UNION | EXCEPT ) [ ALL ]
abbrev pub set_head : Form (SetKind × Bool)
set_head = (λ kind all. (kind, all)) <$> (((λ _. h.Union) <$> word w.Union) or ((λ _. h.Except) <$> word w.Except)) <*> has (word w.All)

-- ( UNION | EXCEPT ) [ ALL ] operand
unfoldable pub set_operand : Form SetOperand
set_operand = operand_of <$> set_head <*> placed operand

-- operand { ( UNION | EXCEPT ) [ ALL ] operand }
unfoldable pub rows : Form Rows
rows = sets_of <$> operand <*> many set_operand

-- [ ORDER BY key { "," key } ] [ LIMIT int ] [ OFFSET int ]
abbrev pub window : Form (List Key × Option Span × Option Span)
window = (λ order limit offset. (order, limit, offset)) <$> ordering <*> limit <*> offset

abbrev pub select_of : ℕ × Rows → List Key × Option Span × Option Span → Select
select_of rows window = record { place = rows.0; rows = rows.1; order = window.0; limit = window.1; offset = window.2 }

-- select = operand { ( UNION | EXCEPT ) [ ALL ] operand } [ ORDER BY key { "," key } ] [ LIMIT int ] [ OFFSET int ]
unfoldable pub select : Form Select
select = select_of <$> placed rows <*> window
