-- The grammar of statements and scripts.
use Rattle.std.specs.Prelude.{List, [], ◌∷◌, Option, Some, None, Bool, true, false}
use Rattle.sql_lex.specs.declared.token.Word.TheVariants as w
use Rattle.sql_lex.specs.declared.token.Sign.TheVariants as s
use Rattle.sql_grammar.specs.declared.tree.statement.Sizes.{Sizes}
use Rattle.sql_grammar.specs.declared.tree.statement.TypeName.{TypeName}
use Rattle.sql_grammar.specs.declared.tree.statement.Column.{Column}
use Rattle.sql_grammar.specs.declared.tree.statement.CopyOption.{CopyOption}
use Rattle.sql_grammar.specs.declared.tree.statement.CopyOption.TheVariants as o
use Rattle.sql_grammar.specs.declared.tree.statement.Statement.{Statement}
use Rattle.sql_grammar.specs.declared.tree.statement.Statement.TheVariants as t
use Rattle.sql_grammar.specs.declared.tree.statement.Script.{Script}
use Rattle.sql_grammar.specs.Form.{Form, empty, many}
use Rattle.sql_grammar.specs.Classes.{header_class, delimiter_class}
use Rattle.sql_grammar.specs.Combinators.{◌<$>◌, ◌<*>◌, ◌>>◌, ◌or◌, token, word, sign, name, text, integer, optional, has, list, parenthesized}
use Rattle.sql_grammar.specs.Selects.{select}

-- "(" int [ "," int ] ")"
unfoldable pub sizes : Form Sizes
sizes = parenthesized ((λ first second. record { first = first; second = second }) <$> integer <*> optional (sign s.Comma >> integer))

-- type = name [ "(" int [ "," int ] ")" ]
unfoldable pub type_name : Form TypeName
type_name = (λ name sizes. record { name = name; sizes = sizes }) <$> name <*> optional sizes

-- [ NOT NULL ]
unfoldable pub not_null : Form Bool
not_null = has (word w.Not >> word w.Null)

-- column = name type [ NOT NULL ]
unfoldable pub column : Form Column
column = (λ name kind not_null. record { name = name; kind = kind; not_null = not_null }) <$> name <*> type_name <*> not_null

-- TRUE | FALSE
unfoldable pub truth : Form Bool
truth = ((λ _. true) <$> word w.True) or ((λ _. false) <$> word w.False)

-- option = HEADER ( TRUE | FALSE ) | DELIMITER text | NULL text
unfoldable pub option : Form CopyOption
option = ((λ place value. o.Header place value) <$> token header_class (λ x. x.start) <*> truth)
    or ((λ place text. o.Delimiter place text) <$> token delimiter_class (λ x. x.start) <*> text)
    or ((λ place text. o.Null place text) <$> word w.Null <*> text)

-- [ "(" option { "," option } ")" ]
unfoldable pub options : Form (List CopyOption)
options = parenthesized (list option) or empty []

-- CREATE TABLE name "(" column { "," column } ")"
unfoldable pub create : Form Statement
create = (λ name columns. t.CreateTable name columns) <$> word w.Create >> word w.Table >> name <*> parenthesized (list column)

-- DROP TABLE name
unfoldable pub drop : Form Statement
drop = t.DropTable <$> word w.Drop >> word w.Table >> name

-- COPY name FROM text [ "(" option { "," option } ")" ]
unfoldable pub copy : Form Statement
copy = (λ name file options. t.Copy name file options) <$> word w.Copy >> name <*> word w.From >> text <*> options

-- statement = CREATE .. | DROP .. | COPY .. | [ EXPLAIN ] select
unfoldable pub statement : Form Statement
statement = create or drop or copy or (t.Explain <$> word w.Explain >> select) or (t.Select <$> select)

-- those that are there
abbrev pub present : {A : Type 0} → List (Option A) → List A
present [] = []
present (None ∷ list) = present list
present (Some a ∷ list) = a ∷ present list

-- script = { [ statement ] ";" } [ statement ], which is the same as `[ statement ] { ";" [ statement ] }`
unfoldable pub script : Form Script
script = (λ first others. record { statements = present (first ∷ others) }) <$> optional statement <*> many (sign s.Semicolon >> optional statement)
