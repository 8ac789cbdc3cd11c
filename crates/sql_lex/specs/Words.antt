-- The reserved words.
use Rattle.std.specs.Prelude.{ℕ, List, [], ◌∷◌, Option, None, Some, codes, map, if◌then◌else◌}
use Rattle.std.specs.Char.{to_ascii_lowercase}
use Rattle.std.specs.Str.{bytes_eq}
use Rattle.sql_lex.specs.declared.token.Word.{Word}
use Rattle.sql_lex.specs.declared.token.Word.TheVariants.{All, And, As, Asc, Between, By, Copy, Create, Cross, Desc, Distinct, Drop, Except, Explain, False, From, Group, Having, In, Inner, Intersect, Is, Join, Left, Like, Limit, Not, Null, Offset, On, Or, Order, Outer, Select, Table, True, Union, Where}

-- each reserved word with its letters, in small letters
abbrev pub words : List (List ℕ × Word)
words = (codes "all", All) ∷ (codes "and", And) ∷ (codes "as", As) ∷ (codes "asc", Asc)
    ∷ (codes "between", Between) ∷ (codes "by", By)
    ∷ (codes "copy", Copy) ∷ (codes "create", Create) ∷ (codes "cross", Cross)
    ∷ (codes "desc", Desc) ∷ (codes "distinct", Distinct) ∷ (codes "drop", Drop)
    ∷ (codes "except", Except) ∷ (codes "explain", Explain)
    ∷ (codes "false", False) ∷ (codes "from", From)
    ∷ (codes "group", Group)
    ∷ (codes "having", Having)
    ∷ (codes "in", In) ∷ (codes "inner", Inner) ∷ (codes "intersect", Intersect) ∷ (codes "is", Is)
    ∷ (codes "join", Join)
    ∷ (codes "left", Left) ∷ (codes "like", Like) ∷ (codes "limit", Limit)
    ∷ (codes "not", Not) ∷ (codes "null", Null)
    ∷ (codes "offset", Offset) ∷ (codes "on", On) ∷ (codes "or", Or) ∷ (codes "order", Order) ∷ (codes "outer", Outer)
    ∷ (codes "select", Select)
    ∷ (codes "table", Table) ∷ (codes "true", True)
    ∷ (codes "union", Union)
    ∷ (codes "where", Where) ∷ []

-- the word of the first entry with these letters
abbrev pub word_in : List (List ℕ × Word) → List ℕ → Option Word
word_in [] letters = None
word_in (entry ∷ entries) letters = if bytes_eq letters entry.0 then Some entry.1 else word_in entries letters

-- the word with these small letters, if they are a word's
unfoldable pub word_spelled : List ℕ → Option Word
word_spelled letters = word_in words letters

-- the word that a name is, without regard to ASCII case
abbrev pub word_of : List ℕ → Option Word
word_of name = word_spelled (map to_ascii_lowercase name)
