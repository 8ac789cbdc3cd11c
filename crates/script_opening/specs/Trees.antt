-- The statements of a script's file, or why there are none.
use Rattle.std.specs.Prelude.{ℕ, ◌≡◌, ◌⊎◌, List, Bool, true, false, nat_lt, length, Option, Some, None, Result, Ok, Err, ⊤}
use Rattle.ooc_types.specs.declared.refusal.RefusalKind.{RefusalKind}
use Rattle.ooc_types.specs.declared.refusal.RefusalKind.TheVariants as kind
use Rattle.sql_lex.specs.declared.token.Token.{Token}
use Rattle.sql_lex.specs.Lexed.{lexed}
use Rattle.sql_grammar.specs.Lexeme.{Lexeme}
use Rattle.sql_grammar.specs.Lexemes.{lexemes}
use Rattle.sql_grammar.specs.declared.tree.statement.Script.{Script}
use Rattle.sql_grammar.specs.Verdict.{IsScript, SyntaxAt, TooDeepAt, limit}
use Rattle.run_settings.specs.declared.status.Status.{Status}
use Rattle.run_settings.specs.declared.status.Status.TheVariants.{Done, Refused, Usage, ReadFault, WriteFault, SpillFault, SpillDamaged, OutOfMemory}
use Rattle.run_settings.specs.declared.status.Place.{Place}
use Rattle.run_settings.specs.declared.status.Place.TheVariants.{Whole, Byte}
use Rattle.script_opening.specs.Limits.{most_script}

-- why a script is refused, and where
pub record ScriptRefusal : Type 0 where
  pub place : Place
  pub kind : RefusalKind

abbrev pub Tree : Type 0
Tree = Result Script ScriptRefusal

abbrev pub refused : Place → RefusalKind → Tree
refused place kind = Err (record { place = place; kind = kind })

-- the first place where the grammar refuses the tokens of a script of that length
abbrev pub IsGrammarRefusal : ℕ → List Lexeme → ScriptRefusal → Type 0
IsGrammarRefusal end w refusal =
    ((place : ℕ) × SyntaxAt end w place × (refusal ≡ record { place = Byte place; kind = kind.Syntax }))
    ⊎ ((place : ℕ) × TooDeepAt w place × (refusal ≡ record { place = Byte place; kind = kind.TooDeep }))

abbrev pub IsTokenTree : ℕ → List Lexeme → Tree → Type 0
IsTokenTree end w (Ok script) = IsScript limit script w
IsTokenTree end w (Err refusal) = IsGrammarRefusal end w refusal

-- the first bad token goes before all else, wherever it stands
abbrev pub IsLexedTree : List ℕ → Result (List Token) ℕ → Tree → Type 0
IsLexedTree bytes (Err place) tree = tree ≡ refused (Byte place) kind.BadToken
IsLexedTree bytes (Ok tokens) tree = IsTokenTree (length bytes) (lexemes bytes tokens) tree

abbrev pub IsSizedTree : Bool → List ℕ → Tree → Type 0
IsSizedTree true bytes tree = tree ≡ refused Whole kind.ScriptTooLong
IsSizedTree false bytes tree = IsLexedTree bytes (lexed bytes) tree

-- the statements that a script's bytes are, or the first refusal
abbrev pub IsTreeOf : List ℕ → Tree → Type 0
IsTreeOf bytes tree = IsSizedTree (nat_lt most_script (length bytes)) bytes tree

-- what stands in the file of the script's name
abbrev pub IsTree : Option (List ℕ) → Tree → Type 0
IsTree None tree = tree ≡ refused Whole kind.NoFile
IsTree (Some bytes) tree = IsTreeOf bytes tree

-- the refusal of a script, as a status: it has the number 0
abbrev pub script_refusal : ScriptRefusal → Status
script_refusal refusal = Refused (record { statement = 0; place = refusal.place; kind = refusal.kind })

-- what may end a run before any statement: a fault from outside, or want of memory
abbrev pub MayCut : Status → Type 0
MayCut ReadFault = ⊤
MayCut SpillFault = ⊤
MayCut (SpillDamaged damage) = ⊤
MayCut OutOfMemory = ⊤
MayCut Done = ⊥
MayCut (Refused r) = ⊥
MayCut (Usage fault) = ⊥
MayCut WriteFault = ⊥

-- A script that may be one, a refusal that may be its, or what may cut the run.
abbrev pub IsTreeAs : (Tree → Type 0) → Result Script Status → Type 0
IsTreeAs may (Ok script) = may (Ok script)
IsTreeAs may (Err status) = ((refusal : ScriptRefusal) × may (Err refusal) × (status ≡ script_refusal refusal)) ⊎ MayCut status
