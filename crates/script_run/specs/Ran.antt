-- A run that is done, seen by the statements that ran.
use Rattle.std.specs.Prelude.{ℕ, ◌≡◌, ◌+◌, List, [], ◌∷◌, ◌++◌}
use Rattle.sql_grammar.specs.declared.tree.statement.Statement.{Statement}
use Rattle.script_says.specs.Catalog.{Catalog}
use Rattle.script_says.specs.Block.{Block, IsPrinted}
use Rattle.script_says.specs.Outcome.{Gives, Does}

-- These statements ran one after another, none of them refused: they printed `out`, and left the tables `last`.
abbrev pub Ran : Does → ℕ → Catalog → List Statement → List ℕ → Catalog → Type 0
Ran does number catalog [] out last = (out ≡ []) × (last ≡ catalog)
Ran does number catalog (s ∷ ss) out last =
    (next : Catalog) × (block : Block) × (text more : List ℕ) × (does number catalog s ≡ Gives next block) × IsPrinted block text × (out ≡ text ++ more) × Ran does (number + 1) next ss more last
