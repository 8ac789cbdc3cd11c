-- What a statement does: it leaves tables and prints a block, or it is refused.
use Rattle.std.specs.Prelude.{ℕ, List, [], ◌∷◌, Result, Ok, Err}
use Rattle.ooc_types.specs.declared.refusal.RefusalKind.{RefusalKind}
use Rattle.sql_grammar.specs.declared.tree.statement.Statement.{Statement}
use Rattle.sql_scope.specs.Answer.{Answer}
use Rattle.bound_tree.specs.declared.statement.Bound.{Bound}
use Rattle.run_settings.specs.declared.status.Place.{Place}
use Rattle.run_settings.specs.declared.status.Place.TheVariants.{Byte}
use Rattle.run_settings.specs.declared.status.Status.{Status}
use Rattle.run_settings.specs.declared.status.Status.TheVariants.{Refused}
use Rattle.script_says.specs.Catalog.{Catalog}
use Rattle.script_says.specs.Block.{Block}

pub data Outcome : Type 0 where
  -- it leaves these tables, and prints this block
  Gives : (catalog : Catalog) → (block : Block) → Outcome
  -- it is refused, with one of these
  Stops : (stops : List Status) → Outcome

-- what the statement of a number does over the tables that are there
abbrev pub Does : Type 0
Does = ℕ → Catalog → Statement → Outcome

abbrev pub refusal_at : ℕ → Place → RefusalKind → Status
refusal_at number place kind = Refused (record { statement = number; place = place; kind = kind })

abbrev pub stops_at : ℕ → Place → RefusalKind → Outcome
stops_at number place kind = Stops (refusal_at number place kind ∷ [])

-- A statement is bound, and then acts; or it is refused at the place where it isn't bound.
abbrev pub once_bound : (Bound → Outcome) → ℕ → Answer Bound → Outcome
once_bound acts number (Err refusal) = stops_at number (Byte refusal.place) refusal.kind
once_bound acts number (Ok bound) = acts bound
