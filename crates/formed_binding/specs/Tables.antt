-- The columns of the tables that are there.
use Rattle.std.specs.Prelude.{List}
use Rattle.std.specs.List.{AllByRecursion}
use Rattle.ooc_types.specs.declared.schema.Column.{Column}
use Rattle.sql_expr.specs.Operations.{IsProper}

-- their types may be written
abbrev pub AreProper : List Column → Type 0
AreProper columns = AllByRecursion (λ column. IsProper column.kind) columns
