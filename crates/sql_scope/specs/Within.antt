-- A function's name stands within the script.
use Rattle.std.specs.Prelude.{ℕ, ◌≤◌, Option, Some, None, ⊤}
use Rattle.sql_scope.specs.declared.call.Function.{Function}

-- where the name is a function's, its place is one of a script of at most 1,048,576 bytes
abbrev pub IsWithin : Option Function → ℕ → Type 0
IsWithin None place = ⊤
IsWithin (Some function) place = place ≤ 1048576
