use Rattle.std.proofs.Common.{◌≡◌, drop}
use Rattle.sql_scope.specs.Parts.{is_key}
use Rattle.sql_scope.proofs.part.is_key.Given as goal

abbrev pub invariant-loop-key : goal.invariant-loop-key
invariant-loop-key l = is_key (drop l.key-index l.keys) l.tree ≡ is_key l.keys l.tree
