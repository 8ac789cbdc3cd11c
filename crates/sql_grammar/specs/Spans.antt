-- Parts of a script.
use Rattle.std.specs.Prelude.{ℕ, List, [], length, nat_le, slice_range, if◌then◌else◌}
use Rattle.sql_grammar.specs.declared.tree.expr.Span.{Span}

-- the bytes of a span, or none where it isn't in the script
abbrev pub text_at : List ℕ → Span → List ℕ
text_at script span = if nat_le span.start span.end
    then (if nat_le span.end (length script) then slice_range script span.start span.end else [])
    else []
