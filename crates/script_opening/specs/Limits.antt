-- Limits of scripts.
use Rattle.std.specs.Prelude.{ℕ}
use Rattle.script_opening.specs.declared.limits.TheConstants.{MOST_SCRIPT}

-- the bytes of the longest script
abbrev pub most_script : ℕ
most_script = MOST_SCRIPT
