use Rattle.std.proofs.Common.{◌≡◌, sym, Bool, true, false, refl, List, ℕ}
use Rattle.std.specs.Str.{is_utf8, IsUtf8}
use Rattle.std.proofs.lemmas.Str.{IsUtf8-from_is_utf8, is_utf8-from_IsUtf8}
use Rattle.sql_expr.proofs.wildcards.is_text.Goals as goal

refused : (b : Bool) (bytes : List ℕ) → b ≡ is_utf8 bytes → (IsUtf8 bytes → ⊥) → false ≡ is_utf8 bytes
refused true bytes e h = absurd (h (IsUtf8-from_is_utf8 bytes (sym e)))
refused false bytes e h = e

pub returns-in-Ok : goal.returns-in-Ok
returns-in-Ok c = sym (is_utf8-from_IsUtf8 c.args.bytes.now c.in-Ok.ensures.cases.1)

pub returns-in-Err : goal.returns-in-Err
returns-in-Err c = refused (is_utf8 c.args.bytes.now) c.args.bytes.now refl c.in-Err.ensures.cases.0
