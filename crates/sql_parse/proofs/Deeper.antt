-- What is read one level deeper.
use Rattle.std.proofs.Common.{◌≡◌, ◌≢◌, ℕ, zero, suc, ◌-◌, List, Err, refl, ap, arith}
use Rattle.sql_grammar.specs.Lexeme.{Lexeme, tail}
use Rattle.sql_grammar.specs.declared.fault.Fault.TheVariants.{TooDeep}
use Rattle.sql_grammar.specs.Form.{Sort}
use Rattle.sql_grammar.specs.Reading.{opened, read}
use Rattle.sql_grammar.specs.Nesting.{body, readers}

pub opened_is : (depth : ℕ) (s : Sort) (w : List Lexeme) → depth ≢ 0 → opened (readers depth s) w ≡ read (readers (depth - 1)) (body s) (tail w)
unfolding readers
opened_is zero s w h = absurd (h refl)
opened_is (suc k) s w h = let e : k ≡ suc k - 1 = omega arith in ap (λ j. read (readers j) (body s) (tail w)) e

pub too_deep : (depth : ℕ) (s : Sort) (w : List Lexeme) → depth ≡ 0 → opened (readers depth s) w ≡ Err (TooDeep, w)
unfolding readers
too_deep depth s w h = ap (λ j. opened (readers j s) w) h
