-- Facts of what is answered.
use Rattle.std.specs.Prelude.{Ok, Err, ⊤}
use Rattle.sql_scope.specs.Answer.{Answer}

-- a fact of an answer, where there is one
abbrev pub OfAnswer : {A : Type 0} → (A → Type 0) → Answer A → Type 0
OfAnswer P (Err refusal) = ⊤
OfAnswer P (Ok a) = P a
