-- The constants of IN, one after the other.
use Rattle.std.proofs.Common.{◌≡◌, ℕ, ◌+◌, ◌<◌, ◌≤◌, List, sym, ap, ◌∙◌, get_or, drop, length}
use Rattle.std.specs.Prelude.{Result}
use Rattle.sql_expr.specs.declared.tree.Expr.{Expr as Tree}
use Rattle.sql_grammar.specs.declared.tree.expr.Constant.{Constant}
use Rattle.sql_scope.specs.declared.fault.BindFault.{BindFault}
use Rattle.sql_scope.specs.Answer.{Answer, Gives, GoesOnBoth, ◌>>=◌}
use Rattle.sql_scope.specs.Scopes.{View}
use Rattle.sql_scope.specs.Trees.{constants_from, constant, one_more}
use Rattle.sql_scope.proofs.Finding.{item_at, nothing_behind}
use Rattle.sql_scope.proofs.Going.{same_answer, goes_on_both}

-- the constants of IN
pub record ConstantsSoFar (view : View) (whole : Answer (List Tree)) (got : Result (List Tree) BindFault) (rest : List Constant) : Type 0 where
  pub answer : Answer (List Tree)
  pub gives : Gives answer got
  pub goes_on : constants_from view answer rest ≡ whole

pub constants_next : (view : View) (whole : Answer (List Tree)) (got result : Result (List Tree) BindFault) (list : List Constant) (i : ℕ) (d : Constant) (there : Result Tree BindFault)
    → i < length list → ConstantsSoFar view whole got (drop i list)
    → Gives (constant view (get_or list i d)) there → GoesOnBoth one_more got there result → ConstantsSoFar view whole result (drop (i + 1) list)
constants_next view whole got result list i d there h far given on = record {
  answer = far.answer >>= (λ trees. constant view (get_or list i d) >>= one_more trees);
  gives = goes_on_both far.answer (constant view (get_or list i d)) one_more got there result far.gives given on;
  goes_on = sym (ap (constants_from view far.answer) (item_at list i d h)) ∙ far.goes_on;
}

pub constants_last : (view : View) (whole : Answer (List Tree)) (got : Result (List Tree) BindFault) (list : List Constant) (i : ℕ) → length list ≤ i
    → ConstantsSoFar view whole got (drop i list) → Gives whole got
constants_last view whole got list i h far =
    same_answer far.answer whole got (sym (ap (constants_from view far.answer) (nothing_behind list i h)) ∙ far.goes_on) far.gives
