-- One item more of the lists that the walk goes through.
use Rattle.std.proofs.Common.{◌≡◌, sym, subst, List}
use Rattle.std.specs.Prelude.{Result}
use Rattle.sql_expr.specs.declared.tree.Expr.{Expr as Tree}
use Rattle.sql_grammar.specs.declared.tree.expr.Expr.{Expr}
use Rattle.sql_grammar.specs.declared.tree.expr.Link.{Link}
use Rattle.sql_grammar.specs.declared.tree.expr.Operand.{Operand}
use Rattle.sql_grammar.specs.declared.tree.select.Rows.{Rows}
use Rattle.sql_grammar.specs.declared.tree.select.SetOperand.{SetOperand}
use Rattle.sql_scope.specs.declared.chain.Chain.{Chain}
use Rattle.sql_scope.specs.declared.chain.Conditions.{Conditions}
use Rattle.sql_scope.specs.declared.fault.BindFault.{BindFault}
use Rattle.sql_scope.specs.declared.part.Part.{Part}
use Rattle.sql_scope.specs.Answer.{Gives, GoesOn, GoesOnBoth}
use Rattle.sql_scope.specs.Parts as parts
use Rattle.sql_scope.specs.Scopes.{View}
use Rattle.sql_scope.proofs.Going.{goes_on}
use Rattle.sql_clauses.specs.declared.conditions.FilterOperand.{FilterOperand}
use Rattle.sql_clauses.specs.declared.conditions.Filter.{Filter}
use Rattle.sql_clauses.specs.declared.cores.NamedRows.{NamedRows}
use Rattle.sql_clauses.specs.declared.rows.Unordered.{Unordered}
use Rattle.sql_clauses.specs.Conditions.{joined}
use Rattle.sql_clauses.specs.Rows.{with_key, combined, finished_rows}
use Rattle.bind_rules.specs.Bindings.{LinkBinding, OperandBinding, SetBinding}
use Rattle.bind_rules.specs.Bound.{expr_binding, rows_binding, link_behind, operand_behind, filter_behind, key_behind, set_behind}
use Rattle.bind_rules.specs.Expressions as expressions
use Rattle.bind_rules.specs.Selects as selects
use Rattle.bind_rules.proofs.Going.{on_beside}
use Rattle.bind_rules.proofs.Nodes.{link_is, operand_is, set_is}

-- an expression that was lent
pub part_at : (view : View) (e lent : Expr) (got : Result Part BindFault) → lent ≡ e → Gives ((expr_binding lent).part view) got → Gives ((expr_binding e).part view) got
part_at view e lent got is gives = subst (λ x. Gives ((expr_binding x).part view) got) is gives

pub operand_at : (view : View) (e lent : Expr) (got : Result FilterOperand BindFault) → lent ≡ e → Gives ((expr_binding lent).operand view) got → Gives ((expr_binding e).operand view) got
operand_at view e lent got is gives = subst (λ x. Gives ((expr_binding x).operand view) got) is gives

pub link_on : (view : View) (link : Link) (lent : Expr) (chain result : Result Chain BindFault) (right : Result Part BindFault) → lent ≡ link.right
    → Gives ((expr_binding lent).part view) right → GoesOnBoth (parts.linked link.place link.sign) chain right result → GoesOn (link_behind view link) chain result
link_on view link lent chain result right is given on =
    subst (λ (b : LinkBinding). GoesOn (expressions.linked view b) chain result) (sym (link_is link))
    (on_beside ((expr_binding link.right).part view) (parts.linked link.place link.sign) chain right result (part_at view link.right lent right is given) on)

pub operand_on : (view : View) (operand : Operand) (lent : Expr) (conditions result : Result Conditions BindFault) (right : Result Part BindFault) → lent ≡ operand.right
    → Gives ((expr_binding lent).part view) right → GoesOnBoth (parts.joined operand.place) conditions right result → GoesOn (operand_behind view operand) conditions result
operand_on view operand lent conditions result right is given on =
    subst (λ (b : OperandBinding). GoesOn (expressions.conditioned view b) conditions result) (sym (operand_is operand))
    (on_beside ((expr_binding operand.right).part view) (parts.joined operand.place) conditions right result (part_at view operand.right lent right is given) on)

pub filter_on : (view : View) (operand : Operand) (lent : Expr) (filter result : Result Filter BindFault) (right : Result FilterOperand BindFault) → lent ≡ operand.right
    → Gives ((expr_binding lent).operand view) right → GoesOnBoth (joined operand.place) filter right result → GoesOn (filter_behind view operand) filter result
filter_on view operand lent filter result right is given on =
    subst (λ (b : OperandBinding). GoesOn (expressions.filtered view b) filter result) (sym (operand_is operand))
    (on_beside ((expr_binding operand.right).operand view) (joined operand.place) filter right result (operand_at view operand.right lent right is given) on)

pub key_on : (view : View) (key lent : Expr) (keys result : Result (List Tree) BindFault) (part : Result Part BindFault) → lent ≡ key
    → Gives ((expr_binding lent).part view) part → GoesOnBoth with_key keys part result → GoesOn (key_behind view key) keys result
key_on view key lent keys result part is given on = on_beside ((expr_binding key).part view) with_key keys part result (part_at view key lent part is given) on

pub rows_at : (view : View) (e lent : Rows) (got : Result Unordered BindFault) (result : Result NamedRows BindFault) → lent ≡ e → Gives ((rows_binding lent).rows view) got
    → GoesOn finished_rows got result → Gives (selects.operand_over view (rows_binding e)) result
rows_at view e lent got result is gives on =
    goes_on ((rows_binding e).rows view) finished_rows got result (subst (λ x. Gives ((rows_binding x).rows view) got) is gives) on

pub set_on : (view : View) (other : SetOperand) (lent : Rows) (left result : Result NamedRows BindFault) (got : Result Unordered BindFault) (right : Result NamedRows BindFault)
    → lent ≡ other.right → Gives ((rows_binding lent).rows view) got → GoesOn finished_rows got right
    → GoesOnBoth (combined other.kind other.all other.place) left right result → GoesOn (set_behind view other) left result
set_on view other lent left result got right is gives finished on =
    subst (λ (b : SetBinding). GoesOn (selects.set_behind view b) left result) (sym (set_is other))
    (on_beside (selects.operand_over view (rows_binding other.right)) (combined other.kind other.all other.place) left right result
    (rows_at view other.right lent got right is gives finished) on)
