-- What a statement is bound to.
use Rattle.std.proofs.Common.{◌≡◌, ℕ, List, [], length, nat_le, Ok}
use Rattle.ooc_types.specs.declared.refusal.RefusalKind.TheVariants.{TooManyColumns}
use Rattle.bound_tree.specs.declared.statement.Bound.{Bound}
use Rattle.bound_tree.specs.declared.statement.Bound.TheVariants.{CreateTable}
use Rattle.sql_plan.specs.Numbered.{AreNumbered}
use Rattle.sql_grammar.specs.declared.tree.expr.Span.{Span}
use Rattle.sql_grammar.specs.declared.tree.statement.Column.{Column as WrittenColumn}
use Rattle.sql_grammar.specs.declared.tree.statement.CopyOption.{CopyOption}
use Rattle.sql_grammar.specs.declared.tree.statement.Statement.{Statement}
use Rattle.sql_grammar.specs.declared.tree.statement.Statement.TheVariants as statement
use Rattle.sql_scope.specs.declared.scope.TableColumns.{TableColumns}
use Rattle.sql_scope.specs.Answer.{◌>>=◌, each}
use Rattle.sql_scope.specs.Scopes.{View}
use Rattle.sql_clauses.specs.Copies.{copied, copy_table, no_options, option_behind}
use Rattle.sql_clauses.specs.Names.{text_of}
use Rattle.sql_clauses.specs.Tables.{column_behind, create_table, dropped, known_table, most_columns, new_table, table_of}
use Rattle.bind_rules.specs.Bound.{bound_of, bound_over, explained, select_binding, selected_rows, view_of}
use Rattle.numbered_binding.specs.Kept.{OfAnswer}
use Rattle.numbered_binding.specs.Numbered.{IsNumberedStatement}
use Rattle.numbered_binding.proofs.AnswerLemmas.{asked-for, behind-any, of-answer, on-answer}
use Rattle.numbered_binding.proofs.TreeLemmas.{every-select}

created : (view : View) (name : Span) (columns : List WrittenColumn) → OfAnswer IsNumberedStatement (create_table view name columns)
created view name columns =
    behind-any IsNumberedStatement (new_table view name) (λ (table : List ℕ). each (column_behind view) (Ok []) columns >>= table_of name.start table)
    (λ table. behind-any IsNumberedStatement (each (column_behind view) (Ok []) columns) (table_of name.start table)
    (λ all. asked-for IsNumberedStatement (nat_le (length all) most_columns) name.start TooManyColumns (CreateTable table all) (λ e. tt)))

copied-from : (view : View) (name file : Span) (options : List CopyOption) → OfAnswer IsNumberedStatement (copy_table view name file options)
copied-from view name file options =
    behind-any IsNumberedStatement (known_table view name) (λ (table : List ℕ). each (option_behind view) (Ok no_options) options >>= (λ all. Ok (copied table (text_of view file) all)))
    (λ table. behind-any IsNumberedStatement (each (option_behind view) (Ok no_options) options) (λ all. Ok (copied table (text_of view file) all)) (λ all. tt))

every-statement : (view : View) (written : Statement) → OfAnswer IsNumberedStatement (bound_over view written)
every-statement view (statement.CreateTable name columns) = created view name columns
every-statement view (statement.DropTable name) = behind-any IsNumberedStatement (known_table view name) dropped (λ table. tt)
every-statement view (statement.Copy name file options) = copied-from view name file options
every-statement view (statement.Explain select) = on-answer AreNumbered IsNumberedStatement ((select_binding select).select view) explained (every-select select view) (λ bound h. h)
every-statement view (statement.Select select) = on-answer AreNumbered IsNumberedStatement ((select_binding select).select view) selected_rows (every-select select view) (λ bound h. h)

pub bound-numbered : (written : Statement) (script : List ℕ) (tables : List TableColumns) (limit : ℕ) (bound : Bound) → bound_of written script tables limit ≡ Ok bound → IsNumberedStatement bound
bound-numbered written script tables limit bound is =
    of-answer IsNumberedStatement (bound_over (view_of script tables limit) written) bound (every-statement (view_of script tables limit) written) is
