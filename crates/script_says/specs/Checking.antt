-- What the check of a script does: statements are bound and planned over tables of no rows.
use Rattle.std.specs.Prelude.{ℕ, List, codes}
use Rattle.bound_tree.specs.declared.statement.Bound.{Bound}
use Rattle.bound_tree.specs.declared.statement.Bound.TheVariants.{CreateTable, DropTable, Copy, Explain, Select}
use Rattle.bound_tree.specs.declared.select.BoundSelect.{BoundSelect}
use Rattle.bind_rules.specs.Bound.{bound_of}
use Rattle.plan_tree.specs.Planned.{plan_of_select}
use Rattle.plan_text.specs.Explained.{plan_text}
use Rattle.row_image.specs.Rules.{text_limit}
use Rattle.run_settings.specs.declared.settings.Settings.{Settings}
use Rattle.script_says.specs.Catalog.{Catalog, schemas_of, with_table, without_table}
use Rattle.script_says.specs.Block.{Block, Exactly, no_block}
use Rattle.script_says.specs.Outcome.{Outcome, Gives, Does, once_bound}

-- the plan of a SELECT over tables of no rows
abbrev pub plan_block : BoundSelect → Block
plan_block select = Exactly (plan_text (plan_of_select (λ name. 0) select))

-- CREATE and DROP act, and the file of a COPY isn't opened. A SELECT is planned, as EXPLAIN plans it.
abbrev pub checked : Catalog → Bound → Outcome
checked catalog (CreateTable name columns) = Gives (with_table catalog name columns) no_block
checked catalog (DropTable name) = Gives (without_table catalog name) no_block
checked catalog (Copy name file header delimiter null) = Gives catalog no_block
checked catalog (Explain select) = Gives catalog (plan_block select)
checked catalog (Select select) = Gives catalog (plan_block select)

-- what a statement of a script does in its check, where a text has at most `limit` bytes
unfoldable pub check_statement : List ℕ → ℕ → Does
check_statement script limit number catalog statement = once_bound (checked catalog) number (bound_of statement script (schemas_of catalog) limit)

abbrev pub check_outcome : Settings → List ℕ → Does
check_outcome settings script = check_statement script (text_limit settings.page)

-- the last line of a check that is done
abbrev pub check_closing : List ℕ
check_closing = codes "ok\n"
