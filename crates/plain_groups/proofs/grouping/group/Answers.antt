use Rattle.std.proofs.Common.{◌≡◌, List, map, subst, sym, ap, ap₂, ◌∙◌}
use Rattle.std.specs.Prelude.{IfOk}
use Rattle.sql_expr.specs.declared.tree.Expr.{Expr}
use Rattle.sql_meaning.specs.Found.{Found, Row, clean, if_clean}
use Rattle.sql_meaning.specs.Groups.{keyed, keys_of}
use Rattle.sql_meaning.specs.Statements.{row_value_of}
use Rattle.plain_rows.specs.Answers.{found_in}
use Rattle.plain_groups.specs.declared.keyed.Keyed.{Keyed as OneKeyed}
use Rattle.plain_groups.specs.Keys.{one_in}
use Rattle.plain_groups.proofs.Keying.{keyed_of, regrouped}
use Rattle.plain_groups.proofs.grouping.group.Goals as goal

pub returns : goal.returns
returns c =
    let grouping = c.args.grouping.now in
    let rows = c.args.rows.now in
    let ones = map one_in c.as_slice-5.result.now in
    let found = ap (λ (all : List OneKeyed). keyed_of (map one_in all) c.in_ok-found.found.faults.items) c.as_slice-5.ensures.value ∙ c.in_ok-found.ensures
    ∙ ap (λ (keys : List Expr). keyed (map row_value_of keys) rows) c.as_slice.ensures in
    let keys = c.as_slice-6.ensures.value ∙ c.in_ok-keys.ensures
    ∙ ap₂ (λ (es : List Expr) (all : List OneKeyed). keys_of (map row_value_of es) (map one_in all)) c.as_slice-2.ensures (c.as_slice-3.ensures.value ∙ sym c.as_slice-5.ensures.value) in
    subst (λ (f : Found Row). IfOk c.group_keys.result (λ answer. found_in answer ≡ if_clean f clean))
    (regrouped grouping rows c.as_slice-4.result.now ones c.in_ok-found.found.faults.items c.as_slice-6.result.now c.as_slice-4.ensures found keys)
    c.group_keys.ensures
