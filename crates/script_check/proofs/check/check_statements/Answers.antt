use Rattle.std.proofs.Common.{drop, ◌∙◌, arith, inl, refl}
use Rattle.std.proofs.Math.ListN.{drop_of_length-le}
use Rattle.script_says.specs.Catalog.{no_tables}
use Rattle.script_says.specs.Checking.{check_statement, check_closing}
use Rattle.script_says.specs.Runs.{Run}
use Rattle.script_says.proofs.SoFar.{Appends-none, SoFar-none, block_written, block_lost, run_stopped, run_done, drop_next}
use Rattle.script_says.proofs.LastLines.{last_text, last_line, last_closing, grown_nothing, grown_more}
use Rattle.script_check.specs.Tables.{catalog_in}
use Rattle.script_check.proofs.Told.{texts_open}
use Rattle.script_check.proofs.check.check_statements.Goals as goal

pub loop-statement-init : goal.loop-statement-init
loop-statement-init g c = record {
  counted = refl;
  faults = refl;
  grown = grown_nothing (g.K.Sink.written c.args.out.now) (g.K.Sink.written c.args.out.now) (Appends-none (g.K.Sink.written c.args.out.now));
  so_far = rw (c.new-tables.ensures.items) (SoFar-none (Run (check_statement c.args.script.now c.args.limit) check_closing 1 no_tables c.args.statements.now) (g.K.Sink.written c.args.out.now));
}

pub loop-statement-preserved : goal.loop-statement-preserved
loop-statement-preserved g c =
    let l = c.loop-statement in
    let all = c.args.statements.now in
    let does = check_statement c.args.script.now c.args.limit in
    let is = drop_next all l.statement-index c.statement-item.result c.loop-statement-test.true c.statement-item.is in
    record {
      counted = omega arith;
      faults = c.in-Ok-write_all.ensures.cause ∙ l.invariant.faults;
      grown = grown_more _ _ _ c.in-Ok.block.items l.invariant.grown c.in-Ok.ensures.block (rw (c.as_slice.ensures.value) at c.in-Ok-write_all.ensures.bytes);
      so_far = block_written does check_closing (Run does check_closing 1 no_tables all) l.number (catalog_in l.tables.items) (catalog_in c.check_statement.new.tables.items) _ _ _ is _ _ _ l.invariant.so_far c.in-Ok.block.items c.in-Ok.ensures.step (rw (c.as_slice.ensures.value) at c.in-Ok-write_all.ensures.bytes);
    }

pub returns-in-Err-write_all-clause-says : goal.returns-in-Err-write_all-clause-says
returns-in-Err-write_all-clause-says g c =
    let l = c.loop-statement in
    let all = c.args.statements.now in
    let does = check_statement c.args.script.now c.args.limit in
    let is = drop_next all l.statement-index c.statement-item.result c.loop-statement-test.true c.statement-item.is in
    block_lost does check_closing (Run does check_closing 1 no_tables all) l.number (catalog_in l.tables.items) (catalog_in c.check_statement.new.tables.items) _ _ _ is _ _ _ l.invariant.so_far c.in-Ok.block.items c.in-Ok.ensures.step (rw (c.as_slice.ensures.value) at c.in-Err-write_all.ensures.bytes)

pub returns-in-Err-clause-says : goal.returns-in-Err-clause-says
returns-in-Err-clause-says g c =
    let l = c.loop-statement in
    let all = c.args.statements.now in
    let does = check_statement c.args.script.now c.args.limit in
    let is = drop_next all l.statement-index c.statement-item.result c.loop-statement-test.true c.statement-item.is in
    run_stopped does check_closing (Run does check_closing 1 no_tables all) l.number (catalog_in l.tables.items) (catalog_in c.check_statement.new.tables.items) _ _ _ is _ _ _ l.invariant.so_far c.in-Err.status c.end.result c.in-Err.ensures.step c.end.ensures.line

pub returns-in-Err-clause-last : goal.returns-in-Err-clause-last
returns-in-Err-clause-last g c = last_line check_closing _ _ _ c.in-Err.status c.end.result (texts_open c.in-Err.status c.in-Err.ensures.kinds) c.loop-statement.invariant.grown c.end.ensures.line

pub returns-clause-says : goal.returns-clause-says
returns-clause-says g c =
    let l = c.loop-statement in
    let all = c.args.statements.now in
    let does = check_statement c.args.script.now c.args.limit in
    run_done does check_closing (Run does check_closing 1 no_tables all) l.number (catalog_in l.tables.items) (drop l.statement-index all) _ _ _ c.end_with.result (drop_of_length-le all c.loop-statement-test.false) l.invariant.so_far c.end_with.ensures.text

pub returns-clause-last : goal.returns-clause-last
returns-clause-last g c = last_closing check_closing _ _ _ c.end_with.result c.loop-statement.invariant.grown c.end_with.ensures.text
