use Rattle.std.proofs.Common.{◌≡◌, ◌≤◌, ◌+◌, drop}
use Rattle.std.specs.Prelude.{IsTrue}
use Rattle.paged_catalog.specs.Meaning.{catalog_of}
use Rattle.paged_catalog.specs.Stands.{Leaves}
use Rattle.script_says.proofs.LastLines.{Grown}
use Rattle.script_run.proofs.Ran.{RanSoFar}
use Rattle.script_run.proofs.Told.{ToldSoFar}
use Rattle.script_run.proofs.statements.run_statements.Given as goal

-- what was written so far goes on with the statements that are left
abbrev pub invariant-loop-statement : goal.invariant-loop-statement
invariant-loop-statement g l =
    let t = g.P.Pages.terms in
    let a = g.P.Pages.view l.initial.pages in
    record {
      counted : l.number ≡ l.statement-index + 1;
      leaves : Leaves t a (g.P.Pages.view l.pages) l.initial.catalog l.catalog;
      idle : (g.P.Pages.view l.pages).held ≡ 0;
      holds : g.F.Files.holds l.files ≡ g.F.Files.holds l.fn.files;
      later : g.F.Files.faults l.fn.files ≤ g.F.Files.faults l.files;
      faults : g.K.Sink.faults l.out ≡ g.K.Sink.faults l.fn.out;
      grown : Grown (g.K.Sink.written l.fn.out) (g.K.Sink.written l.out);
      so_far : IsTrue t.told → ToldSoFar a.page_bytes l.script (catalog_of t l.initial.catalog) l.statements (g.F.Files.holds l.fn.files) l.number (catalog_of t l.catalog) (drop l.statement-index l.statements) (g.K.Sink.written l.fn.out) (g.K.Sink.written l.out);
      ran : IsTrue t.told → RanSoFar a.page_bytes l.script (catalog_of t l.initial.catalog) l.statements (g.F.Files.holds l.fn.files) l.number (catalog_of t l.catalog) (drop l.statement-index l.statements) (g.K.Sink.written l.fn.out) (g.K.Sink.written l.out);
    }
