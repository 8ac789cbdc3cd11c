use Rattle.std.proofs.Common.{◌≡◌, ◌∙◌, ap, sym, drop}
use Rattle.ooc_io.proofs.Copied.{copied}
use Rattle.ooc_io.specs.MemForms.{FilesState}
use Rattle.ooc_io.specs.MemFiles.{bytes_at}
use Rattle.ooc_io.proofs.mem_files.MemFilesFiles.read.Goals as goal

pub returns-clause-bytes : goal.returns-clause-bytes
returns-clause-bytes c =
    let s = c.self.inside in
    let is : c.bytes_of-bytes.result.now ≡ bytes_at s.files.items s.file =
    c.bytes_of-bytes.ensures ∙ ap (λ fs. bytes_at fs s.file) c.deref.ensures.value in
    let left : drop s.at (bytes_at s.files.items s.file) ≡ c.args.self.now.left = ap (λ (f : FilesState). f.left) c.self.view_is in
    rw (← left, ← is) (copied c.bytes_of-bytes.result.now c.copy_some-count.new.into s.at c.min-start.result c.copy_some-count.result _
    (sym c.copy_some-count.auto.into) c.min-start.ensures c.copy_some-count.ensures.count c.copy_some-count.ensures.bytes)
