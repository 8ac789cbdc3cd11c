use Rattle.std.proofs.Common.{◌∙◌, refl, sym}
use Rattle.spill_file.specs.Lane.{book_of, store_of}
use Rattle.spill_file.proofs.Kept.{same_out, same_all}
use Rattle.spill_file.proofs.file_lane.FileLaneSpillLane.write.Goals.{in-Some+else-write, in_default}
use Rattle.spill_file.proofs.file_lane.FileLaneSpillLane.write.Goals as goal

pub returns-then-write-clause-others : goal.returns-then-write-clause-others
returns-then-write-clause-others g c =
    same_out (book_of c.args.self.now) c.in-Some.place (g.S.ImageStore.images (store_of c.args.self.now)) (g.S.ImageStore.images c.write.new.self) (sym c.next.ensures ∙ c.in-Some.is) c.write.ensures.others

pub returns-clause-others : goal.returns-clause-others
returns-clause-others g c = elim c.match-next.branch [
  | in-Some+else-write w ↦ rw w.self-is (same_out (book_of c.args.self.now) w.in-Some.place (g.S.ImageStore.images (store_of c.args.self.now)) (g.S.ImageStore.images w.write.new.self) (sym c.next.ensures ∙ w.in-Some.is) w.write.ensures.others)
  | in_default w ↦ rw w.self-is (same_all (book_of c.args.self.now) (g.S.ImageStore.images (store_of c.args.self.now)) (g.S.ImageStore.images (store_of c.args.self.now)) refl)
]
