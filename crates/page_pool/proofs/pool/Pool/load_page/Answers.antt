use Rattle.std.proofs.Common.{rules, ◌≡◌, refl}
use Rattle.evict_ring.proofs.Callers.{held_first}
use Rattle.page_body.specs.Refusals.{LoadFails}
use Rattle.page_pool.specs.Pages.{kind_of}
use Rattle.page_pool.proofs.Faults.{reads_from, room_reads}
use Rattle.page_pool.proofs.pool.Pool.load_page.Goals as goal

pub give_page-requires-clause-out : goal.give_page-requires-clause-out
give_page-requires-clause-out g c = held_first c.search.new.seat.held c.args.seat.now.ring.held c.in-Found.frame.number c.in-Found.frame.number c.in-Found.ensures.search.1.held refl

pub give_frame-requires-clause-out : goal.give_frame-requires-clause-out
give_frame-requires-clause-out g c =
    let same : c.in-Err.frame.number ≡ c.in-Found.frame.number = search rules in
    held_first c.search.new.seat.held c.args.seat.now.ring.held c.in-Found.frame.number c.in-Err.frame.number c.in-Found.ensures.search.1.held same

pub returns-in-Err-clause-cause : goal.returns-in-Err-clause-cause
returns-in-Err-clause-cause g c =
    let r : LoadFails g.M.TicketMark.tells (kind_of c.args.page.now) c.args.self.now.cells.page (g.L.SpillLane.faults c.search.new.lane) (g.L.SpillLane.faults c.load_body.new.lane) c.in-Err.fault = search rules in
    c.of_fault.ensures.cause _ _ _ _ _ (reads_from _ _ _ _ _ _ c.in-Err.fault c.search.ensures.faults r)

pub returns-in-Fault-clause-cause : goal.returns-in-Fault-clause-cause
returns-in-Fault-clause-cause g c = c.of_fault-in-Fault.ensures.cause _ _ _ _ _ (room_reads _ _ _ _ _ c.in-Fault.fault c.in-Fault.ensures.cause)
