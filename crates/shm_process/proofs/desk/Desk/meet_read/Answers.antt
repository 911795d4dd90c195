use Rattle.std.proofs.Common.{◌∙◌, subst, sym}
use Rattle.shm_wire.specs.Line.{IsLine}
use Rattle.shm_wire.specs.LineOf.{line_of}
use Rattle.shm_process.specs.NodeOf.{node_of}
use Rattle.shm_process.proofs.Tries.{meeting-tries, try-is_line}
use Rattle.shm_process.proofs.UnmapClocks.{unmaps_early}
use Rattle.shm_process.proofs.desk.Desk.meet_read.Goals as goal

-- what a map tries has a line
pub try_access-requires : goal.try_access-requires
try_access-requires g c =
    let read = line_of c.args.read in
    let asked = c.in-Tries.asked in
    subst IsLine (sym c.try_of.ensures)
    (try-is_line read asked c.requires.is_line (meeting-tries (node_of c.args.self.now.node) read asked c.requires.is_line (sym c.meeting.ensures ∙ c.in-Tries.is)))

-- there is a clock for what is given up
pub give_up_by-requires-clause-early : goal.give_up_by-requires-clause-early
give_up_by-requires-clause-early g c = unmaps_early (node_of c.args.self.now.node) (line_of c.args.read) (sym c.meeting.ensures ∙ c.in-Unmaps.is)
