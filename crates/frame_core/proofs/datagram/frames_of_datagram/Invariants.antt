use Rattle.std.proofs.Common.{◌-◌, ◌≤◌, length}
use Rattle.std.specs.Prelude.{map}
use Rattle.frame_core.specs.FrameEncoding.{frame_of}
use Rattle.frame_core.specs.Datagram.{Leads}
use Rattle.frame_core.proofs.datagram.frames_of_datagram.Given as goal

-- the frames so far lead up to the offset
abbrev pub invariant-fronts : goal.invariant-fronts
invariant-fronts l = record { leads : Leads l.bytes (map frame_of l.frames.items) l.offset; within : l.offset ≤ length l.bytes }

abbrev pub decreases-fronts : goal.decreases-fronts
decreases-fronts l = length l.bytes - l.offset
