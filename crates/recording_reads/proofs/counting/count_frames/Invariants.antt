use Rattle.std.proofs.Common.{◌-ℤ◌}
use Rattle.std.specs.Prelude.{unsigned_abs}
use Rattle.recording_reads.proofs.CountLemmas.{HasCounted}
use Rattle.recording_reads.proofs.counting.count_frames.Given as goal

-- the frames so far are counted
abbrev pub invariant-frames : goal.invariant-frames
invariant-frames g l = HasCounted (g.D.Disk.life l.fn.disk) (g.D.Disk.life l.disk) l.fn.registration l.at l.count

abbrev pub decreases-frames : goal.decreases-frames
decreases-frames g l = unsigned_abs (l.recorded -ℤ l.at)
