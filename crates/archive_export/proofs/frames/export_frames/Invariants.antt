use Rattle.std.proofs.Common.{◌-ℤ◌}
use Rattle.std.specs.Prelude.{unsigned_abs}
use Rattle.archive_model.specs.declared.registration.Registration.{Registration}
use Rattle.archive_export.specs.Steps.{HasWrittenAll, IsAt}
use Rattle.archive_export.proofs.frames.export_frames.Given as goal

-- the frames so far are written, and the recording is still there
abbrev pub invariant-frames : goal.invariant-frames
invariant-frames g l =
    ((known : Registration) → IsAt (g.D.Disk.life) l.fn.view l.fn.recording l.target known l.target.first
    → HasWrittenAll (g.D.Disk.life) l.fn.view l.view known l.target.first l.target.last l.target.destination l.at (g.W.Write.contents l.fn.writer) (g.W.Write.contents l.writer))
    × ((known : Registration) × IsAt (g.D.Disk.life) l.view l.recording l.target known l.at)

abbrev pub decreases-frames : goal.decreases-frames
decreases-frames g l = unsigned_abs (l.target.recorded -ℤ l.at)
