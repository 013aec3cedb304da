use Rattle.std.specs.Prelude.{length}
use Rattle.server_sender.proofs.read_frames.ReadFrames.clear.Given as goal

abbrev pub decreases-loop-self : goal.decreases-loop-self
decreases-loop-self l = length l.self
