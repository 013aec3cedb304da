use Rattle.std.proofs.Common.{◌≡◌, drop}
use Rattle.server_recorder.specs.Streams.{last_stand, stand_or_else}
use Rattle.server_recorder.proofs.streams.last_stand.Given as goal

-- of the recordings that are left, or else of those so far
abbrev pub invariant-loop-index : goal.invariant-loop-index
invariant-loop-index l = stand_or_else (last_stand l.point (drop l.index l.recordings)) l.last ≡ last_stand l.point l.recordings
