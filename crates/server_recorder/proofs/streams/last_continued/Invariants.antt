use Rattle.std.proofs.Common.{◌≡◌, drop}
use Rattle.server_recorder.specs.Streams.{last_continued, or_else}
use Rattle.server_recorder.proofs.streams.last_continued.Given as goal

-- of the recordings that are left, or else of those so far
abbrev pub invariant-loop-index : goal.invariant-loop-index
invariant-loop-index l = or_else (last_continued l.point (drop l.index l.recordings)) l.last ≡ last_continued l.point l.recordings
