-- What a follower is sent: docs/PROTOCOL.md, "Following a recording".
use Rattle.std.specs.Prelude.{◌≡◌, ◌⊎◌, ◌++◌, ℕ, ℤ, Bool, false, IsTrue, List, [], ◌∷◌, Option, unsigned_abs}
use Rattle.std.specs.Io.KnownBytes.{Appends}
use Rattle.disk_core.specs.DiskImage.{DiskImage, reads}
use Rattle.disk_core.specs.Life.{IsQuiet, Life}
use Rattle.archive_model.specs.declared.descriptor.Descriptor.{Descriptor}
use Rattle.archive_model.specs.declared.reply.PolledFrame.{PolledFrame}
use Rattle.control_core.specs.declared.callers.OpenReplay.{OpenReplay}
use Rattle.control_core.specs.Exact.{frames_end}
use Rattle.recording_reads.specs.Reading.{GivesShown}
use Rattle.recording_reads.specs.Settled.{CursorView}
use Rattle.settled_replays.specs.declared.signs.Sign.{Sign}
use Rattle.settled_replays.specs.declared.signs.Sign.TheVariants as signs
use Rattle.settled_replays.specs.Sending.{IsSignBytes, is_in_terms, sent_frames}
use Rattle.server.specs.declared.pushing.FollowEnd.{FollowEnd}
use Rattle.server.specs.declared.pushing.FollowEnd.TheVariants as ends
use Rattle.server.specs.declared.followed_stream.FollowedStream.{FollowedStream}

-- a part of it: frames, up to what was seen then, or a heartbeat's bytes
pub data Part : Type 0 where
  frames : ℤ → List PolledFrame → Part
  sign : Sign → List ℕ → Part

-- the bytes of parts, one after another
abbrev pub bytes_of_parts : List Part → List ℕ
bytes_of_parts [] = []
bytes_of_parts (frames seen fs ∷ parts) = sent_frames fs ++ bytes_of_parts parts
bytes_of_parts (sign told bytes ∷ parts) = bytes ++ bytes_of_parts parts

-- Parts of a replay from a position to another: frames begin where the ones before them end, and are those that the disk shows
-- there; a heartbeat is at the position that comes next.
abbrev pub ArePartsOf : Bool → DiskImage → Descriptor → OpenReplay → FollowedStream → ℤ → List Part → ℤ → Type 0
ArePartsOf obeys image d replay stream from [] to = to ≡ from
ArePartsOf obeys image d replay stream from (frames seen fs ∷ parts) to =
    (most : ℤ) × (IsTrue obeys → GivesShown image (record { descriptor = d; recorded = seen }) (record replay { next = from }) most fs (unsigned_abs (frames_end from fs)))
    × ArePartsOf obeys image d replay stream (frames_end from fs) parts to
ArePartsOf obeys image d replay stream from (sign told bytes ∷ parts) to =
    IsSignBytes stream.geometry stream.publication told (unsigned_abs from) bytes × ArePartsOf obeys image d replay stream from parts to

-- these parts were written, and no more, while a reader went on from one cursor to another
pub record IsSent (stream : FollowedStream) (old new : Life) (before after : CursorView) (contents written : Option (List ℕ)) (parts : List Part) : Type 0 where
  pub appended : Appends contents written (bytes_of_parts parts)
  pub are : ArePartsOf new.obeys (reads old.now) before.known.descriptor before.replay stream before.replay.next parts after.replay.next
  pub replay : after.replay ≡ record before.replay { next = after.replay.next }
  pub descriptor : after.known.descriptor ≡ before.known.descriptor
  pub quiet : IsQuiet old new

-- the connection got the bytes that tell this at a position; past the last term it got nothing
abbrev pub IsTold : FollowedStream → Sign → ℤ → Option (List ℕ) → Option (List ℕ) → Type 0
IsTold stream told position contents written =
    ((bytes : List ℕ) × IsSignBytes stream.geometry stream.publication told (unsigned_abs position) bytes × Appends contents written bytes)
    ⊎ ((is_in_terms stream.geometry (unsigned_abs position) ≡ false) × (written ≡ contents))

-- what a follower is told whose frames ended so
abbrev pub sign_of : FollowEnd → Sign
sign_of ends.Done = signs.Ended
sign_of end = signs.Failed

-- the last part tells this; a position past the last term is told nothing
abbrev pub EndsWithSign : FollowedStream → Sign → List Part → ℤ → Type 0
EndsWithSign stream told parts to =
    ((front : List Part) × (bytes : List ℕ) × (parts ≡ front ++ sign told bytes ∷ [])) ⊎ (is_in_terms stream.geometry (unsigned_abs to) ≡ false)

-- What the last part is, by how it ended.
abbrev pub EndsSo : FollowEnd → FollowedStream → List Part → ℤ → Type 0
EndsSo ends.Done stream parts to = EndsWithSign stream signs.Ended parts to
EndsSo (ends.Failed refusal) stream parts to = EndsWithSign stream signs.Failed parts to
EndsSo end stream parts to = Unit {0}

-- A follower was sent parts, and it ended so. Of a connection that is gone it isn't known how much of the last part went out.
abbrev pub IsSentUntil : FollowEnd → FollowedStream → Life → Life → CursorView → CursorView → Option (List ℕ) → Option (List ℕ) → Type 0
IsSentUntil ends.Gone stream old new before after contents written = Unit {0}
IsSentUntil end stream old new before after contents written =
    (parts : List Part) × IsSent stream old new before after contents written parts × EndsSo end stream parts after.replay.next

-- it goes on: some parts were sent
abbrev pub IsSentOn : FollowedStream → Life → Life → CursorView → CursorView → Option (List ℕ) → Option (List ℕ) → Type 0
IsSentOn stream old new before after contents written = (parts : List Part) × IsSent stream old new before after contents written parts
