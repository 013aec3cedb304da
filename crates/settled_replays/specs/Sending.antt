-- What a follower is sent: docs/PROTOCOL.md, "Following a recording".
use Rattle.std.specs.Prelude.{◌≡◌, ◌++◌, ◌^◌, ◌*ℤ◌, ℕ, ℤ, pos, Bool, IsTrue, int_lt, List, [], ◌∷◌, unsigned_abs}
use Rattle.frame_core.specs.declared.block.Publication.{Publication}
use Rattle.frame_core.specs.declared.frame.Frame.{Frame}
use Rattle.frame_core.specs.declared.frame.FrameKind.TheVariants.{Heartbeat}
use Rattle.frame_core.specs.declared.geometry.Geometry.{Geometry}
use Rattle.frame_core.specs.FrameEncoding.{header_of, stored}
use Rattle.frame_core.specs.Position.{HasPosition}
use Rattle.disk_core.specs.DiskImage.{DiskImage}
use Rattle.archive_model.specs.declared.registration.Registration.{Registration}
use Rattle.archive_model.specs.declared.reply.PolledFrame.{PolledFrame}
use Rattle.control_core.specs.declared.callers.OpenReplay.{OpenReplay}
use Rattle.control_core.specs.Exact.{frames_end}
use Rattle.recording_reads.specs.Handing.{BeginBy}
use Rattle.recording_reads.specs.Reading.{GivesShown}
use Rattle.settled_replays.specs.declared.signs.Sign.{Sign}
use Rattle.settled_replays.specs.declared.signs.Sign.TheVariants.{Alive, Ended, Failed}

-- frames as a datagram has them, one after another: a message's stored bytes, and of a pad its header
abbrev pub sent_frames : List PolledFrame → List ℕ
sent_frames [] = []
sent_frames (f ∷ fs) = stored f.frame ++ sent_frames fs

-- a sign at a position of a recording's stream: a heartbeat with these flags
pub record IsSign (g : Geometry) (publication : Publication) (flags position : ℕ) (f : Frame) : Type 0 where
  pub kind : f.kind ≡ Heartbeat
  pub flags_are : f.flags ≡ flags
  pub length : f.length ≡ pos 0
  pub at : HasPosition g f.term_id f.term_offset (pos position)
  pub session_id : f.session_id ≡ publication.session_id
  pub stream_id : f.stream_id ≡ publication.stream_id
  pub reserved : f.reserved ≡ pos 0
  pub payload : f.payload ≡ []

-- its flags, by what it says: begin and end of a message; with the flag of a stream's end; and with that of a failure
abbrev pub flags_of : Sign → ℕ
flags_of Alive = 192
flags_of Ended = 224
flags_of Failed = 225

-- bytes that tell a follower this at a position
abbrev pub IsSignBytes : Geometry → Publication → Sign → ℕ → List ℕ → Type 0
IsSignBytes g publication sign position bytes = (f : Frame) × IsSign g publication (flags_of sign) position f × (bytes ≡ header_of f)

-- a position is before the end of the last term
abbrev pub is_in_terms : Geometry → ℕ → Bool
is_in_terms g position = int_lt (pos position) (pos (2 ^ 31) *ℤ g.term_length)

-- The frames that a replay is given are sent, as many as are asked for or as there are, and it goes on where they end: they are
-- shown, where the disk obeys the crash model.
pub record SendsShown (bytes : List ℕ) (obeys : Bool) (image : DiskImage) (g : Registration) (replay : OpenReplay) (most end : ℤ) : Type 0 where
  pub frames : List PolledFrame
  pub sent : bytes ≡ sent_frames frames
  pub shown : IsTrue obeys → GivesShown image g replay most frames (unsigned_abs end)
  -- whatever the disk answers
  pub begin : BeginBy replay.bound frames
  pub next : end ≡ frames_end replay.next frames
