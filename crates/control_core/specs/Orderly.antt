-- What a desk keeps beside its seats, so that the files are asked for no position outside a recording: docs/CONTROL.md,
-- "Control state" and "Limits".
use Rattle.std.specs.Prelude.{◌≡◌, ◌≤◌, ◌≤ℤ◌, ◌<ℤ◌, ◌*◌, ◌^◌, ℕ, ℤ, pos, true, IfSome, IsSomeAnd, unsigned_abs}
use Rattle.frame_core.specs.FrameEncoding.{IsAligned}
use Rattle.frame_core.specs.Limits.{is_mtu, is_term_length}
use Rattle.archive_model.specs.declared.registration.Registration.{Registration}
use Rattle.archive_model.specs.Descriptor.{is_origin}
use Rattle.archive_model.specs.Keyed.{Each}
use Rattle.archive_model.specs.Register.{RegisterState, registration_in}
use Rattle.control_core.specs.declared.callers.OpenReplay.{OpenReplay}
use Rattle.control_core.specs.declared.callers.RecorderSession.{RecorderSession}
use Rattle.control_core.specs.declared.callers.Written.{Written}
use Rattle.control_core.specs.Callers.{CallersState}
use Rattle.control_core.specs.Seats.{KeepsSeats}

-- terms and segments have lengths in their limits, and the start is a multiple of 32 bytes at most 2^31 terms into the
-- stream
pub record IsLayoutIn (start_position term_length segment_length : ℤ) : Type 0 where
  pub term : is_term_length term_length ≡ true
  pub segment : is_term_length segment_length ≡ true
  pub no_less : term_length ≤ℤ segment_length
  pub start : ℕ
  pub start_is : start_position ≡ pos (32 * start)
  pub in_terms : 32 * start ≤ 2 ^ 31 * unsigned_abs term_length

-- terms, segments and MTU of a recording are such that its frames can be found
pub record IsLaidOut (g : Registration) : Type 0 where
  pub layout : IsLayoutIn g.descriptor.start_position g.descriptor.term_length g.descriptor.segment_length
  pub mtu : is_mtu g.descriptor.mtu ≡ true

-- where the last term of a recording's stream ends: 2^31 terms, in bytes
abbrev pub stream_end : Registration → ℤ
stream_end g = pos (2 ^ 31 * unsigned_abs g.descriptor.term_length)

-- A recording is laid out, so it starts at a multiple of 32, and its channel and source are in their limits. It is recorded up
-- to a position of its stream that is not before its start, a multiple of 32 too.
pub record IsLaid (g : Registration) : Type 0 where
  pub laid_out : IsLaidOut g
  pub origin : is_origin g.descriptor.channel g.descriptor.source_identity ≡ true
  pub from_start : g.descriptor.start_position ≤ℤ g.recorded
  pub in_stream : g.recorded ≤ℤ stream_end g
  pub aligned : IsAligned g.recorded

-- each recording is laid
abbrev pub AreLaid : RegisterState → Type 0
AreLaid g = Each IsLaid g.recordings

-- blocks, of at least one frame, lie in the stream of a recording after what is recorded, and end at a multiple of 32
pub record LiesBehind (w : Written) (g : Registration) : Type 0 where
  pub behind : g.recorded ≤ℤ w.first
  pub forward : w.first <ℤ w.last
  pub in_stream : w.last ≤ℤ stream_end g
  pub aligned : IsAligned w.last

-- what a session wrote and did not settle lies behind what is recorded
abbrev pub WroteBehind : RegisterState → RecorderSession → Type 0
WroteBehind g s = IfSome s.written (λ w. IsSomeAnd (registration_in g s.recording) (LiesBehind w))

-- a recording that is there begins at a position or before it
abbrev pub BeginsBy : ℤ → RegisterState → ℤ → Type 0
BeginsBy position g id = IsSomeAnd (registration_in g id) (λ known. known.descriptor.start_position ≤ℤ position)

-- a replay goes on at the start of its recording or behind it
abbrev pub ReadsFromStart : RegisterState → OpenReplay → Type 0
ReadsFromStart g replay = BeginsBy replay.next g replay.recording

-- recordings are laid, and sessions and replays are at positions of theirs
pub record AreOrderly (g : RegisterState) (c : CallersState) : Type 0 where
  pub register : AreLaid g
  pub sessions : Each (WroteBehind g) c.sessions
  pub replays : Each (ReadsFromStart g) c.replays

-- what a desk keeps: its seats, and what is orderly
pub record KeepsDesk (g : RegisterState) (c : CallersState) : Type 0 where
  pub seats : KeepsSeats g c
  pub orderly : AreOrderly g c
