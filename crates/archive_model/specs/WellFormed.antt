-- States that accepted commands make.
use Rattle.std.specs.Ordering.{int_eq}
use Rattle.std.specs.Prelude.{◌≡◌, ◌≢◌, ◌≤ℤ◌, ◌*◌, ◌^◌, ℤ, pos, Bool, true, false, List, [], ◌∷◌, unsigned_abs}
use Rattle.frame_core.specs.declared.frame.Frame.{Frame}
use Rattle.frame_core.specs.declared.frame.FrameKind.TheVariants.{Heartbeat}
use Rattle.frame_core.specs.Block.{AreEncodable}
use Rattle.frame_core.specs.FrameEncoding.{IsAligned}
use Rattle.frame_core.specs.Limits.{is_mtu, is_term_length}
use Rattle.archive_model.specs.declared.command.Command.{Command}
use Rattle.archive_model.specs.declared.command.Command.TheVariants.{PurgeRecording, Truncate}
use Rattle.archive_model.specs.Descriptor.{is_negative, is_origin}
use Rattle.archive_model.specs.Keyed.{Each, Rise}
use Rattle.archive_model.specs.State.{Recording, State, id_of, is_active, recorded_position}
use Rattle.archive_model.specs.Acceptance.{BookState, book_after}
use Rattle.archive_model.specs.Accepting.{Accepts}
use Rattle.archive_model.specs.Histories.{IsContiguous}

-- a data frame or a pad of a stream
pub record IsOfStream (stream : ℤ) (f : Frame) : Type 0 where
  pub kind : f.kind ≢ Heartbeat
  pub stream_is : f.stream_id ≡ stream

-- The frames of a recording are of its stream, have encodings and go without a gap from its start, a multiple of 32, each
-- inside its term; its terms and segments have lengths in their limits, and so have its MTU, its channel and its source; it began at a
-- time from 0 on; where it isn't active it stopped at its recorded position. It starts at most 2^31 terms into the stream: a
-- new one before that, and a purge may leave one that starts there, where the stream ends.
pub record IsKept (r : Recording) : Type 0 where
  pub start : pos 0 ≤ℤ r.descriptor.start_position
  pub in_stream : r.descriptor.start_position ≤ℤ pos (2 ^ 31 * unsigned_abs r.descriptor.term_length)
  pub aligned : IsAligned r.descriptor.start_position
  pub term : is_term_length r.descriptor.term_length ≡ true
  pub segment : is_term_length r.descriptor.segment_length ≡ true
  pub no_less : r.descriptor.term_length ≤ℤ r.descriptor.segment_length
  pub mtu : is_mtu r.descriptor.mtu ≡ true
  pub began : is_negative r.descriptor.start_timestamp ≡ false
  pub origin : is_origin r.descriptor.channel r.descriptor.source_identity ≡ true
  pub of_stream : Each (IsOfStream r.descriptor.stream_id) r.frames
  pub encodable : AreEncodable r.frames
  pub contiguous : IsContiguous r
  pub stopped : is_active r ≡ false → r.descriptor.stop_position ≡ recorded_position r

-- ids rise and are below the next one, and each recording is kept
pub record IsWell (s : State) : Type 0 where
  pub rising : Rise id_of (pos 0) s.recordings s.next
  pub kept : Each IsKept s.recordings

-- each command is accepted by what those before it made
abbrev pub AreAccepted : BookState → List Command → Type 0
AreAccepted b [] = Unit {0}
AreAccepted b (c ∷ cs) = Accepts b c × AreAccepted (book_after b c) cs

-- a command that truncates or removes the recording of an id
abbrev pub cuts : ℤ → Command → Bool
cuts id (Truncate other position) = int_eq id other
cuts id (PurgeRecording other) = int_eq id other
cuts id _ = false
