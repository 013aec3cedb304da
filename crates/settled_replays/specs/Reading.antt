-- What a reader beside the lock hands on, and what keeps its frames in place meanwhile: docs/CONTROL.md, "Replays".
use Rattle.std.specs.Prelude.{◌≡◌, ◌⊎◌, ◌&&◌, ◌≤ℤ◌, ◌-◌, ◌%◌, max, ℤ, pos, negsuc, Bool, false, MatchBool, int_le, int_lt, unsigned_abs, IsTrue, List, Option, Some, None, if◌then◌else◌}
use Rattle.frame_core.specs.declared.frame.Frame.{Frame}
use Rattle.frame_core.specs.declared.refusal.Refusal.{Refusal}
use Rattle.frame_core.specs.ReplayEnd.{bound_of}
use Rattle.frame_core.specs.Segment.{segment_base}
use Rattle.disk_core.specs.DiskImage.{DiskImage}
use Rattle.disk_core.specs.Life.{Life}
use Rattle.segment_store.specs.declared.layout.Layout.{Layout}
use Rattle.archive_model.specs.declared.descriptor.Descriptor.{Descriptor}
use Rattle.archive_model.specs.declared.registration.Registration.{Registration}
use Rattle.archive_model.specs.declared.reply.PolledFrame.{PolledFrame}
use Rattle.control_core.specs.declared.callers.OpenReplay.{OpenReplay}
use Rattle.engine_core.specs.Engine.{EngineState}
use Rattle.recording_reads.specs.Reading.{GivesShown}
use Rattle.recording_reads.specs.Settled.{CursorView, RefusesTurn}
use Rattle.settled_replays.specs.Holding.{HeldReplayView, LooksAgain, MovesReplayOn, SeesNothing, StaysHeld}

-- where the segment of a position begins, of a recording that has terms and begins at the position or before it
abbrev pub segment_in : Layout → ℤ → Option ℤ
segment_in l position =
    if int_lt (pos 0) l.term_length && int_lt (pos 0) l.segment_length && int_le (pos 0) l.start_position && int_le l.start_position position
    then Some (pos (segment_base (unsigned_abs l.start_position) (unsigned_abs l.term_length) (unsigned_abs l.segment_length) (unsigned_abs position))) else None

-- a segment begins further on than a position
abbrev pub is_ahead : ℤ → Option ℤ → Bool
is_ahead from None = false
is_ahead from (Some base) = int_lt from base

-- where a replay is opened for a position: where the position's term begins, or the recording where that is later; at the position
-- itself, where it is before the recording or there is no term
abbrev pub opened_for : Descriptor → ℤ → ℤ
opened_for d position =
    if int_lt (pos 0) d.term_length && int_le (pos 0) d.start_position && int_le d.start_position position
    then pos (max (unsigned_abs d.start_position) (unsigned_abs position - unsigned_abs position % unsigned_abs d.term_length)) else position

-- a replay of a recording, from a position to a bound
abbrev pub replay_from : HeldReplayView → ℤ → ℤ → OpenReplay
replay_from held next bound = record { number = held.number; recording = held.recording; next = next; bound = bound }

-- A frame begins at a position, or the recording is recorded up to there: it is where the replay was opened, or the frames from
-- there on that the disk shows, one after another, reach it.
pub record ReachesFrame (obeys : Bool) (image : DiskImage) (known : Registration) (held : HeldReplayView) (position : ℤ) : Type 0 where
  pub reached : (position ≡ held.from) ⊎ (position ≡ known.recorded)
      ⊎ (IsTrue obeys → (most : ℤ) × (frames : List PolledFrame) × GivesShown image known (replay_from held held.from position) most frames (unsigned_abs position))

-- A reader begins at a position of its replay's recording, as recorded up to where that was seen to be: a frame begins there. It
-- ends where a replay of that length does.
pub record BeginsReading (obeys : Bool) (image : DiskImage) (d : Descriptor) (position size : ℤ) (held : HeldReplayView) (cursor : CursorView) : Type 0 where
  pub known : cursor.known ≡ record { descriptor = d; recorded = held.seen }
  pub bound : ℤ
  pub bound_is : negsuc 0 ≤ℤ size → bound ≡ bound_of position size
  pub replay : cursor.replay ≡ replay_from held position bound
  pub frame : ReachesFrame obeys image cursor.known held position

module _ {D : Type 0} (life : D → Life) (opening : EngineState) where
  -- Where all that was seen is not read yet, nothing is asked. Else its own recording's positions are asked for, by one call.
  abbrev pub LooksIfRead : HeldReplayView → ℤ → HeldReplayView → Type 0
  LooksIfRead old next new = MatchBool (int_lt next old.seen) (new ≡ old) (LooksAgain life opening old new)

  -- The replay moves on to where a segment begins, with no end, if that is further on than where it was opened; or the opening
  -- there is refused, and it stays.
  abbrev pub KeepsUp : HeldReplayView → Option ℤ → HeldReplayView → Type 0
  KeepsUp old None new = new ≡ old
  KeepsUp old (Some base) new = MatchBool (int_lt old.from base)
      (MovesReplayOn life opening old new base (negsuc 0) ⊎ ((refusal : Refusal) × StaysHeld life opening old new base (negsuc 0) refusal))
      (new ≡ old)

  -- Why nothing is handed on: the look was refused, and nothing was read; or it was made, and the reading was refused.
  abbrev pub RefusesReading : {T : Type 0} → (T → ℤ → Frame → T → Type 0) → (T → T → Type 0) → T → T → Bool → DiskImage → ℤ → HeldReplayView → HeldReplayView → CursorView → CursorView → Refusal → Type 0
  RefusesReading takes leaves taker taker' obeys image most old new before after refusal =
      (SeesNothing life opening old new refusal × (taker' ≡ taker) × (after ≡ before))
      ⊎ (LooksIfRead old before.replay.next new × RefusesTurn takes leaves taker taker' obeys image new.seen most before after refusal)
