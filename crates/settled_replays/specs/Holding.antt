-- A replay that is open in a shared archive while its frames are read beside the lock: docs/CONTROL.md, "Replays".
use Rattle.std.specs.Prelude.{◌≡◌, ◌⊎◌, ℤ, negsuc, Bool, Result, Ok, Err, IsErrOf}
use Rattle.std.specs.Ordering.{int_eq}
use Rattle.frame_core.specs.declared.refusal.Refusal.{Refusal}
use Rattle.frame_core.specs.declared.refusal.Refusal.TheVariants.{NoMemory}
use Rattle.disk_core.specs.Life.{Life}
use Rattle.archive_model.specs.declared.reply.Reply.{Reply}
use Rattle.archive_model.specs.declared.reply.Reply.TheVariants.{Positions as PositionsReply, ReplayOpened}
use Rattle.control_core.specs.declared.event.Event.{Event}
use Rattle.control_core.specs.declared.event.Event.TheVariants.{Ask, ReplayClose, ReplayOpen}
use Rattle.control_core.specs.declared.request.Request.TheVariants.{Positions}
use Rattle.engine_core.specs.Engine.{EngineState}
use Rattle.call_history.specs.Values.{PassView}
use Rattle.archive_lock.specs.declared.history.Made.{Made}
use Rattle.archive_lock.specs.History.{EndsWithAnswer, IsNoted}
use Rattle.settled_replays.specs.declared.calls.Seen.{Seen}

-- A pass, and the replay that it opened: the recording, the replay's number, and where it was opened. And how far the
-- recording was seen to be recorded, and whether it was active then.
pub record HeldReplayView : Type 0 where
  pub pass : PassView Made
  pub recording : ℤ
  pub number : ℤ
  pub from : ℤ
  pub seen : ℤ
  pub is_active : Bool

-- what an opening was answered, of which the caller is handed the replay's number
abbrev pub opening_outcome : Result ℤ Refusal → Result Reply Refusal
opening_outcome (Ok number) = Ok (ReplayOpened number)
opening_outcome (Err refusal) = Err refusal

-- what a question for positions was answered, of which the caller is handed these
abbrev pub positions_outcome : Result Seen Refusal → Result Reply Refusal
positions_outcome (Ok seen) = Ok (PositionsReply seen.start seen.recorded seen.stop)
positions_outcome (Err refusal) = Err refusal

-- a recording is active: it has no stop position
abbrev pub is_unstopped : Seen → Bool
is_unstopped seen = int_eq seen.stop (negsuc 0)

module _ {D : Type 0} (life : D → Life) (opening : EngineState) where
  -- A pass asks for this and is answered so: what it has seen is a legal history that ends with this call. Want of memory is no
  -- call, and then it is as it was.
  pub record PassAsks (old : PassView Made) (event : Event) (outcome : Result Reply Refusal) (new : PassView Made) : Type 0 where
    pub answers : IsNoted outcome → EndsWithAnswer life opening old event outcome new
    pub unnoted : IsErrOf outcome NoMemory → new ≡ old

  -- a replay of a recording is opened at a position, for a length in bytes of the stream, and has this number
  abbrev pub OpensReplay : PassView Made → ℤ → ℤ → ℤ → ℤ → PassView Made → Type 0
  OpensReplay old recording position size number new = PassAsks old (ReplayOpen recording position size) (Ok (ReplayOpened number)) new

  -- a replay is closed by a call, however that is answered
  abbrev pub ClosesHeld : PassView Made → ℤ → PassView Made → Type 0
  ClosesHeld old number new = (outcome : Result Reply Refusal) × PassAsks old (ReplayClose number) outcome new

  -- a recording's positions are asked for, by one call, and this is answered
  abbrev pub AsksPositions : PassView Made → ℤ → Result Seen Refusal → PassView Made → Type 0
  AsksPositions old recording answer new = PassAsks old (Ask (Positions recording)) (positions_outcome answer) new

  -- A replay further on was opened first, and then the one before was closed: at no call between was there none.
  pub record MovesReplayOn (old new : HeldReplayView) (position size : ℤ) : Type 0 where
    pub mid : PassView Made
    pub opens : OpensReplay old.pass old.recording position size new.number mid
    pub closes : ClosesHeld mid old.number new.pass
    pub same : new ≡ record old { pass = new.pass; number = new.number; from = position }

  -- An opening was refused, and the replay before it stays.
  pub record StaysHeld (old new : HeldReplayView) (position size : ℤ) (refusal : Refusal) : Type 0 where
    pub asks : PassAsks old.pass (ReplayOpen old.recording position size) (Err refusal) new.pass
    pub same : new ≡ record old { pass = new.pass }

  -- The positions of its own recording were asked for: it is seen to be recorded up to what was answered.
  pub record LooksAgain (old new : HeldReplayView) : Type 0 where
    pub positions : Seen
    pub asks : AsksPositions old.pass old.recording (Ok positions) new.pass
    pub same : new ≡ record old { pass = new.pass; seen = positions.recorded; is_active = is_unstopped positions }

  -- they were asked for, and refused: nothing more was seen
  pub record SeesNothing (old new : HeldReplayView) (refusal : Refusal) : Type 0 where
    pub asks : AsksPositions old.pass old.recording (Err refusal) new.pass
    pub same : new ≡ record old { pass = new.pass }
