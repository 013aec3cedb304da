-- A replayer that another recorder's position holds back, and what its turn gives: docs/ARCHITECTURE.md, "The board".
use Rattle.std.specs.Prelude.{◌≡◌, ℕ, ℤ, is_none, Result, Ok, Err}
use Rattle.frame_core.specs.declared.refusal.Refusal.{Refusal}
use Rattle.archive_model.specs.declared.reply.Reply.{Reply}
use Rattle.archive_model.specs.declared.reply.Reply.TheVariants.{Polled}
use Rattle.call_history.specs.Values.{PassView}
use Rattle.position_board.specs.Positions.{Seen}
use Rattle.archive_lock.specs.declared.history.Made.{Made}
use Rattle.recorder_seats.specs.declared.bounded.Turn.{Turn}

-- a bounded replayer: its pass, the number of its replay, its reader, and the slot that it looks at
pub record BoundedView : Type 0 where
  pub pass : PassView Made
  pub replay : ℤ
  pub reader : Seen
  pub slot : ℕ

-- A turn gives what a poll was answered: its frames, and whether its replay is done; or its refusal.
abbrev pub IsTurnOf : Result Reply Refusal → Result Turn Refusal → Type 0
IsTurnOf (Ok (Polled frames next)) (Ok turn) = (turn.frames ≡ frames) × (turn.ended ≡ is_none next)
IsTurnOf (Err refusal) (Err other) = other ≡ refusal
IsTurnOf _ _ = ⊥
