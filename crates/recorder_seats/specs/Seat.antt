-- A recorder's seat: docs/ARCHITECTURE.md, "The board". What its writer raised was settled by calls of its pass.
use Rattle.std.specs.Prelude.{◌≡◌, ℤ, if◌then◌else◌, int_le, List, drop, Contains, Result, Ok, Err}
use Rattle.frame_core.specs.declared.refusal.Refusal.{Refusal}
use Rattle.archive_model.specs.declared.reply.Reply.{Reply}
use Rattle.archive_model.specs.declared.reply.Reply.TheVariants.{Settled}
use Rattle.archive_model.specs.Keyed.{Each}
use Rattle.control_core.specs.declared.event.Event.TheVariants.{Settle}
use Rattle.call_history.specs.Values.{PassView}
use Rattle.position_board.specs.Positions.{Published, last_position, with_position}
use Rattle.archive_lock.specs.declared.history.Made.{Made}

-- the positions that a writer raised its slot to
abbrev pub raised_positions : Published → List ℤ
raised_positions writer = drop 1 writer.positions

-- one of these calls is a settling that was answered Ok, by this position
pub record IsSettledIn (calls : List Made) (position : ℤ) : Type 0 where
  pub call : Made
  pub among : Contains calls call
  pub session : ℤ
  pub asked : call.asked ≡ Settle session
  pub answered : call.outcome ≡ Ok (Settled position)

-- each position that the writer raised was answered to a settling among the pass's own calls
abbrev pub RaisedAreSettled : PassView Made → Published → Type 0
RaisedAreSettled pass writer = Each (IsSettledIn pass.own) (raised_positions writer)

-- a seat: the number of its recorder session, its pass and its writer
pub record SeatView : Type 0 where
  pub session : ℤ
  pub pass : PassView Made
  pub writer : Published

-- the archive's answer to a settling, of which the caller is handed the position
abbrev pub settling_outcome : Result ℤ Refusal → Result Reply Refusal
settling_outcome (Ok position) = Ok (Settled position)
settling_outcome (Err refusal) = Err refusal

-- a writer once it has raised its slot to a position, which it does not below its last
abbrev pub raised_unless_below : ℤ → Published → Published
raised_unless_below position writer = if int_le (last_position writer.positions) position then with_position position writer else writer
