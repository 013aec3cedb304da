-- What a run handed out is durable in the log that it followed: docs/ARCHITECTURE.md, "The board".
use Rattle.std.specs.Prelude.{◌<ℤ◌, ℤ, All, IsTrue, List}
use Rattle.archive_model.specs.Keyed.{Each}
use Rattle.engine_core.specs.Consistent.{IsCrashConsistent}
use Rattle.engine_core.specs.Engine.{Content, EngineState, archive_of}
use Rattle.position_board.specs.Positions.{Published, position_at}
use Rattle.archive_lock.specs.History.{Member}
use Rattle.recorder_seats.specs.declared.bounded.Turn.{Turn}
use Rattle.recorder_seats.specs.HandedOut.{IsDurableTo}

-- each frame that these turns gave begins before a position
abbrev pub HandedOutBefore : ℤ → List Turn → Type 0
HandedOutBefore position turns = All (λ (turn : Turn). Each (λ f. f.position <ℤ position) turn.frames) turns

-- Each frame that was handed out begins before the position that was seen last. It is durable in the log, if it is past the
-- slot's start, the log was crash-consistent when it came under its lock, and its disk obeys.
pub record IsDurablyFollowed (opening now : EngineState) (writer : Published) (seen : ℤ) (turns : List Turn) : Type 0 where
  pub below : HandedOutBefore seen turns
  pub members : List Member
  pub durable : (c : Content) → IsCrashConsistent opening.life opening.log (archive_of opening c) → IsTrue now.life.obeys → position_at 0 writer.positions <ℤ seen → IsDurableTo (archive_of opening c) members now seen
