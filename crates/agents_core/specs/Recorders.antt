-- What a recorder did: docs/ARCHITECTURE.md, "Agents".
use Rattle.std.specs.Prelude.{◌≡◌, ◌++◌, ℤ, List, [], ◌∷◌, Option, Some, None, Result, Ok, IsOk, MatchResult}
use Rattle.std.specs.Option.{option_or}
use Rattle.atomic_table.specs.Seated.{TableId}
use Rattle.frame_core.specs.declared.block.Block.{Block}
use Rattle.frame_core.specs.declared.refusal.Refusal.{Refusal}
use Rattle.frame_core.specs.declared.refusal.Refusal.TheVariants.{NoMemory}
use Rattle.archive_model.specs.declared.reply.Reply.{Reply}
use Rattle.archive_model.specs.declared.reply.Reply.TheVariants.{Settled}
use Rattle.control_core.specs.declared.event.Event.{Event}
use Rattle.control_core.specs.declared.event.Event.TheVariants.{Settle, Write}
use Rattle.position_board.specs.Positions.{Published}
use Rattle.archive_lock.specs.declared.history.Made.{Made}
use Rattle.agents_core.specs.declared.item.Item.{Item}
use Rattle.agents_core.specs.declared.recorder.Recorder.{Recorder}
use Rattle.agents_core.specs.Handoff.{TakerView}
use Rattle.agents_core.specs.Receivers.{blocks_in}
use Rattle.recorder_seats.specs.Seat.{raised_unless_below}

-- The calls of one turn with a block, and what refused it, if something did: the block is written, and settled next. A call
-- for which there was no memory is none of a history.
abbrev pub IsTurn : ℤ → Block → List Made → Option Refusal → Type 0
IsTurn session block [] stop = stop ≡ Some NoMemory
IsTurn session block (write ∷ []) stop = (write.asked ≡ Write session block) × MatchResult write.outcome (λ _. stop ≡ Some NoMemory) (λ refusal. stop ≡ Some refusal)
IsTurn session block (write ∷ settle ∷ []) stop =
    (write.asked ≡ Write session block) × IsOk write.outcome
    × (settle.asked ≡ Settle session) × MatchResult settle.outcome (λ _. stop ≡ None) (λ refusal. stop ≡ Some refusal)
IsTurn session block calls stop = ⊥

-- the calls of a turn with each of these blocks, one turn after another; what refused the last one, if something did
abbrev pub AreTurns : ℤ → List Block → List Made → Option Refusal → Type 0
AreTurns session [] calls stop = (calls ≡ []) × (stop ≡ None)
AreTurns session (block ∷ []) calls stop = IsTurn session block calls stop
AreTurns session (block ∷ next ∷ blocks) calls stop =
    (turn : List Made) × (rest : List Made) × (calls ≡ turn ++ rest) × IsTurn session block turn None × AreTurns session (next ∷ blocks) rest stop

-- a writer once it has raised its slot to what a call settled
abbrev pub raised_after : Event → Result Reply Refusal → Published → Published
raised_after (Settle session) (Ok (Settled position)) writer = raised_unless_below position writer
raised_after event outcome writer = writer

-- and to what each of these calls settled
abbrev pub raised_by : List Made → Published → Published
raised_by [] writer = writer
raised_by (call ∷ calls) writer = raised_by calls (raised_after call.asked call.outcome writer)

-- What a recorder did with the blocks that it took, and what refused it, if something did: its pass gained the calls of a
-- turn with each of them, and its writer raised what these settled. Its pass keeps its number.
pub record RecorderRan (taken : List Block) (old new : Recorder) (stop : Option Refusal) : Type 0 where
  pub calls : List Made
  pub own : new.seat.pass.own ≡ old.seat.pass.own ++ calls
  pub turns : AreTurns old.seat.session taken calls stop
  pub writer : new.seat.writer ≡ raised_by calls old.seat.writer
  pub refused : new.refused ≡ option_or stop old.refused
  pub session : new.seat.session ≡ old.seat.session
  pub pass : new.seat.pass.table ≡ old.seat.pass.table
  pub number : new.seat.pass.number ≡ old.seat.pass.number
  pub board : new.seat.writer.table ≡ old.seat.writer.table

-- a recorder has ended: what its end of the handoff has taken, and whose end that is
pub record RecorderEnded (old : Recorder) (handoff : TableId) (new : Recorder) (taker : TakerView Item) : Type 0 where
  pub stop : Option Refusal
  pub ran : RecorderRan (blocks_in taker.taken) old new stop
  pub same : taker.handoff ≡ handoff
