-- How a script's lines are answered by whoever answers them: an archive, alone or shared. docs/CONTROL.md, "Scripts".
use Rattle.std.specs.Prelude.{◌≡◌, ◌&&◌, ℕ, ℤ, Bool, true, false, not, if◌then◌else◌, List, Option, Some, None, Result, Ok, Err, IfSome, MatchResult, bytes_eq, codes, ◌⊎◌}
use Rattle.std.specs.Io.KnownBytes.{Appends, Keeps}
use Rattle.frame_core.specs.declared.block.Block.{Block}
use Rattle.frame_core.specs.declared.geometry.Geometry.{Geometry}
use Rattle.frame_core.specs.declared.refusal.Refusal.{Refusal}
use Rattle.frame_core.specs.declared.refusal.Refusal.TheVariants.{BadLine, NoMemory}
use Rattle.archive_model.specs.declared.reply.Reply.{Reply}
use Rattle.archive_model.specs.declared.reply.Reply.TheVariants.{Bye}
use Rattle.merge_core.specs.Merge.{Merging}
use Rattle.control_core.specs.declared.event.Event.{Event}
use Rattle.control_core.specs.declared.event.Event.TheVariants as events
use Rattle.control_core.specs.Bytes.{IsReadBy}
use Rattle.control_lines.specs.declared.line.Line.{Line}
use Rattle.control_lines.specs.declared.line.Line.TheVariants as lines
use Rattle.control_lines.specs.Lines.{line_copies, line_of}
use Rattle.control_lines.specs.ReplyText.{reply_text}
use Rattle.control_lines.specs.RefusalText.{refusal_text}
use Rattle.tool_core.specs.declared.fault.EarlyEnd.{EarlyEnd}
use Rattle.tool_core.specs.declared.fault.EarlyEnd.TheVariants as ends
use Rattle.tool_core.specs.declared.state.ScriptState.{ScriptState}
use Rattle.tool_core.specs.InputLines.{lines_of}
use Rattle.tool_core.specs.Merging.{Ends, MergeEnds}
use Rattle.tool_core.specs.Transcript.{AnswersAll, AnswersSome, WritesText}

-- ---- who answers

-- What an answerer promises: the terms by which the bytes that a session writes are read, and what a call, opening anew
-- and writing the history anew may end with.
pub record Ways (A : Type 0) : Type 1 where
  pub terms : ℤ → A → Result Geometry Refusal → A → Type 0
  pub call : Event → A → Ends A
  pub reopen : A → Ends A
  pub compact : A → Ends A

-- what an answerer promises that is seen so
abbrev pub ways_seen : {A B : Type 0} → (A → B) → Ways B → Ways A
ways_seen view ways = record {
  terms = λ session old terms new. ways.terms session (view old) terms (view new);
  call = λ event old outcome new. ways.call event (view old) outcome (view new);
  reopen = λ old outcome new. ways.reopen (view old) outcome (view new);
  compact = λ old outcome new. ways.compact (view old) outcome (view new);
}

-- How checkpoints come to an answerer: whether the line `checkpoint` asks for one, and what may be done before each line is
-- answered.
pub record Checkpointing (A : Type 0) : Type 1 where
  pub offers : A → Bool
  pub before : A → A → Type 0

-- the line is none, and nothing is done
abbrev pub no_checkpoints : {A : Type 0} → Checkpointing A
no_checkpoints = record { offers = λ a. false; before = λ old new. new ≡ old }

-- of what is seen so
abbrev pub checkpointing_seen : {A B : Type 0} → (A → B) → Checkpointing B → Checkpointing A
checkpointing_seen view c = record { offers = λ a. c.offers (view a); before = λ old new. c.before (view old) (view new) }

-- the bytes of a block are read by these terms, which may want memory; without terms they are not read
abbrev pub BlockIsRead : Result Geometry Refusal → List ℕ → Result Block Refusal → Type 0
BlockIsRead (Err refusal) bytes read = read ≡ Err refusal
BlockIsRead (Ok g) bytes (Err NoMemory) = Unit {0}
BlockIsRead (Ok g) bytes read = IsReadBy (Ok g) bytes read

-- ---- lines

-- the line asks for a checkpoint
abbrev pub is_checkpoint : Line → Bool
is_checkpoint (lines.Event events.Checkpoint) = true
is_checkpoint line = false

-- a line that asks for a checkpoint is none where none is offered
abbrev pub offered : Bool → Result Line Refusal → Result Line Refusal
offered offers (Ok line) = if is_checkpoint line && not offers then Err BadLine else Ok line
offered offers (Err refusal) = Err refusal

-- what a line asks for, where checkpoints are offered or not; one that is too long is none
abbrev pub asked : Bool → Option (List ℕ) → Result Line Refusal
asked offers None = Err BadLine
asked offers (Some bytes) = offered offers (line_of bytes)

-- reading it takes memory; one that is too long is not read
abbrev pub asked_copies : Option (List ℕ) → Bool
asked_copies None = false
asked_copies (Some bytes) = line_copies bytes

-- the line behind which no further line is read
abbrev pub quits : Option (List ℕ) → Bool
quits None = false
quits (Some bytes) = bytes_eq bytes (codes "quit")

-- what is written of an answer
abbrev pub outcome_text : Result Reply Refusal → List ℕ
outcome_text (Ok reply) = reply_text reply
outcome_text (Err refusal) = refusal_text refusal

-- why a line was not answered: no input is read; where no memory was found, nothing was written; and nothing is said
-- of a writer that failed
abbrev pub FailsToAnswer : EarlyEnd → Option (List ℕ) → Option (List ℕ) → Type 0
FailsToAnswer ends.Read contents written = ⊥
FailsToAnswer ends.Memory contents written = Keeps contents written
FailsToAnswer ends.Write contents written = Unit {0}

-- an answerer, and no merge yet
abbrev pub begun_with : {A : Type 0} → A → ScriptState A
begun_with first = record { archive = first; merge = None }

-- what may be done before a line; the merge stays
abbrev pub Prepares : {A : Type 0} → Checkpointing A → ScriptState A → ScriptState A → Type 0
Prepares checkpoints old new = checkpoints.before old.archive new.archive × (new.merge ≡ old.merge)

module _ {A : Type 0} (ways : Ways A) where
  -- what was read as a block is written
  abbrev pub WritesRead : ℤ → Result Block Refusal → A → Ends A
  WritesRead session (Ok block) old = ways.call (events.Write session block) old
  WritesRead session (Err refusal) old = λ outcome new. (outcome ≡ Err refusal) × (new ≡ old)

  -- a block's bytes are read by the session's terms, and then it is written
  abbrev pub WritesBytes : ℤ → List ℕ → A → Ends A
  WritesBytes session bytes old outcome new =
      (terms : Result Geometry Refusal) × (read : Result Block Refusal) × (mid : A)
      × ways.terms session old terms mid × BlockIsRead terms bytes read × WritesRead session read mid outcome new

  -- what was written is settled; a refusal is the answer
  abbrev pub ThenSettles : ℤ → Result Reply Refusal → A → Ends A
  ThenSettles session (Ok reply) mid = ways.call (events.Settle session) mid
  ThenSettles session (Err refusal) mid = λ outcome new. (outcome ≡ Err refusal) × (new ≡ mid)

  -- A block is written and then settled: two calls at most. Where settling is refused it stays written.
  abbrev pub Records : ℤ → List ℕ → A → Ends A
  Records session bytes old outcome new =
      (first : Result Reply Refusal) × (mid : A) × WritesBytes session bytes old first mid × ThenSettles session first mid outcome new

  -- the line is the answerer's, and the merge stays
  abbrev pub OfArchive : ScriptState A → (A → Ends A) → Ends (ScriptState A)
  OfArchive s Made outcome new = Made s.archive outcome new.archive × (new.merge ≡ s.merge)

  -- the line is the merge's, and the answerer stays
  abbrev pub OfMerge : ScriptState A → (Option Merging → Ends (Option Merging)) → Ends (ScriptState A)
  OfMerge s Made outcome new = Made s.merge outcome new.merge × (new.archive ≡ s.archive)

  -- an answer, and nothing has changed
  abbrev pub Stays : ScriptState A → Result Reply Refusal → Ends (ScriptState A)
  Stays s answer outcome new = (outcome ≡ answer) × (new ≡ s)

  -- what a line is answered
  abbrev pub LineIs : ScriptState A → Line → Ends (ScriptState A)
  LineIs s (lines.Event event) = OfArchive s (ways.call event)
  LineIs s (lines.Write session bytes) = OfArchive s (WritesBytes session bytes)
  LineIs s (lines.Block session bytes) = OfArchive s (Records session bytes)
  LineIs s (lines.Follow fields) = Stays s (Err BadLine)
  LineIs s lines.Reopen = OfArchive s ways.reopen
  LineIs s lines.Compact = OfArchive s ways.compact
  LineIs s (lines.Merge line) = OfMerge s (λ merge. MergeEnds merge line)
  LineIs s lines.Quit = Stays s (Ok Bye)

  -- a line that was read, or bytes that are none
  abbrev pub ReadLineIs : ScriptState A → Result Line Refusal → Ends (ScriptState A)
  ReadLineIs s (Ok line) = LineIs s line
  ReadLineIs s (Err refusal) = Stays s (Err refusal)

  -- a line's answer; or, where its reading takes memory, want of memory before anything has changed
  abbrev pub IsAnswer : Bool → ScriptState A → Result Line Refusal → Ends (ScriptState A)
  IsAnswer takes s line outcome new = ReadLineIs s line outcome new ⊎ ((takes ≡ true) × (outcome ≡ Err NoMemory) × (new ≡ s))

  module _ (checkpoints : Checkpointing A) where
    -- once a line is prepared, the text may be the answer to it, and new the state after it
    abbrev pub RepliesOf : ScriptState A → Option (List ℕ) → List ℕ → ScriptState A → Type 0
    RepliesOf old line text new =
        (outcome : Result Reply Refusal) × IsAnswer (asked_copies line) old (asked (checkpoints.offers old.archive) line) outcome new × (text ≡ outcome_text outcome)

    -- from the old state the text may be the answer to the line, and new the state after it
    abbrev pub Replies : ScriptState A → Option (List ℕ) → List ℕ → ScriptState A → Type 0
    Replies old line text new = (mid : ScriptState A) × Prepares checkpoints old mid × RepliesOf mid line text new

    -- from the first answerer and merge on the text answers all lines up to the one that quits, and that leaves the last ones
    abbrev pub AnswersLines : ScriptState A → ScriptState A → List (List ℕ) → List ℕ → Type 0
    AnswersLines first last = AnswersAll first (λ s. s ≡ last) quits Replies

    -- The text answers the first of these lines. That leaves the last answerer and merge, or the next line does, of whose answer
    -- nothing was written.
    abbrev pub AnswersFirstLines : ScriptState A → ScriptState A → List (List ℕ) → List ℕ → Type 0
    AnswersFirstLines first last = AnswersSome first (λ s. s ≡ last) quits Replies

    -- a line is answered, and what is written of the answer
    pub record RepliesTo (contents written line : Option (List ℕ)) (old new : ScriptState A) (result : Result (Unit {0}) EarlyEnd) : Type 0 where
      pub reply : List ℕ
      pub answers : Replies old line reply new
      pub told : MatchResult result (λ done. Appends contents written reply) (λ end. FailsToAnswer end contents written)

-- ---- early ends

-- What was written before an early end answers the first lines so; of a writer that failed it is not known how much of that
-- was written.
abbrev pub EndsEarly : EarlyEnd → (List (List ℕ) → List ℕ → Type 0) → Option (List ℕ) → Option (List ℕ) → Option (List ℕ) → Type 0
EndsEarly ends.Write AnswersFirst input contents written = IfSome input (λ bytes. (text : List ℕ) × AnswersFirst (lines_of bytes) text)
EndsEarly ends.Read AnswersFirst input contents written = WritesText input contents written AnswersFirst
EndsEarly ends.Memory AnswersFirst input contents written = WritesText input contents written AnswersFirst

-- A script ends by its first fault; one that was read to its end, and whose output could not be handed on, by Write.
abbrev pub ended_by : Result (Unit {0}) EarlyEnd → Bool → Result (Unit {0}) EarlyEnd
ended_by (Err end) is_flushed = Err end
ended_by (Ok done) true = Ok done
ended_by (Ok done) false = Err ends.Write
