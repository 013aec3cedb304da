-- What the agents of a run did: docs/ARCHITECTURE.md, "Agents".
use Rattle.std.specs.Prelude.{◌≡◌, ◌+◌, ◌++◌, ◌<◌, ℕ, Bool, List, [], ◌∷◌, length, map, Option, Result, IfErr, vec_capacity, vec_len}
use mathlib.Core.List.{IsPrefix}
use Rattle.atomic_table.specs.Seated.{TableId}
use Rattle.frame_core.specs.declared.block.Block.{Block}
use Rattle.frame_core.specs.declared.refusal.Refusal.{Refusal}
use Rattle.frame_core.specs.declared.refusal.Refusal.TheVariants.{NoMemory}
use Rattle.archive_model.specs.declared.reply.PolledFrame.{PolledFrame}
use Rattle.archive_model.specs.Keyed.{Each}
use Rattle.agents_core.specs.declared.agents.Agents.{Agents}
use Rattle.agents_core.specs.declared.item.Item.{Item}
use Rattle.agents_core.specs.declared.receiver.Receiver.{Receiver}
use Rattle.agents_core.specs.declared.recorder.Recorder.{Recorder}
use Rattle.agents_core.specs.declared.replayer.Replayer.{Replayer}
use Rattle.agents_core.specs.Receivers.{ReceiverRan, blocks_in}
use Rattle.agents_core.specs.Recorders.{RecorderRan}
use Rattle.agents_core.specs.Replayers.{ReplayerEnded}

-- each recorder's pass is of this history, and its writer of this board
abbrev pub AreSeated : TableId → TableId → List Recorder → Type 0
AreSeated table board recorders = Each (λ (r : Recorder). (r.seat.pass.table ≡ table) × (r.seat.writer.table ≡ board)) recorders

module _ {K : Type 0} where
  -- each replayer's pass is of this history, and its reader of this board
  abbrev pub AreReading : TableId → TableId → List (Replayer K) → Type 0
  AreReading table board replayers = Each (λ (r : Replayer K). (r.pass.table ≡ table) × (r.reader.table ≡ board)) replayers

  -- each replayer's slot is one of so many
  abbrev pub AreOnSlots : ℕ → List (Replayer K) → Type 0
  AreOnSlots slots replayers = Each (λ (r : Replayer K). r.slot < slots) replayers

-- there are as many receivers as recorders, and each replayer's slot is one of so many
abbrev pub IsRunnable : {S K : Type 0} → ℕ → Agents S K → Type 0
IsRunnable slots agents = (length agents.receivers.items ≡ length agents.recorders.items) × AreOnSlots slots agents.replayers.items

-- agents that may run on a board: their passes are of this history, their writers and readers of this board, and they fit it
pub record AreReady {S K : Type 0} (table board : TableId) (agents : Agents S K) : Type 0 where
  pub recorders : AreSeated table board agents.recorders.items
  pub replayers : AreReading table board agents.replayers.items
  pub fit : IsRunnable board.words agents

-- the numbers of the passes of recorders, and then those of replayers
abbrev pub pass_numbers : {S K : Type 0} → Agents S K → List ℕ
pass_numbers {S} {K} agents = map (λ (r : Recorder). r.seat.pass.number) agents.recorders.items ++ map (λ (r : Replayer K). r.pass.number) agents.replayers.items

-- What a receiver and its recorder did: the receiver handed over what its source answered, and the recorder took a beginning
-- of that, and wrote and settled the blocks that it took.
pub record PairRan {S : Type 0} (gives : S → Option Block → S → Type 0) (old : Receiver S) (was : Recorder) (new : Receiver S) (is : Recorder) : Type 0 where
  pub put : List Item
  pub waiting : Option Item
  pub handed : ReceiverRan gives old.source put waiting new.source
  pub taken : List Item
  pub begins : IsPrefix taken put
  pub stop : Option Refusal
  pub recorded : RecorderRan (blocks_in taken) was is stop

-- each receiver and the recorder of its index ran, and they are handed back in order
abbrev pub PairsRan : {S : Type 0} → (S → Option Block → S → Type 0) → List (Receiver S) → List Recorder → List (Receiver S) → List Recorder → Type 0
PairsRan gives [] [] [] [] = Unit {0}
PairsRan gives (old ∷ olds) (was ∷ weres) (new ∷ news) (is ∷ are) = PairRan gives old was new is × PairsRan gives olds weres news are
PairsRan gives _ _ _ _ = ⊥

-- each replayer ran, and they are handed back in order
abbrev pub ReplayersRan : {K : Type 0} → (K → List PolledFrame → Bool → K → Type 0) → List (Replayer K) → List (Replayer K) → Type 0
ReplayersRan takes [] [] = Unit {0}
ReplayersRan takes (old ∷ olds) (new ∷ news) = ReplayerEnded takes old new × ReplayersRan takes olds news
ReplayersRan takes _ _ = ⊥

-- agents ran, and this is the run's outcome
pub record AgentsRan {S K : Type 0} (gives : S → Option Block → S → Type 0) (takes : K → List PolledFrame → Bool → K → Type 0) (receivers : List (Receiver S)) (recorders : List Recorder) (replayers : List (Replayer K)) (new : Agents S K)
    (outcome : Result (Unit {0}) Refusal) : Type 0 where
  pub pairs_ran : PairsRan gives receivers recorders new.receivers.items new.recorders.items
  pub replayers_ran : ReplayersRan takes replayers new.replayers.items
  pub refused : IfErr outcome (λ refusal. refusal ≡ NoMemory)

-- the vectors of pairs have the room that they had, and so many pairs more
pub record KeepsRoom {S K : Type 0} (more : ℕ) (old new : Agents S K) : Type 0 where
  pub receivers_room : vec_capacity new.receivers ≡ vec_capacity old.receivers
  pub receivers_len : vec_len new.receivers ≡ vec_len old.receivers + more
  pub recorders_room : vec_capacity new.recorders ≡ vec_capacity old.recorders
  pub recorders_len : vec_len new.recorders ≡ vec_len old.recorders + more

-- agents ran, and are handed back in the vectors that they were in
pub record AgentsBack {S K : Type 0} (gives : S → Option Block → S → Type 0) (takes : K → List PolledFrame → Bool → K → Type 0) (old new : Agents S K) (outcome : Result (Unit {0}) Refusal) : Type 0 where
  pub ran : AgentsRan gives takes old.receivers.items old.recorders.items old.replayers.items new outcome
  pub room : KeepsRoom 0 old new
