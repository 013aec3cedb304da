-- What a receiver did: docs/ARCHITECTURE.md, "Agents".
use Rattle.std.specs.Prelude.{◌≡◌, ◌++◌, Bool, true, false, List, [], ◌∷◌, Option, Some, None, ⊤}
use Rattle.atomic_table.specs.Seated.{TableId}
use Rattle.frame_core.specs.declared.block.Block.{Block}
use Rattle.agents_core.specs.declared.item.Item.{Item}
use Rattle.agents_core.specs.declared.item.Item.TheVariants.{Block as Handed, End}
use Rattle.agents_core.specs.declared.receiver.Receiver.{Receiver}
use Rattle.agents_core.specs.Handoff.{PutterView}
use Rattle.agents_core.specs.Steps.{StepsThrough}

-- what a source answered, of which this is handed on
abbrev pub answer_of : Item → Option Block
answer_of (Handed block) = Some block
answer_of End = None

abbrev pub is_end_item : Item → Bool
is_end_item (Handed block) = false
is_end_item End = true

-- a source answered this, one answer after another
abbrev pub SourceGives : {S : Type 0} → (S → Option Block → S → Type 0) → S → List Item → S → Type 0
SourceGives {S} gives old items new = StepsThrough (λ (s : S) (item : Item) (t : S). gives s (answer_of item) t) old items new

-- nothing stands behind the end
abbrev pub EndsLast : List Item → Type 0
EndsLast [] = ⊤
EndsLast (Handed block ∷ items) = EndsLast items
EndsLast (End ∷ items) = items ≡ []

abbrev pub waiting_in : Option Item → List Item
waiting_in None = []
waiting_in (Some item) = item ∷ []

-- What a receiver did: what it put is what its source answered, in order and each once, but for a last answer, for which
-- there was no room until the receiver ended. It asked its source nothing behind the end.
pub record ReceiverRan {S : Type 0} (gives : S → Option Block → S → Type 0) (old : S) (put : List Item) (waiting : Option Item) (new : S) : Type 0 where
  pub answers : SourceGives gives old (put ++ waiting_in waiting) new
  pub last : EndsLast (put ++ waiting_in waiting)

-- the blocks among what was handed over, in order
abbrev pub blocks_in : List Item → List Block
blocks_in [] = []
blocks_in (Handed block ∷ items) = block ∷ blocks_in items
blocks_in (End ∷ items) = blocks_in items

-- a receiver has ended: what its end of the handoff has put, and whose end that is
pub record ReceiverEnded {S : Type 0} (gives : S → Option Block → S → Type 0) (old : Receiver S) (handoff : TableId) (new : Receiver S) (putter : PutterView Item) : Type 0 where
  pub waiting : Option Item
  pub ran : ReceiverRan gives old.source putter.put waiting new.source
  pub same : putter.handoff ≡ handoff
