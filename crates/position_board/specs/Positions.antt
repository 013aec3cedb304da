-- Published positions: docs/ARCHITECTURE.md, "The board". For each slot of a board the positions that its writer
-- raised, and for each reader the position that it saw last in each slot.
use Rattle.std.specs.Prelude.{ℕ, ◌+◌, ◌-◌, ◌<◌, ◌≤◌, ◌≤ℤ◌, ℤ, pos, List, [], ◌∷◌, ◌++◌, All, length, slice_index_or, slice_set, replicate}
use Rattle.atomic_table.specs.Seated.{TableId}
use Rattle.frame_core.specs.declared.refusal.Refusal.{Refusal}
use Rattle.frame_core.specs.declared.refusal.Refusal.TheVariants.{BadParameter, NoMemory}

-- a slot's writer: of which board, which of its slots, and the slot's positions: its start, and then those that the
-- writer raised
pub record Published : Type 0 where
  pub table : TableId
  pub slot : ℕ
  pub positions : List ℤ

-- a reader: of which board, and the position that it saw last in each slot, at first its start
pub record Seen : Type 0 where
  pub table : TableId
  pub seen : List ℤ

-- the position at an index of a list, or 0 where it has none there
abbrev pub position_at : ℕ → List ℤ → ℤ
position_at k positions = slice_index_or positions k (pos 0)

-- the position that a list of them ends with
abbrev pub last_position : List ℤ → ℤ
last_position positions = position_at (length positions - 1) positions

-- none is below one before it
abbrev pub NeverFall : List ℤ → Type 0
NeverFall positions = (i j : ℕ) → i ≤ j → j < length positions → position_at i positions ≤ℤ position_at j positions

-- the position that a reader saw last in a slot
abbrev pub seen_at : ℕ → Seen → ℤ
seen_at slot reader = position_at slot reader.seen

-- a writer once it has raised its slot to a position
abbrev pub with_position : ℤ → Published → Published
with_position position writer = record writer { positions = writer.positions ++ position ∷ [] }

-- a reader once it has seen a position in a slot
abbrev pub having_seen : ℕ → ℤ → Seen → Seen
having_seen slot position reader = record reader { seen = slice_set reader.seen slot position }

-- how many slots and readers a board may have, and where slots may start
pub record IsAccepted (starts : List ℤ) (readers : ℕ) : Type 0 where
  pub some_slot : 0 < length starts
  pub slots_fit : length starts ≤ 64
  pub readers_fit : readers ≤ 64
  pub none_below_0 : All (λ start. pos 0 ≤ℤ start) starts

-- why no board was made: it may not be so, or there was no memory for it
abbrev pub MayRefuse : List ℤ → ℕ → Refusal → Type 0
MayRefuse starts readers BadParameter = IsAccepted starts readers → ⊥
MayRefuse starts readers NoMemory = IsAccepted starts readers
MayRefuse starts readers _ = ⊥

-- the writers of the slots from one on, which have raised nothing
abbrev pub new_writers : TableId → ℕ → List ℤ → List Published
new_writers table slot [] = []
new_writers table slot (start ∷ starts) =
    record { table = table; slot = slot; positions = start ∷ [] } ∷ new_writers table (slot + 1) starts

-- so many readers, which have seen the starts
abbrev pub new_readers : TableId → ℕ → List ℤ → List Seen
new_readers table count starts = replicate count (record { table = table; seen = starts })
