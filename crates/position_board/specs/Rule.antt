-- The rule of a board: what holds of its words and of what each of its seats knows, between any two steps.
use Rattle.std.specs.Prelude.{◌≡◌, ℕ, ◌+◌, ◌^◌, ◌<◌, ◌≤◌, ◌≤ℤ◌, ℤ, pos, List, [], ◌∷◌, ◌++◌, length, slice_index, slice_set, Contains, Option, Some, None, IfSome, option_map, unwrap_or}
use mathlib.Core.Option.{some}
use lib.ListN.{get_elem?}
use Rattle.atomic_table.specs.Seated.{TableId}
use Rattle.atomic_table.specs.Table.{Me}
use Rattle.position_board.specs.declared.rule.Maker.{Maker}
use Rattle.position_board.specs.declared.rule.Raiser.{Raiser}
use Rattle.position_board.specs.declared.rule.View.{View}
use Rattle.position_board.specs.Positions.{position_at, last_position, NeverFall}

-- the seat that makes the others
abbrev pub making : ℕ → List ℤ → View
making next starts = record { maker = Some (record { next = next; starts = starts }); raiser = None; reader = None }

-- a writer's seat
abbrev pub writing : ℕ → List ℤ → View
writing slot positions = record { maker = None; raiser = Some (record { slot = slot; positions = positions }); reader = None }

-- a reader's seat
abbrev pub reading : List ℤ → View
reading seen = record { maker = None; raiser = None; reader = Some seen }

abbrev pub no_part : View
no_part = record { maker = None; raiser = None; reader = None }

-- a seat with the reader's part of another
abbrev pub with_reader : View → View → View
with_reader v other = record v { reader = other.reader }

abbrev pub without_reader : View → View
without_reader v = record v { reader = None }

abbrev pub reader_part : View → View
reader_part v = record no_part { reader = v.reader }

-- the maker once it has made the next writer
abbrev pub writer_made : View → View
writer_made v = record v { maker = option_map (λ (m : Maker). record { next = m.next + 1; starts = m.starts }) v.maker }

abbrev pub writer_of : Option Maker → View
writer_of None = no_part
writer_of (Some m) = writing m.next (position_at m.next m.starts ∷ [])

-- the next writer: of the slot whose turn it is, with its start
abbrev pub next_writer : View → View
next_writer v = writer_of v.maker

abbrev pub reader_of : Option Maker → View
reader_of None = no_part
reader_of (Some m) = reading m.starts

-- a new reader, which has seen the starts
abbrev pub new_reader : View → View
new_reader v = reader_of v.maker

-- a writer with one more position
abbrev pub raised_to : ℤ → View → View
raised_to x v = record v { raiser = option_map (λ (r : Raiser). record { slot = r.slot; positions = r.positions ++ x ∷ [] }) v.raiser }

-- a reader that has seen this position in a slot
abbrev pub seen_in : ℕ → ℤ → View → View
seen_in slot x v = record v { reader = option_map (λ (seen : List ℤ). slice_set seen slot x) v.reader }

-- what a load tells a reader
pub record Looked (slot word : ℕ) (v w : View) : Type 0 where
  pub view : w ≡ seen_in slot (pos word) v
  pub rises : IfSome v.reader (λ seen. position_at slot seen ≤ℤ pos word)
  pub small : word < 2 ^ 63

-- what a load tells a seat that has the slot's writer and a reader
pub record Met (slot word : ℕ) (v w : View) : Type 0 where
  pub view : w ≡ seen_in slot (pos word) v
  pub was : IfSome v.reader (λ seen. IfSome v.raiser (λ r. Contains r.positions (position_at slot seen)))
  pub last : IfSome v.raiser (λ r. pos word ≡ last_position r.positions)
  pub small : word < 2 ^ 63

-- the writers from the next one on are still this seat's, and have their starts alone
pub record MakesFrom (seat : ℕ → ℕ) (slots : ℕ) (lists : ℕ → List ℤ) (by : ℕ) (m : Maker) : Type 0 where
  pub wide : length m.starts ≡ slots
  pub own : (k : ℕ) → m.next ≤ k → k < slots → seat k ≡ by
  pub start : (k : ℕ) → m.next ≤ k → k < slots → lists k ≡ position_at k m.starts ∷ []
  pub among : (k : ℕ) → k < slots → Contains (lists k) (position_at k m.starts)

-- the slot is this seat's, and its positions are all that it has
pub record RaisesIn (seat : ℕ → ℕ) (slots : ℕ) (lists : ℕ → List ℤ) (by : ℕ) (r : Raiser) : Type 0 where
  pub own : seat r.slot ≡ by
  pub inside : r.slot < slots
  pub all : r.positions ≡ lists r.slot

-- in each slot one of its positions was seen last
pub record HasSeen (slots : ℕ) (lists : ℕ → List ℤ) (seen : List ℤ) : Type 0 where
  pub wide : length seen ≡ slots
  pub among : (k : ℕ) → k < slots → Contains (lists k) (position_at k seen)

-- what a seat knows is so
pub record KnowsRightly (seat : ℕ → ℕ) (slots : ℕ) (lists : ℕ → List ℤ) (by : ℕ) (v : View) : Type 0 where
  pub maker : IfSome v.maker (MakesFrom seat slots lists by)
  pub raiser : IfSome v.raiser (RaisesIn seat slots lists by)
  pub reader : IfSome v.reader (HasSeen slots lists)

-- Each slot has one seat that raises it, and a list that never falls: its start, and the positions that were raised.
-- The slot's word is the last of them.
pub record IsBoard (words : List ℕ) (views : List View) : Type 0 where
  pub seat : ℕ → ℕ
  pub lists : ℕ → List ℤ
  pub last : (k : ℕ) → k < length words → pos (slice_index words k) ≡ last_position (lists k)
  pub rising : (k : ℕ) → k < length words → NeverFall (lists k)
  pub small : (k : ℕ) → k < length words → slice_index words k < 2 ^ 63
  pub each : (by : ℕ) (v : View) → get_elem? views by ≡ some v → KnowsRightly seat (length words) lists by v

abbrev pub raiser_positions : Option Raiser → List ℤ
raiser_positions None = []
raiser_positions (Some r) = r.positions

-- the positions of a writer's seat
abbrev pub positions_of : View → List ℤ
positions_of v = raiser_positions v.raiser

-- what a reader's seat saw last
abbrev pub seen_of : View → List ℤ
seen_of v = unwrap_or v.reader []

abbrev pub maker_starts : Option Maker → List ℤ
maker_starts None = []
maker_starts (Some m) = m.starts

abbrev pub starts_of : View → List ℤ
starts_of v = maker_starts v.maker

abbrev pub maker_next : Option Maker → ℕ
maker_next None = 0
maker_next (Some m) = m.next

-- what a seat knows, and that it holds no slot of the table's memory
abbrev pub Known : Type 0
Known = Me (Unit {0}) View

-- the maker's seat of a board
pub record IsMakerSeat (table : TableId) (me : Known) : Type 0 where
  pub known : me ≡ (making (maker_next me.0.maker) (starts_of me.0), [])
  pub wide : length (starts_of me.0) ≡ table.words

-- the seat of a slot's writer, and the word of the last of its positions
pub record IsWriterSeat (table : TableId) (slot word : ℕ) (me : Known) : Type 0 where
  pub known : me ≡ (writing slot (positions_of me.0), [])
  pub inside : slot < table.words
  pub last : pos word ≡ last_position (positions_of me.0)
  pub small : word < 2 ^ 63
  pub rising : NeverFall (positions_of me.0)

-- a reader's seat
pub record IsReaderSeat (table : TableId) (me : Known) : Type 0 where
  pub known : me ≡ (reading (seen_of me.0), [])
  pub wide : length (seen_of me.0) ≡ table.words
