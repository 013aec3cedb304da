-- Where the frames of a recording lie: docs/STORAGE.md, "Segments"; Aeron Archive documentation, "Recordings".
use Rattle.std.specs.Prelude.{◌≡◌, ◌≤◌, ◌≤ℤ◌, ◌*◌, ◌^◌, ◌-◌, true, ℕ, ℤ, pos, unsigned_abs}
use Rattle.disk_core.specs.declared.file_id.FileId.{FileId}
use Rattle.disk_core.specs.declared.file_id.FileId.TheVariants.{Segment}
use Rattle.frame_core.specs.declared.geometry.Geometry.{Geometry}
use Rattle.frame_core.specs.declared.block.Block.{Block}
use Rattle.frame_core.specs.declared.block.Publication.{Publication}
use Rattle.frame_core.specs.Block.{IsBlock}
use Rattle.frame_core.specs.Limits.{is_term_length, is_mtu}
use Rattle.frame_core.specs.Segment.{segment_base}
use Rattle.segment_store.specs.declared.layout.Layout.{Layout}

-- A layout in the limits of docs/CONTROL.md. It may begin behind the last term: then it has no frame.
pub record IsLayout (l : Layout) : Type 0 where
  pub term : is_term_length l.term_length ≡ true
  pub segment : is_term_length l.segment_length ≡ true
  pub no_less : l.term_length ≤ℤ l.segment_length
  pub start : ℕ
  pub start_is : l.start_position ≡ pos (32 * start)
  pub in_terms : 32 * start ≤ 2 ^ 31 * unsigned_abs l.term_length

-- a position in the stream that is not before the recording's start
abbrev pub IsFromStart : Layout → ℤ → Type 0
IsFromStart l position = l.start_position ≤ℤ position

-- the geometry of a publication whose recording has this layout
pub record IsGeometryOf (l : Layout) (g : Geometry) : Type 0 where
  pub term : g.term_length ≡ l.term_length
  pub mtu : is_mtu g.mtu ≡ true

-- a block in terms of that length, of whatever publication, initial term and MTU
pub record IsBlockIn (l : Layout) (block : Block) : Type 0 where
  pub geometry : Geometry
  pub publication : Publication
  pub term : geometry.term_length ≡ l.term_length
  pub is_block : IsBlock geometry publication block

-- where the segment of a position begins
unfoldable pub base_of : Layout → ℕ → ℕ
base_of l position = segment_base (unsigned_abs l.start_position) (unsigned_abs l.term_length) (unsigned_abs l.segment_length) position

-- the file of the segment of a position
abbrev pub file_of : Layout → ℕ → FileId
file_of l position = Segment l.recording (pos (base_of l position))

-- where the position lies in that file
abbrev pub offset_of : Layout → ℕ → ℕ
offset_of l position = position - base_of l position
