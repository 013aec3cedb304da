-- Pages of segment files that are kept in memory, and where they agree with the disk: docs/STORAGE.md, "Pages".
use Rattle.std.specs.Prelude.{◌≡◌, ◌⊎◌, ◌<◌, ◌≤◌, ◌≤ℤ◌, ◌+◌, ◌-◌, ◌*◌, ◌/◌, ◌%◌, ◌^◌, ℕ, ℤ, pos, List, Vec, length, get_or, Contains, unsigned_abs}
use Rattle.std.specs.declared.alloc.Global.{Global}
use Rattle.disk_core.specs.DiskImage.{DiskImage, bytes_of}
use Rattle.segment_store.specs.declared.layout.Layout.{Layout}
use Rattle.segment_store.specs.Layout.{file_of, offset_of}
use Rattle.replay_core.specs.declared.cache.PageCache.{PageCache}
use Rattle.replay_core.specs.declared.cache.PageKey.{PageKey}

-- pages under their keys, the most recently used first
abbrev pub Pages : Type 0
Pages = List (PageKey × Vec ℕ Global)

-- those that are kept
abbrev pub kept : PageCache → Pages
kept cache = cache.pages.entries

-- the key of the page of a position
abbrev pub key_at : Layout → ℕ → ℕ → PageKey
key_at l generation position = record { recording = l.recording; generation = generation; number = position / 4096 }

-- the disk has this byte at a position of the stream
pub record HasByte (image : DiskImage) (l : Layout) (position byte : ℕ) : Type 0 where
  pub inside : offset_of l position < length (bytes_of (image (file_of l position)))
  pub is : get_or (bytes_of (image (file_of l position))) (offset_of l position) 0 ≡ byte

-- where a page has a byte of a position, the disk has it there
abbrev pub Agrees : DiskImage → Layout → ℕ → List ℕ → Type 0
Agrees image l position page = position % 4096 < length page → HasByte image l position (get_or page (position % 4096) 0)

-- so have the kept pages of a recording's generation
abbrev pub AgreeAt : DiskImage → Layout → ℕ → Pages → ℕ → Type 0
AgreeAt image l generation pages position =
    (page : Vec ℕ Global) → Contains pages (key_at l generation position, page) → Agrees image l position page.items

-- at each of so many positions
abbrev pub AgreeOver : DiskImage → Layout → ℕ → Pages → ℕ → ℕ → Type 0
AgreeOver image l generation pages from size = (k : ℕ) → k < size → AgreeAt image l generation pages (from + k)

-- A page that was read: it lies whole below the limit, is of a generation that keeps pages, and has what the disk has from
-- the recording's start on.
pub record IsRead (obeys : Type 0) (image : DiskImage) (l : Layout) (generation : ℕ) (limit : ℤ) (key : PageKey) (page : List ℕ) : Type 0 where
  pub recording : key.recording ≡ l.recording
  pub generation_is : key.generation ≡ generation
  pub keeps : generation < 2 ^ 64 - 1
  pub below : pos (4096 * (key.number + 1)) ≤ℤ limit
  pub agrees : obeys → (position : ℕ) → unsigned_abs l.start_position ≤ position → position / 4096 ≡ key.number → Agrees image l position page

-- each page that is kept now was kept before, or was read
abbrev pub KeepsRead : Type 0 → DiskImage → Layout → ℕ → ℤ → Pages → Pages → Type 0
KeepsRead obeys image l generation limit old new =
    (key : PageKey) (page : Vec ℕ Global) → Contains new (key, page) → Contains old (key, page) ⊎ IsRead obeys image l generation limit key page.items
