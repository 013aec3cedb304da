-- How the bytes of a frame are gathered from pages.
use Rattle.std.specs.Prelude.{◌≡◌, ◌⊎◌, ◌<◌, ◌≤◌, ◌≤ℤ◌, ◌+◌, ◌-◌, ◌*◌, ◌/◌, ◌%◌, ◌^◌, ℕ, pos, List, ◌++◌, Vec, length, take, drop, get_or, Contains, unsigned_abs}
use Rattle.std.specs.declared.alloc.Global.{Global}
use Rattle.disk_core.specs.DiskImage.{DiskImage, Files, reads}
use Rattle.replay_core.specs.declared.cache.PageKey.{PageKey}
use Rattle.replay_core.specs.declared.gathering.Source.{Source}
use Rattle.replay_core.specs.Pages.{Pages, AgreeAt, HasByte, KeepsRead}

-- ---- the cache

-- each page that is kept now was kept before
abbrev pub StaysKept : Pages → Pages → Type 0
StaysKept old new = (key : PageKey) (page : Vec ℕ Global) → Contains new (key, page) → Contains old (key, page)

-- or is this one
abbrev pub KeepsOne : Pages → Pages → PageKey → List ℕ → Type 0
KeepsOne old new this bytes =
    (key : PageKey) (page : Vec ℕ Global) → Contains new (key, page) → Contains old (key, page) ⊎ ((key ≡ this) × (page.items ≡ bytes))

-- bytes were added to others: those of a part from an offset on, of its first 4,096
pub record AddsPart (part : List ℕ) (offset : ℕ) (before after : List ℕ) : Type 0 where
  pub added : List ℕ
  pub is : after ≡ before ++ added
  pub short : offset + length added ≤ 4096 ⊎ (length added ≡ 0)
  pub each : (k : ℕ) → k < length added → (offset + k < length part) × (get_or added k 0 ≡ get_or part (offset + k) 0)

-- those of a page that is kept under a key, if any
abbrev pub AddsKept : Pages → PageKey → ℕ → List ℕ → List ℕ → Type 0
AddsKept pages key offset before after =
    (after ≡ before) ⊎ ((page : Vec ℕ Global) × Contains pages (key, page) × AddsPart page.items offset before after)

-- ---- what is read of the disk

-- so many pages from a position's on may be kept: they lie whole below the limit, and in the position's term as far as they
-- are behind the position
pub record MayKeep (s : Source) (position count : ℕ) : Type 0 where
  pub keeps : s.generation < 2 ^ 64 - 1
  pub below : pos (4096 * (position / 4096 + count)) ≤ℤ s.limit
  pub in_term : position % unsigned_abs s.layout.term_length + 4096 * count ≤ unsigned_abs s.layout.term_length + position % 4096

-- a page is a part of what was read from the beginning of a position's page on
pub record IsPartOf (s : Source) (position : ℕ) (window : List ℕ) (key : PageKey) (page : List ℕ) : Type 0 where
  pub index : ℕ
  pub key_is : key ≡ record { recording = s.layout.recording; generation = s.generation; number = position / 4096 + index }
  pub begins : 4096 * index < length window
  pub are : page ≡ take 4096 (drop (4096 * index) window)

-- each page that is kept now was kept before, or is such a part
abbrev pub KeepsParts : Source → ℕ → List ℕ → Pages → Pages → Type 0
KeepsParts s position window old new =
    (key : PageKey) (page : Vec ℕ Global) → Contains new (key, page) → Contains old (key, page) ⊎ IsPartOf s position window key page.items

-- ---- gathered bytes

-- where the pages agree with the disk on the position of a byte that was gathered, the disk has it there
abbrev pub AreGathered : DiskImage → Source → Pages → ℕ → List ℕ → Type 0
AreGathered image s pages from bytes =
    (k : ℕ) → k < length bytes → AgreeAt image s.layout s.generation pages (from + k) → HasByte image s.layout (from + k) (get_or bytes k 0)

-- A step of the gathering from a position on: pages that are kept now were kept before or were read, and what is gathered is
-- the disk's, as far as it was before, over whatever pages were kept to begin with.
pub record Gathers (obeys : Type 0) (files : Files) (s : Source) (from : ℕ) (old new : Pages) (before after : List ℕ) : Type 0 where
  pub pages : KeepsRead obeys (reads files) s.layout s.generation s.limit old new
  pub bytes : (base : Pages) → obeys → KeepsRead obeys (reads files) s.layout s.generation s.limit base old
      → AreGathered (reads files) s base from before → AreGathered (reads files) s base from after
