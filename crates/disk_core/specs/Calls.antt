-- What each call does to a file, where it succeeds and where it fails.
use Rattle.std.specs.Prelude.{◌≡◌, ◌⊎◌, ℕ, ◌+◌, ◌-◌, ◌<◌, ◌≤◌, min, max, true, List, [], ◌∷◌, ◌++◌, length, take, drop, get_or, replicate, Some, None, option_map, IsTrue, IsSome}
use Rattle.disk_core.specs.DiskImage.{FileState, bytes_of, durable}

-- these bytes at this offset, behind zeros where the file was shorter; no bytes change nothing
abbrev pub overwritten : ℕ → List ℕ → List ℕ → List ℕ
overwritten at [] old = old
overwritten at (byte ∷ bytes) old =
    take at old ++ replicate (at - length old) 0 ++ (byte ∷ bytes)
    ++ drop (at + length (byte ∷ bytes)) old

-- the file after a write of bytes at an offset; no bytes change nothing
abbrev pub write_to : ℕ → List ℕ → FileState → FileState
write_to at [] file = file
write_to at (byte ∷ bytes) file = record file {
  reads = Some (overwritten at (byte ∷ bytes) (bytes_of file.reads));
  is_touched = true;
  written = (at, length (byte ∷ bytes)) ∷ file.written;
}

-- the file after a cut to a length
abbrev pub cut_to : ℕ → FileState → FileState
cut_to len file = record file {
  reads = option_map (take len) file.reads;
  is_touched = true;
  least = min file.least len;
}

-- the file after a remove
abbrev pub removed : FileState → FileState
removed file = record file { reads = None; is_touched = true; least = 0; was_absent = true }

-- the file after a sync
abbrev pub synced : FileState → FileState
synced file = durable file.reads

-- A write of count bytes happened, wholly or in part. What is read changes in its range alone, which is
-- unsynced from now on.
pub record IsTorn (at count : ℕ) (old new : FileState) : Type 0 where
  pub some : 0 < count
  pub touched : IsTrue new.is_touched
  pub written : new.written ≡ (at, count) ∷ old.written
  pub least : new.least ≡ old.least
  pub was_absent : new.was_absent ≡ old.was_absent
  pub last_synced : new.last_synced ≡ old.last_synced
  -- a file that was there stays there
  pub stays : IsSome old.reads → IsSome new.reads
  pub no_shorter : length (bytes_of old.reads) ≤ length (bytes_of new.reads)
  pub no_longer : length (bytes_of new.reads) ≤ max (length (bytes_of old.reads)) (at + count)
  pub below : (offset : ℕ) → offset < at →
      get_or (bytes_of new.reads) offset 0 ≡ get_or (bytes_of old.reads) offset 0
  pub above : (offset : ℕ) → at + count ≤ offset →
      get_or (bytes_of new.reads) offset 0 ≡ get_or (bytes_of old.reads) offset 0

-- a write happened, wholly or in part, or was not begun
abbrev pub IsWritten : ℕ → ℕ → FileState → FileState → Type 0
IsWritten at count old new = (new ≡ old) ⊎ IsTorn at count old new

-- A cut happened, wholly or in part: the file reads as before up to a length that is no less.
pub record IsShorter (len : ℕ) (old new : FileState) : Type 0 where
  pub touched : IsTrue new.is_touched
  pub written : new.written ≡ old.written
  pub least : new.least ≡ min old.least len
  pub was_absent : new.was_absent ≡ old.was_absent
  pub last_synced : new.last_synced ≡ old.last_synced
  pub length_left : ℕ
  pub no_less : len ≤ length_left
  pub reads : new.reads ≡ option_map (take length_left) old.reads

-- a cut happened, wholly or in part, or was not begun
abbrev pub IsCut : ℕ → FileState → FileState → Type 0
IsCut len old new = (new ≡ old) ⊎ IsShorter len old new

-- a remove happened or was not begun, or it failed, which counts as absence, and the file reads as before
abbrev pub IsRemoved : FileState → FileState → Type 0
IsRemoved old new =
    (new ≡ old) ⊎ (new ≡ removed old) ⊎ (new ≡ record (removed old) { reads = old.reads })

-- a sync happened, or failed and made nothing durable
abbrev pub IsSynced : FileState → FileState → Type 0
IsSynced old new = (new ≡ old) ⊎ (new ≡ synced old)

-- a read of count bytes from an offset into a buffer: as many as fit, fewer only at the end of the file
pub record IsRead (file : List ℕ) (at : ℕ)
    (old_buffer new_buffer : List ℕ) (count : ℕ) : Type 0 where
  pub count_is : count ≡ min (length old_buffer) (length file - at)
  pub buffer : new_buffer ≡ take count (drop at file) ++ drop count old_buffer
