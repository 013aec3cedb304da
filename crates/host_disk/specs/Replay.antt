-- What calls with their answers make of the files of a folder: docs/STORAGE.md, "Folders".
use Rattle.std.specs.Prelude.{ℕ, zero, suc, ◌-◌, ◌==◌, nat_le, min, max, Bool, true, not, ◌&&◌, ◌||◌, if◌then◌else◌, List, [], ◌∷◌, ◌++◌, map, length, take, drop, Option, Some, None, option_map, is_some, bytes_eq}
use Rattle.std.specs.Ordering.{is_eq, eq_by_cmp}
use Rattle.std.specs.Set.{is_member}
use Rattle.std.specs.List.{list_all}
use Rattle.disk_core.specs.declared.file_id.FileId.{FileId}
use Rattle.disk_core.specs.FileNames.{file_cmp}
use Rattle.disk_core.specs.DiskImage.{DiskImage, FileState, Files, begun, bytes_of}
use Rattle.disk_core.specs.Calls.{overwritten, write_to, cut_to, removed, synced}
use Rattle.disk_core.specs.Life.{Life}
use Rattle.host_disk.specs.Events.{Held, Given, Event, opened, locked, measured, measure_failed, asked, gave, read_failed, touched, wrote, write_failed, cut, cut_failed, gone, remove_failed, flushed, flush_failed, listed, list_failed, refused}

-- what the calls so far make of the files of a folder
pub record Replayed : Type 0 where
  -- each answer so far is the one of the files below
  pub obeys : Bool
  pub past : List Files
  pub now : Files
  -- each file that is there is one of these
  pub known : List FileId
  -- what the buffer of the read to come holds
  pub asked : List ℕ
  -- what the writes, cuts and removes that are still to fail will leave
  pub left : List (Option (List ℕ))

-- the bytes of a file, of the first of its name
abbrev pub image_of : List Held → DiskImage
image_of [] file = None
image_of (held ∷ rest) file = if is_eq (file_cmp file held.0) then Some held.1 else image_of rest file

-- The answer of a read from an offset is that of these bytes: some of them, none only at their end, and
-- the rest of the buffer is as it was.
abbrev pub agrees : List ℕ → ℕ → ℕ → List ℕ → List ℕ → Bool
agrees file at n old new =
    bytes_eq new (take n (drop at file) ++ drop n old)
    && (nat_le n (length file - at) && nat_le (min 1 (min (length old) (length file - at))) n)

abbrev pub is_in : List FileId → FileId → Bool
is_in = is_member (eq_by_cmp file_cmp)

-- the file is there
abbrev pub is_there : Files → FileId → Bool
is_there files file = is_some (files file).reads

-- these are the files that are there, where each of those is known
abbrev pub are_there : Files → List FileId → List FileId → Bool
are_there files known found =
    list_all (is_there files) found && list_all (λ file. not (is_there files file) || is_in found file) known

-- what a failed write of so many bytes at an offset leaves: others may stand there alone, as far as this has them
abbrev pub torn : ℕ → ℕ → Option (List ℕ) → Option (List ℕ) → Option (List ℕ)
torn at n None old = old
torn at n (Some left) old = Some (overwritten at (take n (drop at left)) (bytes_of old))

-- the file after a failed write: its range is unsynced, and what is read may have changed there
abbrev pub written_in_part : ℕ → ℕ → Option (List ℕ) → FileState → FileState
written_in_part at zero left file = file
written_in_part at (suc n) left file =
    record file { reads = torn at (suc n) left file.reads; is_touched = true; written = (at, suc n) ∷ file.written }

-- the file after a failed cut: as long as this at most, where that is no less than it was to be cut to
abbrev pub cut_in_part : ℕ → Option (List ℕ) → FileState → FileState
cut_in_part len None file = record file { is_touched = true; least = min file.least len }
cut_in_part len (Some left) file = record file {
  reads = option_map (take (max len (length left))) file.reads;
  is_touched = true;
  least = min file.least len;
}

-- the file after a failed remove: absent, or as it was
abbrev pub removed_or_not : Option (List ℕ) → FileState → FileState
removed_or_not None file = removed file
removed_or_not (Some left) file = record (removed file) { reads = file.reads }

-- what the next call that fails leaves
abbrev pub next_left : List (Option (List ℕ)) → Option (List ℕ)
next_left [] = None
next_left (left ∷ later) = left

-- the files, of which one has changed
abbrev pub with_change : FileId → (FileState → FileState) → Files → Files
with_change this change files file = if is_eq (file_cmp file this) then change (files file) else files file

-- a moment later
abbrev pub next_moment : FileId → (FileState → FileState) → Replayed → Replayed
next_moment file change m = record m { past = m.past ++ m.now ∷ []; now = with_change file change m.now }

-- the model after a call
abbrev pub after_event : Event → Replayed → Replayed
after_event (opened given) m = record {
  obeys = true;
  past = [];
  now = begun (image_of given.held);
  known = map (λ (h : Held). h.0) given.held;
  asked = [];
  left = given.left;
}
after_event (locked path) m = m
after_event (measured file n) m = record m { obeys = m.obeys && (n == length (bytes_of (m.now file).reads)) }
after_event (measure_failed file) m = m
after_event (asked bytes) m = record m { asked = bytes }
after_event (gave file at n bytes) m =
    record m { obeys = m.obeys && agrees (bytes_of (m.now file).reads) at n m.asked bytes }
after_event (read_failed file at) m = m
after_event (touched file) m = m
after_event (wrote file at bytes) m = record (next_moment file (write_to at bytes) m) { known = file ∷ m.known }
after_event (write_failed file at n) m =
    record (next_moment file (written_in_part at n (next_left m.left)) m) { known = file ∷ m.known; left = drop 1 m.left }
after_event (cut file len) m = next_moment file (cut_to len) m
after_event (cut_failed file len) m =
    record (next_moment file (cut_in_part len (next_left m.left)) m) { left = drop 1 m.left }
after_event (gone file) m = next_moment file removed m
after_event (remove_failed file) m =
    record (next_moment file (removed_or_not (next_left m.left)) m) { left = drop 1 m.left }
after_event (flushed file) m = next_moment file synced m
after_event (flush_failed file) m = m
after_event (listed files) m = record m { obeys = m.obeys && are_there m.now m.known files }
after_event list_failed m = m
after_event (refused file at) m = m

-- an empty folder, of which nothing was asked
abbrev pub empty_folder : Replayed
empty_folder = record { obeys = true; past = []; now = begun (λ _. None); known = []; asked = []; left = [] }

-- the model after these calls, the newest of which comes first
abbrev pub replay : List Event → Replayed
replay [] = empty_folder
replay (event ∷ earlier) = after_event event (replay earlier)

-- the life of a disk over a folder
abbrev pub life_at : List Event → ℕ → Life
life_at events faults = record {
  obeys = (replay events).obeys;
  past = (replay events).past;
  now = (replay events).now;
  faults = faults;
}

-- the life of a disk that begins with the files that are given, all of them durable
abbrev pub life_from : Given → Life
life_from given = record { obeys = true; past = []; now = begun (image_of given.held); faults = 0 }
