-- The files that a record gives are well formed (the proof of `reads_may_stay` has to stand here).
use Rattle.std.specs.Prelude.{ℕ, zero, suc, max, List, [], ◌∷◌, length, take, drop, Option, None, Some}
use Rattle.std.proofs.Common.{refl, arith}
use Rattle.std.specs.Ordering.{is_eq}
use Rattle.disk_core.specs.declared.file_id.FileId.{FileId}
use Rattle.disk_core.specs.FileNames.{file_cmp}
use Rattle.disk_core.specs.DiskImage.{FileState, Files, bytes_of}
use Rattle.disk_core.specs.Calls.{write_to, cut_to, removed, synced}
use Rattle.disk_core.specs.Memory.{IsWell}
use Rattle.disk_core.proofs.CallerLemmas.{overwritten_no_shorter}
use Rattle.disk_core.proofs.DiskLemmas.{durable_well, write_well, cut_well, removed_well, either_well}
use Rattle.host_disk.specs.Events.{Event, opened, locked, measured, measure_failed, asked, gave, read_failed, touched, wrote, write_failed, cut, cut_failed, gone, remove_failed, flushed, flush_failed, listed, list_failed, refused}
use Rattle.host_disk.specs.Replay.{Replayed, image_of, written_in_part, cut_in_part, removed_or_not, next_left, with_change, after_event, replay}

-- each of the files is well formed
abbrev pub AreWell : Files → Type 0
AreWell files = (file : FileId) → IsWell (files file)

written_in_part_well : (at n : ℕ) (left : Option (List ℕ)) (state : FileState) → IsWell state → IsWell (written_in_part at n left state)
written_in_part_well at zero left state well = well
written_in_part_well at (suc n) None state well = record { least = well.least; absent = well.absent }
written_in_part_well at (suc n) (Some left) state well = record {
  least = omega (arith, well.least, (overwritten_no_shorter at (take (suc n) (drop at left)) (bytes_of state.reads)).0);
  absent = λ none. absurd (cc);
}

cut_in_part_well : (len : ℕ) (left : Option (List ℕ)) (state : FileState) → IsWell state → IsWell (cut_in_part len left state)
cut_in_part_well len None state well = record { least = omega (arith, well.least); absent = well.absent }
cut_in_part_well len (Some left) state well =
    let cut : IsWell (cut_to (max len (length left)) state) = cut_well (max len (length left)) state well in
    record { least = omega (arith, cut.least); absent = cut.absent }

removed_or_not_well : (left : Option (List ℕ)) (state : FileState) → IsWell (removed_or_not left state)
removed_or_not_well None state = removed_well state
removed_or_not_well (Some left) state = record { least = omega arith; absent = λ none. refl }

change_well : (this : FileId) (change : FileState → FileState) (files : Files)
    → ((state : FileState) → IsWell state → IsWell (change state)) → AreWell files → (file : FileId) → IsWell (with_change this change files file)
change_well this change files made well file =
    either_well (is_eq (file_cmp file this)) (change (files file)) (files file) (made (files file) (well file)) (well file)

event_well : (event : Event) (before : Replayed) → AreWell before.now → (file : FileId) → IsWell ((after_event event before).now file)
event_well (opened given) before well file = durable_well (image_of given.held file)
event_well (locked path) before well file = well file
event_well (measured this n) before well file = well file
event_well (measure_failed this) before well file = well file
event_well (asked bytes) before well file = well file
event_well (gave this at n bytes) before well file = well file
event_well (read_failed this at) before well file = well file
event_well (touched this) before well file = well file
event_well (wrote this at bytes) before well file = change_well this (write_to at bytes) before.now (write_well at bytes) well file
event_well (write_failed this at n) before well file = change_well this (written_in_part at n (next_left before.left)) before.now (written_in_part_well at n (next_left before.left)) well file
event_well (cut this len) before well file = change_well this (cut_to len) before.now (cut_well len) well file
event_well (cut_failed this len) before well file = change_well this (cut_in_part len (next_left before.left)) before.now (cut_in_part_well len (next_left before.left)) well file
event_well (gone this) before well file = change_well this removed before.now (λ state _. removed_well state) well file
event_well (remove_failed this) before well file = change_well this (removed_or_not (next_left before.left)) before.now (λ state _. removed_or_not_well (next_left before.left) state) well file
event_well (flushed this) before well file = change_well this synced before.now (λ state _. durable_well state.reads) well file
event_well (flush_failed this) before well file = well file
event_well (listed files) before well file = well file
event_well list_failed before well file = well file
event_well (refused this at) before well file = well file

-- the files that a record gives are well formed
pub all_well : (events : List Event) (file : FileId) → IsWell ((replay events).now file)
all_well [] file = durable_well None
all_well (event ∷ earlier) file = event_well event (replay earlier) (all_well earlier) file
