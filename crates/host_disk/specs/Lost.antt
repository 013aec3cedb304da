-- Files of which a sync has failed, so that what is on the disk of them is not known.
use Rattle.std.specs.Prelude.{Bool, true, false, not, ◌&&◌, ◌||◌, ◌^◌, nat_le, if◌then◌else◌, List, [], ◌∷◌}
use Rattle.std.specs.Ordering.{is_eq}
use Rattle.disk_core.specs.declared.file_id.FileId.{FileId}
use Rattle.disk_core.specs.FileNames.{file_cmp}
use Rattle.host_disk.specs.declared.lost.Lost.{Lost}
use Rattle.host_disk.specs.declared.lost.Lost.TheVariants.{Nothing, One, All}
use Rattle.host_disk.specs.Events.{Event, opened, locked, measured, measure_failed, asked, gave, read_failed, touched, wrote, write_failed, cut, cut_failed, gone, remove_failed, flushed, flush_failed, listed, list_failed, refused}

-- the file counts as lost
abbrev pub covers : Lost → FileId → Bool
covers Nothing file = false
covers (One this) file = is_eq (file_cmp file this)
covers All file = true

-- this file is lost too
abbrev pub with_lost : FileId → Lost → Lost
with_lost file Nothing = One file
with_lost file (One this) = if is_eq (file_cmp file this) then One this else All
with_lost file All = All

-- what counts as lost after a call
abbrev pub lost_by : Event → Lost → Lost
lost_by (opened given) lost = lost
lost_by (locked path) lost = lost
lost_by (measured file n) lost = lost
lost_by (measure_failed file) lost = lost
lost_by (asked bytes) lost = lost
lost_by (gave file at n bytes) lost = lost
lost_by (read_failed file at) lost = lost
lost_by (touched file) lost = lost
lost_by (wrote file at bytes) lost = lost
lost_by (write_failed file at n) lost = lost
lost_by (cut file len) lost = lost
lost_by (cut_failed file len) lost = lost
lost_by (gone file) lost = lost
lost_by (remove_failed file) lost = lost
lost_by (flushed file) lost = lost
lost_by (flush_failed file) lost = with_lost file lost
lost_by (listed files) lost = lost
lost_by list_failed lost = lost
lost_by (refused file at) lost = lost

-- what counts as lost after these calls
abbrev pub lost_after : List Event → Lost
lost_after [] = Nothing
lost_after (event ∷ earlier) = lost_by event (lost_after earlier)

abbrev pub is_nothing : Lost → Bool
is_nothing Nothing = true
is_nothing (One file) = false
is_nothing All = false

-- The call is of no lost file; a listing is of every file. Refused is what is of a lost file, and a read at
-- an offset past the last one.
abbrev pub is_allowed : Lost → Event → Bool
is_allowed lost (opened given) = true
is_allowed lost (locked path) = true
is_allowed lost (measured file n) = not (covers lost file)
is_allowed lost (measure_failed file) = not (covers lost file)
is_allowed lost (asked bytes) = true
is_allowed lost (gave file at n bytes) = not (covers lost file)
is_allowed lost (read_failed file at) = not (covers lost file)
is_allowed lost (touched file) = not (covers lost file)
is_allowed lost (wrote file at bytes) = not (covers lost file)
is_allowed lost (write_failed file at n) = not (covers lost file)
is_allowed lost (cut file len) = not (covers lost file)
is_allowed lost (cut_failed file len) = not (covers lost file)
is_allowed lost (gone file) = not (covers lost file)
is_allowed lost (remove_failed file) = not (covers lost file)
is_allowed lost (flushed file) = not (covers lost file)
is_allowed lost (flush_failed file) = not (covers lost file)
is_allowed lost (listed files) = is_nothing lost
is_allowed lost list_failed = is_nothing lost
is_allowed lost (refused file at) = covers lost file || nat_le (2 ^ 64) at

-- no call was of a file that was lost before it
abbrev pub is_careful : List Event → Bool
is_careful [] = true
is_careful (event ∷ earlier) = is_allowed (lost_after earlier) event && is_careful earlier
