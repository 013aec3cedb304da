-- How many calls of a folder have failed.
use Rattle.std.specs.Prelude.{ℕ, ◌+◌, Bool, true, false, if◌then◌else◌, List, [], ◌∷◌}
use Rattle.disk_core.specs.declared.fault.ListFault.{ListFault}
use Rattle.disk_core.specs.declared.fault.ListFault.TheVariants.{Device, NoMemory}
use Rattle.host_disk.specs.Events.{Event, opened, locked, measured, measure_failed, asked, gave, read_failed, touched, wrote, write_failed, cut, cut_failed, gone, remove_failed, flushed, flush_failed, listed, list_failed, refused}

-- the call has failed, or was refused
abbrev pub is_failure : Event → Bool
is_failure (opened given) = false
is_failure (locked path) = false
is_failure (measured file n) = false
is_failure (measure_failed file) = true
is_failure (asked bytes) = false
is_failure (gave file at n bytes) = false
is_failure (read_failed file at) = true
is_failure (touched file) = false
is_failure (wrote file at bytes) = false
is_failure (write_failed file at n) = true
is_failure (cut file len) = false
is_failure (cut_failed file len) = true
is_failure (gone file) = false
is_failure (remove_failed file) = true
is_failure (flushed file) = false
is_failure (flush_failed file) = true
is_failure (listed files) = false
is_failure list_failed = true
is_failure (refused file at) = true

-- how many of these calls have failed
abbrev pub failures : List Event → ℕ
failures [] = 0
failures (event ∷ earlier) = if is_failure event then failures earlier + 1 else failures earlier

-- a listing that failed; want of memory for the list is no failed call
abbrev pub after_list_fault : ListFault → List Event → List Event
after_list_fault Device earlier = list_failed ∷ earlier
after_list_fault NoMemory earlier = earlier
