-- The JSON text on an archive: docs/CONTROL.md, "A page for people". The members of an object stand in the order of their keys,
-- where `put` puts each at its place.
use Rattle.std.specs.Prelude.{◌++◌, ℕ, ℤ, pos, negsuc, List, codes, map, if◌then◌else◌}
use Rattle.disk_core.specs.declared.file_id.FileId.{FileId}
use Rattle.disk_core.specs.FileNames.{name_of}
use Rattle.archive_model.specs.declared.registration.Registration.{Registration}
use Rattle.archive_model.specs.Register.{RegisterState, is_active}
use Rattle.catalogue_log.specs.Bank.{number_of}
use Rattle.control_core.specs.Desk.{DeskState}
use Rattle.serde_json.specs.Data.{Data, Members, array, boolean, member, no_members, null, number, object, put, string, unsigned}
use Rattle.serde_json.specs.Find.{of_integer}
use Rattle.serde_json.specs.View.{items_of}
use Rattle.serde_json.specs.Written.{compact_text}
use Rattle.archive_report.specs.declared.summary.Measured.{Measured}
use Rattle.archive_report.specs.declared.summary.Total.{Total}
use Rattle.archive_report.specs.Dates.{date_text, is_before_start}
use Rattle.archive_report.specs.Files.{is_segment, is_segment_of, recorded_bytes, staleness_of, total_of, why_text}

-- a list of data
abbrev pub each_of : {X : Type 0} → (X → Data) → List X → Data
each_of f xs = array (items_of (map f xs))

-- a date, null if it is not known
abbrev pub date_data : ℤ → Data
date_data (pos ms) = string (date_text (pos ms))
date_data (negsuc n) = null

-- the date of a stop, null also if that is before its start
abbrev pub stop_data : ℤ → ℤ → Data
stop_data start stop = if is_before_start start stop then null else date_data stop

-- which recording, and what stream it is of
unfoldable pub with_stream : Registration → Members → Members
with_stream r ms =
    put (codes "source_identity") (string r.descriptor.source_identity) (
    put (codes "session_id") (number (of_integer r.descriptor.session_id)) (
    put (codes "stream_id") (number (of_integer r.descriptor.stream_id)) (
    put (codes "channel") (string r.descriptor.channel) (
    put (codes "active") (boolean (is_active r)) (
    put (codes "recording") (number (of_integer r.descriptor.recording)) ms)))))

-- when it was started and stopped
unfoldable pub with_dates : Registration → Members → Members
with_dates r ms =
    put (codes "stop_timestamp") (number (of_integer r.descriptor.stop_timestamp)) (
    put (codes "start_timestamp") (number (of_integer r.descriptor.start_timestamp)) (
    put (codes "stopped") (stop_data r.descriptor.start_timestamp r.descriptor.stop_timestamp) (
    put (codes "started") (date_data r.descriptor.start_timestamp) ms)))

-- how much of it is recorded, in how many files, and how many bytes these have
unfoldable pub with_extent : Total → Registration → Members → Members
with_extent t r ms =
    put (codes "segment_files") (number (unsigned t.files)) (
    put (codes "disk_bytes") (number (unsigned t.bytes)) (
    put (codes "recorded_bytes") (number (unsigned (recorded_bytes r))) (
    put (codes "recorded_position") (number (of_integer r.recorded)) (
    put (codes "start_position") (number (of_integer r.descriptor.start_position)) ms))))

-- how long its terms, segments and frames are
unfoldable pub with_lengths : Registration → Members → Members
with_lengths r ms =
    put (codes "mtu") (number (of_integer r.descriptor.mtu)) (
    put (codes "segment_length") (number (of_integer r.descriptor.segment_length)) (
    put (codes "term_length") (number (of_integer r.descriptor.term_length)) (
    put (codes "initial_term_id") (number (of_integer r.descriptor.initial_term_id)) ms)))

-- a recording, of an archive with these files
unfoldable pub recording_data : List Measured → Registration → Data
recording_data files r = object (with_lengths r (with_extent (total_of (is_segment_of r.descriptor.recording) files) r (with_dates r (with_stream r no_members))))

-- the text of a recording alone, and a line's end after it
unfoldable pub recording_text : List Measured → Registration → List ℕ
recording_text files r = compact_text (recording_data files r) ++ codes "\n"

-- a file that a sweep would remove, and why
unfoldable pub stale_data : RegisterState → FileId → Data
stale_data g file = object (member (codes "file") (string (name_of file)) (member (codes "why") (string (why_text (staleness_of g file))) no_members))

-- a file that no recording knows
unfoldable pub unknown_data : FileId → Data
unknown_data file = string (name_of file)

-- an archive with so many files and bytes in all
unfoldable pub archive_in_total : Total → DeskState → Data → Data → Data → Data
archive_in_total t d recordings stale unknown = object (
    member (codes "catalogue_version") (number (unsigned (number_of d.version))) (
    member (codes "disk_bytes") (number (unsigned t.bytes)) (
    member (codes "history_entries") (number (unsigned d.counted)) (
    member (codes "history_limit") (number (unsigned d.limit)) (
    member (codes "recordings") recordings (
    member (codes "segment_files") (number (unsigned t.files)) (
    member (codes "stale_files") stale (
    member (codes "unknown_files") unknown no_members))))))))

-- an archive with these files, of which a sweep would remove these, and no recording knows these
unfoldable pub document_data : DeskState → List Measured → List FileId → List FileId → Data
document_data d files stale unknown =
    archive_in_total (total_of is_segment files) d (each_of (recording_data files) d.register.recordings) (each_of (stale_data d.register) stale) (each_of unknown_data unknown)

-- its text, and a line's end after it
unfoldable pub document_text : DeskState → List Measured → List FileId → List FileId → List ℕ
document_text d files stale unknown = compact_text (document_data d files stale unknown) ++ codes "\n"
