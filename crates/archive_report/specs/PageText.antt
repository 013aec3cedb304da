-- The page on an archive: docs/CONTROL.md, "A page for people". Each line has its end.
use Rattle.std.specs.Prelude.{◌++◌, ℕ, Bool, true, false, List, [], length, codes, decimal}
use Rattle.std.specs.Fmt.{signed_decimal}
use Rattle.std.specs.List.{flat_map}
use Rattle.disk_core.specs.declared.file_id.FileId.{FileId}
use Rattle.disk_core.specs.FileNames.{name_of}
use Rattle.archive_model.specs.declared.registration.Registration.{Registration}
use Rattle.archive_model.specs.Register.{RegisterState, active_count, is_active}
use Rattle.catalogue_log.specs.Bank.{number_of}
use Rattle.control_core.specs.Desk.{DeskState}
use Rattle.archive_report.specs.declared.summary.Measured.{Measured}
use Rattle.archive_report.specs.declared.summary.Total.{Total}
use Rattle.archive_report.specs.Dates.{date_text, stop_text}
use Rattle.archive_report.specs.Files.{is_segment, is_segment_of, recorded_bytes, staleness_of, total_of, why_text}

-- whether it is recorded, in a word
abbrev pub state_text : Bool → List ℕ
state_text true = codes "active"
state_text false = codes "stopped"

-- which recording, and what stream it is of
unfoldable pub stream_lines : Registration → List ℕ
stream_lines r =
    codes "recording " ++ (signed_decimal r.descriptor.recording ++ (codes ", " ++ (state_text (is_active r) ++ (codes "\n"
    ++ (codes "  channel    " ++ (r.descriptor.channel ++ (codes "\n"
    ++ (codes "  stream     " ++ (signed_decimal r.descriptor.stream_id ++ (codes "\n"
    ++ (codes "  session    " ++ (signed_decimal r.descriptor.session_id ++ codes "\n"))))))))))))

-- who sends it, if that is known
abbrev pub sender_line : List ℕ → List ℕ
sender_line [] = []
sender_line text = codes "  source     " ++ (text ++ codes "\n")

-- when it was started and stopped
unfoldable pub date_lines : Registration → List ℕ
date_lines r =
    codes "  started    " ++ (date_text r.descriptor.start_timestamp ++ (codes "\n"
    ++ (codes "  stopped    " ++ (stop_text r.descriptor.start_timestamp r.descriptor.stop_timestamp ++ codes "\n"))))

-- how much of it is recorded
unfoldable pub position_lines : Registration → List ℕ
position_lines r =
    codes "  positions  " ++ (signed_decimal r.descriptor.start_position ++ (codes " to " ++ (signed_decimal r.recorded ++ (codes "\n"
    ++ (codes "  recorded   " ++ (decimal (recorded_bytes r) ++ codes " bytes\n"))))))

-- in how many files, and how many bytes these have, behind an indent
unfoldable pub disk_line : List ℕ → Total → List ℕ
disk_line indent t = indent ++ (codes "on disk    " ++ (decimal t.bytes ++ (codes " bytes in " ++ (decimal t.files ++ codes " segment files\n"))))

-- how long its terms, segments and frames are, and an empty line
unfoldable pub length_lines : Registration → List ℕ
length_lines r =
    codes "  lengths    term " ++ (signed_decimal r.descriptor.term_length ++ (codes ", segment " ++ (signed_decimal r.descriptor.segment_length
    ++ (codes ", MTU " ++ (signed_decimal r.descriptor.mtu ++ codes "\n\n")))))

-- a recording, of an archive with these files
unfoldable pub recording_lines : List Measured → Registration → List ℕ
recording_lines files r =
    stream_lines r ++ (sender_line r.descriptor.source_identity ++ (date_lines r ++ (position_lines r
    ++ (disk_line (codes "  ") (total_of (is_segment_of r.descriptor.recording) files) ++ length_lines r))))

-- how many recordings there are
unfoldable pub count_line : RegisterState → List ℕ
count_line g = codes "archive    " ++ (decimal (length g.recordings) ++ (codes " recordings, " ++ (decimal (active_count g) ++ codes " of them active\n")))

-- how much of the history is used, and the catalogue's version
unfoldable pub history_lines : DeskState → List ℕ
history_lines d =
    codes "history    " ++ (decimal d.counted ++ (codes " of " ++ (decimal d.limit ++ (codes " entries\n"
    ++ (codes "catalogue  version " ++ (decimal (number_of d.version) ++ codes "\n"))))))

-- a file that a sweep would remove, and why
unfoldable pub stale_line : RegisterState → FileId → List ℕ
stale_line g file = codes "stale      " ++ (name_of file ++ (codes ": " ++ (why_text (staleness_of g file) ++ codes "\n")))

-- a file that no recording knows
unfoldable pub unknown_line : FileId → List ℕ
unknown_line file = codes "unknown    " ++ (name_of file ++ codes "\n")

-- the page on an archive with these files, of which a sweep would remove these, and no recording knows these
unfoldable pub page_text : DeskState → List Measured → List FileId → List FileId → List ℕ
page_text d files stale unknown =
    flat_map (recording_lines files) d.register.recordings ++ (count_line d.register ++ (disk_line [] (total_of is_segment files) ++ (history_lines d
    ++ (flat_map (stale_line d.register) stale ++ flat_map unknown_line unknown))))
