use Rattle.std.proofs.Common.{◌≡◌, ◌++◌, take}
use Rattle.std.specs.String.{string_bytes}
use Rattle.std.specs.List.{flat_map}
use Rattle.archive_report.specs.PageText.{recording_lines}
use Rattle.archive_report.proofs.page.add_recordings.Given as goal

abbrev pub invariant-loop-known : goal.invariant-loop-known
invariant-loop-known l = string_bytes l.page ≡ string_bytes l.fn.page ++ flat_map (recording_lines l.summary.files.items) (take l.known-index l.recordings)
