use Rattle.std.proofs.Common.{◌≡◌, ◌++◌, take}
use Rattle.std.specs.String.{string_bytes}
use Rattle.std.specs.List.{flat_map}
use Rattle.archive_report.specs.PageText.{unknown_line}
use Rattle.archive_report.proofs.page.add_unknown.Given as goal

abbrev pub invariant-loop-file : goal.invariant-loop-file
invariant-loop-file l = string_bytes l.page ≡ string_bytes l.fn.page ++ flat_map unknown_line (take l.file-index l.unknown)
