use Rattle.std.proofs.Common.{◌≡◌, take}
use Rattle.archive_view.specs.Viewed.{desk_of}
use Rattle.archive_report.specs.Files.{unknown_among}
use Rattle.archive_report.proofs.summary.unknown_among.Given as goal

abbrev pub invariant-loop-found : goal.invariant-loop-found
invariant-loop-found g l = l.unknown.items ≡ unknown_among (desk_of l.view).register (take l.found-index l.files)
