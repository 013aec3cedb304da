use Rattle.std.proofs.Common.{◌≡◌, ◌≤◌, ◌+◌, drop}
use Rattle.archive_commands.specs.Progress.{bytes_of_files, counted}
use Rattle.archive_commands.proofs.progress.bytes_in.Given as goal

abbrev pub invariant-loop-listed : goal.invariant-loop-listed
invariant-loop-listed l = record {
  fits : l.total ≤ 18446744073709551615;
  so_far : counted (l.total + bytes_of_files (drop l.listed-index l.files)) ≡ counted (bytes_of_files l.files);
}
