use Rattle.std.proofs.Common.{◌≡◌, All, IsTrue, map, take}
use Rattle.disk_core.specs.DiskImage.{reads}
use Rattle.disk_core.specs.Life.{IsQuiet}
use Rattle.archive_commands.specs.declared.progress.ListedFile.{ListedFile}
use Rattle.archive_commands.specs.Progress.{segment_bytes}
use Rattle.archive_commands.proofs.progress.listed_files.Given as goal

-- the first so many files of the listing have their lengths
abbrev pub invariant-loop-file : goal.invariant-loop-file
invariant-loop-file g l = record {
  quiet : IsQuiet (g.D.Disk.life l.fn.disk) (g.D.Disk.life l.disk);
  obeyed : IsTrue (g.D.Disk.life l.disk).obeys → IsTrue (g.D.Disk.life l.initial.disk).obeys;
  files : map (λ (f : ListedFile). f.file) l.listed.items ≡ take l.file-index l.file-items;
  lengths : IsTrue (g.D.Disk.life l.disk).obeys → All (λ (f : ListedFile). f.length ≡ segment_bytes (reads (g.D.Disk.life l.fn.disk).now) f.file) l.listed.items;
}
