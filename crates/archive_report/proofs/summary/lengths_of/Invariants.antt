use Rattle.std.proofs.Common.{◌≡◌, IsTrue, map, take}
use Rattle.disk_core.specs.DiskImage.{reads}
use Rattle.archive_report.specs.Describing.{IsLookedOn}
use Rattle.archive_report.specs.Files.{measured_on}
use Rattle.archive_report.specs.Viewing.{inner}
use Rattle.archive_report.proofs.summary.lengths_of.Given as goal

abbrev pub invariant-loop-file : goal.invariant-loop-file
invariant-loop-file g l =
    let life = g.D.Disk.life in
    record {
      look : IsLookedOn life l.fn.view l.view;
      measured : IsTrue (inner life l.view).obeys → l.found.items ≡ map (measured_on (reads (inner life l.fn.view).now)) (take l.file-index l.files);
    }
