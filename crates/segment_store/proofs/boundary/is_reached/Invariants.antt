use Rattle.std.proofs.Common.{◌≤◌, ◌-◌, IsTrue}
use Rattle.std.specs.Prelude.{unsigned_abs}
use Rattle.disk_core.specs.DiskImage.{reads}
use Rattle.disk_core.specs.Life.{IsQuiet}
use Rattle.segment_store.specs.Boundary.{Reaches}
use Rattle.segment_store.specs.Window.{IsWindow}
use Rattle.segment_store.proofs.boundary.is_reached.Given as goal

-- the frames so far are shown one after another, none past the position
abbrev pub invariant-loop-at : goal.invariant-loop-at
invariant-loop-at g l = record {
  quiet : IsQuiet (g.D.Disk.life l.fn.disk) (g.D.Disk.life l.disk);
  low : unsigned_abs l.fn.from ≤ l.at;
  high : l.at ≤ l.end;
  window : IsTrue (g.D.Disk.life l.disk).obeys → IsWindow (reads (g.D.Disk.life l.fn.disk).now) l.window;
  reaches : IsTrue (g.D.Disk.life l.disk).obeys → Reaches (reads (g.D.Disk.life l.fn.disk).now) l.layout l.geometry l.recorded (unsigned_abs l.fn.from) l.at;
}

abbrev pub decreases-loop-at : goal.decreases-loop-at
decreases-loop-at g l = l.end - l.at
