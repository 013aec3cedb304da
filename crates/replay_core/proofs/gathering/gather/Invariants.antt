use Rattle.std.proofs.Common.{◌≡◌, ◌-◌, length, IsTrue}
use Rattle.disk_core.specs.DiskImage.{Files}
use Rattle.disk_core.specs.Life.{IsQuiet}
use Rattle.replay_core.specs.Gathering.{Gathers}
use Rattle.replay_core.specs.Pages.{kept}
use Rattle.replay_core.proofs.gathering.gather.Given as goal

abbrev pub invariant-loop-alloc : goal.invariant-loop-alloc
invariant-loop-alloc g l =
    ((files : Files) → (g.D.Disk.life l.fn.disk).now ≡ files
    → Gathers (IsTrue (g.D.Disk.life l.disk).obeys) files l.fn.source l.fn.from (kept l.fn.pages) (kept l.pages) l.fn.pages.gathered.items l.pages.gathered.items)
    × IsQuiet (g.D.Disk.life l.fn.disk) (g.D.Disk.life l.disk)

abbrev pub decreases-loop-alloc : goal.decreases-loop-alloc
decreases-loop-alloc g l = l.fn.size - length l.pages.gathered.items
