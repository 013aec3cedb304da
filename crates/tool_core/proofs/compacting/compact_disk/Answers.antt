-- What the opening says, and the compaction behind it.
use Rattle.std.proofs.Common.{inr, subst}
use Rattle.std.specs.Prelude.{Ok, Err}
use Rattle.disk_core.specs.Life.{Life}
use Rattle.engine_core.specs.Compacting.{Compacts}
use Rattle.engine_core.specs.Seen.{seen}
use Rattle.tool_core.proofs.compacting.compact_disk.Goals as goal

pub returns-in-Ok : goal.returns-in-Ok
returns-in-Ok g c = record {
  engine = seen g.D.Disk.life c.in_ok-engine.engine;
  is = record { tied = c.in_ok-engine.engine.archive.tied; stays = g.met.D.Disk.reads_may_stay c.in_ok-engine.engine.archive.storage.disk };
  stopped = c.in_ok-engine.field-0-1;
  opened = c.in_ok-engine.ensures;
  anew = subst (λ (l : Life). Compacts l (g.D.Disk.life c.compact.new.disk) (Ok tt)) c.into_disk-disk.ensures c.in-Ok.ensures;
  stays = g.met.D.Disk.reads_may_stay c.compact.new.disk;
}

pub returns-in-Err : goal.returns-in-Err
returns-in-Err g c = inr (record {
  engine = seen g.D.Disk.life c.in_ok-engine.engine;
  is = record { tied = c.in_ok-engine.engine.archive.tied; stays = g.met.D.Disk.reads_may_stay c.in_ok-engine.engine.archive.storage.disk };
  stopped = c.in_ok-engine.field-0-1;
  opened = c.in_ok-engine.ensures;
  refused = subst (λ (l : Life). Compacts l (g.D.Disk.life c.compact.new.disk) (Err c.in-Err.refusal)) c.into_disk-disk.ensures c.in-Err.ensures;
})
