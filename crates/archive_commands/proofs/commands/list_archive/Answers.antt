-- What the opening says, and what is written behind it.
use Rattle.std.proofs.Common.{rules}
use Rattle.engine_core.specs.Seen.{seen}
use Rattle.archive_commands.proofs.CommandLemmas.{unlisted}
use Rattle.archive_commands.proofs.commands.list_archive.Goals as goal

pub returns-in_err-engine-clause-fault : goal.returns-in_err-engine-clause-fault
returns-in_err-engine-clause-fault g c = unlisted g.D.Disk.life (g.D.Disk.life c.args.disk) _ c.from_residual.result c.in_err-engine.field-0.0 (search rules) c.in_err-engine.ensures.refused

pub returns-in-Ok-clause-listed : goal.returns-in-Ok-clause-listed
returns-in-Ok-clause-listed g c = record {
  engine = seen g.D.Disk.life c.in_ok-engine.engine;
  opened = c.in_ok-engine.ensures.opened;
  left = c.into_disk-disk.ensures;
  told = search rules;
}

pub returns-in-Err-clause-fault : goal.returns-in-Err-clause-fault
returns-in-Err-clause-fault g c = record {
  engine = seen g.D.Disk.life c.in_ok-engine.engine;
  opened = c.in_ok-engine.ensures.opened;
  left = c.into_disk-disk.ensures;
  told = search rules;
}
