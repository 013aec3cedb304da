use Rattle.std.proofs.Common.{rules}
use Rattle.archive_model.specs.declared.version.BankVersion.TheVariants.{Two}
use Rattle.engine_core.proofs.Words.{empty}
use Rattle.engine_core.proofs.openings.RestartLemmas.{opened_consistent}
use Rattle.engine_core.proofs.start.make_archive.Goals as goal

pub returns-in-Ok-clause-keeps : goal.returns-in-Ok-clause-keeps
returns-in-Ok-clause-keeps g c = record {
  desk = search rules;
  consistent = opened_consistent (g.D.Disk.life c.create.new.disk) c.in-Ok.log empty 0 c.args.history_limit Two c.in-Ok.ensures.sound;
}
