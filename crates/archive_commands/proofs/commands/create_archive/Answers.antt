-- An archive was made, and the disk leaves it.
use Rattle.std.proofs.Common.{rules}
use Rattle.engine_core.specs.Seen.{seen}
use Rattle.archive_commands.proofs.commands.create_archive.Goals as goal

pub returns-clause-created : goal.returns-clause-created
returns-clause-created g c = (record { engine = seen g.D.Disk.life c.in-Ok.engine; made = c.in-Ok.ensures.made; keeps = c.in-Ok.ensures.keeps; left = c.into_disk-disk.ensures }, search rules)
