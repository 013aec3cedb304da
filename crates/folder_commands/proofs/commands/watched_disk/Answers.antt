-- The watched disk begins with the folder's files.
use Rattle.folder_commands.proofs.FolderLemmas.{begins_watched}
use Rattle.folder_commands.proofs.commands.watched_disk.Goals as goal

pub returns-clause-begun : goal.returns-clause-begun
returns-clause-begun g c = begins_watched g.given c.in_ok-disk_within.field-0 c.new-disk.result c.in_ok-disk_within.ensures.begun c.new-disk.ensures
