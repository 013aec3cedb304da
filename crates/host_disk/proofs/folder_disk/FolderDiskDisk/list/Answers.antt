use Rattle.host_disk.proofs.ReplayLemmas.{listing_is}
use Rattle.host_disk.proofs.folder_disk.FolderDiskDisk.list.Goals as goal

pub returns-in_default-2-clause-files : goal.returns-in_default-2-clause-files
returns-in_default-2-clause-files g c = listing_is c.list-answer.result (g.F.Folder.events c.args.self.now.folder) (g.F.Folder.events c.list-answer.new.self) c.list-answer.ensures.in_order c.list-answer.ensures.noted
