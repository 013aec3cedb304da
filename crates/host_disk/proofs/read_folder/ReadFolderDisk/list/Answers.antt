use Rattle.host_disk.proofs.ReplayLemmas.{listing_is}
use Rattle.host_disk.specs.Looked.{events_of}
use Rattle.host_disk.proofs.read_folder.ReadFolderDisk.list.Goals as goal

pub returns-2-clause-files : goal.returns-2-clause-files
returns-2-clause-files c = listing_is c.list-answer.result (events_of c.args.self.now.folder) (events_of c.list-answer.new.self) c.list-answer.ensures.in_order c.list-answer.ensures.noted
