use Rattle.host_disk.specs.declared.system.OpenFile.{OpenFile}
use Rattle.host_disk.specs.OpenFiles.{entries_of}
use Rattle.host_disk.proofs.OpenFileLemmas.{shown_of_map}
use Rattle.host_disk.proofs.open_files.OpenFiles.at.Goals as goal

pub returns-clause-file : goal.returns-clause-file
returns-clause-file c = shown_of_map (λ (entry : OpenFile). entry.file) (entries_of c.args.self.now) c.args.index c.index.result.now c.requires c.index.ensures

pub returns-clause-flag : goal.returns-clause-flag
returns-clause-flag c = shown_of_map (λ (entry : OpenFile). entry.is_unsynced) (entries_of c.args.self.now) c.args.index c.index.result.now c.requires c.index.ensures
