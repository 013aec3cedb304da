-- The whole record has the life of the calls in it.
use Rattle.std.proofs.Common.{sym, ap, ap₂, ◌∙◌}
use Rattle.host_disk.specs.HostFolder.{notes_of}
use Rattle.host_disk.specs.Replay.{life_at}
use Rattle.host_disk.proofs.CloseLemmas.{life_at-calls}
use Rattle.host_disk.proofs.host_disk.FolderDisk+HostFolder.close.Goals as goal

pub returns : goal.returns
returns c =
    c.of.ensures
    ∙ ap₂ life_at (c.close.ensures ∙ ap notes_of c.into_parts-folder.ensures.folder) c.into_parts-folder.ensures.faults
    ∙ sym (life_at-calls (notes_of c.args.self.folder) c.args.self.faults)
