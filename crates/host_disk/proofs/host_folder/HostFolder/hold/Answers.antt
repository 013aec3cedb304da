use Rattle.host_disk.proofs.MarkLemmas.{holds_kept}
use Rattle.host_disk.proofs.host_folder.HostFolder.hold.Goals as goal

pub invariant_of-self : goal.invariant_of-self
invariant_of-self c = record {
  kept = c.args.self.now.kept;
  marked = holds_kept c.args.self.now.open_files c.hold.new.self c.args.self.now.notes.record.events c.hold.ensures.marks c.args.self.now.marked;
}
