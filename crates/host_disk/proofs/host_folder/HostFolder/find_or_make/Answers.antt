use Rattle.host_disk.proofs.MarkLemmas.{holds_kept}
use Rattle.host_disk.proofs.host_folder.HostFolder.find_or_make.Goals as goal

pub invariant_of-self : goal.invariant_of-self
invariant_of-self c = record {
  kept = c.find.new.self.kept;
  marked = holds_kept c.find.new.self.open_files c.make_room.new.self c.find.new.self.notes.record.events c.make_room.ensures.marks c.find.new.self.marked;
}
