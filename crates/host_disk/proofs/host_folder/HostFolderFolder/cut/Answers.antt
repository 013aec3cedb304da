use Rattle.std.proofs.Common.{◌≡◌, ◌∷◌, List, subst, refl}
use Rattle.disk_core.specs.declared.file_id.FileId.{FileId}
use Rattle.host_disk.specs.Events.{Event, touched}
use Rattle.host_disk.specs.OpenFiles.{KeepsMarks, IsMarked, HoldsUnsynced}
use Rattle.host_disk.specs.Names.{path_of}
use Rattle.host_disk.specs.Paths.{path_in}
use Rattle.host_disk.proofs.MarkLemmas.{file_of_index, holds_touched, noted_cut}
use Rattle.host_disk.proofs.host_folder.HostFolderFolder.cut.Goals as goal

pub invariant_of-self : goal.invariant_of-self
invariant_of-self c =
    let old = c.find.new.self in
    let this : FileId = c.at.result.now.file in
    let is = file_of_index old.open_files c.mark.new.self _ this c.mark.ensures.same_files c.at.ensures.file in
    let marks = subst (λ (file : FileId). KeepsMarks old.open_files c.mark.new.self × IsMarked c.mark.new.self file) is (c.mark.ensures.mark refl) in
    let holds : HoldsUnsynced c.mark.new.self (touched this ∷ old.notes.record.events) = holds_touched old.open_files c.mark.new.self old.notes.record.events this marks old.marked in
    record {
      kept = noted_cut (λ (notes : List Event). path_of old.names ≡ path_in notes) c.cut.result this c.args.len old.notes.record.events c.cut.new.notes.record.events c.cut.ensures old.kept old.kept;
      marked = noted_cut (HoldsUnsynced c.mark.new.self) c.cut.result this c.args.len old.notes.record.events c.cut.new.notes.record.events c.cut.ensures holds holds;
    }
