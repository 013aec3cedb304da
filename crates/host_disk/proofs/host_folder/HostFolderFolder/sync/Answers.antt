use Rattle.std.proofs.Common.{◌≡◌, ◌∷◌, List, subst, sym, refl, ◌∙◌}
use Rattle.disk_core.specs.declared.file_id.FileId.{FileId}
use Rattle.host_disk.specs.Events.{Event, flushed}
use Rattle.host_disk.specs.OpenFiles.{KeepsOtherMarks, HoldsUnsynced}
use Rattle.host_disk.specs.Names.{path_of}
use Rattle.host_disk.specs.Paths.{path_in}
use Rattle.host_disk.proofs.MarkLemmas.{file_of_index, holds_synced, noted_sync}
use Rattle.host_disk.proofs.host_folder.HostFolderFolder.sync.Goals as goal

pub invariant_of-self : goal.invariant_of-self
invariant_of-self c =
    let old = c.find.new.self in
    let this : FileId = c.at.result.now.file in
    let ok = sym c.is_ok.ensures.value ∙ c.if-is_ok.true in
    let is = file_of_index old.open_files old.open_files _ this refl c.at.ensures.file in
    let keeps = subst (λ (file : FileId). KeepsOtherMarks file old.open_files c.mark.new.self) is c.mark.ensures.marks in
    let holds : HoldsUnsynced c.mark.new.self (flushed this ∷ old.notes.record.events) = holds_synced old.open_files c.mark.new.self old.notes.record.events this keeps old.marked in
    record {
      kept = c.sync-answer.ensures.path ∙ noted_sync (λ (notes : List Event). path_of old.names ≡ path_in notes) c.sync-answer.result this old.notes.record.events c.sync-answer.new.notes.record.events ok c.sync-answer.ensures.noted old.kept;
      marked = noted_sync (HoldsUnsynced c.mark.new.self) c.sync-answer.result this old.notes.record.events c.sync-answer.new.notes.record.events ok c.sync-answer.ensures.noted holds;
    }
