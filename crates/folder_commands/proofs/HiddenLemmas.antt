-- What a look past the closed gate of a folder's catalogue saw.
use Rattle.std.proofs.Common.{◌≡◌, ◌∙◌, IsTrue, ap, subst, Some}
use Rattle.disk_core.specs.declared.file_id.FileId.{FileId}
use Rattle.disk_core.specs.DiskImage.{reads}
use Rattle.disk_core.specs.Life.{Life}
use Rattle.host_disk.specs.declared.read_folder.ReadFolder.{ReadFolder}
use Rattle.host_disk.specs.Events.{Given}
use Rattle.host_disk.specs.ReadFolder.{folder_life}
use Rattle.host_disk.specs.Replay.{life_from}
use Rattle.catalogue_log.specs.declared.hidden.Hidden.{Hidden}
use Rattle.archive_view.specs.declared.read_only.ReadOnly.{ReadOnly}
use Rattle.archive_view.specs.declared.view.ArchiveView.{ArchiveView}
use Rattle.archive_view.specs.Hidden.{TellsHiddenEntry}
use Rattle.archive_view.specs.ReadOnly.{Looks, disk_of}
use Rattle.archive_view.specs.View.{IsAsCatalogued}
use Rattle.archive_view.specs.Viewed.{desk_of, log_of, read_of}
use Rattle.folder_commands.specs.Hidden.{MayHideEntries}

module _ (given : Given) (disk : ReadOnly ReadFolder) (opened : ArchiveView ReadFolder) (last : ReadOnly ReadFolder) (h : Hidden) (looked : Life) (begun : folder_life (disk_of disk) ≡ life_from given) (closed : looked ≡ folder_life (disk_of last))
    (viewed : Looks folder_life (λ image. IsAsCatalogued image (desk_of opened) (log_of opened)) disk (read_of opened))
    (found : Looks folder_life (λ image. TellsHiddenEntry image (desk_of opened).register (log_of opened) (Some h)) (read_of opened) last) where
  first : (file : FileId) → reads (folder_life (disk_of (read_of opened))).now file ≡ reads (life_from given).now file
  first file = viewed.inside.same file ∙ ap (λ (l : Life). reads l.now file) begun

  seen_obeys : IsTrue looked.obeys → IsTrue (folder_life (disk_of last)).obeys
  seen_obeys = subst (λ (l : Life). IsTrue l.obeys) closed

  pub may_hide : MayHideEntries given looked
  may_hide = record {
    same = λ file. ap (λ (l : Life). reads l.now file) closed ∙ found.inside.same file ∙ first file;
    hides = λ obeys. record {
      desk = desk_of opened;
      log = log_of opened;
      hidden = h;
      catalogued = subst (λ (l : Life). IsAsCatalogued (reads l.now) (desk_of opened) (log_of opened)) begun (viewed.seen (found.inside.obeyed (seen_obeys obeys)));
      later = reads (folder_life (disk_of (read_of opened))).now;
      same = first;
      stands = found.seen (seen_obeys obeys);
    };
  }
