-- What the files of an archive are asked, of which only its catalogue was read before.
use Rattle.std.specs.Prelude.{◌≡◌, ◌⊎◌, Result, Ok, Err}
use Rattle.frame_core.specs.declared.refusal.Refusal.{Refusal}
use Rattle.frame_core.specs.declared.refusal.Refusal.TheVariants.{DeviceFault, NoMemory}
use Rattle.disk_core.specs.DiskImage.{DiskImage}
use Rattle.disk_core.specs.Life.{Life}
use Rattle.archive_view.specs.declared.read_only.ReadOnly.{ReadOnly}
use Rattle.archive_view.specs.declared.view.ArchiveView.{ArchiveView}
use Rattle.archive_view.specs.ReadOnly.{Looks, Refuses}
use Rattle.archive_view.specs.Viewed.{desk_of, read_of}

module _ {D : Type 0} (life : D → Life) {T : Type 0} (Seen : DiskImage → T → Type 0) where
  -- an answer was seen of what the disk reads as; or a fault of the disk, or want of memory, stands in its place
  abbrev pub Answers : ReadOnly D → ReadOnly D → Result T Refusal → Type 0
  Answers old new (Ok answer) = Looks life (λ image. Seen image answer) old new
  Answers old new (Err refusal) = Refuses life (λ image. Unit {0}) old new refusal × ((refusal ≡ DeviceFault) ⊎ (refusal ≡ NoMemory))

  -- the files were asked, and the view stays
  pub record HasAsked (old new : ArchiveView D) (result : Result T Refusal) : Type 0 where
    pub answers : Answers (read_of old) (read_of new) result
    pub desk : desk_of new ≡ desk_of old
