-- What of a disk's segment files lies before an offset in one of them, of which a terminal shows the hundredths. docs/CONTROL.md,
-- "Standard error".
use Rattle.std.specs.Prelude.{◌≡◌, ◌+◌, ◌*◌, ◌/◌, ◌-◌, ◌^◌, ℕ, min, max, All, IsSome, List, [], ◌∷◌, length, map, if◌then◌else◌}
use Rattle.std.specs.Ordering.{is_eq}
use Rattle.disk_core.specs.declared.file_id.FileId.{FileId}
use Rattle.disk_core.specs.declared.file_id.FileId.TheVariants.{Segment}
use Rattle.disk_core.specs.DiskImage.{DiskImage, bytes_of}
use Rattle.disk_core.specs.FileNames.{AreFilesWith, file_cmp}
use Rattle.archive_commands.specs.declared.progress.ListedFile.{ListedFile}

-- the bytes of an image's segment file; a bank counts none
abbrev pub segment_bytes : DiskImage → FileId → ℕ
segment_bytes image (Segment recording base) = length (bytes_of (image (Segment recording base)))
segment_bytes image file = 0

-- these are the files of an image, in their order, with their bytes
pub record AreListed (image : DiskImage) (listed : List ListedFile) : Type 0 where
  pub files : AreFilesWith (λ file. IsSome (image file)) (map (λ (l : ListedFile). l.file) listed)
  pub lengths : All (λ (l : ListedFile). l.length ≡ segment_bytes image l.file) listed

-- the bytes of these files together
abbrev pub bytes_of_files : List ListedFile → ℕ
bytes_of_files [] = 0
bytes_of_files (listed ∷ files) = listed.length + bytes_of_files files

-- the bytes of the files before this one
abbrev pub bytes_before : FileId → List ListedFile → ℕ
bytes_before file [] = 0
bytes_before file (listed ∷ files) = if is_eq (file_cmp listed.file file) then 0 else listed.length + bytes_before file files

-- bytes, as far as a u64 counts them
abbrev pub counted : ℕ → ℕ
counted bytes = min bytes (2 ^ 64 - 1)

-- how many hundredths of a whole a part is, a hundred at most
abbrev pub hundredths : ℕ → ℕ → ℕ
hundredths part whole = min (part * 100 / max whole 1) 100
