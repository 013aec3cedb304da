-- What another opening of a folder, which is only read, is given.
use Rattle.std.proofs.Common.{◌≡◌, ◌∙◌, sym, ap, ℕ, ◌+◌, ◌-◌, ◌<◌, ◌≤◌, List, length, take, drop, get_or, arith, length-take, length-drop}
use Rattle.std.proofs.lemmas.List.{get_or_append_left, get_or-take, get_or-drop}
use Rattle.disk_core.specs.declared.file_id.FileId.{FileId}
use Rattle.disk_core.specs.DiskImage.{DiskImage, bytes_of}
use Rattle.disk_core.specs.Life.{Life, LeavesOnly}
use Rattle.disk_core.specs.Standing.{Holds}
use Rattle.host_disk.specs.OtherOpening.{IsLengthOfLeft, IsReadOfLeft}
use Rattle.host_disk.proofs.ReadLemmas.{agrees_says}

module _ (old new : Life) (file : FileId) (from : ℕ) (bytes : List ℕ) (only : LeavesOnly old new (λ (image : DiskImage). Holds (bytes_of (image file)) from bytes)) where
  -- a read that lies in bytes which every crash leaves gives these
  pub same_read : (at count : ℕ) (before after : List ℕ) → IsReadOfLeft old new file at count before after → from ≤ at → at + count ≤ from + length bytes
      → (k : ℕ) → k < count → get_or after k 0 ≡ get_or bytes (at - from + k) 0
  same_read at count before after read low high k inside =
      let all : List ℕ = bytes_of (read.image file) in
      let says = agrees_says all at count before after read.answers in
      let long : length (take count (drop at all)) ≡ count = omega (arith, length-take count (drop at all), length-drop at all, says.1) in
      let here : from + (at - from + k) ≡ at + k = omega (arith, low) in
      ap (λ (xs : List ℕ). get_or xs k 0) says.0
      ∙ get_or_append_left (take count (drop at all)) (drop count before) 0 k (omega (arith, long, inside))
      ∙ get_or-take count (drop at all) k 0 inside
      ∙ get_or-drop at all k 0
      ∙ sym (ap (λ (n : ℕ). get_or all n 0) here)
      ∙ (only.each read.image read.left (at - from + k) (omega (arith, low, high, inside))).1

  -- and some of them
  pub some_read : (at count : ℕ) (before after : List ℕ) → IsReadOfLeft old new file at count before after → from ≤ at → at < from + length bytes → 0 < length before → 0 < count
  some_read at count before after read low high some =
      let says = agrees_says (bytes_of (read.image file)) at count before after read.answers in
      let stands = (only.each read.image read.left (at - from) (omega (arith, low, high))).0 in
      omega (arith, says.2, stands, some, low)

  -- and a length reaches their end
  pub long_left : (count : ℕ) → IsLengthOfLeft old new file count → 0 < length bytes → from + length bytes ≤ count
  long_left count is some =
      let stands = (only.each is.image is.left (length bytes - 1) (omega (arith, some))).0 in
      omega (arith, is.is, stands, some)
