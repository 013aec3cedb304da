-- The bytes of files are added up, one file after another.
use Rattle.std.proofs.Common.{◌≡◌, ◌∙◌, ◌+◌, ◌<◌, ◌≤◌, ap, refl, sym, Bool, true, false, ℕ, List, length, drop, slice_index_or, arith}
use Rattle.std.specs.Prelude.{if◌then◌else◌}
use Rattle.std.specs.declared.cmp.Ordering.{Ordering}
use Rattle.std.proofs.lemmas.List.{drop_all, drop_more}
use Rattle.std.specs.Ordering.{is_eq}
use Rattle.disk_core.specs.declared.file_id.FileId.{FileId}
use Rattle.disk_core.specs.FileNames.{file_cmp}
use Rattle.archive_commands.specs.declared.progress.ListedFile.{ListedFile}
use Rattle.archive_commands.specs.Progress.{bytes_before, bytes_of_files, counted}

counted_as : (total : ℕ) → total ≤ 18446744073709551615 → total ≡ counted (total + 0)
counted_as total fits = omega (arith, fits)

-- no file is left
pub in_all : (files : List ListedFile) (i total : ℕ) → length files ≤ i → total ≤ 18446744073709551615 → counted (total + bytes_of_files (drop i files)) ≡ counted (bytes_of_files files) → total ≡ counted (bytes_of_files files)
in_all files i total past fits so_far = counted_as total fits ∙ ap (λ fs. counted (total + bytes_of_files fs)) (sym (drop_all i files past)) ∙ so_far

pub before_all : (file : FileId) (files : List ListedFile) (i total : ℕ) → length files ≤ i → total ≤ 18446744073709551615 → counted (total + bytes_before file (drop i files)) ≡ counted (bytes_before file files) → total ≡ counted (bytes_before file files)
before_all file files i total past fits so_far = counted_as total fits ∙ ap (λ fs. counted (total + bytes_before file fs)) (sym (drop_all i files past)) ∙ so_far

-- the file comes next
pub before_here : (file : FileId) (files : List ListedFile) (i total : ℕ) (other : ListedFile) (order : Ordering) → i < length files → total ≤ 18446744073709551615 → order ≡ file_cmp (slice_index_or files i other).file file → is_eq order ≡ true
    → counted (total + bytes_before file (drop i files)) ≡ counted (bytes_before file files) → total ≡ counted (bytes_before file files)
before_here file files i total other order within fits ordered same so_far =
    counted_as total fits ∙ ap (λ n. counted (total + n)) (none (is_eq (file_cmp (slice_index_or files i other).file file)) (ap is_eq (sym ordered) ∙ same)) ∙ ap (λ fs. counted (total + bytes_before file fs)) (sym (drop_more files i other within)) ∙ so_far
  where
    none : (t : Bool) → t ≡ true → 0 ≡ (if t then 0 else (slice_index_or files i other).length + bytes_before file (drop (i + 1) files))
    none true is = refl
    none false is = absurd cc
