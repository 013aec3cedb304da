-- Totals of files, one file after another.
use Rattle.std.proofs.Common.{◌≡◌, ◌+◌, ◌<◌, ◌++◌, ◌∙◌, ℕ, Bool, true, false, List, [], ◌∷◌, ap, cond, get_or, length, refl, take, arith}
use Rattle.std.specs.Prelude.{if◌then◌else◌}
use Rattle.std.proofs.lemmas.List.{take_more}
use Rattle.std.proofs.lemmas.List.Sums.{sum_by_push}
use Rattle.disk_core.specs.declared.file_id.FileId.{FileId}
use Rattle.archive_report.specs.declared.summary.Measured.{Measured}
use Rattle.archive_report.specs.declared.summary.Total.{Total}
use Rattle.archive_report.specs.Files.{total_of, with_file}

abbrev total : ℕ → ℕ → Total
total files bytes = record { files = files; bytes = bytes }

same_total : (a b c d : ℕ) → a ≡ c → b ≡ d → total a b ≡ total c d
same_total a b c d files bytes = rw (files, bytes)

pub none_yet : (is_such : FileId → Bool) (t : Total) → t.files ≡ 0 → t.bytes ≡ 0 → t ≡ total_of is_such []
unfolding total_of
none_yet is_such t files bytes = same_total t.files t.bytes 0 0 files bytes

total_of-push : (is_such : FileId → Bool) (files : List Measured) (m : Measured) → total_of is_such (files ++ m ∷ []) ≡ with_file (is_such m.file) m.bytes (total_of is_such files)
unfolding total_of
total_of-push is_such files m = by (is_such m.file) refl
  where
    ones : Measured → ℕ
    ones = λ (x : Measured). cond (is_such x.file) 1 0

    bytes : Measured → ℕ
    bytes = λ (x : Measured). if is_such x.file then x.bytes else 0

    by : (t : Bool) → is_such m.file ≡ t → total_of is_such (files ++ m ∷ []) ≡ with_file t m.bytes (total_of is_such files)
    by true e = same_total _ _ _ _ (omega (arith, rw e at (sum_by_push ones files m))) (omega (arith, rw e at (sum_by_push bytes files m)))
    by false e = same_total _ _ _ _ (omega (arith, rw e at (sum_by_push ones files m))) (omega (arith, rw e at (sum_by_push bytes files m)))

pub total_of-more : (is_such : FileId → Bool) (files : List Measured) (i : ℕ) (d : Measured) → i < length files
    → total_of is_such (take (i + 1) files) ≡ with_file (is_such (get_or files i d).file) (get_or files i d).bytes (total_of is_such (take i files))
total_of-more is_such files i d within = ap (total_of is_such) (take_more files i d within) ∙ total_of-push is_such (take i files) (get_or files i d)
