-- The names of files and their order: docs/STORAGE.md, "Files".
use Rattle.std.specs.Prelude.{ℕ, List, ◌∷◌, ◌++◌, codes, Contains, ◌↔◌}
use Rattle.std.specs.Ordering.{int_cmp, ordering_then}
use Rattle.std.specs.declared.cmp.Ordering.{Ordering}
use Rattle.std.specs.declared.cmp.Ordering.TheVariants.{Less, Equal, Greater}
use Rattle.std.specs.Fmt.{signed_decimal}
use Rattle.std.specs.List.Sorted.{IsStrictlySortedBy}
use Rattle.disk_core.specs.declared.file_id.FileId.{FileId}
use Rattle.disk_core.specs.declared.file_id.FileId.TheVariants.{BankA, BankB, Segment}

-- a file's name in a folder, as the bytes of its text; 45 is a hyphen
abbrev pub name_of : FileId → List ℕ
name_of BankA = codes "catalogue-a.bank"
name_of BankB = codes "catalogue-b.bank"
name_of (Segment recording base) =
    signed_decimal recording ++ (45 ∷ signed_decimal base) ++ codes ".rec"

-- the order of files: bank A, bank B, then the segments by recording and then by base
abbrev pub file_cmp : FileId → FileId → Ordering
file_cmp BankA BankA = Equal
file_cmp BankA BankB = Less
file_cmp BankA (Segment recording base) = Less
file_cmp BankB BankA = Greater
file_cmp BankB BankB = Equal
file_cmp BankB (Segment recording base) = Less
file_cmp (Segment recording base) BankA = Greater
file_cmp (Segment recording base) BankB = Greater
file_cmp (Segment recording base) (Segment other_recording other_base) =
    ordering_then (int_cmp recording other_recording) (int_cmp base other_base)

-- these are the files that have P, each once and in order
pub record AreFilesWith (P : FileId → Type 0) (files : List FileId) : Type 0 where
  pub in_order : IsStrictlySortedBy file_cmp files
  pub each : (file : FileId) → Contains files file ↔ P file
