-- The files that an archive may have in a folder: docs/STORAGE.md, "Files".
use Rattle.std.specs.Prelude.{ℤ, pos, negsuc, ◌<◌, ◌^◌}
use Rattle.disk_core.specs.declared.file_id.FileId.{FileId}
use Rattle.disk_core.specs.declared.file_id.FileId.TheVariants.{BankA, BankB, Segment}

-- a number from 0 on, as long as an i64 has it
abbrev pub IsCount : ℤ → Type 0
IsCount (pos n) = n < 2 ^ 63
IsCount (negsuc n) = ⊥

-- no segment of an archive has a number below zero
abbrev pub IsArchiveFile : FileId → Type 0
IsArchiveFile BankA = Unit {0}
IsArchiveFile BankB = Unit {0}
IsArchiveFile (Segment recording base) = IsCount recording × IsCount base
