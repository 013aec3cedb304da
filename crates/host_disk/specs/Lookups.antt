-- Which file was found.
use Rattle.std.specs.Prelude.{◌≡◌}
use Rattle.disk_core.specs.declared.file_id.FileId.{FileId}
use Rattle.host_disk.specs.declared.system.Found.{Found}
use Rattle.host_disk.specs.declared.system.Found.TheVariants.{There, Missing}

-- this file was found, open or absent
abbrev pub IsFoundOf : FileId → Found → Type 0
IsFoundOf file (There opened) = opened.file ≡ file
IsFoundOf file (Missing absent) = absent.file ≡ file
