-- The path of a folder, and a folder that is locked.
use Rattle.std.specs.Prelude.{ℕ, List, string_bytes}
use Rattle.host_disk.specs.declared.system.FolderPath.{FolderPath}
use Rattle.host_disk.specs.declared.system.Names.{Names}

-- the path's text, with a slash behind it
abbrev pub path_text : FolderPath → List ℕ
path_text path = string_bytes path.text

-- the path of a folder that is locked
abbrev pub path_of : Names → List ℕ
path_of names = path_text names.path
