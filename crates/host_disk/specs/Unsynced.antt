-- Which files have bytes that a crash may take, of those that an open file was written or cut by.
use Rattle.std.specs.Prelude.{◌≡◌, ◌≢◌, ◌⊎◌, List, [], ◌∷◌}
use Rattle.disk_core.specs.declared.file_id.FileId.{FileId}
use Rattle.host_disk.specs.Events.{Event, touched, gone, flushed}

-- the calls of the folder with their answers: that a file is to be written or cut is no call
abbrev pub calls_of : List Event → List Event
calls_of [] = []
calls_of (touched file ∷ earlier) = calls_of earlier
calls_of (event ∷ earlier) = event ∷ calls_of earlier

-- the file was to be written or cut since it was last synced or removed
abbrev pub HasUnsynced : List Event → FileId → Type 0
HasUnsynced [] file = ⊥
HasUnsynced (touched this ∷ earlier) file = (file ≡ this) ⊎ HasUnsynced earlier file
HasUnsynced (gone this ∷ earlier) file = (file ≢ this) × HasUnsynced earlier file
HasUnsynced (flushed this ∷ earlier) file = (file ≢ this) × HasUnsynced earlier file
HasUnsynced (event ∷ earlier) file = HasUnsynced earlier file
