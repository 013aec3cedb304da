-- Under which path a folder is worked in.
use Rattle.std.specs.Prelude.{ℕ, List, [], ◌∷◌}
use Rattle.host_disk.specs.Events.{Event, locked}

-- the path of the folder that a call has locked
abbrev pub path_by : Event → List ℕ → List ℕ
path_by (locked path) earlier = path
path_by event earlier = earlier

-- the path of the folder that was locked last
abbrev pub path_in : List Event → List ℕ
path_in [] = []
path_in (event ∷ earlier) = path_by event (path_in earlier)
