-- Segment files that are flushed beside the archive: docs/SERVING.md, "When a frame is durable".
use Rattle.std.specs.Prelude.{◌≡◌, ◌++◌, ◌==◌, if◌then◌else◌, List, [], ◌∷◌, Option, None, Some, vec_len}
use Rattle.std.specs.Global.{Vec}
use Rattle.disk_core.specs.declared.file_id.FileId.{FileId}
use Rattle.server_recorder.specs.declared.flushing.Work.{Work}

-- the last of the files that wait is taken; none if none waits
abbrev pub TakesLast : List FileId → Option FileId → List FileId → Type 0
TakesLast old None new = (old ≡ []) × (new ≡ [])
TakesLast old (Some file) new = old ≡ new ++ file ∷ []

-- where a thread flushes, these files wait, and all of them are left; else nothing changes
abbrev pub given_files : Vec FileId → Work → Work
given_files files w = if w.threads == 0 then w else record w { files = files; left = vec_len files }
