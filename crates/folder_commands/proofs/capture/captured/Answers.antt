-- The file's name was not synced.
use Rattle.host_disk.specs.ReadFolder.{folder_life}
use Rattle.folder_commands.specs.Left.{left_life}
use Rattle.folder_commands.proofs.ExportLemmas.{capture_lost}
use Rattle.folder_commands.proofs.capture.captured.Goals as goal

pub returns-in-Err-synced-clause-failed : goal.returns-in-Err-synced-clause-failed
returns-in-Err-synced-clause-failed g c = capture_lost (folder_life c.args.disk.disk) c.args.recording.now c.args.span.now (left_life c.in-Ok.left) _ c.in-Ok.ensures.done c.in-Err-synced.ensures
