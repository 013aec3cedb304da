-- The file was not synced or named.
use Rattle.host_disk.specs.ReadFolder.{folder_life}
use Rattle.folder_commands.specs.Left.{left_life}
use Rattle.folder_commands.proofs.ExportLemmas.{capture_lost}
use Rattle.folder_commands.proofs.capture.placed.Goals as goal

pub returns-in-Err-clause-failed : goal.returns-in-Err-clause-failed
returns-in-Err-clause-failed g c = capture_lost (folder_life c.args.disk.disk) c.args.recording.now c.args.span.now (left_life c.in_ok-left.left) _ c.in_ok-left.ensures.done c.in-Err.ensures
