-- What becomes of a disk whose server ended.
use Rattle.tool_core.specs.Archives.{archive_seen}
use Rattle.server.proofs.ServingLemmas.{served_back, served_early, stopped_back}
use Rattle.server.proofs.serving.serve_flushing.Goals as goal

pub returns-clause-served : goal.returns-clause-served
returns-clause-served g c =
    served_back g.D.Disk.life c.args.options.now.is_strict (g.D.Disk.life c.args.disk) (archive_seen g.D.Disk.life c.in-Ok-of_disk.found.0) c.in-Ok-of_disk.found.1 c.serve_archive-served.result.0 c.serve_archive-served.result.1 c.handed_back.result
    c.in-Ok-of_disk.ensures.begun c.serve_archive-served.ensures c.handed_back.ensures

pub returns-clause-stop : goal.returns-clause-stop
returns-clause-stop g c =
    stopped_back g.D.Disk.life c.args.options.now.is_strict (g.D.Disk.life c.args.disk) (archive_seen g.D.Disk.life c.in-Ok-of_disk.found.0) c.in-Ok-of_disk.found.1 c.serve_archive-served.result.0 c.serve_archive-served.result.1 c.handed_back.result
    c.in-Ok-of_disk.ensures.begun c.serve_archive-served.ensures c.handed_back.ensures

pub returns-clause-early : goal.returns-clause-early
returns-clause-early g c =
    served_early g.D.Disk.life c.args.options.now.is_strict (g.D.Disk.life c.args.disk) (archive_seen g.D.Disk.life c.in-Ok-of_disk.found.0) c.in-Ok-of_disk.found.1 c.serve_archive-served.result.0 c.serve_archive-served.result.1 c.handed_back.result
    c.in-Ok-of_disk.ensures.begun c.serve_archive-served.ensures c.handed_back.ensures
