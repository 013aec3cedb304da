use Rattle.std.proofs.Common.{◌≡◌}
use Rattle.archive_model.specs.Commands.{restarted}
use Rattle.archive_model.proofs.RegisterLemmas.{first_made}
use Rattle.plain_book.proofs.recordings.restart_each.Given as goal

abbrev pub invariant-loop-recording : goal.invariant-loop-recording
invariant-loop-recording l = l.recording-items ≡ first_made restarted l.recording-index l.fn.recordings.items
