use Rattle.std.proofs.Common.{rules}
use Rattle.frame_core.specs.FrameEncoding.{frame_of}
use Rattle.archive_commands.proofs.StoredLemmas.{cut_off, ends_there, frame_passed, no_header}
use Rattle.archive_commands.proofs.stored.pass_next.Goals as goal

pub returns-then-ends_frames-clause-next : goal.returns-then-ends_frames-clause-next
returns-then-ends_frames-clause-next g c old loses = ends_there old _ c.args.header.now loses (search rules)

pub returns-in_default-clause-next : goal.returns-in_default-clause-next
returns-in_default-clause-next g c old loses = no_header old _ c.args.header.now loses (search rules) (search rules)

pub returns-then-has_stored-clause-next : goal.returns-then-has_stored-clause-next
returns-then-has_stored-clause-next g c old loses =
    frame_passed old _ _ c.args.header.now _ c.in_ok-passed.passed loses (search rules) (search rules) (search rules)

pub returns-else-has_stored-clause-next : goal.returns-else-has_stored-clause-next
returns-else-has_stored-clause-next g c old loses =
    cut_off old _ (g.R.Read.remaining c.skip.new.reader) c.args.header.now (frame_of c.in-Some.frame) c.in_ok-passed.passed loses (search rules) (search rules) (search rules) (search rules)
