use Rattle.std.proofs.Common.{rules, ◌≡◌, subst, sym}
use Rattle.archive_model.specs.State.{recorded_position}
use Rattle.archive_model.specs.Replay.{polled, EndBy}
use Rattle.archive_model.proofs.ReplayLemmas.{polled_end}
use Rattle.plain_book.proofs.recording.Recording.poll.Goals as goal

pub returns-clause-ends : goal.returns-clause-ends
returns-clause-ends c =
    let given : c.from_vec.result ≡ polled c.args.next.now c.args.bound.now c.args.count c.args.self.now = search rules in
    subst (EndBy (recorded_position c.args.self.now)) (sym given) (polled_end c.args.next.now c.args.bound.now c.args.count c.args.self.now)
