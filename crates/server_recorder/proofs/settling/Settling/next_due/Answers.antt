use Rattle.std.proofs.Common.{◌<◌, length, rules}
use Rattle.server_recorder.specs.Settling.{is_overdue, later}
use Rattle.server_recorder.proofs.SettlingLemmas.{first_more}
use Rattle.server_recorder.proofs.settling.Settling.next_due.Goals as goal

pub loop-session-preserved : goal.loop-session-preserved
loop-session-preserved c =
    let s = c.args.self.now in
    let i = c.loop-session.session-index in
    let inside : i < length s.sessions = search rules in
    rw c.sooner-next.ensures (first_more (λ ms. is_overdue s.every (later ms s.time)) s.sessions i _ c.loop-session.next c.due_in.result inside c.loop-session.invariant c.due_in.ensures)
