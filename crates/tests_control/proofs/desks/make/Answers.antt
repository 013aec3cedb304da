-- What was decided is allowed.
use Rattle.std.proofs.Common.{◌≡◌, Some, sym, ap}
use Rattle.control_core.specs.Decisions.{command_in, decision_of}
use Rattle.tests_control.proofs.desks.make.Goals as goal

pub accept-requires-clause-allowed : goal.accept-requires-clause-allowed
accept-requires-clause-allowed c =
    let leads : command_in (decision_of c.args.desk.now.state c.args.request.now) ≡ Some c.in-Accepted.command = ap command_in (sym c.in-Accepted.ensures.decided) in
    let allowed = c.what_is_decided_is_allowed.ensures c.args.desk.now.state c.args.request.now c.in-Accepted.command leads in
    rw c.reserve.ensures.state allowed
