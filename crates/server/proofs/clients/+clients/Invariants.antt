use Rattle.std.proofs.Common.{◌+◌, ◌*◌}
use Rattle.server.proofs.clients.+clients.Given as goal

abbrev pub decreases-serve_clients : goal.decreases-serve_clients
decreases-serve_clients g l = 3 * l.passes.len + 1

abbrev pub decreases-serve_beside-scope : goal.decreases-serve_beside-scope
decreases-serve_beside-scope g l = 3 * l.rest.len + 2

abbrev pub decreases-serve_beside : goal.decreases-serve_beside
decreases-serve_beside g l = 3 * l.rest.len + 3
