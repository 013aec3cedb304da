use Rattle.std.proofs.Common.{rules, ◌≡◌}
use Rattle.server_sender.proofs.LineLemmas.{endpoint_parses, same_endpoint, socket_of}
use Rattle.server_sender.proofs.line.endpoint_of.Goals as goal

pub returns-in_default : goal.returns-in_default
returns-in_default c = λ x fit e. c.in_default.not-Ok _ (endpoint_parses c.parse.result c.args.word.now x fit e c.parse.ensures.value)

pub returns : goal.returns
returns c = λ x fit e.
    let read = endpoint_parses c.parse.result c.args.word.now x fit e c.parse.ensures.value in
    let is : c.in-Ok.address ≡ socket_of x = cc in
    let same = same_endpoint c.in-Ok.address x c.of-endpoint.result fit is c.of-endpoint.ensures in
    search rules
