use Rattle.std.proofs.Common.{rules, ◌≡◌}
use Rattle.std.specs.Fmt.{signed_decimal}
use Rattle.server_sender.proofs.LineLemmas.{parses_as}
use Rattle.server_sender.proofs.line.number_of.Goals as goal

pub returns-in_default : goal.returns-in_default
returns-in_default c = λ x fit e. c.in_default.not-Ok x (parses_as c.parse.result c.args.word.now x fit e c.parse.ensures.value.0)

pub returns-else-eq : goal.returns-else-eq
returns-else-eq c = λ x fit e.
    let read = parses_as c.parse.result c.args.word.now x fit e c.parse.ensures.value.0 in
    let same : c.in-Ok.value ≡ x = cc in
    let told : c.format.result.now ≡ signed_decimal c.in-Ok.value = search rules in
    search rules
