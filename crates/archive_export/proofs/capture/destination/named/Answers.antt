use Rattle.std.proofs.Common.{rules, ◌≡◌, ◌+◌, ◌-◌, length, take, drop, length-drop, arith}
use Rattle.std.proofs.lemmas.List.{take_all}
use Rattle.std.specs.Prelude.{Some}
use Rattle.archive_export.proofs.capture.destination.named.Goals as goal

pub returns-in-Some : goal.returns-in-Some
returns-in-Some c =
    let text = c.args.endpoint.now in
    let behind = drop (c.in-Some.at + 1) text in
    let whole : take (length text - (c.in-Some.at + 1)) behind ≡ behind = take_all _ behind (omega (arith, length-drop (c.in-Some.at + 1) text)) in
    record {
      host = take c.in-Some.at text;
      port = Some behind;
      endpoint = search rules;
      address_is = search rules;
      port_is = rw whole at c.port_of.ensures;
    }
