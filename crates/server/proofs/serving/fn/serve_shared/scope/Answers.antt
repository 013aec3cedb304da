-- The passes of clients come back from their threads.
use Rattle.std.proofs.Common.{◌≡◌, length, rules, arith}
use Rattle.std.specs.Prelude.{vec_len}
use Rattle.server.proofs.ClientLemmas.{back_clients, back_length}
use Rattle.server.proofs.serving.fn.serve_shared.scope.Goals as goal

pub into_passes-requires-2 : goal.into_passes-requires-2
into_passes-requires-2 g c =
    let old = c.captures.clients in
    let new = c.serve_clients-clients.result in
    let back = c.serve_clients-clients.ensures.back in
    let same = back_length old.items new.items back in
    let before : vec_len old ≡ length old.items = search rules in
    let after : vec_len new ≡ length new.items = search rules in
    record {
      clients = back_clients g.A.Naming.table g.A.Naming.passes old.items new.items back c.requires.clients;
      room = omega (arith, same, before, after, c.requires.room, c.serve_clients-clients.ensures.room);
    }
