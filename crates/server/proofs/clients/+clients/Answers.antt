-- What comes back from a thread is its pass, and so are the others.
use Rattle.std.proofs.Common.{◌≡◌, ◌∙◌, ◌++◌, ◌∷◌, [], List, arith, length, rules, sym, subst}
use Rattle.std.specs.Prelude.{vec_len}
use Rattle.call_history.specs.Values.{PassView}
use Rattle.archive_lock.specs.declared.history.Made.{Made}
use Rattle.server.specs.Clients.{AreBack, IsBack}
use Rattle.server.proofs.ClientLemmas.{all_before, back_length, back_more, back_moved, err_part, ok_part}
use Rattle.server.proofs.clients.+clients.Goals.{serve_beside-scope-in-Ok, serve_beside-scope-in-Err}
use Rattle.server.proofs.clients.+clients.Goals as goal

pub serve_clients-serve_beside-requires-clause-rest : goal.serve_clients-serve_beside-requires-clause-rest
serve_clients-serve_beside-requires-clause-rest g t c κs within = (all_before g.A.Naming.table c.args.passes.items c.pop.new.self.items c.in-Some.pass c.in-Some.ensures.items c.requires).0

pub serve_clients-serve_beside-requires-clause-pass : goal.serve_clients-serve_beside-requires-clause-pass
serve_clients-serve_beside-requires-clause-pass g t c κs within = (all_before g.A.Naming.table c.args.passes.items c.pop.new.self.items c.in-Some.pass c.in-Some.ensures.items c.requires).1

pub serve_beside-scope-push_reserved-requires : goal.serve_beside-scope-push_reserved-requires
serve_beside-scope-push_reserved-requires g t c =
    let same = back_length c.captures.rest.items c.serve_clients-passes.result.items c.serve_clients-passes.ensures.back in
    let old : vec_len c.captures.rest ≡ length c.captures.rest.items = search rules in
    let new : vec_len c.serve_clients-passes.result ≡ length c.serve_clients-passes.result.items = search rules in
    omega (arith, same, old, new, c.requires.room, c.serve_clients-passes.ensures.room)

pub serve_beside-scope-returns : goal.serve_beside-scope-returns
serve_beside-scope-returns g t c =
    let old = c.captures.pass in
    let new = c.match-serving.pass in
    let back : IsBack old new = elim c.match-serving.branch [
      | serve_beside-scope-in-Ok w ↦ back_moved w.in-Ok.thread.promise.pass.value old w.join-pass.result new ((λ i. (ok_part _ c.spawn_with-serving.result w.in-Ok.thread w.in-Ok.is c.spawn_with-serving.ensures.ok i).pass.value) ∙ c.of.ensures) w.pass-is w.join-pass.ensures
      | serve_beside-scope-in-Err w ↦ back_moved w.in-Err.refused.value.5 old w.spawn_with-pass.result new (λ i. (err_part _ c.spawn_with-serving.result w.in-Err.refused w.in-Err.is c.spawn_with-serving.ensures.err i).5) w.pass-is w.spawn_with-pass.ensures
    ] in
    record {
      back = subst (λ (ps : List (PassView Made)). AreBack (c.captures.rest.items ++ old ∷ []) ps) (sym c.push_reserved.ensures.items) (back_more c.captures.rest.items _ old new c.serve_clients-passes.ensures.back back);
      room = c.push_reserved.ensures.capacity ∙ c.serve_clients-passes.ensures.room;
    }
