use Rattle.std.proofs.Common.{◌≡◌, ◌≢◌, ◌<◌, refl, ap, subst, rules, arith, FitsSigned, w64}
use Rattle.std.proofs.lemmas.Int.{to_z-of_z}
use Rattle.archive_model.specs.declared.command.Command.TheVariants as commands
use Rattle.archive_model.specs.Register.{active_count, registered, with_one}
use Rattle.control_core.specs.Callers.{last_number}
use Rattle.control_core.specs.Changes.{desk_after}
use Rattle.control_core.specs.Seats.{DeskView}
use Rattle.control_core.proofs.KeptLemmas.{kept_begun}
use Rattle.control_core.proofs.OrderlyLemmas.{start_range}
use Rattle.control_core.proofs.AllowedLemmas.{below_last, room_of, start_few, start_lengths, start_next, start_session}
use Rattle.control_core.proofs.desk.Desk.begin.Goals as goal

pub add-requires-clause-layout : goal.add-requires-clause-layout
add-requires-clause-layout c =
    let lengths = start_lengths c.args.self.now.state c.args.fields c.requires.allowed in
    rw c.begun_with.ensures (record { term = lengths.0; segment = lengths.1 })

pub add-requires-clause-more : goal.add-requires-clause-more
add-requires-clause-more c =
    let register : c.self.inside.register.state ≡ c.args.self.now.state.register = ap (λ (v : DeskView). v.state.register) c.self.view_is in
    let fits : FitsSigned w64 c.next_recording-id.result = search rules in
    let next : c.next_recording-id.result ≡ c.self.inside.register.state.next = search rules in
    let other : c.self.inside.register.state.next ≢ last_number = rw register (start_next c.args.self.now.state c.args.fields c.requires.allowed) in
    below_last c.self.inside.register.state.next (subst (FitsSigned w64) next fits) other

pub open-requires-clause-more : goal.open-requires-clause-more
open-requires-clause-more c =
    let number : c.self.inside.sessions.next ≡ c.args.self.now.state.callers.next_session = ap (λ (v : DeskView). v.state.callers.next_session) c.self.view_is in
    rw number (start_session c.args.self.now.state c.args.fields c.requires.allowed)

pub overflow_add-self : goal.overflow_add-self
overflow_add-self c =
    let room = room_of c.args.self.now.state (commands.Start c.args.fields) refl c.requires.allowed in
    let counted : c.self.inside.counted ≡ c.args.self.now.state.counted = ap (λ (v : DeskView). v.state.counted) c.self.view_is in
    let limit : c.self.inside.limit ≡ c.args.self.now.state.limit = ap (λ (v : DeskView). v.state.limit) c.self.view_is in
    let below : c.self.inside.counted < c.self.inside.limit = rw (counted, limit) room in
    search (rules, arith)

pub invariant_of-self : goal.invariant_of-self
invariant_of-self c =
    let fits : FitsSigned w64 c.next_recording-id.result = search rules in
    let added : c.add.new.self.state ≡ with_one (registered c.next_recording-id.result c.args.fields) c.self.inside.register.state = search rules in
    let register : c.self.inside.register.state ≡ c.args.self.now.state.register = ap (λ (v : DeskView). v.state.register) c.self.view_is in
    let few : active_count c.self.inside.register.state < 64 = rw register (start_few c.args.self.now.state c.args.fields c.requires.allowed) in
    rw (added, c.open.ensures.values, c.open.ensures.next, to_z-of_z w64 c.next_recording-id.result fits, c.next_recording-id.ensures)
    (kept_begun c.self.inside.register.state _ c.args.fields (start_range c.args.self.now.state c.args.fields c.requires.allowed) few c.self.invariant)

pub returns : goal.returns
returns c =
    let fits : FitsSigned w64 c.next_recording-id.result = search rules in
    let added : c.add.new.self.state ≡ with_one (registered c.next_recording-id.result c.args.fields) c.self.inside.register.state = search rules in
    rw (added, c.open.ensures.values, c.open.ensures.next, to_z-of_z w64 c.next_recording-id.result fits, c.next_recording-id.ensures)
    (ap (λ (v : DeskView). desk_after v.state (commands.Start c.args.fields)) c.self.view_is)
