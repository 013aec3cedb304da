use Rattle.std.proofs.Common.{rules, ◌≡◌, ◌∙◌, ◌≤ℤ◌, ◌+ℤ◌, pos, List, ap, subst, drop, ◌+◌, arith}
use Rattle.std.proofs.lemmas.Int.{ints}
use Rattle.archive_model.specs.declared.registration.Registration.{Registration}
use Rattle.archive_model.specs.Keyed.{Rise}
use Rattle.archive_model.specs.Register.{RegisterState, id_of}
use Rattle.archive_model.proofs.CopyLemmas.{rise_le}
use Rattle.archive_model.proofs.ListLemmas.{rest_at}
use Rattle.archive_model.proofs.register.Register.copy.Goals as goal

-- the id of one that is left is below the last number, since the next id is none past it
pub add-requires-clause-more : goal.add-requires-clause-more
add-requires-clause-more c =
    let items = c.as_slice-recording-items.result.now in
    let index = c.loop-recording.recording-index in
    let item = c.recording-item.result in
    let left = subst (λ (rs : List Registration). Rise id_of c.loop-recording.copy.state.next rs c.args.self.now.state.next) (rest_at items index item c.loop-recording-test.true c.recording-item.is) c.loop-recording.invariant.left in
    let below : (id_of item +ℤ pos 1) ≤ℤ c.args.self.now.state.next = rise_le id_of (id_of item +ℤ pos 1) c.args.self.now.state.next (drop (index + 1) items) left.1 in
    let id : c.skip_to.new.self.state.next ≡ id_of item = ap (λ (s : RegisterState). s.next) c.skip_to.ensures ∙ ap id_of c.in_ok-known.ensures.same in
    let high : c.args.self.now.state.next ≤ℤ pos 9223372036854775807 = search rules in
    omega (arith, ints, below, id, high)
