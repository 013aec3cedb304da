-- There is room for the entry of a session that wrote something.
use Rattle.std.proofs.Common.{◌≡◌, ◌∷◌, pos, suc, drop, slice_index_or, subst}
use Rattle.std.proofs.Math.Seq.{drop-cons}
use Rattle.control_core.proofs.GroupLemmas.{HasRoomBehind, room_here}
use Rattle.control_core.proofs.desk.Desk.settle_each.Goals as goal

pub settle_found-requires : goal.settle_found-requires
settle_found-requires c = record {
  room = λ wrote.
      let d = c.loop-session.self.state in
      let xs = c.args.sessions.now in
      let i = c.loop-session.session-index in
      let next : drop i xs ≡ slice_index_or xs i (pos 0) ∷ drop (suc i) xs = drop-cons xs i (pos 0) c.loop-session-test.true in
      room_here d (slice_index_or xs i (pos 0)) (drop (suc i) xs) (subst (HasRoomBehind d) next c.loop-session.invariant.room) wrote;
}
