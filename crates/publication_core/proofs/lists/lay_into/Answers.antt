use Rattle.std.proofs.Common.{◌≡◌, ◌∙◌, ◌-◌, ◌<◌, ◌++◌, slice_set, ◌∷◌, [], List, sym, ap, refl, false, true, arith}
use Rattle.std.proofs.lemmas.List.{set-get_or}
use Rattle.std.proofs.lemmas.Result.{on_ok_weaker}
use Rattle.frame_core.specs.FrameEncoding.{frame_of}
use Rattle.publication_core.specs.declared.datagram.Datagram.{Datagram}
use Rattle.publication_core.specs.Datagrams.{alone, laid}
use Rattle.publication_core.proofs.DatagramLemmas.{laid_after_last, laid_after_none, laid_in_last}
use Rattle.publication_core.proofs.lists.lay_into.Goals.{in-Some+else-has_room, in_default}
use Rattle.publication_core.proofs.lists.lay_into.Goals as goal

pub returns-then-has_room-clause-laid : goal.returns-then-has_room-clause-laid
returns-then-has_room-clause-laid c =
    let some = c.in-Some.ensures.variant.0 refl in
    on_ok_weaker c.add.result
    (λ added. rw added (laid_in_last c.args.geometry.now c.args.position (c.args.waiting.now.len - 1) (frame_of c.args.frame.now) c.args.waiting.now.items c.in-Some.last.now (omega (arith, some, c.args.waiting.now.ok)) c.in-Some.ensures.value (sym c.has_room.ensures ∙ c.if-has_room.true)))
    c.add.ensures.added

pub returns-clause-laid : goal.returns-clause-laid
returns-clause-laid c = rw (c.in_ok-push_back.ensures.items, c.in_ok-datagram.ensures) behind where
  behind : c.match-back_mut.waiting.items ++ alone c.args.position (frame_of c.args.frame.now) ∷ [] ≡ laid c.args.geometry.now c.args.position (frame_of c.args.frame.now) c.args.waiting.now.items
  behind = elim c.match-back_mut.branch [
    | in-Some+else-has_room w ↦
        let some = w.in-Some.ensures.variant.0 refl in
        rw w.waiting-is
        (ap (λ (ds : List Datagram). ds ++ alone c.args.position (frame_of c.args.frame.now) ∷ [])
        (ap (slice_set c.args.waiting.now.items (c.args.waiting.now.len - 1)) w.in-Some.ensures.value ∙ set-get_or c.args.waiting.now.items (c.args.waiting.now.len - 1) w.in-Some.last.now)
        ∙ laid_after_last c.args.geometry.now c.args.position (c.args.waiting.now.len - 1) (frame_of c.args.frame.now) c.args.waiting.now.items w.in-Some.last.now (omega (arith, some, c.args.waiting.now.ok)) w.in-Some.ensures.value (sym w.has_room.ensures ∙ w.if-has_room.false))
    | in_default w ↦
        let none : 0 < c.args.waiting.now.len → ⊥ = λ some. (let never : false ≡ true = w.in_default.ensures.variant.1 some in absurd (cc)) in
        rw w.waiting-is (laid_after_none c.args.geometry.now c.args.position (frame_of c.args.frame.now) c.args.waiting.now.items (omega (arith, none, c.args.waiting.now.ok)))
  ]
