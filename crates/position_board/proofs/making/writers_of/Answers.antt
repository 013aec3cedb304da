use Rattle.std.proofs.Common.{rules, arith, ◌∙◌, ap, pos}
use Rattle.std.proofs.lemmas.List.{length-map}
use Rattle.position_board.specs.Rule.{Known, writer_made}
use Rattle.position_board.proofs.SeatLemmas.{makes_writer_by, writers_made}
use Rattle.position_board.proofs.making.writers_of.Goals as goal

pub split_seat-own-requires : goal.split_seat-own-requires
split_seat-own-requires c =
    let long = length-map c.args.words.now pos in
    (search rules, omega arith, makes_writer_by _ _ _ _ c.loop-slot.invariant.1 (omega arith))

pub loop-slot-preserved : goal.loop-slot-preserved
loop-slot-preserved c =
    let long = length-map c.args.words.now pos in (
      search rules,
      c.split_seat-own.ensures.2 ∙ ap (λ (k : Known). (writer_made k.0, k.1)) c.loop-slot.invariant.1,
      writers_made _ _ _ _ _ _ _ _ (omega arith) c.loop-slot.invariant.2 c.loop-slot.invariant.1 c.split_seat-own.ensures.4 (search rules) c.in_ok-push.ensures.items,
    )
