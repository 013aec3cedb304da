-- One seat more.
use Rattle.std.proofs.Common.{◌≡◌, ◌<◌, ◌∙◌, length, rules}
use Rattle.std.proofs.lemmas.List.{length-set}
use Rattle.server_recorder.specs.Grouping.{has_seat, is_near_at, near_or_due}
use Rattle.server_recorder.proofs.GroupingLemmas.{all_written, either_first, either_second, value_more}
use Rattle.server_recorder.proofs.grouping.with_near.Goals.{then-due-seat, else-due-seat}
use Rattle.server_recorder.proofs.grouping.with_near.Goals as goal

pub loop-seat-preserved : goal.loop-seat-preserved
loop-seat-preserved c =
    let l = c.loop-seat in
    let test = near_or_due c.args.settling.now c.args.due.now in
    let inside : l.seat < length l.near = search rules in
    let is : c.if-due-seat.near ≡ test l.seat = elim c.if-due-seat.branch [
      | then-due-seat w ↦ either_first (has_seat c.args.due.now l.seat) (is_near_at c.args.settling.now l.seat) c.if-due-seat.near w.if-due-seat.true w.near-is
      | else-due-seat w ↦ either_second (has_seat c.args.due.now l.seat) (is_near_at c.args.settling.now l.seat) c.if-due-seat.near w.if-due-seat.false (w.near-is ∙ w.is_half_due.ensures)
    ] in
    record {
      long = length-set l.near l.seat _ ∙ l.invariant.long;
      near = value_more test l.near l.seat c.if-due-seat.near inside l.invariant.near is;
    }

pub returns : goal.returns
returns c =
    let l = c.loop-seat in
    let end : l.seat ≡ 64 = search rules in
    all_written (near_or_due c.args.settling.now c.args.due.now) l.near l.seat 64 l.invariant.long end l.invariant.near
