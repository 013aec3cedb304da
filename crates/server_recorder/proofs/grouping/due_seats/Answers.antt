-- One seat more.
use Rattle.std.proofs.Common.{◌≡◌, ◌<◌, ◌∙◌, Bool, length, rules, ap}
use Rattle.std.specs.Prelude.{◌||◌}
use Rattle.std.proofs.lemmas.List.{length-set}
use Rattle.server_recorder.specs.Grouping.{has_seat, is_due_at}
use Rattle.server_recorder.specs.Settling.{is_due, session_at}
use Rattle.server_recorder.proofs.GroupingLemmas.{all_written, either_first, either_second, value_more}
use Rattle.server_recorder.proofs.grouping.due_seats.Goals.{then-taken, else-taken}
use Rattle.server_recorder.proofs.grouping.due_seats.Goals as goal

pub loop-seat-preserved : goal.loop-seat-preserved
loop-seat-preserved c =
    let l = c.loop-seat in
    let taken = c.args.taken.now in
    let s = c.args.settling.now in
    let test = is_due_at c.args.block_waits taken c.args.settling.now in
    let inside : l.seat < length l.due = search rules in
    let asked : c.if-taken.is_asked ≡ (taken.is_over || has_seat taken.asked l.seat) = elim c.if-taken.branch [
      | then-taken w ↦ either_first taken.is_over (has_seat taken.asked l.seat) c.if-taken.is_asked w.if-taken.true w.is_asked-is
      | else-taken w ↦ either_second taken.is_over (has_seat taken.asked l.seat) c.if-taken.is_asked w.if-taken.false w.is_asked-is
    ] in
    record {
      long = length-set l.due l.seat _ ∙ l.invariant.long;
      due = value_more test l.due l.seat c.is_due.result inside l.invariant.due (c.is_due.ensures ∙ ap (λ (asked : Bool). is_due s.every s.time c.args.block_waits asked (session_at l.seat s.sessions)) asked);
    }

pub returns : goal.returns
returns c =
    let l = c.loop-seat in
    let end : l.seat ≡ 64 = search rules in
    all_written (is_due_at c.args.block_waits c.args.taken.now c.args.settling.now) l.due l.seat 64 l.invariant.long end l.invariant.due
