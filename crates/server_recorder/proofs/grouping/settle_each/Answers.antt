-- One seat more.
use Rattle.std.proofs.Common.{ℕ, List, ◌≡◌, ◌+◌, Option, true, false, rules, refl, sym, subst}
use Rattle.std.specs.Prelude.{filter}
use Rattle.std.specs.List.{range_with_len}
use Rattle.server_recorder.specs.declared.settling.Settling.{Settling}
use Rattle.server_recorder.specs.declared.settling.Written.{Written}
use Rattle.server_recorder.specs.Grouping.{has_seat}
use Rattle.server_recorder.specs.Seats.{SeatsView}
use Rattle.server_recorder.specs.Settles.{SettlesAlone, SettlesOne, SettlesSeats}
use Rattle.server_recorder.proofs.GroupingLemmas.{failing_more, passing_more}
use Rattle.server_recorder.proofs.SettlesLemmas.{settled_more, settles_more, written_paced}
use Rattle.server_recorder.proofs.grouping.settle_each.Goals.{then-due-seat, else-due-seat}
use Rattle.server_recorder.proofs.grouping.settle_each.Goals as goal

pub loop-seat-preserved : goal.loop-seat-preserved
loop-seat-preserved g c =
    let l = c.loop-seat in
    let test = has_seat c.args.due.now in
    let life = g.D.Disk.life in
    let opening = g.A.Naming.opening in
    let was = c.args.settling.now in
    let old = c.args.seats.now in
    let front : List ℕ = filter test (range_with_len 0 l.seat) in
    elim c.if-due-seat.branch [
      | then-due-seat w ↦
          let passes : test l.seat ≡ true = w.if-due-seat.true in
          let more = passing_more test l.seat front passes refl in
          let one = subst (λ (o : Option Written). SettlesOne life opening l.seat o l.seats w.settle_alone.result w.settle_alone.new.seats) (written_paced front l.seat was l.settling l.invariant.settled) w.settle_alone.ensures.calls in
          let each = settles_more life opening front l.seat was old l.seats w.settle_alone.new.seats w.settle_alone.result l.invariant.calls one in
          let settled = settled_more front l.seat was l.settling w.settle_alone.new.settling l.invariant.settled w.settle_alone.ensures.settled in
          record {
            calls = subst (λ (v : SeatsView). SettlesAlone life opening (filter test (range_with_len 0 (l.seat + 1))) was old v) (sym w.seats-is)
                (subst (λ (xs : List ℕ). SettlesAlone life opening xs was old w.settle_alone.new.seats) more each);
            settled = subst (λ (t : Settling). SettlesSeats (filter test (range_with_len 0 (l.seat + 1))) was t) (sym w.settling-is)
                (subst (λ (xs : List ℕ). SettlesSeats xs was w.settle_alone.new.settling) more settled);
          }
      | else-due-seat w ↦
          let fails : test l.seat ≡ false = w.if-due-seat.false in
          let more = failing_more test l.seat front fails refl in
          record {
            calls = subst (λ (v : SeatsView). SettlesAlone life opening (filter test (range_with_len 0 (l.seat + 1))) was old v) (sym w.seats-is)
                (subst (λ (xs : List ℕ). SettlesAlone life opening xs was old l.seats) more l.invariant.calls);
            settled = subst (λ (t : Settling). SettlesSeats (filter test (range_with_len 0 (l.seat + 1))) was t) (sym w.settling-is)
                (subst (λ (xs : List ℕ). SettlesSeats xs was l.settling) more l.invariant.settled);
          }
    ]

pub returns-clause-calls : goal.returns-clause-calls
returns-clause-calls g c =
    let l = c.before.loop-seat in
    let a = c.before.before.before.args in
    let end : l.seat ≡ 64 = search rules in
    subst (λ (k : ℕ). SettlesAlone g.D.Disk.life g.A.Naming.opening (filter (has_seat a.due.now) (range_with_len 0 k)) a.settling.now a.seats.now l.seats) end l.invariant.calls

pub returns-clause-settled : goal.returns-clause-settled
returns-clause-settled g c =
    let l = c.before.loop-seat in
    let a = c.before.before.before.args in
    let end : l.seat ≡ 64 = search rules in
    subst (λ (k : ℕ). SettlesSeats (filter (has_seat a.due.now) (range_with_len 0 k)) a.settling.now l.settling) end l.invariant.settled
