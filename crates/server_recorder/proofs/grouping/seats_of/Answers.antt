-- One seat more.
use Rattle.std.proofs.Common.{ℕ, ◌≡◌, ◌∙◌, ◌++◌, [], ◌∷◌, true, false, rules, ap}
use Rattle.std.specs.Global.{Vec}
use Rattle.server_recorder.specs.Grouping.{has_seat}
use Rattle.server_recorder.proofs.GroupingLemmas.{all_tested, failing_more, passing_more, pushed}
use Rattle.server_recorder.proofs.grouping.seats_of.Goals.{then-seats-seat+in_ok-ok, else-seats-seat}
use Rattle.server_recorder.proofs.grouping.seats_of.Goals as goal

pub loop-seat-preserved : goal.loop-seat-preserved
loop-seat-preserved c =
    let l = c.loop-seat in
    let test = has_seat c.args.seats.now in
    elim c.if-seats-seat.branch [
      | then-seats-seat+in_ok-ok w ↦
          let items : c.if-seats-seat.numbers.items ≡ l.numbers.items ++ l.seat ∷ [] =
          ap (λ (v : Vec ℕ). v.items) w.numbers-is ∙ pushed w.push.result w.ok-then-seats-seat.result w.in_ok-ok.field-0 l.numbers.items w.push.new.self.items l.seat w.push.ensures.items w.ok-then-seats-seat.ensures.value w.in_ok-ok.was in
          let passes : test l.seat ≡ true = w.if-seats-seat.true in
          items ∙ passing_more test l.seat l.numbers.items passes l.invariant
      | else-seats-seat w ↦
          let items : c.if-seats-seat.numbers.items ≡ l.numbers.items = ap (λ (v : Vec ℕ). v.items) w.numbers-is in
          let fails : test l.seat ≡ false = w.if-seats-seat.false in
          items ∙ failing_more test l.seat l.numbers.items fails l.invariant
    ]

pub returns : goal.returns
returns c =
    let l = c.before.loop-seat in
    let end : l.seat ≡ 64 = search rules in
    all_tested (has_seat c.before.before.before.before.before.before.args.seats.now) l.numbers.items l.seat 64 end l.invariant
