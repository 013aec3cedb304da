use Rattle.std.proofs.Common.{◌+◌, subst, sym, take, [], arith}
use Rattle.std.proofs.lemmas.List.{take_all}
use Rattle.engine_core.proofs.Words.{IsRun, seen}
use Rattle.engine_core.proofs.calls.RunLemmas.{run_next, run_none}
use Rattle.engine_core.proofs.engine.Engine.drive.Goals as goal

pub loop-event-init : goal.loop-event-init
loop-event-init g c =
    let e = seen g.D.Disk.life c.args.self.now in
    let none = c.in_ok-outcomes.ensures in (
      subst (λ outcomes. IsRun e [] outcomes e) (sym none.items) (run_none e),
      none.len,
      none.capacity,
    )

pub push_reserved-requires : goal.push_reserved-requires
push_reserved-requires g c = omega (arith, c.loop-event.invariant.1, c.loop-event.invariant.2, c.loop-event-test.true)

pub loop-event-preserved : goal.loop-event-preserved
loop-event-preserved g c =
    let old = seen g.D.Disk.life c.args.self.now in
    let mid = seen g.D.Disk.life c.loop-event.self in
    let new = seen g.D.Disk.life c.step-outcome.new.self in
    let pushed = c.push_reserved.ensures in
    let events = c.args.events.now in
    let i = c.loop-event.event-index in (
      subst (λ outcomes. IsRun old (take (i + 1) events) outcomes new) (sym pushed.items)
          (run_next old mid new events i c.event-item.result c.loop-event.outcomes.items c.step-outcome.result c.loop-event-test.true c.event-item.is c.loop-event.invariant.0 c.step-outcome.ensures.answered),
      omega (arith, pushed.len, c.loop-event.invariant.1),
      omega (arith, pushed.capacity, c.loop-event.invariant.2),
    )

pub returns-clause-ran : goal.returns-clause-ran
returns-clause-ran g c =
    let old = seen g.D.Disk.life c.args.self.now in
    let new = seen g.D.Disk.life c.loop-event.self in
    let events = c.args.events.now in
    let i = c.loop-event.event-index in
    subst (λ es. IsRun old es c.loop-event.outcomes.items new) (take_all i events c.loop-event-test.false) c.loop-event.invariant.0
