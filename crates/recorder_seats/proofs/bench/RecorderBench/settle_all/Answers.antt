use Rattle.std.proofs.Common.{rules, subst}
use Rattle.std.specs.Prelude.{◌≡◌}
use Rattle.control_core.specs.declared.event.Event.TheVariants.{SettleAll}
use Rattle.archive_lock.specs.History.{EndsWithAnswer, IsNoted, LeadsToDesk}
use Rattle.archive_lock.specs.Standing.{standing_of}
use Rattle.recorder_seats.proofs.AnswerLemmas.{group_told}
use Rattle.recorder_seats.proofs.BenchLemmas.{together_raised, standing_together}
use Rattle.recorder_seats.proofs.bench.RecorderBench.settle_all.Goals as goal

pub settled_positions-answer-requires : goal.settled_positions-answer-requires
settled_positions-answer-requires g c = group_told g.D.Disk.life g.A.Naming.opening c.self.inside.pass c.call_with_standing-outcome.new.pass _ c.call_with_standing-outcome.result.0 c.call_with_standing-outcome.ensures.answers

pub invariant_of-self : goal.invariant_of-self
invariant_of-self g c =
    let answers = subst (λ sessions. IsNoted c.call_with_standing-outcome.result.0 → EndsWithAnswer g.D.Disk.life g.A.Naming.opening c.self.inside.pass (SettleAll sessions) c.call_with_standing-outcome.result.0 c.call_with_standing-outcome.new.pass) (search rules) c.call_with_standing-outcome.ensures.answers in
    together_raised g.D.Disk.life g.A.Naming.opening c.self.inside.pass c.call_with_standing-outcome.new.pass c.args.seats.now c.self.inside.seats.items c.raise_all_answered.new.seats.items c.settled_positions-answer.result c.call_with_standing-outcome.result.0 c.settled_positions-answer.ensures answers c.call_with_standing-outcome.ensures.unnoted c.self.invariant c.raise_all_answered.ensures.raised

pub returns-clause-standing : goal.returns-clause-standing
returns-clause-standing g c = standing_together c.call_with_standing-outcome.result.1 c.settled_positions-answer.result c.call_with_standing-outcome.result.0 (λ standing. LeadsToDesk g.A.Naming.opening c.call_with_standing-outcome.new.pass.seen (λ d. standing ≡ standing_of d)) c.settled_positions-answer.ensures c.call_with_standing-outcome.ensures.standing
