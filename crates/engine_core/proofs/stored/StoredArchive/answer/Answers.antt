use Rattle.std.proofs.Common.{subst, sym}
use Rattle.engine_core.proofs.Words.{state_of}
use Rattle.control_core.specs.declared.event.Event.TheVariants as events
use Rattle.engine_core.specs.Calls.{AnswersEvent}
use Rattle.engine_core.proofs.stored.StoredArchive.answer.Goals as goal

pub returns-in-ReplayOpen-clause-answered : goal.returns-in-ReplayOpen-clause-answered
returns-in-ReplayOpen-clause-answered g c =
    let did = c.open_replay.ensures in
    subst (λ event. AnswersEvent (state_of g.D.Disk.life c.args.self.now) (state_of g.D.Disk.life c.open_replay.new.self) event c.open_replay.result) (sym c.in-ReplayOpen.is)
    (record { ends = did.ends; shows = did.shows; touches = did.quiet; held = tt; catalogue = did.catalogue })
