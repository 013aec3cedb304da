use Rattle.std.proofs.Common.{◌≡◌, ◌∙◌, rules, w64, to_z, of_z, Ok, Some, subst, sym}
use Rattle.std.proofs.lemmas.Int.{to_z-of_z}
use Rattle.control_core.specs.declared.event.Event.{Event}
use Rattle.control_core.specs.declared.event.Event.TheVariants.{ReplayPollTo}
use Rattle.position_board.specs.Positions.{seen_at}
use Rattle.archive_lock.specs.History.{EndsWithAnswer}
use Rattle.recorder_seats.proofs.AnswerLemmas.{poll_told}
use Rattle.recorder_seats.proofs.BoundedLemmas.{before_limit, turn_answer}
use Rattle.recorder_seats.proofs.bounded.BoundedReplayer.turn.Goals as goal

pub polled-frames-requires : goal.polled-frames-requires
polled-frames-requires g c = poll_told g.D.Disk.life g.A.Naming.opening c.self.inside.pass c.call.new.pass _ _ (Some _) (Ok c.in_ok-call.field-0) c.in_ok-call.ensures.answers

pub returns-clause-answers : goal.returns-clause-answers
returns-clause-answers g c =
    let b = c.self.inside in
    let reply = c.in_ok-call.field-0 in
    let seen : to_z w64 (of_z w64 c.look-seen.result) ≡ seen_at b.slot c.look-seen.new.reader = to_z-of_z w64 c.look-seen.result (search rules) ∙ sym c.look-seen.ensures.now in
    let poll : ReplayPollTo (to_z w64 (of_z w64 b.replay)) (to_z w64 (of_z w64 c.args.max)) (to_z w64 (of_z w64 c.look-seen.result)) ≡ ReplayPollTo b.replay c.args.max (seen_at b.slot c.look-seen.new.reader) =
    (λ i. ReplayPollTo (to_z-of_z w64 b.replay (search rules) i) (to_z-of_z w64 c.args.max (search rules) i) (seen i)) in
    rw (← c.self.view_is) (turn_answer g.D.Disk.life g.A.Naming.opening b.pass c.call.new.pass b.replay c.args.max (seen_at b.slot c.look-seen.new.reader) reply (record { seen = to_z w64 (of_z w64 c.look-seen.result); frames = c.polled-frames.result.0; ended = c.polled-frames.result.1 })
    (λ noted. subst (λ (e : Event). EndsWithAnswer g.D.Disk.life g.A.Naming.opening b.pass e (Ok reply) c.call.new.pass) poll (c.in_ok-call.ensures.answers noted)) c.polled-frames.ensures.frames c.polled-frames.ensures.done)

pub returns-clause-before : goal.returns-clause-before
returns-clause-before g c =
    let reply = c.in_ok-call.field-0 in
    before_limit (to_z w64 (of_z w64 c.self.inside.replay)) (to_z w64 (of_z w64 c.args.max)) (to_z w64 (of_z w64 c.look-seen.result)) reply c.polled-frames.result.0 (poll_told g.D.Disk.life g.A.Naming.opening c.self.inside.pass c.call.new.pass _ _ (Some _) (Ok reply) c.in_ok-call.ensures.answers) c.in_ok-call.ensures.held c.polled-frames.ensures.frames
