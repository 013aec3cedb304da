use Rattle.std.proofs.Common.{rules, ◌≡◌, ◌∙◌, sym, ap, subst, Ok, Err}
use Rattle.archive_model.specs.declared.reply.Reply.TheVariants.{Polled}
use Rattle.control_core.specs.Exact.{poll_event}
use Rattle.engine_core.specs.Calls.{AnswersEvent}
use Rattle.engine_core.specs.Seen.{state_of}
use Rattle.engine_core.proofs.replays.HandLemmas.{all_taken}
use Rattle.engine_core.proofs.stored.StoredArchive.poll.Goals as goal

pub returns-in_err-next-clause-answered : goal.returns-in_err-next-clause-answered
returns-in_err-next-clause-answered g c =
    let life = g.D.Disk.life in
    let poll = c.args.poll.now in
    let is : c.from_residual.result ≡ Err c.in_err-next.field-0.0 = search rules in
    subst (AnswersEvent (state_of life c.args.self.now) (state_of life c.hand_on.new.self) (poll_event poll.replay poll.max poll.limit)) (sym is) c.in_err-next.ensures.handed.1

pub returns-clause-answered : goal.returns-clause-answered
returns-clause-answered g c =
    let life = g.D.Disk.life in
    let poll = c.args.poll.now in
    let handed = c.in_ok-next.ensures.handed in
    let next = c.in_ok-next.next in
    let are : c.hand_on.new.taker.frames.items ≡ handed.0 = all_taken handed.0 _ _ handed.1 c.new.ensures.items in
    let given : c.from_vec.result ≡ handed.0 = search (rules, are) in
    subst (λ frames. AnswersEvent (state_of life c.args.self.now) (state_of life c.hand_on.new.self) (poll_event poll.replay poll.max poll.limit) (Ok (Polled frames next))) (sym given) handed.2
