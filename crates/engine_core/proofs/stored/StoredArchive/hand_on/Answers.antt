use Rattle.std.proofs.Common.{rules, ◌≡◌, ◌∙◌, ◌<◌, ◌≤ℤ◌, ap, sym, subst, refl, None, Some, Ok, Err, pos, true}
use Rattle.std.proofs.Common.{ℤ, to_z, of_z, w64}
use Rattle.std.specs.Prelude.{IsSomeAnd, IsTrue, if◌then◌else◌, unsigned_abs}
use Rattle.engine_core.proofs.Words.{EngineState, RefusesPoll, geometry_of, layout_of, poll_decision, polled, polled_open, reads, state_of}
use Rattle.archive_model.specs.declared.reply.Reply.TheVariants.{Polled}
use Rattle.control_core.specs.declared.callers.OpenReplay.{OpenReplay}
use Rattle.control_core.specs.Turns.{held_back, is_done_at}
use Rattle.replay_core.specs.Poll.{AgreeOn, MovesTo}
use Rattle.control_core.specs.Changes.{after_poll}
use Rattle.control_core.specs.Exact.{poll_event}
use Rattle.recording_reads.specs.Handing.{HandsShown, TakesSome}
use Rattle.engine_core.specs.Calls.{AnswersEvent}
use Rattle.engine_core.specs.Handing.{HandsPolled}
use Rattle.engine_core.proofs.calls.KnownLemmas.{laid_found, laid_low, one_known, replay_recording}
use Rattle.engine_core.proofs.calls.PageLemmas.{agree_on, pages_read}
use Rattle.engine_core.proofs.files.WriteLemmas.{natural}
use Rattle.replay_core.specs.Pages.{kept}
use Rattle.engine_core.proofs.replays.HandLemmas.{given_held, poll_answers, refused_held, takes_none}
use Rattle.engine_core.proofs.replays.ReplayCallLemmas.{next_low, poll_refused, poll_unread, polled_on}
use Rattle.engine_core.proofs.replays.ReadLemmas.{given_read, poll_read}
use Rattle.engine_core.proofs.replays.ReplayLemmas.{tied_on}
use Rattle.recording_reads.specs.Reading.{GivesShown}
use Rattle.engine_core.specs.Shown.{PollsDecided}
use Rattle.engine_core.proofs.calls.ShownLemmas.{poll_refused_shown, polled_shown, unpolled}
use Rattle.engine_core.proofs.calls.KeepLemmas.{quiet_keeps, still_keeps}
use Rattle.engine_core.proofs.calls.TouchLemmas.{still_quiet}
use Rattle.engine_core.proofs.stored.StoredArchive.hand_on.Goals as goal

pub returns-in_err-reader-clause-handed : goal.returns-in_err-reader-clause-handed
returns-in_err-reader-clause-handed g c =
    let e = state_of g.D.Disk.life c.args.self.now in
    let poll = c.args.poll.now in
    let refusal = c.in_err-reader.field-0.0 in
    let decided = c.in_err-reader.ensures.decided in
    let is : c.from_residual.result ≡ Err refusal = search rules in
    let answers : AnswersEvent e e (poll_event poll.replay poll.max poll.limit) (Err refusal) =
    poll_answers e e poll.replay poll.max poll.limit (Err refusal) (poll_refused poll.replay poll.max poll.limit e refusal decided)
    (λ obeys. poll_refused_shown _ e.desk poll.replay poll.max poll.limit refusal _ decided) (still_quiet e.life) (refused_held poll.replay poll.max poll.limit refusal) (still_keeps e e.desk.register) in
    let takes = g.T.FrameTaker.takes in
    let leaves = g.T.FrameTaker.leaves in
    let taker = c.args.taker.now in
    subst (HandsPolled takes leaves taker taker (AnswersEvent e e (poll_event poll.replay poll.max poll.limit))) (sym is) (takes_none takes leaves taker, answers)

pub hand_frames-requires-clause-laid_out : goal.hand_frames-requires-clause-laid_out
hand_frames-requires-clause-laid_out g c = (laid_found c.args.self.now.desk.state c.in_ok-reader.reader.found.replay.recording c.in_ok-reader.reader.known.now c.in_ok-reader.ensures.keeps (sym c.in_ok-reader.ensures.found.known)).laid_out

pub hand_frames-requires-clause-from_start : goal.hand_frames-requires-clause-from_start
hand_frames-requires-clause-from_start g c =
    let desk = c.args.self.now.desk.state in
    let replay = c.in_ok-reader.reader.found.replay in
    let there = replay_recording desk c.args.poll.now.replay replay c.in_ok-reader.ensures.keeps (polled_open desk c.args.poll.now.replay c.args.poll.now.max c.args.poll.now.limit replay c.in_ok-reader.ensures.decided) in
    let known = c.in_ok-reader.reader.known.now in
    let same : there.0 ≡ known = one_known there.0 known (sym there.1 ∙ c.in_ok-reader.ensures.found.known) in
    subst (λ (h : OpenReplay). known.descriptor.start_position ≤ℤ h.next) (sym c.held_back-held.ensures) (subst (λ r. r.descriptor.start_position ≤ℤ replay.next) same there.2)

pub returns-in_err-next-clause-handed : goal.returns-in_err-next-clause-handed
returns-in_err-next-clause-handed g c =
    let life = g.D.Disk.life in
    let number = c.args.poll.now.replay in
    let most = c.args.poll.now.max in
    let limit = c.args.poll.now.limit in
    let refusal = c.in_err-next.field-0.0 in
    let replay = c.in_ok-reader.reader.found.replay in
    let held = held_back limit replay in
    let known = c.in_ok-reader.reader.known.now in
    let decided = c.in_ok-reader.ensures.decided in
    let desk = c.args.self.now.desk.state in
    let image = reads (life c.args.self.now.storage.disk).now in
    let quiet = c.hand_frames.ensures.quiet in
    let same : to_z w64 (of_z w64 most) ≡ most = search rules in
    let refuses : RefusesPoll (life c.hand_frames.new.disk).obeys image (layout_of known.descriptor) (geometry_of known.descriptor) known.recorded held.bound (unsigned_abs most) (unsigned_abs replay.next) refusal = search (rules, c.in_err-next.ensures.refused) in
    let old : EngineState = state_of life c.args.self.now in
    let new : EngineState = record old { life = life c.hand_frames.new.disk } in
    let answers : AnswersEvent old new (poll_event number most limit) (Err refusal) =
    poll_answers old new number most limit (Err refusal)
    (poll_unread number most limit old new replay known _ _ _ _ _ _ refusal quiet refl refl (g.met.D.Disk.reads_may_stay c.args.self.now.storage.disk) decided (sym c.in_ok-reader.ensures.found.known)
    (λ fault. c.in_err-next.ensures.cause (let is : refusal ≡ _ = cc in ap Err is)) refuses (λ r read at. poll_read _ _ known r read _ _ _ refusal at refuses))
    (λ obeys. polled_shown image desk number most limit replay known (Err refusal) decided c.in_ok-reader.ensures.found.known
    (unpolled image desk known held most refusal
    (subst (λ b. RefusesPoll b image (layout_of known.descriptor) (geometry_of known.descriptor) known.recorded held.bound (unsigned_abs most) (unsigned_abs replay.next) refusal) obeys refuses)))
    quiet (refused_held number most limit refusal) (quiet_keeps old new desk.register quiet refl refl) in
    let is : c.from_residual-in_err-next.result ≡ Err refusal = search rules in
    let left : TakesSome g.T.FrameTaker.takes g.T.FrameTaker.leaves c.args.taker.now c.hand_frames.new.taker = c.in_err-next.ensures.left in
    subst (HandsPolled g.T.FrameTaker.takes g.T.FrameTaker.leaves c.args.taker.now c.hand_frames.new.taker (AnswersEvent old new (poll_event number most limit))) (sym is) (left, answers)

pub move_replay-requires-clause-stands : goal.move_replay-requires-clause-stands
move_replay-requires-clause-stands g c = c.in_ok-reader.ensures.found.found.stands

pub move_replay-requires-clause-further : goal.move_replay-requires-clause-further
move_replay-requires-clause-further g c =
    let next = c.in_ok-next.next in
    let here : to_z w64 (of_z w64 next) ≡ next = search rules in
    let further = subst (λ (h : OpenReplay). h.next ≤ℤ next) c.held_back-held.ensures c.in_ok-next.ensures.moves.0 in
    subst (λ o. IsSomeAnd o (λ it. it.next ≤ℤ to_z w64 (of_z w64 next))) (sym c.in_ok-reader.ensures.found.found.replay) (subst (λ (z : ℤ). c.in_ok-reader.reader.found.replay.next ≤ℤ z) (sym here) further)

pub invariant_of-self-2 : goal.invariant_of-self-2
invariant_of-self-2 g c = record { tied = tied_on _ c.args.self.now.desk.state _ _ refl refl refl refl c.move_replay.ensures c.args.self.now.tied }

pub returns-clause-handed : goal.returns-clause-handed
returns-clause-handed g c =
    let life = g.D.Disk.life in
    let number = c.args.poll.now.replay in
    let most = c.args.poll.now.max in
    let limit = c.args.poll.now.limit in
    let replay = c.in_ok-reader.reader.found.replay in
    let held = held_back limit replay in
    let known = c.in_ok-reader.reader.known.now in
    let decided = c.in_ok-reader.ensures.decided in
    let found = c.in_ok-reader.ensures.found.known in
    let desk = c.args.self.now.desk.state in
    let image = reads (life c.args.self.now.storage.disk).now in
    let quiet = c.hand_frames.ensures.quiet in
    let next = c.in_ok-next.next in
    let here : to_z w64 (of_z w64 next) ≡ next = search rules in
    let same : to_z w64 (of_z w64 most) ≡ most = search rules in
    let is : c.held_back-held.result ≡ held = c.held_back-held.ensures in
    let after : c.move_replay.new.self.state ≡ after_poll number next desk = c.move_replay.ensures ∙ ap (λ (z : ℤ). after_poll number z desk) here in
    let handed = subst (λ (h : OpenReplay). HandsShown g.T.FrameTaker.takes c.args.taker.now c.hand_frames.new.taker (life c.hand_frames.new.disk).obeys image known h (to_z w64 (of_z w64 most)) next) is c.in_ok-next.ensures.handed in
    let moves = subst (λ (h : OpenReplay). (h.next ≤ℤ next) × (0 < unsigned_abs (to_z w64 (of_z w64 most)) → MovesTo known.recorded h.bound h.next next)) is c.in_ok-next.ensures.moves in
    let on : c.goes_on-goes.result ≡ (if is_done_at known replay.bound next then None else Some next) = c.goes_on-goes.ensures ∙ ap (λ n. if is_done_at known replay.bound n then None else Some n) here in (
      handed.frames,
      handed.taken,
      poll_answers _ _ number most limit (Ok (Polled handed.frames c.goes_on-goes.result))
          (polled_on number most limit _ _ next replay known _ _ quiet refl after (g.met.D.Disk.reads_may_stay c.args.self.now.storage.disk) decided (sym found)
          handed.next (λ some. moves.1 (subst (λ n. 0 < unsigned_abs n) (sym same) some)) on
          (λ r read at.
          let low : pos 0 ≤ℤ next = next_low number most limit desk replay known next c.in_ok-reader.ensures.keeps decided found moves.0 in
          let given = given_read _ _ known r read held _ next handed.frames at low (handed.shown read.obeys) in
          (given.0, given.1 ∙ ap (λ n. polled replay.next held.bound (unsigned_abs n) r) same)))
          (λ obeys. polled_shown image desk number most limit replay known _ decided found
          (unsigned_abs next, subst (λ n. GivesShown image known held n handed.frames (unsigned_abs next)) same (handed.shown obeys)))
          quiet (given_held number most limit replay.bound handed.frames _ handed.begin) (quiet_keeps _ _ _ quiet refl (ap (λ d. d.register) after)),
    )

pub hand_frames-requires-clause-agree : goal.hand_frames-requires-clause-agree
hand_frames-requires-clause-agree g c obeys frames =
    let desk = c.args.self.now.desk.state in
    let replay = c.in_ok-reader.reader.found.replay in
    let known = c.in_ok-reader.reader.known.now in
    let found = c.in_ok-reader.ensures.found.known in
    let keeps = c.in_ok-reader.ensures.keeps in
    let low = (laid_low known (laid_found desk replay.recording known keeps (sym found))).0 in
    let there = replay_recording desk c.args.poll.now.replay replay keeps (polled_open desk c.args.poll.now.replay c.args.poll.now.max c.args.poll.now.limit replay c.in_ok-reader.ensures.decided) in
    let same : there.0 ≡ known = one_known there.0 known (sym there.1 ∙ found) in
    let from : known.descriptor.start_position ≤ℤ replay.next = subst (λ r. r.descriptor.start_position ≤ℤ replay.next) same there.2 in
    let life = g.D.Disk.life c.args.self.now.storage.disk in
    let pages = kept c.args.pages.now in
    subst (λ (h : OpenReplay). AgreeOn (reads life.now) (layout_of known.descriptor) c.args.generation pages (unsigned_abs h.next) frames) (sym c.held_back-held.ensures)
    (agree_on life desk.register c.args.generation pages replay.recording known found c.requires.paged obeys frames (unsigned_abs replay.next)
    (natural known.descriptor.start_position replay.next low from))

pub returns-in_err-next-clause-paged : goal.returns-in_err-next-clause-paged
returns-in_err-next-clause-paged g c obeys =
    let life = g.D.Disk.life in
    let replay = c.in_ok-reader.reader.found.replay in
    let known = c.in_ok-reader.reader.known.now in
    pages_read (life c.args.self.now.storage.disk) (life c.hand_frames.new.disk) c.args.self.now.desk.state.register c.args.generation (kept c.args.pages.now) (kept c.hand_frames.new.pages) replay.recording known
    c.in_ok-reader.ensures.keeps.seats.rising c.in_ok-reader.ensures.found.known c.hand_frames.ensures.pages obeys c.requires.paged

pub returns-clause-paged : goal.returns-clause-paged
returns-clause-paged g c obeys =
    let life = g.D.Disk.life in
    let replay = c.in_ok-reader.reader.found.replay in
    let known = c.in_ok-reader.reader.known.now in
    pages_read (life c.args.self.now.storage.disk) (life c.hand_frames.new.disk) c.args.self.now.desk.state.register c.args.generation (kept c.args.pages.now) (kept c.hand_frames.new.pages) replay.recording known
    c.in_ok-reader.ensures.keeps.seats.rising c.in_ok-reader.ensures.found.known c.hand_frames.ensures.pages obeys c.requires.paged
