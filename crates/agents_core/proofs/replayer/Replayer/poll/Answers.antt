use Rattle.std.proofs.Common.{◌≡◌, ◌∙◌, ◌&&◌, not, rules, inl, inr, w64, to_z, of_z, [], Ok, Err, None, Some, false, ap, refl, subst, sym}
use Rattle.std.proofs.lemmas.Int.{to_z-of_z}
use Rattle.control_core.specs.declared.event.Event.{Event}
use Rattle.control_core.specs.declared.event.Event.TheVariants.{ReplayPoll}
use Rattle.archive_lock.specs.History.{EndsWithAnswer}
use Rattle.recorder_seats.specs.Poll.{frames_of_reply}
use Rattle.recorder_seats.proofs.AnswerLemmas.{poll_told}
use Rattle.agents_core.specs.declared.replayer.Replayer.{Replayer}
use Rattle.agents_core.specs.Replayers.{MakesOnePoll, ReplayerRan}
use Rattle.agents_core.proofs.ReplayerLemmas.{both_so, goes_so, neither_so, one_polled, one_refused, turn_polled, turn_refused}
use Rattle.agents_core.proofs.replayer.Replayer.poll.Goals.{then-take, else-take}
use Rattle.agents_core.proofs.replayer.Replayer.poll.Goals as goal

pub polled-frames-requires : goal.polled-frames-requires
polled-frames-requires g c = poll_told g.D.Disk.life g.A.Naming.opening c.args.self.now.pass c.call.new.pass _ _ None (Ok c.in-Ok.reply) c.in-Ok.ensures.answers

pub returns-in-Ok-clause-ran : goal.returns-in-Ok-clause-ran
returns-in-Ok-clause-ran g c =
    let now = c.args.self.now in
    let before = c.args.before.value in
    let looked = c.requires.looked in
    let poll : ReplayPoll (to_z w64 (of_z w64 now.replay)) (to_z w64 (of_z w64 now.max)) ≡ ReplayPoll now.replay now.max = (λ i. ReplayPoll (to_z-of_z w64 now.replay (search rules) i) (to_z-of_z w64 now.max (search rules) i)) in
    let asked = poll_told g.D.Disk.life g.A.Naming.opening now.pass c.call.new.pass _ _ None (Ok c.in-Ok.reply) c.in-Ok.ensures.answers in
    let goes = goes_so c.in-Ok.reply c.take.result c.polled-frames.result.1 asked c.polled-frames.ensures.done in
    let is : c.take.result && not c.polled-frames.result.1 ≡ c.if-take.result = elim c.if-take.branch [
      | then-take w ↦ both_so c.take.result (not c.polled-frames.result.1) c.if-take.result w.if-take.true w.result-is
      | else-take w ↦ neither_so c.take.result (not c.polled-frames.result.1) c.if-take.result w.if-take.false w.result-is
    ] in
    let frames : c.as_slice.result.now ≡ frames_of_reply c.in-Ok.reply = (search rules) in
    let new : Replayer _ = record c.args.self.now { pass = c.call.new.pass; sink = c.take.new.self } in
    let ran = turn_polled g.K.FrameSink.takes g.D.Disk.life g.A.Naming.opening (record c.args.self.now { reader = c.args.before.value.reader; looked = c.args.before.value.looked }) new
    looked.position looked.kept looked.rises looked.seen refl refl refl c.call.ensures.pass.0 c.call.ensures.pass.1 looked.reader c.in-Ok.reply c.as_slice.result.now c.take.result _ (subst (λ (e : Event). EndsWithAnswer g.D.Disk.life g.A.Naming.opening now.pass e (Ok c.in-Ok.reply) c.call.new.pass) poll (c.in-Ok.ensures.answers tt)) frames c.take.ensures (goes ∙ is) refl in
    (None, subst (λ (old : Replayer _). ReplayerRan g.K.FrameSink.takes old new c.if-take.result None) (sym looked.rest) ran)

pub returns-clause-ran : goal.returns-clause-ran
returns-clause-ran g c =
    let now = c.args.self.now in
    let looked = c.requires.looked in
    let poll : ReplayPoll (to_z w64 (of_z w64 now.replay)) (to_z w64 (of_z w64 now.max)) ≡ ReplayPoll now.replay now.max = (λ i. ReplayPoll (to_z-of_z w64 now.replay (search rules) i) (to_z-of_z w64 now.max (search rules) i)) in
    let e = c.in-Err.ensures in
    let new : Replayer _ = record c.args.self.now { pass = c.call.new.pass; refused = Some c.in-Err.refusal } in
    let ran = turn_refused g.K.FrameSink.takes g.D.Disk.life g.A.Naming.opening (record c.args.self.now { reader = c.args.before.value.reader; looked = c.args.before.value.looked }) new
    looked.position looked.kept looked.rises looked.seen refl refl refl c.call.ensures.pass.0 c.call.ensures.pass.1 looked.reader c.in-Err.refusal (λ noted. subst (λ (e : Event). EndsWithAnswer g.D.Disk.life g.A.Naming.opening now.pass e (Err c.in-Err.refusal) c.call.new.pass) poll (e.answers noted)) (λ none. e.unnoted (ap Err none)) refl refl in
    (Some c.in-Err.refusal, subst (λ (old : Replayer _). ReplayerRan g.K.FrameSink.takes old new false (Some c.in-Err.refusal)) (sym looked.rest) ran)

pub returns-in-Ok-clause-one : goal.returns-in-Ok-clause-one
returns-in-Ok-clause-one g c =
    let new : Replayer _ = record c.args.self.now { pass = c.call.new.pass; sink = c.take.new.self } in
    subst (λ (old : Replayer _). MakesOnePoll old new) (sym c.requires.looked.rest) (inl (one_polled g.D.Disk.life g.A.Naming.opening _ _ _ _ (c.in-Ok.ensures.answers tt)))

pub returns-clause-one : goal.returns-clause-one
returns-clause-one g c =
    let e = c.in-Err.ensures in
    let new : Replayer _ = record c.args.self.now { pass = c.call.new.pass; refused = Some c.in-Err.refusal } in
    subst (λ (old : Replayer _). MakesOnePoll old new) (sym c.requires.looked.rest) (one_refused g.D.Disk.life g.A.Naming.opening _ _ _ c.in-Err.refusal e.answers (λ none. e.unnoted (ap Err none)))
