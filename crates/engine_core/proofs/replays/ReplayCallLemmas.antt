-- Calls of replays and the verification of a recording, each as it answers.
use Rattle.std.proofs.Common.{rules, ◌≡◌, ◌∙◌, ◌&&◌, ◌<◌, inl, inr, sym, ap, subst, refl, ℕ, ℤ, pos, Bool, true, false, IsTrue, List, Option, None, Some, int_le, ◌≤ℤ◌, arith}
use Rattle.std.proofs.lemmas.Int.{ints}
use Rattle.std.specs.Prelude.{IsErrOf, Result, Ok, Err, is_none, length, if◌then◌else◌, unsigned_abs}
use Rattle.engine_core.proofs.Words.{Content, Damaged, DeskState, DeviceFault, DiskImage, EndsEvent, EngineState, Geometry, HasFailed, IsAtBoundary, IsOutside, IsQuiet, KeepsDesk, Layout, MayLeave, NoMemory, OpenReplay, Outcome, PolledFrame, Recording, RecordingIsRead, Refusal, RefusesCount, RefusesPoll, Registration, Reply, Stepped, Written, archive_of, both, call_is_allowed, change, checked, checks, found_number, held, is_boundary, open_replay_in, passes, poll_decision, polled, polled_open, reads, recording_at, registration_in, replay_number, with_desk}
use Rattle.replay_core.specs.Poll.{MovesTo}
use Rattle.archive_model.specs.declared.reply.Reply.TheVariants as replies
use Rattle.archive_model.specs.Keyed.{without}
use Rattle.archive_model.proofs.StateLemmas.{each_without}
use Rattle.control_core.specs.declared.asked.Asked.TheVariants as calls
use Rattle.control_core.specs.declared.asked.Told.TheVariants as told
use Rattle.control_core.specs.declared.event.Event.TheVariants as events
use Rattle.control_core.specs.ByDecision.{PollsBy, VerifiesBy}
use Rattle.control_core.specs.Callers.{moved_to}
use Rattle.control_core.specs.Changes.{after_close, after_poll}
use Rattle.control_core.specs.Exact.{frames_end, frames_of_one, from_position, goes_on, plain_poll, poll_event}
use Rattle.control_core.specs.Machine.{GivesFrames, MovesReplay}
use Rattle.control_core.specs.Turns.{close_decision, close_tests, held_back, held_to, is_done_at, is_limit, verify_tests}
use Rattle.control_core.proofs.DeskLemmas.{keeps_closed, keeps_moved}
use Rattle.control_core.proofs.StepLemmas.{poll_step, verify_step}
use Rattle.engine_core.proofs.calls.EndedLemmas.{quiet_life}
use Rattle.engine_core.proofs.calls.KnownLemmas.{laid_found, one_known, read_known, replay_recording}
use Rattle.engine_core.proofs.replays.ReplayLemmas.{answer_no_fault, checked_err, checked_ok, keeps_poll, leaves_refused, leaves_told, moved_at, no_content, open_at, outside_read, poll_no_fault, poll_passes, poll_renews_nothing, poll_sweeps_nothing, polled_ends, polling_refused, reads_on, reads_only, reads_poll, steps_poll}

-- ---- a replay is closed

pub close_refused : (old : EngineState) (number : ℤ) (refusal : Refusal) → close_decision old.desk number ≡ Err refusal → EndsEvent old old (events.ReplayClose number) (Err refusal)
close_refused old number refusal decided =
    let left = λ (c : Content). leaves_refused (archive_of old c) (with_desk (after_close number old.desk) (archive_of old c)) (close_decision old.desk number) refusal decided in
    reads_only old old (events.ReplayClose number) (Err refusal) (quiet_life old.life) refl refl (λ is. absurd cc) refl (λ fault. absurd (answer_no_fault (close_tests old.desk number) replies.Closed refusal decided fault))
    (call_is_allowed (archive_of old no_content) (events.ReplayClose number) (Err refusal) (archive_of old no_content) (λ poll. absurd cc) (inl (left no_content)))
    (λ c was. ((λ reading. inl (left c)), tt))

pub closed : (old new : EngineState) (number : ℤ) → IsQuiet old.life new.life → new.log ≡ old.log → new.desk ≡ after_close number old.desk → close_decision old.desk number ≡ Ok replies.Closed → EndsEvent old new (events.ReplayClose number) (Ok replies.Closed)
closed old new number quiet log desk decided =
    let left = λ (c : Content). leaves_told (archive_of old c) (with_desk (after_close number old.desk) (archive_of old c)) (close_decision old.desk number) replies.Closed decided in
    reads_on old new (events.ReplayClose number) replies.Closed (without replay_number number old.desk.callers.replays) old.desk.callers.next_replay quiet log desk (λ is. absurd cc) refl
    (call_is_allowed (archive_of old no_content) (events.ReplayClose number) (Ok replies.Closed) (with_desk (after_close number old.desk) (archive_of old no_content)) (λ poll. absurd cc) (left no_content))
    (keeps_closed old.desk.register old.desk.callers number)
    (λ c was obeys. each_without replay_number (IsAtBoundary c.state) number old.desk.callers.replays (was.boundaries (quiet.obeyed obeys)))
    (λ c was. ((λ reading. left c), tt))

-- ---- a recording is verified

abbrev pub decided_verify : DeskState → ℤ → Result (Unit {0}) Refusal
decided_verify d id = checked (verify_tests d id) checks (Ok tt)

pub verify_refused : (old : EngineState) (id : ℤ) (refusal : Refusal) → decided_verify old.desk id ≡ Err refusal → EndsEvent old old (events.Verify id) (Err refusal)
verify_refused old id refusal decided =
    reads_only old old (events.Verify id) (Err refusal) (quiet_life old.life) refl refl (λ is. absurd cc) refl (λ fault. absurd (answer_no_fault (verify_tests old.desk id) tt refusal decided fault))
    (inl (verify_step old.desk id (Err refusal) old.desk (subst (λ (x : Result (Unit {0}) Refusal). VerifiesBy old.desk x (Err refusal) old.desk) (sym decided) (refl, refl))))
    (λ c was.
    let a = archive_of old c in
    let exact = leaves_refused a a _ refusal (checked_err (verify_tests old.desk id) checks tt (Ok (replies.Verified (frames_of_one (recording_at a id)))) refusal decided) in
    ((λ reading. inl exact), refl))

-- whatever the files hold, frames that are not counted are not read
verify_stepped : (d : DeskState) (id : ℤ) (obeys : Bool) (image : DiskImage) (g : Registration) (refusal : Refusal) → decided_verify d id ≡ Ok tt → RefusesCount obeys image g refusal → Stepped d (calls.Verify id) (Err refusal) d
verify_stepped d id obeys image g refusal decided refuses = by refusal refuses
  where
    step : (o : Outcome) → VerifiesBy d (Ok tt) o d → VerifiesBy d (decided_verify d id) o d
    step o verifies = subst (λ (x : Result (Unit {0}) Refusal). VerifiesBy d x o d) (sym decided) verifies

    by : (r : Refusal) → RefusesCount obeys image g r → Stepped d (calls.Verify id) (Err r) d
    by DeviceFault refuses = inl (verify_step d id (Err DeviceFault) d (step (Err DeviceFault) (inr (inl (refl, refl)))))
    by NoMemory refuses = inr refl
    by (Damaged recording at) refuses = inl (verify_step d id (Err (Damaged recording at)) d (step (Err (Damaged recording at)) (inr (inr (recording, at, (refl, refl))))))
    by r refuses = absurd refuses

pub verify_unread : (old new : EngineState) (id : ℤ) (g : Registration) (refusal : Refusal) → IsQuiet old.life new.life → new.log ≡ old.log → new.desk ≡ old.desk → MayLeave old.life.now (reads old.life.now) → decided_verify old.desk id ≡ Ok tt
    → Some g ≡ registration_in old.desk.register id → (IsErrOf {T = Reply} (Err refusal) DeviceFault → HasFailed old.life new.life) → RefusesCount new.life.obeys (reads old.life.now) g refusal → ((r : Recording) → RecordingIsRead old.life new.life g r → IsOutside refusal)
    → EndsEvent old new (events.Verify id) (Err refusal)
verify_unread old new id g refusal quiet log desk stays decided known cause refuses outside =
    let passed : passes (verify_tests old.desk id) checks ≡ true = (held (verify_tests old.desk id) checks tt tt decided).0 in
    reads_only old new (events.Verify id) (Err refusal) quiet log desk (λ is. absurd cc) refl cause (verify_stepped old.desk id new.life.obeys (reads old.life.now) g refusal decided refuses)
    (λ c was. (
      (λ reading.
          let read = read_known old.life new.life old.log (archive_of old c) id g stays was known (reading passed) in
          outside_read (archive_of old c) (events.Verify id) (HasFailed old.life new.life) refusal (outside read.0 read.2) (λ fault. (cause (ap Err fault), passed))),
      refl,
    ))

pub verified : (old new : EngineState) (id : ℤ) (g : Registration) (count : ℤ) → IsQuiet old.life new.life → new.log ≡ old.log → new.desk ≡ old.desk → MayLeave old.life.now (reads old.life.now) → decided_verify old.desk id ≡ Ok tt → Some g ≡ registration_in old.desk.register id
    → ((r : Recording) → RecordingIsRead old.life new.life g r → count ≡ pos (length r.frames)) → EndsEvent old new (events.Verify id) (Ok (replies.Verified count))
verified old new id g count quiet log desk stays decided known counts =
    let reply = replies.Verified count in
    let passed : passes (verify_tests old.desk id) checks ≡ true = (held (verify_tests old.desk id) checks tt tt decided).0 in
    reads_only old new (events.Verify id) (Ok reply) quiet log desk (λ is. absurd cc) refl (λ fault. absurd cc)
    (verify_step old.desk id (Ok (told.Reply reply)) old.desk (subst (λ (x : Result (Unit {0}) Refusal). VerifiesBy old.desk x (Ok (told.Reply reply)) old.desk) (sym decided) (inl (count, (refl, refl)))))
    (λ c was. (
      (λ reading.
          let a = archive_of old c in
          let read = read_known old.life new.life old.log a id g stays was known (reading passed) in
          let exact = checked_ok (verify_tests old.desk id) checks tt tt (Ok (replies.Verified (frames_of_one (recording_at a id)))) decided in
          let same : replies.Verified (frames_of_one (recording_at a id)) ≡ reply = ap (λ (o : Option Recording). replies.Verified (frames_of_one o)) read.1 ∙ ap replies.Verified (sym (counts read.0 read.2)) in
          leaves_told a a _ reply (exact ∙ ap Ok same)),
      refl,
    ))

-- ---- a replay goes on

none_where : (b : Bool) (next : ℤ) → is_none (if b then None else Some next) ≡ b
none_where true next = refl
none_where false next = refl

module _ (number most : ℤ) (limit : Option ℤ) where
  pub poll_refused : (old : EngineState) (refusal : Refusal) → poll_decision old.desk number most limit ≡ Err refusal → EndsEvent old old (poll_event number most limit) (Err refusal)
  poll_refused old refusal decided =
      reads_only old old (poll_event number most limit) (Err refusal) (quiet_life old.life) refl refl (poll_sweeps_nothing number most limit) (poll_renews_nothing number most limit) (λ fault. absurd (poll_no_fault old.desk number most limit refusal decided fault))
      (steps_poll old.desk number most limit (Err refusal) old.desk
      (inl (poll_step old.desk number most limit (Err refusal) old.desk (subst (λ (x : Result OpenReplay Refusal). PollsBy old.desk limit x (Err refusal) old.desk) (sym decided) (refl, refl)))))
      (λ c was. ((λ reading. inl (polling_refused (archive_of old c) number most limit refusal decided)), keeps_poll number most limit _ _ refl))

  poll_stepped : (d : DeskState) (replay : OpenReplay) (obeys : Bool) (image : DiskImage) (l : Layout) (g : Geometry) (recorded bound : ℤ) (asked from : ℕ) (refusal : Refusal) → poll_decision d number most limit ≡ Ok replay
      → RefusesPoll obeys image l g recorded bound asked from refusal → Stepped d (calls.ReplayPoll number most limit) (Err refusal) d
  poll_stepped d replay obeys image l g recorded bound asked from refusal decided refuses = by refusal refuses
    where
      step : (o : Outcome) → PollsBy d limit (Ok replay) o d → PollsBy d limit (poll_decision d number most limit) o d
      step o polls = subst (λ (x : Result OpenReplay Refusal). PollsBy d limit x o d) (sym decided) polls

      by : (r : Refusal) → RefusesPoll obeys image l g recorded bound asked from r
          → Stepped d (calls.ReplayPoll number most limit) (Err r) d
      by DeviceFault refuses = inl (poll_step d number most limit (Err DeviceFault) d (step (Err DeviceFault) (inl (inl (refl, refl)))))
      by NoMemory refuses = inr refl
      by (Damaged recording at) refuses = inl (poll_step d number most limit (Err (Damaged recording at)) d (step (Err (Damaged recording at)) (inl (inr (recording, at, (refl, refl))))))
      by r refuses = absurd refuses

  pub poll_unread : (old new : EngineState) (replay : OpenReplay) (g : Registration) (l : Layout) (geometry : Geometry) (recorded bound : ℤ) (asked from : ℕ) (refusal : Refusal) → IsQuiet old.life new.life → new.log ≡ old.log → new.desk ≡ old.desk
      → MayLeave old.life.now (reads old.life.now) → poll_decision old.desk number most limit ≡ Ok replay → Some g ≡ registration_in old.desk.register replay.recording → (IsErrOf {T = Reply} (Err refusal) DeviceFault → HasFailed old.life new.life)
      → RefusesPoll new.life.obeys (reads old.life.now) l geometry recorded bound asked from refusal → ((r : Recording) → RecordingIsRead old.life new.life g r → IsTrue (is_boundary replay.next r) → IsOutside refusal)
      → EndsEvent old new (poll_event number most limit) (Err refusal)
  poll_unread old new replay g l geometry recorded bound asked from refusal quiet log desk stays decided known cause refuses outside =
      let passed = poll_passes old.desk number most limit replay decided in
      let opened = polled_open old.desk number most limit replay decided in
      let reads_it = reads_poll old.desk number most limit passed in
      reads_only old new (poll_event number most limit) (Err refusal) quiet log desk (poll_sweeps_nothing number most limit) (poll_renews_nothing number most limit) cause
      (steps_poll old.desk number most limit (Err refusal) old.desk (poll_stepped old.desk replay new.life.obeys (reads old.life.now) l geometry recorded bound asked from refusal decided refuses))
      (λ c was. (
        (λ reading.
            let a = archive_of old c in
            let read = read_known old.life new.life old.log a replay.recording g stays was known (reading reads_it) in
            let at = open_at a number replay read.0 opened read.1 (was.boundaries (quiet.obeyed (reading reads_it))) in
            outside_read a (poll_event number most limit) (HasFailed old.life new.life) refusal (outside read.0 read.2 at) (λ fault. (cause (ap Err fault), reads_it))),
        keeps_poll number most limit _ _ refl,
      ))

  -- a poll asks for frames
  asks_some : (d : DeskState) (replay : OpenReplay) → poll_decision d number most limit ≡ Ok replay → 0 < unsigned_abs most
  asks_some d replay decided =
      let parts : ((int_le (pos 1) most && int_le most (pos 4096) && is_limit limit) ≡ true) × _ = both (poll_passes d number most limit replay decided) in
      let bounds : ((int_le (pos 1) most && int_le most (pos 4096)) ≡ true) × (is_limit limit ≡ true) = both parts.0 in
      let low : (int_le (pos 1) most ≡ true) × (int_le most (pos 4096) ≡ true) = both bounds.0 in
      some most low.0
    where
      some : (z : ℤ) → int_le (pos 1) z ≡ true → 0 < unsigned_abs z
      some z is = search rules

  -- whatever the files hold
  poll_gives : (d : DeskState) (next : ℤ) (replay : OpenReplay) (g : Registration) (frames : List PolledFrame) (goes : Option ℤ) → poll_decision d number most limit ≡ Ok replay → registration_in d.register replay.recording ≡ Some g → next ≡ frames_end replay.next frames
      → MovesTo g.recorded (held_to limit replay.bound) replay.next next → goes ≡ (if is_done_at g replay.bound next then None else Some next)
      → Stepped d (calls.ReplayPoll number most limit) (plain_poll (from_position (open_replay_in d number)) (Ok (replies.Polled frames goes))) (after_poll number next d)
  poll_gives d next replay g frames goes decided known ends moves on =
      let opened = polled_open d number most limit replay decided in
      let held : OpenReplay = held_back limit replay in
      let first : ℤ = from_position (open_replay_in d number) in
      let at : first ≡ replay.next = ap from_position opened in
      let last : frames_end first frames ≡ next = ap (λ (p : ℤ). frames_end p frames) at ∙ sym ends in
      let written : Written = record { first = first; last = frames_end first frames } in
      let named : number ≡ replay.number = sym (found_number replay_number number d.callers.replays replay opened) in
      let goes_there : MovesReplay g held written = (at, subst (MovesTo g.recorded held.bound replay.next) (sym last) moves) in
      let done : is_none goes ≡ is_done_at g replay.bound written.last = ap is_none on ∙ none_where (is_done_at g replay.bound next) next ∙ ap (is_done_at g replay.bound) (sym last) in
      let outcome : Outcome = Ok (told.Polled written (is_none goes)) in
      let new : DeskState = after_poll number next d in
      let same : new ≡ after_poll replay.number written.last d = ap (λ (n : ℤ). after_poll n next d) named ∙ ap (λ (n : ℤ). after_poll replay.number n d) (sym last) in
      let gives : GivesFrames d limit (Some replay) (registration_in d.register replay.recording) outcome new = subst (λ (o : Option Registration). GivesFrames d limit (Some replay) o outcome new) (sym known)
      (written, goes_there, (ap (λ (b : Bool). Ok (told.Polled written b)) done, same)) in
      poll_step d number most limit outcome new (subst (λ (x : Result OpenReplay Refusal). PollsBy d limit x outcome new) (sym decided) (inr gives))

  -- where a replay goes on is no position before the stream
  pub next_low : (d : DeskState) (replay : OpenReplay) (g : Registration) (next : ℤ) → KeepsDesk d.register d.callers → poll_decision d number most limit ≡ Ok replay → registration_in d.register replay.recording ≡ Some g → replay.next ≤ℤ next → pos 0 ≤ℤ next
  next_low d replay g next keeps decided known further =
      let there = replay_recording d number replay keeps (polled_open d number most limit replay decided) in
      let same : there.0 ≡ g = one_known there.0 g (sym there.1 ∙ known) in
      let from : g.descriptor.start_position ≤ℤ replay.next = subst (λ (r : Registration). r.descriptor.start_position ≤ℤ replay.next) same there.2 in
      let laid = laid_found d replay.recording g keeps (sym known) in
      omega (arith, ints, laid.laid_out.layout.start_is, from, further)

  pub polled_on : (old new : EngineState) (next : ℤ) (replay : OpenReplay) (g : Registration) (frames : List PolledFrame) (goes : Option ℤ) → IsQuiet old.life new.life → new.log ≡ old.log → new.desk ≡ after_poll number next old.desk
      → MayLeave old.life.now (reads old.life.now) → poll_decision old.desk number most limit ≡ Ok replay → Some g ≡ registration_in old.desk.register replay.recording → next ≡ frames_end replay.next frames
      → (0 < unsigned_abs most → MovesTo g.recorded (held_to limit replay.bound) replay.next next) → goes ≡ (if is_done_at g replay.bound next then None else Some next)
      → ((r : Recording) → RecordingIsRead old.life new.life g r → IsTrue (is_boundary replay.next r) → IsTrue (is_boundary next r) × (frames ≡ polled replay.next (held_to limit replay.bound) (unsigned_abs most) r))
      → EndsEvent old new (poll_event number most limit) (Ok (replies.Polled frames goes))
  polled_on old new next replay g frames goes quiet log desk stays decided known ends moves on given =
      let passed = poll_passes old.desk number most limit replay decided in
      let opened = polled_open old.desk number most limit replay decided in
      let reads_it = reads_poll old.desk number most limit passed in
      reads_on old new (poll_event number most limit) (replies.Polled frames goes) (change replay_number number (moved_to next) old.desk.callers.replays) old.desk.callers.next_replay quiet log desk (poll_sweeps_nothing number most limit) (poll_renews_nothing number most limit)
      (steps_poll old.desk number most limit (Ok (replies.Polled frames goes)) (after_poll number next old.desk) (poll_gives old.desk next replay g frames goes decided (sym known) ends (moves (asks_some old.desk replay decided)) on))
      (keeps_moved old.desk.register old.desk.callers number next)
      (λ c was obeys.
      let a = archive_of old c in
      let all = was.boundaries (quiet.obeyed obeys) in
      let read = read_known old.life new.life old.log a replay.recording g stays was known obeys in
      let at = open_at a number replay read.0 opened read.1 all in
      moved_at a number next replay read.0 opened read.1 (given read.0 read.2 at).0 all)
      (λ c was. (
        (λ reading.
            let a = archive_of old c in
            let read = read_known old.life new.life old.log a replay.recording g stays was known (reading reads_it) in
            let at = open_at a number replay read.0 opened read.1 (was.boundaries (quiet.obeyed (reading reads_it))) in
            let on_it : goes ≡ goes_on read.0 replay next = on ∙ ap (λ (x : Registration). if is_done_at x replay.bound next then None else Some next) read.2.is in
            polled_ends a number most next limit replay read.0 frames goes decided read.1 (given read.0 read.2 at).1 ends on_it),
        keeps_poll number most limit _ _ refl,
      ))
