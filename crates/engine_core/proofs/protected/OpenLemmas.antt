-- A replay stays open, of the same recording, until it is closed, and goes on where it went on or past that.
use Rattle.std.proofs.Common.{◌≡◌, ◌∙◌, ◌⊎◌, ◌+ℤ◌, ◌≤ℤ◌, ◌++◌, inl, inr, not, sym, ap, subst, refl, ℕ, ℤ, pos, Bool, true, false, cond, true≢false, List, [], ◌∷◌, filter, int_le, int_lt, Option, Some, None, Result, Ok, Err, arith}
use Rattle.std.proofs.lemmas.Int.{ints}
use Rattle.std.proofs.lemmas.Bool.Decides.{Decides-int_eq}
use Rattle.std.specs.Prelude.{IsTrue, unsigned_abs}
use Rattle.std.specs.Ordering.{int_eq}
use Rattle.engine_core.proofs.Words.{Allows, Append, Archive, ArchiveEnds, CallEnds, Command, Decision, DeskState, DeviceFault, Each, Event, IsConsistent, NoMemory, OpenReplay, PolledFrame, Recording, RecorderSession, Refusal, Reply, Restart, aligned_length, both, change, decision_of, desk_after, find, found_number, open_decision, open_replay_in, poll_decision, polled, polled_open, recording_at, replay_number, session_in, settle_decision, settled, with_desk, write_decision}
use Rattle.archive_model.specs.declared.command.Command.TheVariants as commands
use Rattle.archive_model.specs.Checks.{checked, checks}
use Rattle.archive_model.specs.Keyed.{without}
use Rattle.archive_model.specs.Replay.{is_between, placed_frames}
use Rattle.control_core.specs.declared.callers.Written.{Written}
use Rattle.control_core.specs.declared.event.Event.TheVariants as events
use Rattle.control_core.specs.declared.turns.Opening.{Opening}
use Rattle.control_core.specs.declared.turns.Settling.{Settling}
use Rattle.control_core.specs.declared.turns.Settling.TheVariants as settling
use Rattle.control_core.specs.Callers.{moved_to}
use Rattle.control_core.specs.Changes.{after_close, settled_by, writer_in}
use Rattle.control_core.specs.Consistent.{IsAcceptable, is_asked}
use Rattle.control_core.specs.Decided as decisions
use Rattle.control_core.specs.Desk.{is_replay_of}
use Rattle.control_core.specs.Exact.{CheckpointEnds, DecisionEnds, Leaves, LeftByFault, OpeningEnds, PolledEnds, PollingEnds, SettlingEnds, SweepEnds, asked_frames, asked_opening, frames_end, settled_archives, settled_by_number, settling_in, span_of}
use Rattle.control_core.specs.Turns.{close_decision, held_to, sweep_tests}
use Rattle.control_core.proofs.CallLemmas.{refused_unchanged}
use Rattle.control_core.proofs.DecidedLemmas.{decided_accepted}
use Rattle.control_core.proofs.FoundLemmas.{each_filter}
use Rattle.control_core.proofs.PollLemmas.{each_first, le_true}
use Rattle.engine_core.specs.Protected.{GoesOn, closes}
use Rattle.engine_core.proofs.protected.CommandLemmas.{other_recording, removal_unread}

-- ---- which replay has a number

found_one : {x y : OpenReplay} → Some y ≡ Some x → y ≡ x
found_one is = cc

found_more : (n : ℤ) (rs more : List OpenReplay) (x : OpenReplay) → find replay_number n rs ≡ Some x → find replay_number n (rs ++ more) ≡ Some x
found_more n [] more x found = absurd cc
found_more n (y ∷ ys) more x found = by (int_eq n y.number) found (found_more n ys more x)
  where
    by : (b : Bool) → cond b (Some y) (find replay_number n ys) ≡ Some x → (find replay_number n ys ≡ Some x → find replay_number n (ys ++ more) ≡ Some x) → cond b (Some y) (find replay_number n (ys ++ more)) ≡ Some x
    by true found rest = found
    by false found rest = rest found

-- one that passes a test stays among those that do
found_passing : (n : ℤ) (test : OpenReplay → Bool) (rs : List OpenReplay) (x : OpenReplay) → find replay_number n rs ≡ Some x → test x ≡ true → find replay_number n (filter test rs) ≡ Some x
found_passing n test [] x found passes = absurd cc
found_passing n test (y ∷ ys) x found passes = by (int_eq n y.number) (test y) refl refl found (λ later. found_passing n test ys x later passes)
  where
    by : (b c : Bool) → int_eq n y.number ≡ b → test y ≡ c → cond b (Some y) (find replay_number n ys) ≡ Some x → (find replay_number n ys ≡ Some x → find replay_number n (filter test ys) ≡ Some x)
        → find replay_number n (cond c (y ∷ filter test ys) (filter test ys)) ≡ Some x
    by true true is passing found rest = rw is found
    by true false is passing found rest = absurd (true≢false (sym (ap test (found_one found) ∙ passes) ∙ passing))
    by false true is passing found rest = rw is (rest found)
    by false false is passing found rest = rest found

-- one of another number stays where one is closed
found_left : (n m : ℤ) (rs : List OpenReplay) (x : OpenReplay) → int_eq n m ≡ false → find replay_number n rs ≡ Some x → find replay_number n (without replay_number m rs) ≡ Some x
found_left n m [] x other found = absurd cc
found_left n m (y ∷ ys) x other found = by (int_eq n y.number) (int_eq m y.number) refl refl found (found_left n m ys x other)
  where
    by : (b c : Bool) → int_eq n y.number ≡ b → int_eq m y.number ≡ c → cond b (Some y) (find replay_number n ys) ≡ Some x → (find replay_number n ys ≡ Some x → find replay_number n (without replay_number m ys) ≡ Some x)
        → find replay_number n (cond c ys (y ∷ without replay_number m ys)) ≡ Some x
    by true true here there found rest =
        let same : n ≡ m = (Decides-int_eq n y.number).0 here ∙ sym ((Decides-int_eq m y.number).0 there) in
        absurd (true≢false (sym ((Decides-int_eq n m).1 same) ∙ other))
    by true false here there found rest = rw here found
    by false true here there found rest = found
    by false false here there found rest = rw here (rest found)

-- one that is moved is found there, and each other one as it was
found_moved : (n m next : ℤ) (rs : List OpenReplay) (x : OpenReplay) → find replay_number n rs ≡ Some x
    → ((n ≡ m) × (find replay_number n (change replay_number m (moved_to next) rs) ≡ Some (moved_to next x))) ⊎ (find replay_number n (change replay_number m (moved_to next) rs) ≡ Some x)
found_moved n m next [] x found = absurd cc
found_moved n m next (y ∷ ys) x found = by (int_eq n y.number) (int_eq m y.number) refl refl found (found_moved n m next ys x)
  where
    To : List OpenReplay → Type 0
    To rs = ((n ≡ m) × (find replay_number n rs ≡ Some (moved_to next x))) ⊎ (find replay_number n rs ≡ Some x)

    by : (b c : Bool) → int_eq n y.number ≡ b → int_eq m y.number ≡ c → cond b (Some y) (find replay_number n ys) ≡ Some x → (find replay_number n ys ≡ Some x → To (change replay_number m (moved_to next) ys))
        → To (cond c (moved_to next y ∷ ys) (y ∷ change replay_number m (moved_to next) ys))
    by true true here there found rest = inl ((Decides-int_eq n y.number).0 here ∙ sym ((Decides-int_eq m y.number).0 there), rw here (ap (λ (z : OpenReplay). Some (moved_to next z)) (found_one found)))
    by true false here there found rest = inr (rw here found)
    by false true here there found rest = inr (rw here found)
    by false false here there found rest = rw here (rest found)

-- ---- a poll goes forward

ends_past : (p at : ℤ) (fs : List PolledFrame) → p ≤ℤ at → Each (λ (f : PolledFrame). p ≤ℤ f.position) fs → p ≤ℤ frames_end at fs
ends_past p at [] low all = low
ends_past p at (f ∷ fs) low all = ends_past p (f.position +ℤ pos (aligned_length f.frame)) fs (let first = all.0 in omega (arith, ints, first)) all.1

each_placed : (fs : List PolledFrame) → Each (λ (f : PolledFrame). Unit {0}) fs
each_placed [] = tt
each_placed (f ∷ fs) = (tt, each_placed fs)

poll_past : (next bound : ℤ) (most : ℕ) (r : Recording) → next ≤ℤ frames_end next (polled next bound most r)
poll_past next bound most r =
    let Past : PolledFrame → Type 0 = λ f. next ≤ℤ f.position in
    ends_past next next (polled next bound most r) (omega (arith, ints))
    (each_first Past most (filter (is_between next bound) (placed_frames r))
    (each_filter (λ (f : PolledFrame). Unit {0}) Past (is_between next bound) (placed_frames r)
    (λ f is has. (let parts : (int_le next f.position ≡ true) × (int_lt f.position bound ≡ true) = both is in le_true next f.position parts.0)) (each_placed (placed_frames r))))

-- ---- desks

-- an opening makes this command alone
abbrev pub is_restart : Command → Bool
is_restart Restart = true
is_restart c = false

asked_live : (c : Command) → IsTrue (is_asked c) → is_restart c ≡ false
asked_live (Append id blocks) asked = refl
asked_live Restart asked = absurd (true≢false (sym asked))
asked_live c asked = refl

not_given : (id : ℤ) (replay : OpenReplay) → int_eq replay.recording id ≡ false → not (is_replay_of id replay) ≡ true
unfolding is_replay_of
not_given id replay other = rw other refl

module _ (n : ℤ) (replay : OpenReplay) where
  same_replay : (d e : DeskState) → e.callers.replays ≡ d.callers.replays → open_replay_in d n ≡ Some replay → GoesOn e n replay
  same_replay d e same found = record { later = replay; found = ap (find replay_number n) same ∙ found; recording = refl; on = omega (arith, ints) }

  still : (a b : Archive) → b ≡ a → open_replay_in a.desk n ≡ Some replay → GoesOn b.desk n replay
  still a b is found = same_replay a.desk b.desk (ap (λ (x : Archive). x.desk.callers.replays) is) found

  -- a settling changes no replay
  settled_replays : (d : DeskState) (s : Option RecorderSession) → (settled s d).callers.replays ≡ d.callers.replays
  settled_replays d None = refl
  settled_replays d (Some s) = by s.written
    where
      by : (o : Option Written) → (settled_by s o d).callers.replays ≡ d.callers.replays
      by None = refl
      by (Some w) = refl

  -- nor do those of several sessions
  all_replays : (ns : List ℤ) (a : Archive) → (settled_archives ns a).desk.callers.replays ≡ a.desk.callers.replays
  all_replays [] a = refl
  all_replays (m ∷ ns) a = all_replays ns (settled_by_number a m (settling_in a m)) ∙ one_replays a m (settling_in a m)
    where
      one_replays : (a : Archive) (m : ℤ) (s : Settling) → (settled_by_number a m s).desk.callers.replays ≡ a.desk.callers.replays
      one_replays a m (settling.Nothing position) = refl
      one_replays a m (settling.Blocks id w) = settled_replays a.desk (session_in a.desk m)

  -- a command that the desk allows, but a restart, leaves it open
  pub command_open : (d : DeskState) (c : Command) → is_restart c ≡ false → Allows d c → open_replay_in d n ≡ Some replay → open_replay_in (desk_after d c) n ≡ Some replay
  command_open d (commands.Start f) live allows found = found
  command_open d (Append id blocks) live allows found = ap (find replay_number n) (settled_replays d (writer_in d id)) ∙ found
  command_open d (commands.Stop id timestamp) live allows found = found
  command_open d (commands.Extend f) live allows found = found
  command_open d (commands.Truncate id position) live allows found = found
  command_open d (commands.PurgeSegments id position) live allows found = found
  command_open d (commands.PurgeRecording id) live allows found =
      found_passing n (λ (r : OpenReplay). not (is_replay_of id r)) d.callers.replays replay found (not_given id replay (other_recording d id n replay (removal_unread d id allows) found))
  command_open d Restart live allows found = absurd (true≢false live)

  moved_goes : (d : DeskState) (number next : ℤ) (polls : OpenReplay) → open_replay_in d number ≡ Some polls → polls.next ≤ℤ next → open_replay_in d n ≡ Some replay
      → (e : DeskState) → e.callers.replays ≡ change replay_number polls.number (moved_to next) d.callers.replays → GoesOn e n replay
  moved_goes d number next polls polled_one past found e is = elim (found_moved n polls.number next d.callers.replays replay found) [
    | inl (one, there) ↦ (
        let number_is : polls.number ≡ number = found_number replay_number number d.callers.replays polls polled_one in
        let this : Some replay ≡ Some polls = sym found ∙ subst (λ (z : ℤ). find replay_number z d.callers.replays ≡ Some polls) (sym (one ∙ number_is)) polled_one in
        let same : replay ≡ polls = found_one this in
        let low : replay.next ≤ℤ next = subst (λ (z : ℤ). z ≤ℤ next) (sym (ap (λ (x : OpenReplay). x.next) same)) past in
        record { later = moved_to next replay; found = ap (find replay_number n) is ∙ there; recording = refl; on = low })
    | inr there ↦ record { later = replay; found = ap (find replay_number n) is ∙ there; recording = refl; on = omega (arith, ints) }
  ]

  -- ---- calls

  left_goes : (a x : Archive) (decision : Result Reply Refusal) (reply : Reply) (b : Archive) → x.desk.callers.replays ≡ a.desk.callers.replays → open_replay_in a.desk n ≡ Some replay → Leaves a x decision (Ok reply) b → GoesOn b.desk n replay
  left_goes a x (Ok answer) reply b same found h = same_replay a.desk b.desk (ap (λ (y : Archive). y.desk.callers.replays) h.1 ∙ same) found
  left_goes a x (Err r) reply b same found h = absurd (let clash = h.0 in cc)

  asked_goes : (a : Archive) (decision : Decision) (reply : Reply) (b : Archive) → ((c : Command) → decision ≡ decisions.Accepted c → IsAcceptable a c × IsTrue (is_asked c)) → open_replay_in a.desk n ≡ Some replay → DecisionEnds a decision (Ok reply) b
      → GoesOn b.desk n replay
  asked_goes a (decisions.Refused r) reply b accepts found h = absurd (let clash = h.0 in cc)
  asked_goes a (decisions.Answered answer) reply b accepts found h = still a b h.1 found
  asked_goes a (decisions.Accepted c) reply b accepts found h =
      let is = accepts c refl in
      subst (λ (d : DeskState). GoesOn d n replay) (sym (ap (λ (x : Archive). x.desk) h.1)) (record { later = replay; found = command_open a.desk c (asked_live c is.1) is.0.allowed found; recording = refl; on = omega (arith, ints) })
  asked_goes a (decisions.IfBoundary id position decided) reply b accepts found h = absurd h

  settled_goes : (a : Archive) (session : ℤ) (decision : Result Settling Refusal) (reply : Reply) (b : Archive) → open_replay_in a.desk n ≡ Some replay → SettlingEnds a session decision (Ok reply) b → GoesOn b.desk n replay
  settled_goes a session (Err r) reply b found h = absurd (let clash = h.0 in cc)
  settled_goes a session (Ok (settling.Nothing position)) reply b found h = still a b h.1 found
  settled_goes a session (Ok (settling.Blocks id w)) reply b found h =
      same_replay a.desk b.desk (ap (λ (x : Archive). x.desk.callers.replays) h.1 ∙ settled_replays a.desk (session_in a.desk session)) found

  opened_goes : (a : Archive) (decision : Result Opening Refusal) (reply : Reply) (b : Archive) → open_replay_in a.desk n ≡ Some replay → OpeningEnds a decision (Ok reply) b → GoesOn b.desk n replay
  opened_goes a (Err r) reply b found h = absurd (let clash = h.0 in cc)
  opened_goes a (Ok o) reply b found h = record {
    later = replay;
    found = ap (λ (x : Archive). find replay_number n x.desk.callers.replays) h.1
        ∙ found_more n a.desk.callers.replays (record { number = a.desk.callers.next_replay; recording = o.recording; next = o.next; bound = o.bound } ∷ []) replay found;
    recording = refl;
    on = omega (arith, ints);
  }

  polled_goes : (a : Archive) (number most : ℤ) (limit : Option ℤ) (polls : OpenReplay) (r : Option Recording) (reply : Reply) (b : Archive) → open_replay_in a.desk number ≡ Some polls → open_replay_in a.desk n ≡ Some replay → PolledEnds a polls most limit r (Ok reply) b
      → GoesOn b.desk n replay
  polled_goes a number most limit polls None reply b there found h = absurd h
  polled_goes a number most limit polls (Some r) reply b polled_one found h =
      let bound : ℤ = held_to limit polls.bound in
      let next : ℤ = frames_end polls.next (polled polls.next bound (unsigned_abs most) r) in
      moved_goes a.desk number next polls polled_one (poll_past polls.next bound (unsigned_abs most) r) found b.desk (ap (λ (x : Archive). x.desk.callers.replays) h.1)

  polling_goes : (a : Archive) (number most : ℤ) (limit : Option ℤ) (decision : Result OpenReplay Refusal) (reply : Reply) (b : Archive) → poll_decision a.desk number most limit ≡ decision → open_replay_in a.desk n ≡ Some replay → PollingEnds a most limit decision (Ok reply) b
      → GoesOn b.desk n replay
  polling_goes a number most limit (Err r) reply b is found h = absurd (let clash = h.0 in cc)
  polling_goes a number most limit (Ok polls) reply b is found h = polled_goes a number most limit polls (recording_at a polls.recording) reply b (polled_open a.desk number most limit polls is) found h

  closed_goes : (a : Archive) (number : ℤ) (decision : Result Reply Refusal) (reply : Reply) (b : Archive) → int_eq n number ≡ false → open_replay_in a.desk n ≡ Some replay → Leaves a (with_desk (after_close number a.desk) a) decision (Ok reply) b → GoesOn b.desk n replay
  closed_goes a number (Err r) reply b other found h = absurd (let clash = h.0 in cc)
  closed_goes a number (Ok answer) reply b other found h = record {
    later = replay;
    found = ap (λ (x : Archive). find replay_number n x.desk.callers.replays) h.1 ∙ found_left n number a.desk.callers.replays replay other found;
    recording = refl;
    on = omega (arith, ints);
  }

  anew_goes : (a : Archive) (decision : Result (Unit {0}) Refusal) (reply : Reply) (b : Archive) → open_replay_in a.desk n ≡ Some replay → CheckpointEnds a decision (Ok reply) b → GoesOn b.desk n replay
  anew_goes a (Err r) reply b found h = absurd (let clash = h.0 in cc)
  anew_goes a (Ok done) reply b found (inl h) = same_replay a.desk b.desk (ap (λ (x : Archive). x.desk.callers.replays) h.1) found
  anew_goes a (Ok done) reply b found (inr (inl h)) = absurd (let clash = h.0 in cc)
  anew_goes a (Ok done) reply b found (inr (inr h)) = absurd (let clash = h.0 in cc)

  swept_goes : (a : Archive) (decision : Result (Unit {0}) Refusal) (reply : Reply) (b : Archive) → open_replay_in a.desk n ≡ Some replay → SweepEnds a decision (Ok reply) b → GoesOn b.desk n replay
  swept_goes a (Err r) reply b found h = absurd (let clash = h.0 in cc)
  swept_goes a (Ok done) reply b found h = still a b h.1.1 found

  answered_goes : (a : Archive) (event : Event) (reply : Reply) (b : Archive) → IsConsistent a → open_replay_in a.desk n ≡ Some replay → closes n event (Ok reply) ≡ false → ArchiveEnds a event (Ok reply) b → GoesOn b.desk n replay
  answered_goes a (events.Ask request) reply b consistent found unclosed h = asked_goes a (asked_frames a (decision_of a.desk request)) reply b (λ c is. decided_accepted a request c consistent.agrees is) found h
  answered_goes a (events.Write session block) reply b consistent found unclosed (fits, says, h) = left_goes a _ (write_decision a.desk session (span_of block) fits) reply b refl found h
  answered_goes a (events.Settle session) reply b consistent found unclosed h = settled_goes a session (settle_decision a.desk session) reply b found h
  answered_goes a (events.SettleAll sessions) reply b consistent found unclosed h = left_goes a (settled_archives sessions a) _ reply b (all_replays sessions a) found h
  answered_goes a (events.ReplayOpen id position size) reply b consistent found unclosed h = opened_goes a (asked_opening a id (open_decision a.desk id position size)) reply b found h
  answered_goes a (events.ReplayPoll number most) reply b consistent found unclosed h = polling_goes a number most None (poll_decision a.desk number most None) reply b refl found h
  answered_goes a (events.ReplayPollTo number most limit) reply b consistent found unclosed h = polling_goes a number most (Some limit) (poll_decision a.desk number most (Some limit)) reply b refl found h
  answered_goes a (events.ReplayClose number) reply b consistent found unclosed h = closed_goes a number (close_decision a.desk number) reply b unclosed found h
  answered_goes a events.Checkpoint reply b consistent found unclosed h = anew_goes a (checked (sweep_tests a.desk) checks (Ok tt)) reply b found h
  answered_goes a events.Sweep reply b consistent found unclosed h = swept_goes a (checked (sweep_tests a.desk) checks (Ok tt)) reply b found h
  answered_goes a (events.Verify id) reply b consistent found unclosed h = left_goes a a _ reply b refl found h

  fault_goes : (a : Archive) (event : Event) (b : Archive) → open_replay_in a.desk n ≡ Some replay → LeftByFault a event b → GoesOn b.desk n replay
  fault_goes a event b found (inl (read, is)) = still a b is found
  fault_goes a event b found (inr (writes, (u, makes, is))) = same_replay a.desk b.desk (ap (λ (x : Archive). x.desk.callers.replays) is) found

  -- a call that does not close it leaves it open
  pub call_goes : (a : Archive) (event : Event) (outcome : Result Reply Refusal) (b : Archive) → IsConsistent a → open_replay_in a.desk n ≡ Some replay → closes n event outcome ≡ false → CallEnds a event (Unit {0}) outcome b → GoesOn b.desk n replay
  call_goes a event (Ok reply) b consistent found unclosed ends = answered_goes a event reply b consistent found unclosed ends
  call_goes a event (Err NoMemory) b consistent found unclosed ends = elim ends [
    | inl exact ↦ still a b (refused_unchanged a event NoMemory b exact) found
    | inr same ↦ still a b same found
  ]
  call_goes a event (Err DeviceFault) b consistent found unclosed ends = elim ends [
    | inl exact ↦ still a b (refused_unchanged a event DeviceFault b exact) found
    | inr out ↦ fault_goes a event b found out.1
  ]
  call_goes a event (Err refusal) b consistent found unclosed ends = elim ends [
    | inl exact ↦ still a b (refused_unchanged a event refusal b exact) found
    | inr out ↦ absurd out
  ]
