-- What a call makes of the archive.
use Rattle.std.proofs.Common.{◌≡◌, ◌<◌, ◌&&◌, inl, inr, not, ℕ, ℤ, negsuc, Bool, true, false, cond, List, [], ◌∷◌, ◌++◌, length, Option, Some, None, Result, Ok, Err, refl, sym, ap, subst, true≢false, int_le, nat_lt, arith}
use Rattle.std.specs.Prelude.{IsFalse, IsTrue, is_some}
use Rattle.std.specs.Ordering.{int_eq}
use Rattle.std.proofs.lemmas.Bool.Decides.{nat_tests}
use Rattle.frame_core.specs.declared.refusal.Refusal.{Refusal}
use Rattle.archive_model.specs.declared.command.Command.{Command}
use Rattle.archive_model.specs.declared.command.Command.TheVariants as commands
use Rattle.archive_model.specs.declared.registration.Registration.{Registration}
use Rattle.archive_model.specs.declared.reply.Reply.{Reply}
use Rattle.archive_model.specs.State.{Recording}
use Rattle.archive_model.specs.Register.{is_end, registration_in}
use Rattle.archive_model.specs.Checks.{Tests, block_checks, checked, checks, first_checks, is_boundary_by, is_of, last_checks, passes}
use Rattle.archive_model.proofs.WellLemmas.{both}
use Rattle.control_core.specs.declared.callers.OpenReplay.{OpenReplay}
use Rattle.control_core.specs.Decided.{Decision}
use Rattle.control_core.specs.Decided as decisions
use Rattle.control_core.specs.declared.event.Event.{Event}
use Rattle.control_core.specs.declared.event.Event.TheVariants as events
use Rattle.control_core.specs.declared.turns.Opening.{Opening}
use Rattle.control_core.specs.Opened.{OpeningDecision}
use Rattle.control_core.specs.Opened as opening
use Rattle.control_core.specs.declared.turns.Settling.{Settling}
use Rattle.control_core.specs.declared.turns.Settling.TheVariants as settling
use Rattle.control_core.specs.Callers.{last_number}
use Rattle.control_core.specs.Desk.{DeskState}
use Rattle.control_core.specs.Decisions.{Allows, decision_of}
use Rattle.control_core.specs.Turns.{MayOpen, begins_at, close_decision, open_decision, open_tests, opened_at, opening_decided, opening_in, opening_of, poll_decision, settle_decision, sweep_tests}
use Rattle.control_core.specs.Exact.{Archive, ArchiveEnds, CheckpointEnds, DecisionEnds, Leaves, OpeningEnds, PolledEnds, PollingEnds, SettlingEnds, SweepEnds, asked_frames, asked_opening, recording_at}
use Rattle.control_core.specs.Consistent.{is_append, is_asked}
use Rattle.control_core.proofs.AllowedLemmas.{differ, works_of}
use Rattle.control_core.proofs.DecidedLemmas.{held}

-- ---- what is opened

-- what is decided on the frames of a position is what is decided behind
pub opened_behind : (found : Option Registration) (behind : Result Opening Refusal) (next : ℤ) (o : Opening) → opening_in (opened_at found behind next) ≡ Some o → behind ≡ Ok o
opened_behind None (Ok x) next o e = let same : x ≡ o = cc in ap Ok same
opened_behind None (Err refusal) next o e = absurd cc
opened_behind (Some r) behind next o e = by (is_end next r) behind e
  where
    by : (b : Bool) (x : Result Opening Refusal) → opening_in (cond b (opening.Decided x) (opening.IfBoundary next x)) ≡ Some o → x ≡ Ok o
    by true (Ok x) e = let same : x ≡ o = cc in ap Ok same
    by true (Err refusal) e = absurd cc
    by false (Ok x) e = let same : x ≡ o = cc in ap Ok same
    by false (Err refusal) e = absurd cc

-- a replay that is decided on has passed the checks in front
pub opened_front : (tests : Tests) (rs : List Refusal) (decision : OpeningDecision) (o : Opening) → opening_in (opening_decided (checked tests rs (Ok decision))) ≡ Some o → (passes tests rs ≡ true) × (opening_in decision ≡ Some o)
opened_front tests [] decision o e = (refl, e)
opened_front tests (r ∷ rs) decision o e = by (tests r) e (opened_front tests rs decision o)
  where
    by : (b : Bool) → opening_in (opening_decided (cond b (checked tests rs (Ok decision)) (Err r))) ≡ Some o → (opening_in (opening_decided (checked tests rs (Ok decision))) ≡ Some o → (passes tests rs ≡ true) × (opening_in decision ≡ Some o))
        → ((b && passes tests rs) ≡ true) × (opening_in decision ≡ Some o)
    by true e rest = rest e
    by false e rest = absurd cc

few_of : (n : ℕ) → nat_lt n 64 ≡ true → n < 64
few_of n is = grind (arith, nat_tests)

pub opening_allowed : (d : DeskState) (id position size : ℤ) (o : Opening) → opening_in (open_decision d id position size) ≡ Some o → MayOpen d o
opening_allowed d id position size o e =
    let tests = open_tests d id position size true in
    let found = registration_in d.register id in
    let next = begins_at position found in
    let behind = checked tests (block_checks ++ last_checks) (Ok (opening_of d id position size)) in
    let front = opened_front tests first_checks (opened_at found behind next) o e in
    let made = held tests (block_checks ++ last_checks) (opening_of d id position size) o (opened_behind found behind next o front.1) in
    let in_range : Bool = int_le (negsuc 0) position && int_le (negsuc 0) size in
    let on_boundary : Bool = is_of found (is_boundary_by true next) in
    let range : (in_range ≡ true) × ((is_some found && (on_boundary && true)) ≡ true) = both front.0 in
    let there : (is_some found ≡ true) × ((on_boundary && true) ≡ true) = both range.1 in
    let numbers : Bool = nat_lt (length d.callers.replays) 64 && not (int_eq d.callers.next_replay last_number) in
    let counts : (numbers ≡ true) × (true ≡ true) = both made.0 in
    let parts : (nat_lt (length d.callers.replays) 64 ≡ true) × (not (int_eq d.callers.next_replay last_number) ≡ true) = both counts.0 in
    record {
      few = few_of (length d.callers.replays) parts.0;
      number = differ d.callers.next_replay last_number parts.1;
      there = subst (λ (x : Opening). is_some (registration_in d.register x.recording) ≡ true) made.1 there.0;
    }

-- ---- a refused call changes nothing

left : (a x : Archive) (decision : Result Reply Refusal) (refusal : Refusal) (b : Archive) → Leaves a x decision (Err refusal) b → b ≡ a
left a x (Ok reply) refusal b h = absurd (let clash = h.0 in cc)
left a x (Err other) refusal b h = h.1

decision_refused : (a : Archive) (decision : Decision) (refusal : Refusal) (b : Archive) → DecisionEnds a decision (Err refusal) b → b ≡ a
decision_refused a (decisions.Refused r) refusal b h = h.1
decision_refused a (decisions.Answered reply) refusal b h = absurd (let clash = h.0 in cc)
decision_refused a (decisions.Accepted c) refusal b h = absurd (let clash = h.0 in cc)
decision_refused a (decisions.IfBoundary id position decided) refusal b h = absurd h

settling_refused : (a : Archive) (session : ℤ) (decision : Result Settling Refusal) (refusal : Refusal) (b : Archive) → SettlingEnds a session decision (Err refusal) b → b ≡ a
settling_refused a session (Err r) refusal b h = h.1
settling_refused a session (Ok (settling.Nothing position)) refusal b h = absurd (let clash = h.0 in cc)
settling_refused a session (Ok (settling.Blocks id w)) refusal b h = absurd (let clash = h.0 in cc)

opening_refused : (a : Archive) (decision : Result Opening Refusal) (refusal : Refusal) (b : Archive) → OpeningEnds a decision (Err refusal) b → b ≡ a
opening_refused a (Err r) refusal b h = h.1
opening_refused a (Ok o) refusal b h = absurd (let clash = h.0 in cc)

polled_refused : (a : Archive) (replay : OpenReplay) (most : ℤ) (limit : Option ℤ) (found : Option Recording) (refusal : Refusal) (b : Archive) → PolledEnds a replay most limit found (Err refusal) b → b ≡ a
polled_refused a replay most limit None refusal b h = absurd h
polled_refused a replay most limit (Some r) refusal b h = absurd (let clash = h.0 in cc)

polling_refused : (a : Archive) (most : ℤ) (limit : Option ℤ) (decision : Result OpenReplay Refusal) (refusal : Refusal) (b : Archive) → PollingEnds a most limit decision (Err refusal) b → b ≡ a
polling_refused a most limit (Err r) refusal b h = h.1
polling_refused a most limit (Ok replay) refusal b h = polled_refused a replay most limit (recording_at a replay.recording) refusal b h

sweep_refused : (a : Archive) (decision : Result (Unit {0}) Refusal) (refusal : Refusal) (b : Archive) → SweepEnds a decision (Err refusal) b → b ≡ a
sweep_refused a (Err r) refusal b h = h.1
sweep_refused a (Ok done) refusal b h = absurd (let clash = h.1.0 in cc)

checkpoint_refused : (a : Archive) (decision : Result (Unit {0}) Refusal) (refusal : Refusal) (b : Archive) → CheckpointEnds a decision (Err refusal) b → b ≡ a
checkpoint_refused a (Err r) refusal b h = h.1
checkpoint_refused a (Ok done) refusal b (inl answered) = absurd (let clash = answered.0 in cc)
checkpoint_refused a (Ok done) refusal b (inr (inl spare)) = spare.1
checkpoint_refused a (Ok done) refusal b (inr (inr last)) = last.1

pub refused_unchanged : (a : Archive) (event : Event) (refusal : Refusal) (b : Archive) → ArchiveEnds a event (Err refusal) b → b ≡ a
refused_unchanged a (events.Ask request) refusal b h = decision_refused a (asked_frames a (decision_of a.desk request)) refusal b h
refused_unchanged a (events.Write session block) refusal b (fits, says, h) = left a _ _ refusal b h
refused_unchanged a (events.Settle session) refusal b h = settling_refused a session (settle_decision a.desk session) refusal b h
refused_unchanged a (events.SettleAll sessions) refusal b h = left a _ _ refusal b h
refused_unchanged a (events.ReplayOpen id position size) refusal b h = opening_refused a (asked_opening a id (open_decision a.desk id position size)) refusal b h
refused_unchanged a (events.ReplayPoll number most) refusal b h = polling_refused a most None (poll_decision a.desk number most None) refusal b h
refused_unchanged a (events.ReplayPollTo number most limit) refusal b h = polling_refused a most (Some limit) (poll_decision a.desk number most (Some limit)) refusal b h
refused_unchanged a (events.ReplayClose number) refusal b h = left a _ (close_decision a.desk number) refusal b h
refused_unchanged a events.Sweep refusal b h = sweep_refused a (checked (sweep_tests a.desk) checks (Ok tt)) refusal b h
refused_unchanged a (events.Verify id) refusal b h = left a _ _ refusal b h
refused_unchanged a events.Checkpoint refusal b h = checkpoint_refused a (checked (sweep_tests a.desk) checks (Ok tt)) refusal b h

-- ---- what a request makes

pub no_append : (c : Command) → IsTrue (is_asked c) → IsFalse (is_append c)
no_append (commands.Start f) asked = refl
no_append (commands.Append id blocks) asked = absurd (true≢false (sym asked))
no_append (commands.Stop id timestamp) asked = refl
no_append (commands.Extend f) asked = refl
no_append (commands.Truncate id position) asked = refl
no_append (commands.PurgeSegments id position) asked = refl
no_append (commands.PurgeRecording id) asked = refl
no_append commands.Restart asked = absurd (true≢false (sym asked))

-- what a request makes is made by a desk that works
pub asked_works : (d : DeskState) (c : Command) → IsTrue (is_asked c) → Allows d c → IsFalse d.is_broken
asked_works d (commands.Start f) asked allows = works_of d (commands.Start f) refl allows
asked_works d (commands.Append id blocks) asked allows = absurd (true≢false (sym asked))
asked_works d (commands.Stop id timestamp) asked allows = works_of d (commands.Stop id timestamp) refl allows
asked_works d (commands.Extend f) asked allows = works_of d (commands.Extend f) refl allows
asked_works d (commands.Truncate id position) asked allows = works_of d (commands.Truncate id position) refl allows
asked_works d (commands.PurgeSegments id position) asked allows = works_of d (commands.PurgeSegments id position) refl allows
asked_works d (commands.PurgeRecording id) asked allows = works_of d (commands.PurgeRecording id) refl allows
asked_works d commands.Restart asked allows = absurd (true≢false (sym asked))
