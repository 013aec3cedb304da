-- What is decided on a call that reads says what the desk machine allows.
use Rattle.std.proofs.Common.{◌≡◌, ◌≢◌, inl, inr, ◌++◌, ◌&&◌, ℤ, pos, Bool, true, false, cond, true≢false, List, [], ◌∷◌, Option, Some, None, Result, Ok, Err, refl, sym, int_le}
use Rattle.std.specs.Prelude.{MatchBool, is_some}
use Rattle.frame_core.specs.declared.refusal.Refusal.{Refusal}
use Rattle.frame_core.specs.declared.refusal.Refusal.TheVariants.{BadBlock, BadPosition, DeviceFault, HistoryFull, NoMemory, NotCatalogue}
use Rattle.frame_core.specs.ReplayEnd.{bound_of}
use Rattle.archive_model.specs.declared.command.Command.{Command}
use Rattle.archive_model.specs.declared.registration.Registration.{Registration}
use Rattle.archive_model.specs.declared.reply.Reply.TheVariants as replies
use Rattle.archive_model.specs.Checks.{Tests, block_checks, checked, checks, first_checks, last_checks, passes}
use Rattle.archive_model.specs.Register.{is_end, registration_in}
use Rattle.archive_model.proofs.WellLemmas.{both}
use Rattle.control_core.specs.declared.asked.Asked.{Asked}
use Rattle.control_core.specs.declared.asked.Asked.TheVariants as calls
use Rattle.control_core.specs.declared.asked.Told.{Told}
use Rattle.control_core.specs.declared.asked.Told.TheVariants as told
use Rattle.control_core.specs.Decided.{Decision}
use Rattle.control_core.specs.Decided as decisions
use Rattle.control_core.specs.Decisions.{decision_of}
use Rattle.control_core.specs.declared.callers.OpenReplay.{OpenReplay}
use Rattle.control_core.specs.declared.turns.Opening.{Opening}
use Rattle.control_core.specs.Opened as opening
use Rattle.control_core.specs.Changes.{after_close, after_open, after_write, checkpointed, desk_after, positions_each, reply_after, settled, settled_each, settled_position}
use Rattle.control_core.specs.Desk.{DeskState}
use Rattle.control_core.specs.Turns.{begins_at, close_tests, is_limit, open_decision, open_tests, opened_at, opening_decided, opening_of, poll_decision, poll_tests, open_replay_in, open_replay_of, session_in, settle_all_tests, settle_tests, sweep_tests, verify_tests, write_tests}
use Rattle.control_core.specs.Machine.{AtPosition, Breaks, Decided, Does, Either, Ended, Ends, GivesFrames, Outcome, Passing, RefusedByBanks, RefusesCall, Step, Stepped, UnlessBoundary, Unread, recording_of}
use Rattle.control_core.specs.ByDecision.{OpensAs, OpensBy, PollsBy, SweepsBy, VerifiesBy}

-- what an answer that is checked ends with, one check after another
module _ {X : Type 0} (d : DeskState) (F : Result X Refusal → Ends) (refuses : (r : Refusal) (o : Outcome) (new : DeskState) → F (Err r) o new → RefusesCall d r o new) where
  by_checks : (tests : Tests) (rs : List Refusal) (answer : Result X Refusal) (ends : Ends) (o : Outcome) (new : DeskState)
      → (passes tests rs ≡ true → F answer o new → ends o new) → F (checked tests rs answer) o new → Passing d tests rs ends o new
  by_checks tests [] answer ends o new done h = done refl h
  by_checks tests (r ∷ rs) answer ends o new done h = by (tests r) refl h (by_checks tests rs answer ends o new)
    where
      by : (t : Bool) → tests r ≡ t → F (cond t (checked tests rs answer) (Err r)) o new
          → ((passes tests rs ≡ true → F answer o new → ends o new) → F (checked tests rs answer) o new → Passing d tests rs ends o new)
          → MatchBool t (Passing d tests rs ends o new) (RefusesCall d r o new)
      by true is h rest = rest (λ all. done (rw is all)) h
      by false is h rest = refuses r o new h

pub poll_step : (d : DeskState) (number most : ℤ) (limit : Option ℤ) (o : Outcome) (new : DeskState) → PollsBy d limit (poll_decision d number most limit) o new → Step d (calls.ReplayPoll number most limit) o new
poll_step d number most limit o new h =
    let found = open_replay_in d number in
    by_checks d (PollsBy d limit) (λ r o new h. h) (poll_tests d number most limit) checks (open_replay_of found) (Either (Unread d) (GivesFrames d limit found (recording_of d found))) o new
    (λ all polled.
    let parts : ((int_le (pos 1) most && int_le most (pos 4096) && is_limit limit) ≡ true) × ((is_some found && true) ≡ true) = both all in
    open_of found (both parts.1).0 polled) h
  where
    open_of : (found : Option OpenReplay) → is_some found ≡ true → PollsBy d limit (open_replay_of found) o new → Either (Unread d) (GivesFrames d limit found (recording_of d found)) o new
    open_of None some polled = absurd (true≢false (sym some))
    open_of (Some replay) some polled = polled

pub sweep_step : (d : DeskState) (o : Outcome) (new : DeskState) → SweepsBy d (checked (sweep_tests d) checks (Ok tt)) o new → Step d calls.Sweep o new
sweep_step d o new h = by_checks d (SweepsBy d) (λ r o new h. h) (sweep_tests d) checks (Ok tt) (SweepsBy d (Ok tt)) o new (λ all swept. swept) h

pub verify_step : (d : DeskState) (id : ℤ) (o : Outcome) (new : DeskState) → VerifiesBy d (checked (verify_tests d id) checks (Ok tt)) o new → Step d (calls.Verify id) o new
verify_step d id o new h = by_checks d (VerifiesBy d) (λ r o new h. h) (verify_tests d id) checks (Ok tt) (VerifiesBy d (Ok tt)) o new (λ all verified. verified) h

-- ---- a replay is opened

refused_by : (d : DeskState) (r : Refusal) (o : Outcome) (new : DeskState) → OpensBy d (opening_decided (Err r)) o new → RefusesCall d r o new
refused_by d r o new h = h

unless_then : (d : DeskState) (A B : Ends) (o : Outcome) (new : DeskState) → (A o new → B o new) → UnlessBoundary d A o new → UnlessBoundary d B o new
unless_then d A B o new to (inl bad) = inl bad
unless_then d A B o new to (inr (inl unread)) = inr (inl unread)
unless_then d A B o new to (inr (inr ends)) = inr (inr (to ends))

at_position : (d : DeskState) (found : Option Registration) (position : ℤ) (behind : Result Opening Refusal) (ends : Ends) (o : Outcome) (new : DeskState) → (OpensAs d behind o new → ends o new) → OpensBy d (opened_at found behind position) o new → AtPosition d found position ends o new
at_position d None position behind ends o new to h = unless_then d (OpensAs d behind) ends o new to h
at_position d (Some r) position behind ends o new to h = by (is_end position r) h
  where
    by : (b : Bool) → OpensBy d (cond b (opening.Decided behind) (opening.IfBoundary position behind)) o new → MatchBool b (ends o new) (UnlessBoundary d ends o new)
    by true h = to h
    by false h = unless_then d (OpensAs d behind) ends o new to h

pub open_step : (d : DeskState) (id position size : ℤ) (o : Outcome) (new : DeskState) → OpensBy d (open_decision d id position size) o new → Step d (calls.ReplayOpen id position size) o new
open_step d id position size o new h =
    let found = registration_in d.register id in
    let next = begins_at position found in
    let tests = open_tests d id position size true in
    let behind = checked tests (block_checks ++ last_checks) (Ok (opening_of d id position size)) in
    let opened : Ends = Passing d tests (block_checks ++ last_checks) (Ended (Ok (told.Reply (replies.ReplayOpened d.callers.next_replay))) (after_open id next (bound_of next size) d)) in
    by_checks d (λ x. OpensBy d (opening_decided x)) (refused_by d) tests first_checks (Ok (opened_at found behind next)) (AtPosition d found next opened) o new
    (λ all at. at_position d found next behind opened o new (λ opens. by_checks d (OpensAs d) (λ r o new h. h) tests (block_checks ++ last_checks) (Ok (opening_of d id position size)) (Ended (Ok (told.Reply (replies.ReplayOpened d.callers.next_replay))) (after_open id next (bound_of next size) d)) o new (λ rest done. done) opens) at) h

-- ---- what is refused by anything but a device fault leaves the desk

-- an end that is refused so leaves it
record Stays (d : DeskState) (ends : Ends) : Type 0 where
  is : (refusal : Refusal) (new : DeskState) → refusal ≢ DeviceFault → ends (Err refusal) new → new ≡ d

refuses_stay : (d : DeskState) (r : Refusal) → Stays d (RefusesCall d r)
refuses_stay d r = record { is = λ refusal new other h. h.1 }

told_stays : (d x : DeskState) (t : Told) → Stays d (Ended (Ok t) x)
told_stays d x t = record { is = λ refusal new other h. absurd (let clash = h.0 in cc) }

either_stays : (d : DeskState) (A B : Ends) → Stays d A → Stays d B → Stays d (Either A B)
either_stays d A B first second = record { is = λ refusal new other h. elim h [ inl this ↦ first.is refusal new other this | inr that ↦ second.is refusal new other that ] }

passing_stays : (d : DeskState) (tests : Tests) (rs : List Refusal) (ends : Ends) → Stays d ends → Stays d (Passing d tests rs ends)
passing_stays d tests [] ends stays = record { is = stays.is }
passing_stays d tests (r ∷ rs) ends stays = record { is = λ refusal new other h. by (tests r) (passing_stays d tests rs ends stays) refusal new other h }
  where
    by : (b : Bool) → Stays d (Passing d tests rs ends) → (refusal : Refusal) (new : DeskState) → refusal ≢ DeviceFault → MatchBool b (Passing d tests rs ends (Err refusal) new) (RefusesCall d r (Err refusal) new) → new ≡ d
    by true rest refusal new other h = rest.is refusal new other h
    by false rest refusal new other h = h.1

breaks_stay : (d : DeskState) → Stays d (Breaks d)
breaks_stay d = record { is = λ refusal new other h. elim h [ inl fault ↦ fault.1 | inr broke ↦ absurd (other (let same = broke.0 in cc)) ] }

-- an answer, or a write fails
done_stays : (d x : DeskState) (t : Told) → Stays d (Either (Ended (Ok t) x) (Breaks d))
done_stays d x t = either_stays d (Ended (Ok t) x) (Breaks d) (told_stays d x t) (breaks_stay d)

unread_stays : (d : DeskState) → Stays d (Unread d)
unread_stays d = record { is = λ refusal new other h. elim h [ inl fault ↦ fault.1 | inr damaged ↦ damaged.2.1 ] }

boundary_stays : (d : DeskState) (ends : Ends) → Stays d ends → Stays d (UnlessBoundary d ends)
boundary_stays d ends stays = either_stays d (RefusesCall d BadPosition) (Either (Unread d) ends) (refuses_stay d BadPosition) (either_stays d (Unread d) ends (unread_stays d) stays)

does_stay : (d : DeskState) (decided : Result Command Refusal) → Stays d (Does d decided)
does_stay d (Ok c) = done_stays d (desk_after d c) (told.Reply (reply_after d c))
does_stay d (Err r) = refuses_stay d r

decided_stays : (d : DeskState) (decision : Decision) → Stays d (Decided d decision)
decided_stays d (decisions.Refused r) = refuses_stay d r
decided_stays d (decisions.Answered reply) = told_stays d d (told.Reply reply)
decided_stays d (decisions.Accepted c) = done_stays d (desk_after d c) (told.Reply (reply_after d c))
decided_stays d (decisions.IfBoundary id position decided) = boundary_stays d (Does d decided) (does_stay d decided)

position_stays : (d : DeskState) (found : Option Registration) (position : ℤ) (ends : Ends) → Stays d ends → Stays d (AtPosition d found position ends)
position_stays d None position ends stays = record { is = (boundary_stays d ends stays).is }
position_stays d (Some r) position ends stays = record { is = by (is_end position r) }
  where
    by : (b : Bool) (refusal : Refusal) (new : DeskState) → refusal ≢ DeviceFault → MatchBool b (ends (Err refusal) new) (UnlessBoundary d ends (Err refusal) new) → new ≡ d
    by true refusal new other h = stays.is refusal new other h
    by false refusal new other h = (boundary_stays d ends stays).is refusal new other h

gives_stay : (d : DeskState) (limit : Option ℤ) (found : Option OpenReplay) (known : Option Registration) → Stays d (GivesFrames d limit found known)
gives_stay d limit None known = record { is = λ refusal new other h. absurd h }
gives_stay d limit (Some replay) None = record { is = λ refusal new other h. absurd h }
gives_stay d limit (Some replay) (Some r) = record { is = λ refusal new other h. absurd (let clash = h.2.0 in cc) }

swept_stays : (d : DeskState) → Stays d (SweepsBy d (Ok tt))
swept_stays d = record { is = λ refusal new other h. elim h [ inl swept ↦ swept.1.1 | inr fault ↦ fault.1 ] }

verified_stays : (d : DeskState) → Stays d (VerifiesBy d (Ok tt))
verified_stays d = record { is = λ refusal new other h. elim h [ inl counted ↦ counted.1.1 | inr unread ↦ (unread_stays d).is refusal new other unread ] }

checkpoint_stays : (d : DeskState) → Stays d (Either (Ended (Ok (told.Reply replies.Checkpointed)) (checkpointed d)) (Either (RefusedByBanks d) (Breaks d)))
checkpoint_stays d =
    let banks : Stays d (RefusedByBanks d) = either_stays d (RefusesCall d NotCatalogue) (RefusesCall d HistoryFull) (refuses_stay d NotCatalogue) (refuses_stay d HistoryFull) in
    either_stays d (Ended (Ok (told.Reply replies.Checkpointed)) (checkpointed d)) (Either (RefusedByBanks d) (Breaks d)) (told_stays d (checkpointed d) (told.Reply replies.Checkpointed))
    (either_stays d (RefusedByBanks d) (Breaks d) banks (breaks_stay d))

step_stays : (d : DeskState) (asked : Asked) → Stays d (Step d asked)
step_stays d (calls.Ask request) = decided_stays d (decision_of d request)
step_stays d (calls.Write session block) =
    let tests = write_tests d session block true in
    let done = done_stays d (after_write session block d) (told.Reply (replies.Written block.last)) in
    passing_stays d tests (first_checks ++ block_checks) _ (either_stays d (RefusesCall d BadBlock) _ (refuses_stay d BadBlock) (passing_stays d tests last_checks _ done))
step_stays d (calls.Settle session) =
    let found = session_in d session in
    passing_stays d (settle_tests d session) checks _ (done_stays d (settled found d) (told.Reply (replies.Settled (settled_position d found))))
step_stays d (calls.SettleAll sessions) =
    passing_stays d (settle_all_tests d sessions) checks _ (done_stays d (settled_each sessions d) (told.Reply (replies.SettledAll (positions_each sessions d))))
step_stays d calls.Checkpoint = passing_stays d (sweep_tests d) checks _ (checkpoint_stays d)
step_stays d (calls.ReplayOpen id position size) =
    let found = registration_in d.register id in
    let next = begins_at position found in
    let tests = open_tests d id position size true in
    let opened = told_stays d (after_open id next (bound_of next size) d) (told.Reply (replies.ReplayOpened d.callers.next_replay)) in
    passing_stays d tests first_checks _ (position_stays d found next _ (passing_stays d tests (block_checks ++ last_checks) _ opened))
step_stays d (calls.ReplayPoll number most limit) =
    let found = open_replay_in d number in
    passing_stays d (poll_tests d number most limit) checks _ (either_stays d (Unread d) (GivesFrames d limit found (recording_of d found)) (unread_stays d) (gives_stay d limit found (recording_of d found)))
step_stays d (calls.ReplayClose number) = passing_stays d (close_tests d number) checks _ (told_stays d (after_close number d) (told.Reply replies.Closed))
step_stays d calls.Sweep = passing_stays d (sweep_tests d) checks (SweepsBy d (Ok tt)) (swept_stays d)
step_stays d (calls.Verify id) = passing_stays d (verify_tests d id) checks (VerifiesBy d (Ok tt)) (verified_stays d)

-- want of memory too
pub stepped_stays : (d : DeskState) (asked : Asked) (refusal : Refusal) (new : DeskState) → refusal ≢ DeviceFault → Stepped d asked (Err refusal) new → new ≡ d
stepped_stays d asked refusal new other (inl step) = (step_stays d asked).is refusal new other step
stepped_stays d asked NoMemory new other (inr same) = same
stepped_stays d asked DeviceFault new other (inr out) = absurd (other refl)
stepped_stays d asked refusal new other (inr out) = absurd out
