-- Calls that only read: how they end, and what becomes of the open replays.
use Rattle.std.proofs.Common.{◌≡◌, ◌≢◌, ◌∙◌, ◌||◌, inl, inr, sym, ap, subst, refl, cond, ℤ, Bool, true, false, true≢false, IsTrue, List, [], ◌∷◌, Option, None, Some}
use Rattle.std.specs.Prelude.{IsErrOf, IsFalse, IsSomeAnd, Result, Ok, Err, unsigned_abs}
use Rattle.engine_core.proofs.Words.{Archive, ArchiveEnds, CallEnds, Content, DeskState, DeviceFault, Each, EndsAs, EndsEvent, EngineState, Event, HasBlocks, HasFailed, IsAtBoundary, IsConsistent, IsCrashConsistent, IsOutside, IsQuiet, IsTied, LogState, NoMemory, OpenReplay, Outcome, PolledFrame, Recording, Refusal, Reply, Stepped, Tests, archive_of, asked_of, change, checked, checks, each_change, each_found, empty, found_number, is_boundary, open_replay_in, passes, poll_decision, polled, polled_open, recording_at, replay_number, told_of, with_desk}
use Rattle.archive_model.specs.declared.reply.Reply.TheVariants as replies
use Rattle.archive_model.proofs.AnswerLemmas.{all_hold}
use Rattle.control_core.specs.declared.asked.Asked.{Asked}
use Rattle.control_core.specs.declared.asked.Asked.TheVariants as calls
use Rattle.control_core.specs.declared.event.Event.TheVariants as events
use Rattle.control_core.specs.Callers.{CallersState, moved_to}
use Rattle.control_core.specs.Changes.{after_poll}
use Rattle.control_core.specs.Exact.{ArchiveEnd, Leaves, PolledEnds, PollingEnds, frames_end, from_position, goes_on, plain_poll, poll_event, reads_files}
use Rattle.control_core.specs.Seats.{KeepsSeats}
use Rattle.control_core.specs.Turns.{held_to, open_replay_of, poll_tests}
use Rattle.control_core.proofs.FoundLemmas.{each_weaker}
use Rattle.control_core.proofs.PollEventLemmas.{asked_of_poll, ends_of_poll, poll_reads, told_of_poll}
use Rattle.control_core.proofs.StayLemmas.{blocks_stay, same_recording}
use Rattle.engine_core.specs.Calls.{Keeps, is_fault}
use Rattle.engine_core.proofs.files.CommitLemmas.{memory_is_no_fault}
use Rattle.engine_core.proofs.calls.EndedLemmas.{bank_told, quiet_goes_on, renews, reread, same_bank, spared, still}

-- ---- a desk with other replays

abbrev pub calls_with : List OpenReplay → ℤ → CallersState → CallersState
calls_with rs next c = record c { replays = rs; next_replay = next }

abbrev pub with_replays : List OpenReplay → ℤ → DeskState → DeskState
with_replays rs next d = record d { callers = calls_with rs next d.callers }

-- an archive is consistent wherever its replays are
other_replays : (a : Archive) (rs : List OpenReplay) (next : ℤ) → IsConsistent a → KeepsSeats a.desk.register (calls_with rs next a.desk.callers) → IsConsistent (with_desk (with_replays rs next a.desk) a)
other_replays a rs next was seats =
    let b : Archive = with_desk (with_replays rs next a.desk) a in
    record {
      agrees = was.agrees;
      well = was.well;
      seats = seats;
      blocks = each_weaker (λ s. HasBlocks a s s.written) (λ s. HasBlocks b s s.written) a.desk.callers.sessions (λ s has. blocks_stay a b s s.written refl (λ r found. same_recording a b s r found) has) was.blocks;
      unwritten = was.unwritten;
      broken = was.broken;
    }

-- the log stays with a desk whose history is as it was
pub tied_on : (log : LogState) (d other new : DeskState) → other.is_broken ≡ d.is_broken → other.counted ≡ d.counted → other.limit ≡ d.limit → other.version ≡ d.version → new ≡ other → IsTied log d → IsTied log new
tied_on log d other new broken counted limit version is tied =
    let works : IsFalse other.is_broken → IsFalse d.is_broken = λ off. sym broken ∙ off in
    subst (IsTied log) (sym is) (record {
      works = λ off. tied.works (works off);
      counted = λ off. tied.counted (works off) ∙ sym counted;
      limit = λ off. tied.limit (works off) ∙ sym limit;
      version = λ off. tied.version (works off) ∙ sym version;
    })

-- ---- calls that only read

-- an archive of a desk, where none is known
pub no_content : Content
no_content = record { state = empty; blocks = λ number. []; doubt = None }

-- nothing but the count of faults has changed
pub reads_only : (old new : EngineState) (event : Event) (result : Result Reply Refusal) → IsQuiet old.life new.life → new.log ≡ old.log → new.desk ≡ old.desk → event ≢ events.Sweep → renews event ≡ false → (IsErrOf result DeviceFault → HasFailed old.life new.life)
    → Stepped old.desk (asked_of event) (told_of old.desk event result) old.desk → ((c : Content) → IsCrashConsistent old.life old.log (archive_of old c) → EndsAs old.life new.life event (archive_of old c) result (archive_of old c)) → EndsEvent old new event result
reads_only old new event result quiet log desk other beside cause step ends = record {
  goes_on = quiet_goes_on old.life new.life quiet;
  bank = bank_told event old new.log result beside (same_bank old.log new.log log);
  cause = cause;
  machine = subst (λ (d : DeskState). Stepped old.desk (asked_of event) (told_of old.desk event result) d) (sym desk) step;
  kept = spared _ old new result (record { files = quiet; log = log; desk = desk });
  swept = λ removed is. absurd (other is);
  ended = λ c was cut. still old new (archive_of old c) (EndsAs old.life new.life event (archive_of old c) result) quiet log desk was (ends c was);
}

-- other replays are open
pub reads_on : (old new : EngineState) (event : Event) (reply : Reply) (rs : List OpenReplay) (next : ℤ) → IsQuiet old.life new.life → new.log ≡ old.log → new.desk ≡ with_replays rs next old.desk → event ≢ events.Sweep → renews event ≡ false
    → Stepped old.desk (asked_of event) (told_of old.desk event (Ok reply)) (with_replays rs next old.desk) → (KeepsSeats old.desk.register old.desk.callers → KeepsSeats old.desk.register (calls_with rs next old.desk.callers))
    → ((c : Content) → IsCrashConsistent old.life old.log (archive_of old c) → IsTrue new.life.obeys → Each (IsAtBoundary c.state) rs)
    → ((c : Content) → IsCrashConsistent old.life old.log (archive_of old c) → EndsAs old.life new.life event (archive_of old c) (Ok reply) (with_desk (with_replays rs next old.desk) (archive_of old c))) → EndsEvent old new event (Ok reply)
reads_on old new event reply rs next quiet log desk other beside step seats at ends = record {
  goes_on = quiet_goes_on old.life new.life quiet;
  bank = bank_told event old new.log (Ok reply) beside (same_bank old.log new.log log);
  cause = λ fault. absurd (no_error fault);
  machine = subst (λ (d : DeskState). Stepped old.desk (asked_of event) (told_of old.desk event (Ok reply)) d) (sym desk) step;
  kept = tt;
  swept = λ removed is. absurd (other is);
  ended = λ c was cut.
      let a : Archive = archive_of old c in
      let b : Archive = with_desk (with_replays rs next old.desk) a in
      reread old new a b (EndsAs old.life new.life event a (Ok reply)) quiet log desk refl refl was.stand (other_replays a rs next was.archive (seats was.archive.seats)) (at c was) was (ends c was);
}
  where
    no_error : Ok reply ≡ Err DeviceFault → ⊥
    no_error is = cc

-- ---- what is decided

-- a refusal, or a reply, that is decided
pub leaves_refused : (a b : Archive) (decided : Result Reply Refusal) (refusal : Refusal)
    → decided ≡ Err refusal → Leaves a b decided (Err refusal) a
leaves_refused a b decided refusal is = subst (λ (d : Result Reply Refusal). Leaves a b d (Err refusal) a) (sym is) (refl, refl)

pub leaves_told : (a b : Archive) (decided : Result Reply Refusal) (reply : Reply)
    → decided ≡ Ok reply → Leaves a b decided (Ok reply) b
leaves_told a b decided reply is = subst (λ (d : Result Reply Refusal). Leaves a b d (Ok reply) b) (sym is) (refl, refl)

-- the tests give the same refusal whatever is behind them
pub checked_err : {X Y : Type 0} (tests : Tests) (rs : List Refusal) (x : X) (y : Result Y Refusal) (refusal : Refusal) → checked tests rs (Ok x) ≡ Err refusal → checked tests rs y ≡ Err refusal
checked_err tests [] x y refusal is = absurd cc
checked_err {X = X} {Y = Y} tests (r ∷ rs) x y refusal is = by (tests r) is (checked_err tests rs x y refusal)
  where
    by : (b : Bool) → cond b (checked tests rs (Ok x)) (Err r) ≡ Err refusal → (checked tests rs (Ok x) ≡ Err refusal → checked tests rs y ≡ Err refusal) → cond b (checked tests rs y) (Err r) ≡ Err refusal
    by true e later = later e
    by false e later = ap Err cc

pub checked_ok : {X Y : Type 0} (tests : Tests) (rs : List Refusal) (x z : X) (y : Result Y Refusal) → checked tests rs (Ok x) ≡ Ok z → checked tests rs y ≡ y
checked_ok tests [] x z y is = refl
checked_ok {X = X} {Y = Y} tests (r ∷ rs) x z y is = by (tests r) is (checked_ok tests rs x z y)
  where
    by : (b : Bool) → cond b (checked tests rs (Ok x)) (Err r) ≡ Ok z → (checked tests rs (Ok x) ≡ Ok z → checked tests rs y ≡ y) → cond b (checked tests rs y) (Err r) ≡ y
    by true e later = later e
    by false e later = absurd cc

-- one of the refusals is a device fault
abbrev pub has_fault : List Refusal → Bool
has_fault [] = false
has_fault (r ∷ rs) = is_fault (Err r) || has_fault rs

-- no check is refused by one
pub checked_fault : {X : Type 0} (tests : Tests) (rs : List Refusal) (x : Result X Refusal)
    → has_fault rs ≡ false → checked tests rs x ≡ Err DeviceFault → x ≡ Err DeviceFault
checked_fault tests [] x none is = is
checked_fault {X = X} tests (r ∷ rs) x none is = by (tests r) is (checked_fault tests rs x (behind (is_fault (Err r)) none))
  where
    behind : (b : Bool) → (b || has_fault rs) ≡ false → has_fault rs ≡ false
    behind true e = absurd (true≢false e)
    behind false e = e

    front : r ≡ DeviceFault → (is_fault (Err r) || has_fault rs) ≡ false → ⊥
    front same e = true≢false (sym (ap (λ (x : Refusal). is_fault (Err x) || has_fault rs) same) ∙ e)

    by : (b : Bool) → cond b (checked tests rs x) (Err r) ≡ Err DeviceFault
        → (checked tests rs x ≡ Err DeviceFault → x ≡ Err DeviceFault) → x ≡ Err DeviceFault
    by true e later = later e
    by false e later = let same : r ≡ DeviceFault = cc in absurd (front same none)

pub answer_no_fault : {X : Type 0} (tests : Tests) (x : X) (refusal : Refusal) → checked tests checks (Ok x) ≡ Err refusal → IsErrOf {T = Reply} (Err refusal) DeviceFault → ⊥
answer_no_fault {X = X} tests x refusal is fault =
    let same : refusal ≡ DeviceFault = cc in
    let told : Ok x ≡ Err DeviceFault = checked_fault tests checks (Ok x) refl (is ∙ ap Err same) in
    absurd cc

-- a read that failed by a fault of the disk, or by want of memory
pub outside_read : (a : Archive) (event : Event) (faulted : Type 0) (refusal : Refusal) → IsOutside refusal → (refusal ≡ DeviceFault → faulted × IsTrue (reads_files a.desk event)) → CallEnds a event faulted (Err refusal) a
outside_read a event faulted refusal outside cause = elim outside [
  | inl fault ↦ (let why = cause fault in subst (λ (r : Refusal). CallEnds a event faulted (Err r) a) (sym fault) (inr (why.0, inl (why.1, refl))))
  | inr memory ↦ subst (λ (r : Refusal). CallEnds a event faulted (Err r) a) (sym memory) (inr refl)
]

-- a call for which memory was refused
pub unkept : (a : Archive) (event : Event) (faulted : Type 0) (refusal : Refusal)
    → refusal ≡ NoMemory → CallEnds a event faulted (Err refusal) a
unkept a event faulted refusal memory = outside_read a event faulted refusal (inr memory) (λ fault. absurd (memory_is_no_fault refusal memory fault))

-- ---- a poll

-- one with a limit ends as one without, but for its frames
pub ends_poll : (a : Archive) (number most : ℤ) (limit : Option ℤ) (outcome : Result Reply Refusal) (b : Archive) → PollingEnds a most limit (poll_decision a.desk number most limit) outcome b → ArchiveEnds a (poll_event number most limit) outcome b
ends_poll a number most limit outcome b ends = subst (λ (E : ArchiveEnd). E outcome b) (sym (ends_of_poll a number most limit)) ends

pub steps_poll : (d : DeskState) (number most : ℤ) (limit : Option ℤ) (result : Result Reply Refusal) (new : DeskState) → Stepped d (calls.ReplayPoll number most limit) (plain_poll (from_position (open_replay_in d number)) result) new
    → Stepped d (asked_of (poll_event number most limit)) (told_of d (poll_event number most limit) result) new
steps_poll d number most limit result new steps =
    subst (λ (asked : Asked). Stepped d asked (told_of d (poll_event number most limit) result) new) (sym (asked_of_poll number most limit))
    (subst (λ (tells : Result Reply Refusal → Outcome). Stepped d (calls.ReplayPoll number most limit) (tells result) new) (sym (told_of_poll d number most limit)) steps)

pub reads_poll : (d : DeskState) (number most : ℤ) (limit : Option ℤ) → passes (poll_tests d number most limit) checks ≡ true → IsTrue (reads_files d (poll_event number most limit))
reads_poll d number most limit passed = poll_reads d number most limit ∙ passed

pub keeps_poll : (number most : ℤ) (limit : Option ℤ) (a b : Archive) → b ≡ with_desk b.desk a → Keeps (poll_event number most limit) a b
keeps_poll number most None a b same = same
keeps_poll number most (Some limit) a b same = same

pub poll_sweeps_nothing : (number most : ℤ) (limit : Option ℤ) → poll_event number most limit ≢ events.Sweep
poll_sweeps_nothing number most None is = absurd cc
poll_sweeps_nothing number most (Some limit) is = absurd cc

pub poll_renews_nothing : (number most : ℤ) (limit : Option ℤ) → renews (poll_event number most limit) ≡ false
poll_renews_nothing number most None = refl
poll_renews_nothing number most (Some limit) = refl

-- each test of it holds
pub poll_passes : (d : DeskState) (number most : ℤ) (limit : Option ℤ) (replay : OpenReplay)
    → poll_decision d number most limit ≡ Ok replay → passes (poll_tests d number most limit) checks ≡ true
poll_passes d number most limit replay is = (all_hold (poll_tests d number most limit) checks (open_replay_of (open_replay_in d number)) replay is).0

pub poll_no_fault : (d : DeskState) (number most : ℤ) (limit : Option ℤ) (refusal : Refusal) → poll_decision d number most limit ≡ Err refusal → IsErrOf {T = Reply} (Err refusal) DeviceFault → ⊥
poll_no_fault d number most limit refusal is fault =
    let same : refusal ≡ DeviceFault = cc in
    by (open_replay_in d number) (checked_fault (poll_tests d number most limit) checks (open_replay_of (open_replay_in d number)) refl (is ∙ ap Err same))
  where
    by : (o : Option OpenReplay) → open_replay_of o ≡ Err DeviceFault → ⊥
    by None e = cc
    by (Some replay) e = cc

pub polling_refused : (a : Archive) (number most : ℤ) (limit : Option ℤ) (refusal : Refusal) → poll_decision a.desk number most limit ≡ Err refusal → ArchiveEnds a (poll_event number most limit) (Err refusal) a
polling_refused a number most limit refusal is = ends_poll a number most limit (Err refusal) a (subst (λ (d : Result OpenReplay Refusal). PollingEnds a most limit d (Err refusal) a) (sym is) (refl, refl))

-- it is at a boundary
pub open_at : (a : Archive) (number : ℤ) (replay : OpenReplay) (r : Recording) → open_replay_in a.desk number ≡ Some replay → recording_at a replay.recording ≡ Some r → Each (IsAtBoundary a.state) a.desk.callers.replays → is_boundary replay.next r ≡ true
open_at a number replay r found there all =
    subst (λ (o : Option Recording). IsSomeAnd o (λ (v : Recording). IsTrue (is_boundary replay.next v))) there (each_found replay_number (IsAtBoundary a.state) number a.desk.callers.replays replay all found)

-- and at one again where it goes on
pub moved_at : (a : Archive) (number next : ℤ) (replay : OpenReplay) (r : Recording) → open_replay_in a.desk number ≡ Some replay → recording_at a replay.recording ≡ Some r → is_boundary next r ≡ true → Each (IsAtBoundary a.state) a.desk.callers.replays
    → Each (IsAtBoundary a.state) (change replay_number number (moved_to next) a.desk.callers.replays)
moved_at a number next replay r found there boundary all = each_change replay_number (IsAtBoundary a.state) number (moved_to next) a.desk.callers.replays all
    (λ x known has.
    let this : Some replay ≡ Some x = sym found ∙ known in
    let same : replay ≡ x = cc in
    subst (λ (y : OpenReplay). IsAtBoundary a.state (moved_to next y)) same (subst (λ (o : Option Recording). IsSomeAnd o (λ (v : Recording). IsTrue (is_boundary next v))) (sym there) boundary))

pub polled_ends : (a : Archive) (number most next : ℤ) (limit : Option ℤ) (replay : OpenReplay) (r : Recording) (frames : List PolledFrame) (goes : Option ℤ) → poll_decision a.desk number most limit ≡ Ok replay → recording_at a replay.recording ≡ Some r
    → frames ≡ polled replay.next (held_to limit replay.bound) (unsigned_abs most) r → next ≡ frames_end replay.next frames → goes ≡ goes_on r replay next
    → ArchiveEnds a (poll_event number most limit) (Ok (replies.Polled frames goes)) (with_desk (after_poll number next a.desk) a)
polled_ends a number most next limit replay r frames goes is there given ends on =
    let all : List PolledFrame = polled replay.next (held_to limit replay.bound) (unsigned_abs most) r in
    let same : next ≡ frames_end replay.next all = ends ∙ ap (frames_end replay.next) given in
    let named : number ≡ replay.number = sym (found_number replay_number number a.desk.callers.replays replay (polled_open a.desk number most limit replay is)) in
    let answer : Result Reply Refusal = Ok (replies.Polled frames goes) in
    let after : Archive = with_desk (after_poll number next a.desk) a in
    ends_poll a number most limit answer after
    (subst (λ (d : Result OpenReplay Refusal). PollingEnds a most limit d answer after) (sym is)
    (subst (λ (o : Option Recording). PolledEnds a replay most limit o answer after) (sym there) (
      ap (λ (f : List PolledFrame). Ok (replies.Polled f goes)) given ∙ ap (λ (g : Option ℤ). Ok (replies.Polled all g)) (on ∙ ap (goes_on r replay) same),
      ap (λ (n : ℤ). with_desk (after_poll n next a.desk) a) named ∙ ap (λ (n : ℤ). with_desk (after_poll replay.number n a.desk) a) same,
    )))
