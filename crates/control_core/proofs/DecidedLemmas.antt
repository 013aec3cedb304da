-- A command that is decided once the frames are asked is accepted, and so is the append of a settling.
use Rattle.std.proofs.Common.{◌≡◌, ◌≢◌, ◌&&◌, ◌||◌, ◌+ℤ◌, pos, ◌⊎◌, inl, inr, not, ℤ, Bool, true, false, cond, List, [], ◌∷◌, ◌++◌, Option, Some, None, Result, Ok, Err, refl, sym, ap, subst, ◌∙◌, true≢false}
use Rattle.std.specs.Prelude.{IsTrue, is_some}
use Rattle.std.specs.List.{list_any}
use Rattle.std.specs.Ordering.{int_eq}
use Rattle.std.proofs.lemmas.Bool.Decides.{Decides-int_eq}
use Rattle.frame_core.specs.declared.refusal.Refusal.{Refusal}
use Rattle.frame_core.specs.declared.refusal.Refusal.TheVariants.{BadPosition}
use Rattle.archive_model.specs.declared.command.Command.{Command}
use Rattle.archive_model.specs.declared.command.Command.TheVariants as commands
use Rattle.archive_model.specs.declared.command.StartFields.{StartFields}
use Rattle.archive_model.specs.declared.command.ExtendFields.{ExtendFields}
use Rattle.archive_model.specs.declared.registration.Registration.{Registration}
use Rattle.archive_model.specs.declared.reply.Reply.{Reply}
use Rattle.archive_model.specs.Keyed.{Each, find}
use Rattle.archive_model.specs.Version.{holds}
use Rattle.archive_model.specs.Register.{RegisterState, extends, is_active, is_end, is_later_base, is_within, may_begin, may_record, registration_in}
use Rattle.archive_model.specs.Descriptor.{is_aligned, is_in_range}
use Rattle.archive_model.specs.Commands.{frames_of, recorded_in}
use Rattle.frame_core.specs.Block.{covered}
use Rattle.archive_model.specs.Accepting.{Accepts, Follow, begins_in}
use Rattle.archive_model.specs.Checks as model
use Rattle.archive_model.specs.Checks.{Tests, block_checks, checked, checks, first_checks, is_boundary_by, is_of, last_checks, passes}
use Rattle.archive_model.proofs.AnswerLemmas.{all_hold}
use Rattle.archive_model.proofs.WellLemmas.{both}
use Rattle.archive_model.proofs.StateLemmas.{each_found}
use Rattle.control_core.specs.declared.callers.RecorderSession.{RecorderSession}
use Rattle.control_core.specs.declared.callers.Written.{Written}
use Rattle.control_core.specs.Decided.{Decision}
use Rattle.control_core.specs.Decided as decisions
use Rattle.control_core.specs.declared.request.Request.{Request}
use Rattle.control_core.specs.declared.request.Request.TheVariants as requests
use Rattle.control_core.specs.declared.turns.Settling.{Settling}
use Rattle.control_core.specs.declared.turns.Settling.TheVariants as settling
use Rattle.control_core.specs.Callers.{session_number}
use Rattle.control_core.specs.Desk.{DeskState, has_room, has_session_number, is_replay_before, is_replayed}
use Rattle.control_core.specs.Changes.{settled, writer_in}
use Rattle.control_core.specs.Decisions.{Allows, accepted, answered, command_in, command_tests, decided, decision_of, if_boundary, truncate_tests}
use Rattle.control_core.specs.Turns.{DecidesSettling, has_written, session_in, settle_decision, settle_tests, settling_by, settling_of}
use Rattle.control_core.specs.Seats.{AreApart, IsWriting, KeepsSeats}
use Rattle.control_core.specs.Agreement.{Agrees, WroteBlocks}
use Rattle.control_core.specs.Exact.{Archive, asked_frames, book_of, recording_at}
use Rattle.control_core.specs.Consistent.{HasBlocks, IsAcceptable, IsConsistent, SettlesByAppend, is_asked}
use Rattle.control_core.proofs.AgreementLemmas.{passes_on, passing}
use Rattle.control_core.proofs.AllowedLemmas.{has_entry}

and_true : {a b : Bool} → a ≡ true → b ≡ true → (a && b) ≡ true
and_true x y = rw (x, y) refl

-- ---- an allowed command is accepted

abbrev pub WithRegister : (RegisterState → Tests) → RegisterState → Type 0
WithRegister tests g = passes (tests g) checks ≡ true

accepts_start : (a : Archive) (f : StartFields) → Agrees a.desk a.state → Allows a.desk (commands.Start f) → Accepts (book_of a) (commands.Start f)
accepts_start a f agrees pass =
    let d = a.desk in
    let held : Bool = holds d.version f.channel f.source_identity in
    let whole : (not d.is_broken ≡ true) × ((is_in_range f && (((may_begin d.register && may_record d.register) && has_session_number d) && (held && (has_room d && true)))) ≡ true) = both pass in
    let range : (is_in_range f ≡ true) × ((((may_begin d.register && may_record d.register) && has_session_number d) && (held && (has_room d && true))) ≡ true) = both whole.1 in
    let more : (((may_begin d.register && may_record d.register) && has_session_number d) ≡ true) × ((held && (has_room d && true)) ≡ true) = both range.1 in
    let few : ((may_begin d.register && may_record d.register) ≡ true) × (has_session_number d ≡ true) = both more.0 in
    let room : (held ≡ true) × ((has_room d && true) ≡ true) = both more.1 in
    (true, refl, subst (WithRegister (λ g. model.start_tests g (has_room d) f)) agrees (and_true range.0 (and_true few.0 room.1)))

accepts_stop : (a : Archive) (id timestamp : ℤ) → Agrees a.desk a.state → Allows a.desk (commands.Stop id timestamp) → Accepts (book_of a) (commands.Stop id timestamp)
accepts_stop a id timestamp agrees pass =
    let tests : Tests = model.stop_tests (registration_in a.desk.register id) (has_room a.desk) timestamp in
    let whole : (not a.desk.is_broken ≡ true) × (passes tests checks ≡ true) = both pass in
    (true, refl, subst (WithRegister (λ g. model.stop_tests (registration_in g id) (has_room a.desk) timestamp)) agrees whole.1)

accepts_extend : (a : Archive) (f : ExtendFields) → Agrees a.desk a.state → Allows a.desk (commands.Extend f) → Accepts (book_of a) (commands.Extend f)
accepts_extend a f agrees pass =
    let d = a.desk in
    let found = registration_in d.register f.recording in
    let stopped : Bool = is_of found (λ r. not (is_active r)) in
    let goes_on : Bool = is_of found (extends f) in
    let counts : Bool = (may_record d.register && has_session_number d) && (has_room d && true) in
    let whole : (not d.is_broken ≡ true) × ((is_some found && (stopped && (goes_on && counts))) ≡ true) = both pass in
    let there : (is_some found ≡ true) × ((stopped && (goes_on && counts)) ≡ true) = both whole.1 in
    let off : (stopped ≡ true) × ((goes_on && counts) ≡ true) = both there.1 in
    let next : (goes_on ≡ true) × (counts ≡ true) = both off.1 in
    let more : ((may_record d.register && has_session_number d) ≡ true) × ((has_room d && true) ≡ true) = both next.1 in
    let few : (may_record d.register ≡ true) × (has_session_number d ≡ true) = both more.0 in
    (true, refl, subst (WithRegister (λ g. model.extend_tests g (has_room d) f)) agrees (and_true there.0 (and_true off.0 (and_true next.0 (and_true few.0 more.1)))))

accepts_purge_segments : (a : Archive) (id position : ℤ) → Agrees a.desk a.state → Allows a.desk (commands.PurgeSegments id position) → Accepts (book_of a) (commands.PurgeSegments id position)
accepts_purge_segments a id position agrees pass =
    let d = a.desk in
    let found = registration_in d.register id in
    let base : Bool = is_of found (is_later_base position) in
    let behind : Bool = not (list_any (is_replay_before id position) d.callers.replays) in
    let whole : (not d.is_broken ≡ true) × ((is_some found && (base && (behind && (has_room d && true)))) ≡ true) = both pass in
    let there : (is_some found ≡ true) × ((base && (behind && (has_room d && true))) ≡ true) = both whole.1 in
    let later : (base ≡ true) × ((behind && (has_room d && true)) ≡ true) = both there.1 in
    let last : (behind ≡ true) × ((has_room d && true) ≡ true) = both later.1 in
    (true, refl, subst (WithRegister (λ g. model.purge_segments_tests (registration_in g id) (has_room d) position)) agrees (and_true there.0 (and_true later.0 last.1)))

accepts_purge : (a : Archive) (id : ℤ) → Agrees a.desk a.state → Allows a.desk (commands.PurgeRecording id) → Accepts (book_of a) (commands.PurgeRecording id)
accepts_purge a id agrees pass =
    let d = a.desk in
    let found = registration_in d.register id in
    let stopped : Bool = is_of found (λ r. not (is_active r)) in
    let unread : Bool = not (is_replayed d id) in
    let whole : (not d.is_broken ≡ true) × ((is_some found && (stopped && (unread && (has_room d && true)))) ≡ true) = both pass in
    let there : (is_some found ≡ true) × ((stopped && (unread && (has_room d && true))) ≡ true) = both whole.1 in
    let off : (stopped ≡ true) × ((unread && (has_room d && true)) ≡ true) = both there.1 in
    let last : (unread ≡ true) × ((has_room d && true) ≡ true) = both off.1 in
    (true, refl, subst (WithRegister (λ g. model.purge_tests (registration_in g id) (has_room d))) agrees (and_true there.0 (and_true off.0 last.1)))

-- a position at an end, or where a frame begins, is a boundary
abbrev pub IsEndOr : Bool → ℤ → Option Registration → Type 0
IsEndOr begins position found = (r : Registration) → found ≡ Some r → (is_end position r ≡ true) ⊎ (begins ≡ true)

boundary : (found : Option Registration) (begins : Bool) (position : ℤ) → IsEndOr begins position found → is_of found (is_boundary_by true position) ≡ true → is_of found (is_boundary_by begins position) ≡ true
boundary None begins position ends has = has
boundary (Some r) begins position ends has =
    let parts : (is_within position r ≡ true) × ((is_end position r || true) ≡ true) = both has in
    and_true parts.0 (by (ends r refl))
  where
    by : (is_end position r ≡ true) ⊎ (begins ≡ true) → (is_end position r || begins) ≡ true
    by (inl end) = rw end refl
    by (inr frame) = rw frame (or_true (is_end position r))
      where
        or_true : (b : Bool) → (b || true) ≡ true
        or_true true = refl
        or_true false = refl

accepts_truncate : (a : Archive) (id position : ℤ) → Agrees a.desk a.state → IsEndOr (begins_in (recording_at a id) position) position (registration_in a.desk.register id) → Allows a.desk (commands.Truncate id position)
    → Accepts (book_of a) (commands.Truncate id position)
accepts_truncate a id position agrees ends pass =
    let d = a.desk in
    let found = registration_in d.register id in
    let begins = begins_in (recording_at a id) position in
    let stopped : Bool = is_of found (λ r. not (is_active r)) in
    let on_boundary : Bool = is_of found (is_boundary_by true position) in
    let may_end : Bool = on_boundary && is_aligned position in
    let unread : Bool = not (is_replayed d id) in
    let whole : (not d.is_broken ≡ true) × ((is_some found && (stopped && (may_end && (unread && (has_room d && true))))) ≡ true) = both pass in
    let there : (is_some found ≡ true) × ((stopped && (may_end && (unread && (has_room d && true)))) ≡ true) = both whole.1 in
    let off : (stopped ≡ true) × ((may_end && (unread && (has_room d && true))) ≡ true) = both there.1 in
    let at : (may_end ≡ true) × ((unread && (has_room d && true)) ≡ true) = both off.1 in
    let inside : (on_boundary ≡ true) × (is_aligned position ≡ true) = both at.0 in
    let last : (unread ≡ true) × ((has_room d && true) ≡ true) = both at.1 in
    let cut = boundary found begins position ends inside.0 in
    (begins, refl, subst (WithRegister (λ g. model.truncate_tests (registration_in g id) (has_room d) begins position)) agrees (and_true there.0 (and_true off.0 (and_true cut last.1))))

-- ---- a decided command

abbrev pub IsDecided : Archive → Command → Type 0
IsDecided a c = IsAcceptable a c × IsTrue (is_asked c)

plain_command : (a : Archive) (o : Result Command Refusal) (c : Command) → asked_frames a (accepted o) ≡ decisions.Accepted c → command_in (accepted o) ≡ Some c
plain_command a (Ok command) c e = cc
plain_command a (Err refusal) c e = absurd cc

by_tests : (a : Archive) (made c : Command) → (Allows a.desk made → IsDecided a made) → asked_frames a (accepted (checked (command_tests a.desk made) checks (Ok made))) ≡ decisions.Accepted c → IsDecided a c
by_tests a made c holds e =
    let is = passing (command_tests a.desk made) checks made c (plain_command a (checked (command_tests a.desk made) checks (Ok made)) c e) in
    subst (IsDecided a) is.1 (holds is.0)

no_answer : (a : Archive) (o : Result Reply Refusal) (c : Command) → asked_frames a (answered o) ≡ decisions.Accepted c → ⊥
no_answer a (Ok reply) c e = cc
no_answer a (Err refusal) c e = cc

in_front : (a : Archive) (tests : Tests) (rs : List Refusal) (decision : Decision) (c : Command) → asked_frames a (decided (checked tests rs (Ok decision))) ≡ decisions.Accepted c → (passes tests rs ≡ true) × (asked_frames a decision ≡ decisions.Accepted c)
in_front a tests [] decision c e = (refl, e)
in_front a tests (r ∷ rs) decision c e = by (tests r) e (in_front a tests rs decision c)
  where
    by : (b : Bool) → asked_frames a (decided (cond b (checked tests rs (Ok decision)) (Err r))) ≡ decisions.Accepted c → (asked_frames a (decided (checked tests rs (Ok decision))) ≡ decisions.Accepted c → (passes tests rs ≡ true) × (asked_frames a decision ≡ decisions.Accepted c))
        → ((b && passes tests rs) ≡ true) × (asked_frames a decision ≡ decisions.Accepted c)
    by true e rest = rest e
    by false e rest = absurd cc

-- what is decided inside a recording needs a frame that begins there
inside : (a : Archive) (id position : ℤ) (behind : Result Command Refusal) (c : Command) → asked_frames a (decisions.IfBoundary id position behind) ≡ decisions.Accepted c → (begins_in (recording_at a id) position ≡ true) × (command_in (accepted behind) ≡ Some c)
inside a id position behind c e = by (begins_in (recording_at a id) position) behind e
  where
    by : (b : Bool) (o : Result Command Refusal) → cond b (accepted o) (decisions.Refused BadPosition) ≡ decisions.Accepted c → (b ≡ true) × (command_in (accepted o) ≡ Some c)
    by true (Ok command) e = (refl, cc)
    by true (Err refusal) e = absurd cc
    by false o e = absurd cc

at_boundary : (a : Archive) (found : Option Registration) (id position : ℤ) (behind : Result Command Refusal) (c : Command) → asked_frames a (if_boundary found id position behind) ≡ decisions.Accepted c
    → IsEndOr (begins_in (recording_at a id) position) position found × (command_in (accepted behind) ≡ Some c)
at_boundary a None id position behind c e = (λ r none. absurd cc, plain_command a behind c e)
at_boundary a (Some r) id position behind c e = by (is_end position r) refl e
  where
    same : (x : Registration) → Some r ≡ Some x → r ≡ x
    same x is = cc

    by : (b : Bool) → is_end position r ≡ b → asked_frames a (cond b (accepted behind) (decisions.IfBoundary id position behind)) ≡ decisions.Accepted c
        → IsEndOr (begins_in (recording_at a id) position) position (Some r) × (command_in (accepted behind) ≡ Some c)
    by true is e = (λ x found. inl (subst (λ (y : Registration). is_end position y ≡ true) (same x found) is), plain_command a behind c e)
    by false is e = let asked = inside a id position behind c e in (λ x found. inr asked.0, asked.1)

truncation : (a : Archive) (id position : ℤ) (c : Command) → Agrees a.desk a.state → asked_frames a (decision_of a.desk (requests.Truncate id position)) ≡ decisions.Accepted c → IsDecided a c
truncation a id position c agrees e =
    let tests = truncate_tests a.desk id position in
    let made = commands.Truncate id position in
    let behind = checked tests (block_checks ++ last_checks) (Ok made) in
    let found = registration_in a.desk.register id in
    let first = in_front a tests first_checks (if_boundary found id position behind) c e in
    let asked = at_boundary a found id position behind c first.1 in
    let second = passing tests (block_checks ++ last_checks) made c asked.1 in
    let allowed = passes_on tests first_checks (block_checks ++ last_checks) first.0 second.0 in
    subst (IsDecided a) second.1 (record { accepted = accepts_truncate a id position agrees asked.0 allowed; allowed = allowed; written = tt }, refl)

pub decided_accepted : (a : Archive) (request : Request) (c : Command) → Agrees a.desk a.state → asked_frames a (decision_of a.desk request) ≡ decisions.Accepted c → IsDecided a c
decided_accepted a (requests.Start f) c agrees e = by_tests a (commands.Start f) c (λ pass. (record { accepted = accepts_start a f agrees pass; allowed = pass; written = tt }, refl)) e
decided_accepted a (requests.Stop id timestamp) c agrees e = by_tests a (commands.Stop id timestamp) c (λ pass. (record { accepted = accepts_stop a id timestamp agrees pass; allowed = pass; written = tt }, refl)) e
decided_accepted a (requests.Extend f) c agrees e = by_tests a (commands.Extend f) c (λ pass. (record { accepted = accepts_extend a f agrees pass; allowed = pass; written = tt }, refl)) e
decided_accepted a (requests.Truncate id position) c agrees e = truncation a id position c agrees e
decided_accepted a (requests.PurgeSegments id position) c agrees e =
    by_tests a (commands.PurgeSegments id position) c (λ pass. (record { accepted = accepts_purge_segments a id position agrees pass; allowed = pass; written = tt }, refl)) e
decided_accepted a (requests.PurgeRecording id) c agrees e = by_tests a (commands.PurgeRecording id) c (λ pass. (record { accepted = accepts_purge a id agrees pass; allowed = pass; written = tt }, refl)) e
decided_accepted a (requests.List from count) c agrees e = absurd (no_answer a _ c e)
decided_accepted a (requests.Find f) c agrees e = absurd (no_answer a _ c e)
decided_accepted a (requests.Positions id) c agrees e = absurd (no_answer a _ c e)
decided_accepted a (requests.Source id) c agrees e = absurd (no_answer a _ c e)

-- ---- a settling

-- what is answered where each test holds
pub held : {X : Type 0} (tests : Tests) (rs : List Refusal) (x y : X) → checked tests rs (Ok x) ≡ Ok y → (passes tests rs ≡ true) × (x ≡ y)
held tests rs x y e =
    let all = all_hold tests rs (Ok x) y e in
    let same : Ok x ≡ Ok y = all.1 in (all.0, cc)

-- the session whose blocks are settled
pub record IsSettled (d : DeskState) (number id : ℤ) (w : Written) : Type 0 where
  pub session : RecorderSession
  pub found : session_in d number ≡ Some session
  pub written : session.written ≡ Some w
  pub recording : session.recording ≡ id

pub settling_session : (d : DeskState) (number id : ℤ) (w : Written) (found : Option RecorderSession) → session_in d number ≡ found → settling_of d found ≡ settling.Blocks id w → IsSettled d number id w
settling_session d number id w None is e = absurd cc
settling_session d number id w (Some s) is e = by s.written refl e
  where
    by : (o : Option Written) → s.written ≡ o → settling_by d s o ≡ settling.Blocks id w → IsSettled d number id w
    by None none e = absurd cc
    by (Some x) some e = let same : x ≡ w = cc in let at : s.recording ≡ id = cc in record { session = s; found = is; written = some ∙ ap Some same; recording = at }

-- the session of a number is the writer of its recording
writer_is : (n : ℤ) (ss : List RecorderSession) (s : RecorderSession) → AreApart ss → find session_number n ss ≡ Some s → find (λ x. x.recording) s.recording ss ≡ Some s
writer_is n [] s apart found = absurd cc
writer_is n (x ∷ ss) s apart found = by (int_eq n (session_number x)) found (writer_is n ss s apart.1)
  where
    by : (b : Bool) → cond b (Some x) (find session_number n ss) ≡ Some s → (find session_number n ss ≡ Some s → find (λ y. y.recording) s.recording ss ≡ Some s) → find (λ y. y.recording) s.recording (x ∷ ss) ≡ Some s
    by true is rest =
        let same : x ≡ s = cc in
        let here : int_eq s.recording x.recording ≡ true = (Decides-int_eq s.recording x.recording).1 (ap (λ (y : RecorderSession). y.recording) (sym same)) in
        rw here is
    by false is rest =
        let differs : s.recording ≢ x.recording = each_found session_number (λ y. y.recording ≢ x.recording) n ss s apart.0 is in
        by_test (int_eq s.recording x.recording) refl differs (rest is)
      where
        by_test : (t : Bool) → int_eq s.recording x.recording ≡ t → s.recording ≢ x.recording → find (λ y. y.recording) s.recording ss ≡ Some s → cond t (Some x) (find (λ y. y.recording) s.recording ss) ≡ Some s
        by_test true e differs later = absurd (differs ((Decides-int_eq s.recording x.recording).0 e))
        by_test false e differs later = later

pub found_number : (n : ℤ) (ss : List RecorderSession) (s : RecorderSession) → find session_number n ss ≡ Some s → s.number ≡ n
found_number n [] s found = absurd cc
found_number n (x ∷ ss) s found = by (int_eq n (session_number x)) refl found (found_number n ss s)
  where
    by : (b : Bool) → int_eq n (session_number x) ≡ b → cond b (Some x) (find session_number n ss) ≡ Some s → (find session_number n ss ≡ Some s → s.number ≡ n) → s.number ≡ n
    by true is e rest = let same : x ≡ s = cc in sym (ap session_number same) ∙ sym ((Decides-int_eq n (session_number x)).0 is)
    by false is e rest = rest e

there_active : (o : Option Registration) → is_of o is_active ≡ true → is_some o ≡ true
there_active None has = absurd (true≢false (sym has))
there_active (Some r) has = refl

-- whatever the replays are
pub settling_by_append : (a : Archive) (number id : ℤ) (w : Written) → Agrees a.desk a.state → KeepsSeats a.desk.register a.desk.callers → Each (λ s. HasBlocks a s s.written) a.desk.callers.sessions
    → settle_decision a.desk number ≡ Ok (settling.Blocks id w) → SettlesByAppend a number id
settling_by_append a number id w agrees seats blocks e =
    let d = a.desk in
    let is = held (settle_tests d number) checks (settling_of d (session_in d number)) (settling.Blocks id w) e in
    let settles = settling_session d number id w (session_in d number) refl is.1 in
    let s = settles.session in
    let unsettled : Bool = not (has_written (session_in d number)) || has_room d in
    let whole : (not d.is_broken ≡ true) × ((is_some (session_in d number) && (unsettled && true)) ≡ true) = both is.0 in
    let there : (is_some (session_in d number) ≡ true) × ((unsettled && true) ≡ true) = both whole.1 in
    let full : (unsettled ≡ true) × (true ≡ true) = both there.1 in
    let wrote : has_written (session_in d number) ≡ true = ap has_written settles.found ∙ ap is_some settles.written in
    let room : has_room d ≡ true = ap (λ t. not t || has_room d) (sym wrote) ∙ full.0 in
    let writing : is_of (registration_in d.register id) is_active ≡ true =
    subst (λ (z : ℤ). is_of (registration_in d.register z) is_active ≡ true) settles.recording
    (each_found session_number (IsWriting d.register) number d.callers.sessions s seats.sessions.writing settles.found) in
    let known = there_active (registration_in d.register id) writing in
    let has : HasBlocks a s (Some w) = subst (HasBlocks a s) settles.written (each_found session_number (λ x. HasBlocks a x x.written) number d.callers.sessions s blocks settles.found) in
    let at : s.number ≡ number = found_number number d.callers.sessions s settles.found in
    let follow : Follow a.state id (a.blocks number) = subst (λ (z : ℤ). Follow a.state z (a.blocks number)) settles.recording (subst (λ (z : ℤ). Follow a.state s.recording (a.blocks z)) at has.follow) in
    let ends : w.last ≡ recorded_in (recording_at a id) +ℤ pos (covered (frames_of (a.blocks number))) =
    subst (λ (z : ℤ). w.last ≡ recorded_in (recording_at a z) +ℤ pos (covered (frames_of (a.blocks number)))) settles.recording
    (subst (λ (z : ℤ). w.last ≡ recorded_in (recording_at a s.recording) +ℤ pos (covered (frames_of (a.blocks z)))) at has.last) in
    let writer : writer_in d id ≡ Some s = subst (λ (z : ℤ). writer_in d z ≡ Some s) settles.recording (writer_is number d.callers.sessions s seats.sessions.apart settles.found) in
    record {
      acceptable = record {
        accepted = (true, follow, subst (WithRegister (λ g. model.append_tests (registration_in g id) (has_room d) true)) agrees (and_true known (and_true writing (and_true room refl))));
        allowed = and_true whole.0 (and_true known (and_true writing (and_true room refl)));
        written = record {
          session = s;
          written = w;
          writer = writer;
          recording = settles.recording;
          has = settles.written;
          ends = ends;
        };
      };
      same = ap (λ (o : Option RecorderSession). settled o d) (writer ∙ sym settles.found);
      room = has_entry d room;
    }

pub settling_accepted : (a : Archive) (number id : ℤ) (w : Written) → IsConsistent a → settle_decision a.desk number ≡ Ok (settling.Blocks id w) → SettlesByAppend a number id
settling_accepted a number id w consistent e = settling_by_append a number id w consistent.agrees consistent.seats consistent.blocks e

-- the session that a settling's append was written by
pub settled_session : (a : Archive) (number id : ℤ) (w : Written) → IsConsistent a → settle_decision a.desk number ≡ Ok (settling.Blocks id w) → (by : WroteBlocks a.desk a.state id (a.blocks number)) → session_in a.desk number ≡ Some by.session
settled_session a number id w consistent e by =
    let d = a.desk in
    let is = held (settle_tests d number) checks (settling_of d (session_in d number)) (settling.Blocks id w) e in
    let settles = settling_session d number id w (session_in d number) refl is.1 in
    let writer : writer_in d id ≡ Some settles.session = subst (λ (z : ℤ). writer_in d z ≡ Some settles.session) settles.recording (writer_is number d.callers.sessions settles.session consistent.seats.sessions.apart settles.found) in
    settles.found ∙ sym writer ∙ by.writer

-- a settling that is decided on has its session
pub settles_session : (d : DeskState) (number : ℤ) (settles : Settling) → settle_decision d number ≡ Ok settles → DecidesSettling d number settles
settles_session d number settles e =
    let is = held (settle_tests d number) checks (settling_of d (session_in d number)) settles e in
    let unsettled : Bool = not (has_written (session_in d number)) || has_room d in
    let whole : (not d.is_broken ≡ true) × ((is_some (session_in d number) && (unsettled && true)) ≡ true) = both is.0 in
    let there : (is_some (session_in d number) ≡ true) × ((unsettled && true) ≡ true) = both whole.1 in
    by (session_in d number) refl there.0 is.1 (not_true d.is_broken whole.0)
  where
    not_true : (b : Bool) → not b ≡ true → b ≡ false
    not_true true off = absurd (true≢false (sym off))
    not_true false off = refl

    by : (o : Option RecorderSession) → session_in d number ≡ o → is_some o ≡ true → settling_of d o ≡ settles → d.is_broken ≡ false → DecidesSettling d number settles
    by None found there is works = absurd (true≢false (sym there))
    by (Some s) found there is works = record { works = works; session = s; found = found; number_is = found_number number d.callers.sessions s found; is = is }
