-- What is made of a register and its callers keeps them orderly.
use Rattle.std.proofs.Common.{◌≡◌, ◌≢◌, ◌∙◌, sym, ap, subst, refl, ℤ, pos, ◌+ℤ◌, ◌≤ℤ◌, ◌&&◌, ◌||◌, not, Bool, true, false, cond, true≢false, List, [], ◌∷◌, ◌++◌, Option, Some, None, int_le, arith}
use Rattle.std.proofs.lemmas.Int.{ints}
use Rattle.std.proofs.lemmas.Bool.Decides.{Decides-int_eq}
use Rattle.std.specs.Prelude.{IfSome, IsSomeAnd}
use Rattle.std.specs.List.{list_any}
use Rattle.std.specs.Ordering.{int_eq}
use Rattle.frame_core.specs.declared.refusal.Refusal.TheVariants.{ActiveRecording, ActiveReplay, BadParameter, BadPosition, Broken, MaxRecordings, MaxReplays, HistoryFull, NeedCompact, NeedSettle, NotActive, StaleSession, UnknownRecording, UnknownReplay}
use Rattle.frame_core.specs.FrameEncoding.{IsAligned}
use Rattle.archive_model.specs.declared.command.Command.TheVariants.{Start, Truncate, PurgeSegments}
use Rattle.archive_model.specs.declared.command.StartFields.{StartFields}
use Rattle.archive_model.specs.declared.registration.Change.{Change}
use Rattle.archive_model.specs.declared.registration.Change.TheVariants as changes
use Rattle.archive_model.specs.declared.registration.Registration.{Registration}
use Rattle.archive_model.specs.Checks.{block_checks, first_checks, is_boundary_by, is_of, last_checks}
use Rattle.archive_model.specs.Descriptor.{is_aligned, is_in_range}
use Rattle.archive_model.specs.Keyed.{find, change, without, Each, Rise}
use Rattle.archive_model.specs.Register.{RegisterState, changed, changed_by, is_end, is_later_base, is_within, registered, registration_in, with_one, with_out}
use Rattle.archive_model.proofs.AlignedLemmas.{aligned_units}
use Rattle.archive_model.proofs.RegisterLemmas.{each_push, id_kept}
use Rattle.archive_model.proofs.StateLemmas.{each_change, each_found, each_without}
use Rattle.archive_model.proofs.WellLemmas.{both}
use Rattle.control_core.specs.declared.callers.OpenReplay.{OpenReplay}
use Rattle.control_core.specs.declared.callers.RecorderSession.{RecorderSession}
use Rattle.control_core.specs.declared.callers.Written.{Written}
use Rattle.control_core.specs.Changes.{begun_session, is_session_of, with_blocks, with_session, without_callers, without_sessions}
use Rattle.control_core.specs.Callers.{CallersState, moved_to, no_callers, replay_number, session_number, with_written}
use Rattle.control_core.specs.Decisions.{Allows, command_tests}
use Rattle.control_core.specs.Desk.{DeskState, is_replay_before, is_replay_of}
use Rattle.control_core.specs.Seats.{AreApart, KeepsSeats}
use Rattle.control_core.proofs.AllowedLemmas.{before_position, is_not, passes_at}
use Rattle.control_core.proofs.DeskLemmas.{not_same, other_replay, other_session}
use Rattle.control_core.proofs.FoundLemmas.{each_both, each_filter, each_weaker, found_left, found_other}
use Rattle.control_core.specs.Orderly.{AreLaid, AreOrderly, LiesBehind, ReadsFromStart, WroteBehind}
use Rattle.control_core.proofs.SomeLemmas.{some_changed, some_more}
use Rattle.control_core.proofs.LaidLemmas.{changed_laid, laid_begun, laid_extended, laid_purged, laid_settled, laid_stopped, laid_truncated, le_true, one_less_laid, one_more_laid, test_of}

-- ---- sessions and replays

-- blocks behind what is recorded are so in another register
abbrev pub StayBehind : RegisterState → RegisterState → ℤ → Type 0
StayBehind g h id = (w : Written) → IsSomeAnd (registration_in g id) (LiesBehind w) → IsSomeAnd (registration_in h id) (LiesBehind w)

wrote_stays : (g h : RegisterState) (s : RecorderSession) → StayBehind g h s.recording → WroteBehind g s → WroteBehind h s
wrote_stays g h s stay wrote = by s.written wrote
  where
    by : (o : Option Written) → IfSome o (λ w. IsSomeAnd (registration_in g s.recording) (LiesBehind w)) → IfSome o (λ w. IsSomeAnd (registration_in h s.recording) (LiesBehind w))
    by None wrote = tt
    by (Some w) wrote = stay w wrote

same_stay : (g h : RegisterState) (id : ℤ) → registration_in h id ≡ registration_in g id → StayBehind g h id
same_stay g h id same w has = subst (λ (o : Option Registration). IsSomeAnd o (LiesBehind w)) (sym same) has

-- a recording that begins where it did
replays_changed : (g : RegisterState) (rs : List OpenReplay) (id : ℤ) (k : Change) → ((r : Registration) → (changed_by k r).descriptor.start_position ≡ r.descriptor.start_position) → Each (ReadsFromStart g) rs
    → Each (ReadsFromStart (changed id k g)) rs
replays_changed g rs id k begins reads =
    each_weaker (ReadsFromStart g) (ReadsFromStart (changed id k g)) rs
    (λ replay has. some_changed replay.recording id (changed_by k) g.recordings (λ known. known.descriptor.start_position ≤ℤ replay.next) (id_kept k)
    (λ same r found low. subst (λ (z : ℤ). z ≤ℤ replay.next) (sym (begins r)) low) has) reads

-- a recording that is recorded no further than before
sessions_changed : (g : RegisterState) (ss : List RecorderSession) (id : ℤ) (k : Change) → ((r : Registration) → registration_in g id ≡ Some r → (w : Written) → LiesBehind w r → LiesBehind w (changed_by k r)) → Each (WroteBehind g) ss
    → Each (WroteBehind (changed id k g)) ss
sessions_changed g ss id k behind wrote =
    each_weaker (WroteBehind g) (WroteBehind (changed id k g)) ss
    (λ s wrote. wrote_stays g (changed id k g) s (λ w has. some_changed s.recording id (changed_by k) g.recordings (LiesBehind w) (id_kept k) (λ same r found lies. behind r found w lies) has) wrote) wrote

-- ---- sessions that open and end

with_one_session : (g : RegisterState) (c : CallersState) (id : ℤ) → AreOrderly g c → AreOrderly g (with_session id c)
with_one_session g c id orderly = record {
  register = orderly.register;
  sessions = each_push (WroteBehind g) c.sessions (begun_session c.next_session id) orderly.sessions tt;
  replays = orderly.replays;
}

with_none : (g : RegisterState) (c : CallersState) (id : ℤ) → AreOrderly g c → AreOrderly g (without_sessions id c)
with_none g c id orderly = record {
  register = orderly.register;
  sessions = each_filter (WroteBehind g) (WroteBehind g) (λ s. not (is_session_of id s)) c.sessions (λ s other wrote. wrote) orderly.sessions;
  replays = orderly.replays;
}

-- ---- each command

pub begun : (g : RegisterState) (c : CallersState) (f : StartFields) → AreOrderly g c → is_in_range f ≡ true → AreOrderly (with_one (registered g.next f) g) (with_session g.next c)
begun g c f orderly range =
    let r : Registration = registered g.next f in
    with_one_session (with_one r g) c g.next (record {
      register = one_more_laid g r orderly.register (laid_begun g.next f range);
      sessions = each_weaker (WroteBehind g) (WroteBehind (with_one r g)) c.sessions
          (λ s wrote. wrote_stays g (with_one r g) s (λ w has. some_more s.recording g.recordings (r ∷ []) (LiesBehind w) has) wrote) orderly.sessions;
      replays = each_weaker (ReadsFromStart g) (ReadsFromStart (with_one r g)) c.replays
          (λ replay has. some_more replay.recording g.recordings (r ∷ []) (λ known. known.descriptor.start_position ≤ℤ replay.next) has) orderly.replays;
    })

pub stopped : (g : RegisterState) (c : CallersState) (id timestamp : ℤ) → AreOrderly g c → AreOrderly (changed id (changes.Stop timestamp) g) (without_sessions id c)
stopped g c id timestamp orderly =
    let k : Change = changes.Stop timestamp in
    with_none (changed id k g) c id (record {
      register = changed_laid g id k orderly.register (λ r found laid. laid_stopped timestamp r laid);
      sessions = sessions_changed g c.sessions id k (λ r found w lies. record { behind = lies.behind; forward = lies.forward; in_stream = lies.in_stream; aligned = lies.aligned }) orderly.sessions;
      replays = replays_changed g c.replays id k (λ r. refl) orderly.replays;
    })

pub extended : (g : RegisterState) (c : CallersState) (id session_id : ℤ) → AreOrderly g c → AreOrderly (changed id (changes.Extend session_id) g) (with_session id c)
extended g c id session_id orderly =
    let k : Change = changes.Extend session_id in
    with_one_session (changed id k g) c id (record {
      register = changed_laid g id k orderly.register (λ r found laid. laid_extended session_id r laid);
      sessions = sessions_changed g c.sessions id k (λ r found w lies. record { behind = lies.behind; forward = lies.forward; in_stream = lies.in_stream; aligned = lies.aligned }) orderly.sessions;
      replays = replays_changed g c.replays id k (λ r. refl) orderly.replays;
    })

pub truncated : (g : RegisterState) (c : CallersState) (id position : ℤ) → AreOrderly g c → is_of (registration_in g id) (is_boundary_by true position) ≡ true → IsAligned position → AreOrderly (changed id (changes.Truncate position) g) (without_sessions id c)
truncated g c id position orderly boundary aligned =
    let k : Change = changes.Truncate position in
    with_none (changed id k g) c id (record {
      register = changed_laid g id k orderly.register (λ r found laid. laid_truncated position r laid (within r found) aligned);
      sessions = sessions_changed g c.sessions id k (λ r found w lies. record { behind = fallen r found w lies.behind; forward = lies.forward; in_stream = lies.in_stream; aligned = lies.aligned }) orderly.sessions;
      replays = replays_changed g c.replays id k (λ r. refl) orderly.replays;
    })
  where
    within : (r : Registration) → registration_in g id ≡ Some r → is_within position r ≡ true
    within r found =
        let parts : (is_within position r ≡ true) × ((is_end position r || true) ≡ true) = both (test_of (registration_in g id) (is_boundary_by true position) r found boundary) in parts.0

    fallen : (r : Registration) → registration_in g id ≡ Some r → (w : Written) → r.recorded ≤ℤ w.first → position ≤ℤ w.first
    fallen r found w behind =
        let ends : (int_le r.descriptor.start_position position ≡ true) × (int_le position r.recorded ≡ true) = both (within r found) in
        let high : position ≤ℤ r.recorded = le_true position r.recorded ends.1 in omega (arith, ints, high, behind)

-- no replay of the recording goes on before the position

none_before : (test : OpenReplay → Bool) (rs : List OpenReplay) → list_any test rs ≡ false → Each (λ r. test r ≡ false) rs
none_before test [] none = tt
none_before test (r ∷ rs) none = by (test r) refl none (none_before test rs)
  where
    by : (b : Bool) → test r ≡ b → (b || list_any test rs) ≡ false → (list_any test rs ≡ false → Each (λ x. test x ≡ false) rs) → Each (λ x. test x ≡ false) (r ∷ rs)
    by true is none later = absurd (true≢false none)
    by false is none later = (is, later none)

goes_behind : (id position : ℤ) (replay : OpenReplay) → is_replay_before id position replay ≡ false → replay.recording ≡ id → position ≤ℤ replay.next
unfolding is_replay_before
goes_behind id position replay is same = by (int_eq replay.recording id) (int_le position replay.next) ((Decides-int_eq replay.recording id).1 same) refl is
  where
    by : (b t : Bool) → b ≡ true → int_le position replay.next ≡ t → (b && not t) ≡ false → position ≤ℤ replay.next
    by true true here reached is = le_true position replay.next reached
    by true false here reached is = absurd (true≢false is)
    by false t here reached is = absurd (true≢false (sym here))

pub purged : (g : RegisterState) (c : CallersState) (id position : ℤ) → AreOrderly g c → is_of (registration_in g id) (is_later_base position) ≡ true → list_any (is_replay_before id position) c.replays ≡ false
    → AreOrderly (changed id (changes.PurgeSegments position) g) c
purged g c id position orderly base none =
    let k : Change = changes.PurgeSegments position in
    record {
      register = changed_laid g id k orderly.register (λ r found laid. laid_purged position r laid (test_of (registration_in g id) (is_later_base position) r found base));
      sessions = sessions_changed g c.sessions id k (λ r found w lies. record { behind = lies.behind; forward = lies.forward; in_stream = lies.in_stream; aligned = lies.aligned }) orderly.sessions;
      replays = each_both (ReadsFromStart g) (λ replay. is_replay_before id position replay ≡ false) (ReadsFromStart (changed id k g)) c.replays
          (λ replay has other. some_changed replay.recording id (changed_by k) g.recordings (λ known. known.descriptor.start_position ≤ℤ replay.next) (id_kept k)
          (λ same r found low. goes_behind id position replay other same) has) orderly.replays (none_before (is_replay_before id position) c.replays none);
    }

pub removed : (g : RegisterState) (c : CallersState) (id : ℤ) → AreOrderly g c → AreOrderly (with_out id g) (without_callers id c)
removed g c id orderly = record {
  register = one_less_laid g id orderly.register;
  sessions = each_filter (WroteBehind g) (WroteBehind (with_out id g)) (λ s. not (is_session_of id s)) c.sessions
      (λ s other wrote. wrote_stays g (with_out id g) s (same_stay g (with_out id g) s.recording (found_left s.recording id g.recordings (other_session id s other))) wrote) orderly.sessions;
  replays = each_filter (ReadsFromStart g) (ReadsFromStart (with_out id g)) (λ r. not (is_replay_of id r)) c.replays
      (λ replay other has.
      subst (λ (o : Option Registration). IsSomeAnd o (λ known. known.descriptor.start_position ≤ℤ replay.next)) (sym (found_left replay.recording id g.recordings (other_replay id replay other))) has) orderly.replays;
}

-- nobody calls
pub nobody : (g : RegisterState) → AreLaid g → AreOrderly g no_callers
nobody g laid = record { register = laid; sessions = tt; replays = tt }

-- ---- what a session wrote is recorded

-- another session than the one that settles is of another recording
settled_others : (g h : RegisterState) (n : ℤ) (s : RecorderSession) (ss : List RecorderSession) → ((id : ℤ) → id ≢ s.recording → StayBehind g h id) → AreApart ss → find session_number n ss ≡ Some s → Each (WroteBehind g) ss
    → Each (WroteBehind h) (change session_number n (with_written None) ss)
settled_others g h n s [] stay apart found wrote = tt
settled_others g h n s (x ∷ xs) stay apart found wrote = by (int_eq n (session_number x)) found (λ later. settled_others g h n s xs stay apart.1 later wrote.1)
  where
    by : (b : Bool) → cond b (Some x) (find session_number n xs) ≡ Some s → (find session_number n xs ≡ Some s → Each (WroteBehind h) (change session_number n (with_written None) xs))
        → Each (WroteBehind h) (cond b (with_written None x ∷ xs) (x ∷ change session_number n (with_written None) xs))
    by true is later =
        let this : x ≡ s = cc in (
          tt,
          each_both (WroteBehind g) (λ t. t.recording ≢ x.recording) (WroteBehind h) xs
              (λ t has other. wrote_stays g h t (stay t.recording (λ same. other (same ∙ ap (λ (y : RecorderSession). y.recording) (sym this)))) has) wrote.1 apart.0,
        )
    by false is later =
        let other : s.recording ≢ x.recording = each_found session_number (λ t. t.recording ≢ x.recording) n xs s apart.0 is in
        (wrote_stays g h x (stay x.recording (λ same. other (sym same))) wrote.0, later is)

pub settled_one : (g : RegisterState) (c : CallersState) (s : RecorderSession) (w : Written) → AreOrderly g c → KeepsSeats g c → find session_number s.number c.sessions ≡ Some s → s.written ≡ Some w
    → AreOrderly (changed s.recording (changes.Settle w.last) g) (with_blocks s.number None c)
settled_one g c s w orderly seats found has =
    let k : Change = changes.Settle w.last in
    let h : RegisterState = changed s.recording k g in
    let wrote : WroteBehind g s = each_found session_number (WroteBehind g) s.number c.sessions s orderly.sessions found in
    let some : IsSomeAnd (registration_in g s.recording) (LiesBehind w) = subst (λ (o : Option Written). IfSome o (λ w. IsSomeAnd (registration_in g s.recording) (LiesBehind w))) has wrote in
    record {
      register = changed_laid g s.recording k orderly.register
          (λ r there laid.
          let lies : LiesBehind w r = subst (λ (o : Option Registration). IsSomeAnd o (LiesBehind w)) there some in
          laid_settled w.last r laid (omega (arith, ints, lies.behind, lies.forward)) lies.in_stream lies.aligned);
      sessions = settled_others g h s.number s c.sessions
          (λ id other. same_stay g h id (found_other id s.recording (changed_by k) g.recordings (id_kept k) (not_same id s.recording other))) seats.sessions.apart found orderly.sessions;
      replays = replays_changed g c.replays s.recording k (λ r. refl) orderly.replays;
    }

-- a session that is found by something is found by its number

found_from : {X : Type 0} (number key : X → ℤ) (low next n : ℤ) (xs : List X) (x : X) → Rise number low xs next → find key n xs ≡ Some x → low ≤ℤ number x
found_from number key low next n [] x rising found = absurd cc
found_from number key low next n (y ∷ ys) x rising found = by (int_eq n (key y)) found (found_from number key (number y +ℤ pos 1) next n ys x rising.1)
  where
    by : (b : Bool) → cond b (Some y) (find key n ys) ≡ Some x → (find key n ys ≡ Some x → (number y +ℤ pos 1) ≤ℤ number x) → low ≤ℤ number x
    by true is later = let this : y ≡ x = cc in subst (λ (z : _). low ≤ℤ number z) this rising.0
    by false is later = let above = later is in omega (arith, ints, above, rising.0)

pub found_by_number : {X : Type 0} (number key : X → ℤ) (low next n : ℤ) (xs : List X) (x : X) → Rise number low xs next → find key n xs ≡ Some x → find number (number x) xs ≡ Some x
found_by_number number key low next n [] x rising found = absurd cc
found_by_number number key low next n (y ∷ ys) x rising found =
    by (int_eq n (key y)) (int_eq (number x) (number y)) refl found (found_from number key (number y +ℤ pos 1) next n ys x rising.1) (found_by_number number key (number y +ℤ pos 1) next n ys x rising.1)
  where
    by : (b t : Bool) → int_eq (number x) (number y) ≡ t → cond b (Some y) (find key n ys) ≡ Some x → (find key n ys ≡ Some x → (number y +ℤ pos 1) ≤ℤ number x) → (find key n ys ≡ Some x → find number (number x) ys ≡ Some x)
        → cond t (Some y) (find number (number x) ys) ≡ Some x
    by true true same is above later = is
    by true false same is above later = let this : y ≡ x = cc in absurd (true≢false (sym ((Decides-int_eq (number x) (number y)).1 (ap number (sym this))) ∙ same))
    by false true same is above later = let equal : number x ≡ number y = (Decides-int_eq (number x) (number y)).0 same in let more = above is in absurd (omega (arith, ints, more, equal))
    by false false same is above later = later is

-- ---- what allowed commands say

pub start_range : (d : DeskState) (f : StartFields) → Allows d (Start f) → is_in_range f ≡ true
start_range d f allows = passes_at (command_tests d (Start f)) (Broken ∷ []) (UnknownRecording ∷ ActiveRecording ∷ NotActive ∷ StaleSession ∷ UnknownReplay ∷ BadPosition ∷ (block_checks ++ last_checks)) BadParameter allows

-- a truncation's position is in its recording, and a multiple of 32
truncate_position : (d : DeskState) (id position : ℤ) → Allows d (Truncate id position) → (is_of (registration_in d.register id) (is_boundary_by true position) ≡ true) × (is_aligned position ≡ true)
truncate_position d id position allows = both (passes_at (command_tests d (Truncate id position)) before_position (block_checks ++ last_checks) BadPosition allows)

pub truncate_boundary : (d : DeskState) (id position : ℤ) → Allows d (Truncate id position) → is_of (registration_in d.register id) (is_boundary_by true position) ≡ true
truncate_boundary d id position allows = (truncate_position d id position allows).0

pub truncate_aligned : (d : DeskState) (id position : ℤ) → Allows d (Truncate id position) → IsAligned position
truncate_aligned d id position allows = aligned_units position (truncate_position d id position allows).1

pub unread_before : (d : DeskState) (id position : ℤ) → Allows d (PurgeSegments id position) → list_any (is_replay_before id position) d.callers.replays ≡ false
unread_before d id position allows =
    is_not (list_any (is_replay_before id position) d.callers.replays)
    (passes_at (command_tests d (PurgeSegments id position)) (first_checks ++ block_checks ++ NeedSettle ∷ []) (MaxRecordings ∷ MaxReplays ∷ NeedCompact ∷ HistoryFull ∷ []) ActiveReplay allows)

-- ---- other calls

-- the session of a number writes blocks behind what is recorded
pub wrote : (g : RegisterState) (c : CallersState) (number : ℤ) (w : Written) → AreOrderly g c → IsSomeAnd (find session_number number c.sessions) (λ s. IsSomeAnd (registration_in g s.recording) (LiesBehind w)) → AreOrderly g (with_blocks number (Some w) c)
wrote g c number w orderly lies = record {
  register = orderly.register;
  sessions = each_change session_number (WroteBehind g) number (with_written (Some w)) c.sessions orderly.sessions
      (λ x known before. subst (λ (o : Option RecorderSession). IsSomeAnd o (λ s. IsSomeAnd (registration_in g s.recording) (LiesBehind w))) known lies);
  replays = orderly.replays;
}

-- a replay is open
pub opened : (g : RegisterState) (c : CallersState) (r : OpenReplay) → AreOrderly g c → ReadsFromStart g r → AreOrderly g (record c { replays = c.replays ++ r ∷ []; next_replay = c.next_replay +ℤ pos 1 })
opened g c r orderly reads = record { register = orderly.register; sessions = orderly.sessions; replays = each_push (ReadsFromStart g) c.replays r orderly.replays reads }

some_then : (o : Option Registration) (P Q : Registration → Type 0) → ((r : Registration) → P r → Q r) → IsSomeAnd o P → IsSomeAnd o Q
some_then None P Q so has = absurd has
some_then (Some r) P Q so has = so r has

-- a replay goes on
pub moved : (g : RegisterState) (c : CallersState) (number next : ℤ) → AreOrderly g c → IsSomeAnd (find replay_number number c.replays) (λ it. it.next ≤ℤ next) → AreOrderly g (record c { replays = change replay_number number (moved_to next) c.replays })
moved g c number next orderly further = record {
  register = orderly.register;
  sessions = orderly.sessions;
  replays = each_change replay_number (ReadsFromStart g) number (moved_to next) c.replays orderly.replays
      (λ x known has.
      let more : x.next ≤ℤ next = subst (λ (o : Option OpenReplay). IsSomeAnd o (λ it. it.next ≤ℤ next)) known further in
      some_then (registration_in g x.recording) (λ known. known.descriptor.start_position ≤ℤ x.next) (λ known. known.descriptor.start_position ≤ℤ next) (λ r low. omega (arith, ints, low, more)) has);
}

-- a replay is closed
pub closed : (g : RegisterState) (c : CallersState) (number : ℤ) → AreOrderly g c → AreOrderly g (record c { replays = without replay_number number c.replays })
closed g c number orderly = record { register = orderly.register; sessions = orderly.sessions; replays = each_without replay_number (ReadsFromStart g) number c.replays orderly.replays }
