-- The entry of an allowed command may follow those that made the desk's recordings, and makes the desk's recordings after it,
-- whatever the segment files hold.
use Rattle.std.proofs.Common.{rules, ◌≡◌, ◌∙◌, ◌&&◌, ◌*◌, ◌^◌, ◌≤◌, ◌≤ℤ◌, ◌<ℤ◌, sym, ap, refl, ℤ, pos, negsuc, not, Bool, true, Option, Some, None, Ok, [], arith, unsigned_abs}
use Rattle.std.proofs.lemmas.Int.{ints}
use Rattle.std.proofs.lemmas.Bool.Decides.{Decides-int_eq, nat_tests}
use Rattle.std.specs.Prelude.{is_some, int_lt}
use Rattle.engine_core.proofs.Words.{Allows, Command, DeskState, Entry, IsLaid, IsRequested, KeepsDesk, LiesBehind, RecorderSession, Registration, State, Written, admits, after_entry, both, desk_after, entry_of, is_later_base, is_of, registration_in, session_in, settle_decision, settled}
use Rattle.std.specs.List.{list_any}
use Rattle.std.specs.Ordering.{int_eq}
use Rattle.archive_model.specs.declared.command.Command.TheVariants as commands
use Rattle.archive_model.specs.declared.command.ExtendFields.{ExtendFields}
use Rattle.archive_model.specs.declared.command.StartFields.{StartFields}
use Rattle.archive_model.specs.Checks.{is_boundary_by}
use Rattle.archive_model.specs.Descriptor.{is_aligned, is_in_range, is_negative}
use Rattle.archive_model.specs.declared.registration.Change.TheVariants as changes
use Rattle.archive_model.specs.Register.{changed, extends, is_active, is_within, may_begin, may_record}
use Rattle.archive_model.proofs.AlignedLemmas.{aligned_of_units}
use Rattle.archive_model.specs.Version.{holds}
use Rattle.catalogue_entries.specs.declared.entry.Entry.TheVariants as entries
use Rattle.catalogue_entries.specs.Fold.{is_in_stream, may_settle, may_truncate}
use Rattle.control_core.specs.declared.turns.Settling.TheVariants as settling
use Rattle.control_core.specs.Changes.{settled_by}
use Rattle.control_core.specs.Desk.{has_room, has_session_number, is_replay_before, is_replayed}
use Rattle.engine_core.proofs.calls.KnownLemmas.{laid_found, laid_low, session_recording, written_behind}
use Rattle.engine_core.proofs.calls.MakeLemmas.{IsEntryFor}
use Rattle.engine_core.proofs.calls.SettleCallLemmas.{settles}

and_true : {a b : Bool} → a ≡ true → b ≡ true → (a && b) ≡ true
and_true x y = rw (x, y) refl

-- the entry that the desk's next id gives
abbrev next_state : DeskState → State
next_state d = record { recordings = []; next = d.register.next }

abbrev Admits : DeskState → Command → Type 0
Admits d c = admits d.register (entry_of (next_state d) c) ≡ true

admits_start : (d : DeskState) (f : StartFields) → Allows d (commands.Start f) → Admits d (commands.Start f)
admits_start d f pass =
    let g = d.register in
    let held : Bool = holds d.version f.channel f.source_identity in
    let whole : (not d.is_broken ≡ true) × ((is_in_range f && (((may_begin g && may_record g) && has_session_number d) && (held && (has_room d && true)))) ≡ true) = both pass in
    let range : (is_in_range f ≡ true) × ((((may_begin g && may_record g) && has_session_number d) && (held && (has_room d && true))) ≡ true) = both whole.1 in
    let most : (((may_begin g && may_record g) && has_session_number d) ≡ true) × ((held && (has_room d && true)) ≡ true) = both range.1 in
    let numbers : ((may_begin g && may_record g) ≡ true) × (has_session_number d ≡ true) = both most.0 in
    let may : (may_begin g ≡ true) × (may_record g ≡ true) = both numbers.0 in
    let same : int_eq g.next g.next ≡ true = (Decides-int_eq g.next g.next).1 refl in
    and_true (and_true (and_true same range.0) may.0) may.1

admits_stop : (d : DeskState) (id timestamp : ℤ) → Allows d (commands.Stop id timestamp) → Admits d (commands.Stop id timestamp)
admits_stop d id timestamp pass =
    let found = registration_in d.register id in
    let when : Bool = not (is_negative timestamp) in
    let whole : (not d.is_broken ≡ true) × ((when && (is_some found && (is_of found is_active && (has_room d && true)))) ≡ true) = both pass in
    let timed : (when ≡ true) × ((is_some found && (is_of found is_active && (has_room d && true))) ≡ true) = both whole.1 in
    let there : (is_some found ≡ true) × ((is_of found is_active && (has_room d && true)) ≡ true) = both timed.1 in
    let active : (is_of found is_active ≡ true) × ((has_room d && true) ≡ true) = both there.1 in
    and_true timed.0 active.0

admits_extend : (d : DeskState) (f : ExtendFields) → Allows d (commands.Extend f) → Admits d (commands.Extend f)
admits_extend d f pass =
    let g = d.register in
    let found = registration_in g f.recording in
    let stopped : Bool = is_of found (λ r. not (is_active r)) in
    let fits : Bool = is_of found (extends f) in
    let most : Bool = may_record g && has_session_number d in
    let whole : (not d.is_broken ≡ true) × ((is_some found && (stopped && (fits && (most && (has_room d && true))))) ≡ true) = both pass in
    let there : (is_some found ≡ true) × ((stopped && (fits && (most && (has_room d && true)))) ≡ true) = both whole.1 in
    let off : (stopped ≡ true) × ((fits && (most && (has_room d && true))) ≡ true) = both there.1 in
    let fitting : (fits ≡ true) × ((most && (has_room d && true)) ≡ true) = both off.1 in
    let more : (most ≡ true) × ((has_room d && true) ≡ true) = both fitting.1 in
    let may : (may_record g ≡ true) × (has_session_number d ≡ true) = both more.0 in
    and_true off.0 may.0

truncates : (found : Option Registration) (position : ℤ) → is_of found (λ r. not (is_active r)) ≡ true → is_of found (is_boundary_by true position) ≡ true → is_aligned position ≡ true → is_of found (may_truncate position) ≡ true
truncates None position stopped bounds aligned = stopped
truncates (Some r) position stopped bounds aligned =
    let within : (is_within position r ≡ true) × _ = both bounds in
    and_true (and_true stopped within.0) aligned

admits_truncate : (d : DeskState) (id position : ℤ) → Allows d (commands.Truncate id position) → Admits d (commands.Truncate id position)
admits_truncate d id position pass =
    let found = registration_in d.register id in
    let stopped : Bool = is_of found (λ r. not (is_active r)) in
    let on_boundary : Bool = is_of found (is_boundary_by true position) && is_aligned position in
    let unread : Bool = not (is_replayed d id) in
    let whole : (not d.is_broken ≡ true) × ((is_some found && (stopped && (on_boundary && (unread && (has_room d && true))))) ≡ true) = both pass in
    let there : (is_some found ≡ true) × ((stopped && (on_boundary && (unread && (has_room d && true)))) ≡ true) = both whole.1 in
    let off : (stopped ≡ true) × ((on_boundary && (unread && (has_room d && true))) ≡ true) = both there.1 in
    let on : (on_boundary ≡ true) × ((unread && (has_room d && true)) ≡ true) = both off.1 in
    let bounds : (is_of found (is_boundary_by true position) ≡ true) × (is_aligned position ≡ true) = both on.0 in
    truncates found position off.0 bounds.0 bounds.1

admits_purge_segments : (d : DeskState) (id position : ℤ) → Allows d (commands.PurgeSegments id position) → Admits d (commands.PurgeSegments id position)
admits_purge_segments d id position pass =
    let found = registration_in d.register id in
    let later : Bool = is_of found (is_later_base position) in
    let unread : Bool = not (list_any (is_replay_before id position) d.callers.replays) in
    let whole : (not d.is_broken ≡ true) × ((is_some found && (later && (unread && (has_room d && true)))) ≡ true) = both pass in
    let there : (is_some found ≡ true) × ((later && (unread && (has_room d && true))) ≡ true) = both whole.1 in
    let base : (later ≡ true) × ((unread && (has_room d && true)) ≡ true) = both there.1 in
    base.0

admits_purge : (d : DeskState) (id : ℤ) → Allows d (commands.PurgeRecording id) → Admits d (commands.PurgeRecording id)
admits_purge d id pass =
    let found = registration_in d.register id in
    let stopped : Bool = is_of found (λ r. not (is_active r)) in
    let unread : Bool = not (is_replayed d id) in
    let whole : (not d.is_broken ≡ true) × ((is_some found && (stopped && (unread && (has_room d && true)))) ≡ true) = both pass in
    let there : (is_some found ≡ true) × ((stopped && (unread && (has_room d && true))) ≡ true) = both whole.1 in
    let off : (stopped ≡ true) × ((unread && (has_room d && true)) ≡ true) = both there.1 in
    off.0

admits_any : (d : DeskState) (c : Command) → IsRequested c → Allows d c → Admits d c
admits_any d (commands.Start f) made pass = admits_start d f pass
admits_any d (commands.Append id blocks) made pass = absurd made
admits_any d (commands.Stop id timestamp) made pass = admits_stop d id timestamp pass
admits_any d (commands.Extend f) made pass = admits_extend d f pass
admits_any d (commands.Truncate id position) made pass = admits_truncate d id position pass
admits_any d (commands.PurgeSegments id position) made pass = admits_purge_segments d id position pass
admits_any d (commands.PurgeRecording id) made pass = admits_purge d id pass
admits_any d commands.Restart made pass = refl

makes_any : (d : DeskState) (c : Command) → IsRequested c → after_entry d.register (entry_of (next_state d) c) ≡ (desk_after d c).register
makes_any d (commands.Start f) made = refl
makes_any d (commands.Append id blocks) made = absurd made
makes_any d (commands.Stop id timestamp) made = refl
makes_any d (commands.Extend f) made = refl
makes_any d (commands.Truncate id position) made = refl
makes_any d (commands.PurgeSegments id position) made = refl
makes_any d (commands.PurgeRecording id) made = refl
makes_any d commands.Restart made = refl

-- an allowed command's entry
pub allowed_entry : (d : DeskState) (c : Command) (e : Entry) → IsEntryFor d c e → IsRequested c → Allows d c → (admits d.register e ≡ true) × (after_entry d.register e ≡ (desk_after d c).register)
allowed_entry d c e for made pass =
    let is : e ≡ entry_of (next_state d) c = for.is (next_state d) refl in
    (ap (admits d.register) is ∙ admits_any d c made pass, ap (after_entry d.register) is ∙ makes_any d c made)

-- ---- what a session wrote

lt_holds : (a b : ℤ) → a <ℤ b → int_lt a b ≡ true
lt_holds a b less = search (rules, less)

stream_holds : (z term : ℤ) → pos 0 ≤ℤ z → z ≤ℤ pos (2 ^ 31 * unsigned_abs term) → is_in_stream z term ≡ true
unfolding is_in_stream
stream_holds (pos p) term low high = let most : p ≤ 2 ^ 31 * unsigned_abs term = omega (arith, ints, high) in grind (arith, nat_tests)
stream_holds (negsuc p) term low high = absurd (omega (arith, ints, low))

-- it may be recorded by an entry
may_settle_last : (r : Registration) (w : Written) → IsLaid r → is_active r ≡ true → LiesBehind w r → may_settle w.last r ≡ true
may_settle_last r w laid active lies =
    let low = (laid_low r laid).1 in
    let less : r.recorded <ℤ w.last = omega (arith, ints, lies.behind, lies.forward) in
    and_true (and_true (and_true active (lt_holds r.recorded w.last less)) (aligned_of_units w.last lies.aligned)) (stream_holds w.last r.descriptor.term_length (omega (arith, ints, low, less)) lies.in_stream)

module _ (d : DeskState) (n id : ℤ) (w : Written) (keeps : KeepsDesk d.register d.callers) (told : settle_decision d n ≡ Ok (settling.Blocks id w)) where
  pub settled_admitted : admits d.register (entries.Settle id w.last) ≡ true
  settled_admitted =
      let of = (settles d n id w told).of in
      let known = session_recording d n of.session keeps.seats of.found in
      let lies = written_behind d n of.session known.0 w keeps of.found known.1 of.written in
      let laid = laid_found d of.session.recording known.0 keeps (sym known.1) in
      let there : registration_in d.register id ≡ Some known.0 = ap (registration_in d.register) (sym of.recording) ∙ known.1 in
      ap (λ (o : Option Registration). is_of o (may_settle w.last)) there ∙ may_settle_last known.0 w laid known.2 lies

  pub settled_makes : after_entry d.register (entries.Settle id w.last) ≡ (settled (session_in d n) d).register
  settled_makes =
      let of = (settles d n id w told).of in
      ap (λ (z : ℤ). changed z (changes.Settle w.last) d.register) (sym of.recording) ∙ sym (ap (λ (o : Option RecorderSession). (settled o d).register) of.found ∙ ap (λ (o : Option Written). (settled_by of.session o d).register) of.written)
