-- What the tests of an accepted command say.
use Rattle.std.proofs.Common.{rules, ◌≡◌, ◌≢◌, ◌<◌, ◌≤ℤ◌, ◌<ℤ◌, ◌&&◌, not, ℤ, pos, negsuc, Bool, true, false, List, [], ◌∷◌, ◌++◌, refl, sym, ◌∙◌, true≢false, arith, unsigned_abs, FitsSigned, w64}
use Rattle.std.proofs.lemmas.Bool.Decides.{nat_tests, Decides-int_eq}
use Rattle.std.proofs.lemmas.Int.{ints}
use Rattle.std.specs.Prelude.{int_le, int_lt, is_some, length, nat_lt}
use Rattle.std.specs.List.{list_any}
use Rattle.std.specs.Ordering.{int_eq}
use Rattle.frame_core.specs.Limits.{is_mtu, is_term_length}
use Rattle.frame_core.specs.declared.refusal.Refusal.{Refusal}
use Rattle.frame_core.specs.declared.refusal.Refusal.TheVariants.{ActiveRecording, ActiveReplay, BadParameter, BadPosition, Broken, HistoryFull, MaxRecordings, MaxReplays, NeedCompact, NeedSettle, NotActive, StaleSession, UnknownRecording, UnknownReplay}
use Rattle.archive_model.specs.declared.command.Command.{Command}
use Rattle.archive_model.specs.declared.command.Command.TheVariants as commands
use Rattle.archive_model.specs.declared.command.StartFields.{StartFields}
use Rattle.archive_model.specs.declared.command.ExtendFields.{ExtendFields}
use Rattle.archive_model.specs.Checks.{Tests, block_checks, first_checks, is_of, last_checks, passes}
use Rattle.archive_model.specs.Descriptor.{is_in_range, is_layout, is_negative, is_origin, is_start_position}
use Rattle.archive_model.specs.Version.{holds}
use Rattle.archive_model.specs.Register.{active_count, is_active, is_later_base, may_begin, may_record, registration_in}
use Rattle.control_core.specs.Callers.{last_number}
use Rattle.control_core.specs.Desk.{DeskState, has_room, has_session_number, is_replay_before, is_replayed}
use Rattle.control_core.specs.Decisions.{Allows, command_tests}

pub both : (a b : Bool) → (a && b) ≡ true → (a ≡ true) × (b ≡ true)
both true b h = (refl, h)
both false b h = absurd (true≢false (sym h))

pub is_not : (b : Bool) → not b ≡ true → b ≡ false
is_not true h = absurd (true≢false (sym h))
is_not false h = refl

pub differ : (m n : ℤ) → not (int_eq m n) ≡ true → m ≡ n → ⊥
differ m n h e = true≢false (sym ((Decides-int_eq m n).1 e) ∙ is_not (int_eq m n) h)

some_length : (z : ℤ) → is_term_length z ≡ true → 0 < unsigned_abs z
unfolding is_term_length
some_length (pos n) is = grind (arith, nat_tests)
some_length (negsuc n) is = absurd (true≢false (sym is))

layout_lengths : (f : StartFields) → is_in_range f ≡ true → (0 < unsigned_abs f.term_length) × (0 < unsigned_abs f.segment_length)
unfolding is_layout
layout_lengths f has =
    let ranges = both (is_layout f && is_start_position f.start_position f.term_length && not (is_negative f.timestamp)) (is_origin f.channel f.source_identity) has in
    let places = both (is_layout f && is_start_position f.start_position f.term_length) (not (is_negative f.timestamp)) ranges.0 in
    let layout = both (is_layout f) (is_start_position f.start_position f.term_length) places.0 in
    let first = both (is_term_length f.term_length && is_term_length f.segment_length && int_le f.term_length f.segment_length) (is_mtu f.mtu) layout.0 in
    let second = both (is_term_length f.term_length && is_term_length f.segment_length) (int_le f.term_length f.segment_length) first.0 in
    let third = both (is_term_length f.term_length) (is_term_length f.segment_length) second.0 in
    (some_length f.term_length third.0, some_length f.segment_length third.1)

pub passes_at : (tests : Tests) (front back : List Refusal) (r : Refusal) → passes tests (front ++ r ∷ back) ≡ true → tests r ≡ true
passes_at tests [] back r all = (both (tests r) (passes tests back) all).0
passes_at tests (x ∷ front) back r all = passes_at tests front back r (both (tests x) (passes tests (front ++ r ∷ back)) all).1

pub has_entry : (d : DeskState) → has_room d ≡ true → d.counted < d.limit
has_entry d has = grind (arith, nat_tests)

-- a command but a restart is let through where no write has failed
pub works_of : (d : DeskState) (c : Command) → (command_tests d c Broken ≡ not d.is_broken) → Allows d c → d.is_broken ≡ false
works_of d c is allows =
    is_not d.is_broken (sym is ∙ passes_at (command_tests d c) [] (BadParameter ∷ UnknownRecording ∷ ActiveRecording ∷ NotActive ∷ StaleSession ∷ UnknownReplay ∷ BadPosition ∷ (block_checks ++ last_checks)) Broken allows)

-- each command but a restart has room for its entry
pub room_of : (d : DeskState) (c : Command) → (command_tests d c HistoryFull ≡ has_room d) → Allows d c → d.counted < d.limit
room_of d c is allows = has_entry d (sym is ∙ passes_at (command_tests d c) (first_checks ++ block_checks ++ NeedSettle ∷ ActiveReplay ∷ MaxRecordings ∷ MaxReplays ∷ NeedCompact ∷ []) [] HistoryFull allows)

pub start_lengths : (d : DeskState) (f : StartFields) → Allows d (commands.Start f) → (0 < unsigned_abs f.term_length) × (0 < unsigned_abs f.segment_length)
start_lengths d f allows = layout_lengths f (passes_at (command_tests d (commands.Start f)) (Broken ∷ []) (UnknownRecording ∷ ActiveRecording ∷ NotActive ∷ StaleSession ∷ UnknownReplay ∷ BadPosition ∷ (block_checks ++ last_checks)) BadParameter allows)

-- the catalogue's bank can hold a new recording's channel and source
pub start_held : (d : DeskState) (f : StartFields) → Allows d (commands.Start f) → holds d.version f.channel f.source_identity ≡ true
start_held d f allows = passes_at (command_tests d (commands.Start f)) (first_checks ++ block_checks ++ NeedSettle ∷ ActiveReplay ∷ MaxRecordings ∷ MaxReplays ∷ []) (HistoryFull ∷ []) NeedCompact allows

pub extend_there : (d : DeskState) (f : ExtendFields) → Allows d (commands.Extend f) → is_some (registration_in d.register f.recording) ≡ true
extend_there d f allows = passes_at (command_tests d (commands.Extend f)) (Broken ∷ BadParameter ∷ []) (ActiveRecording ∷ NotActive ∷ StaleSession ∷ UnknownReplay ∷ BadPosition ∷ (block_checks ++ last_checks)) UnknownRecording allows

-- the checks before the one of a position
abbrev pub before_position : List Refusal
before_position = Broken ∷ BadParameter ∷ UnknownRecording ∷ ActiveRecording ∷ NotActive ∷ StaleSession ∷ UnknownReplay ∷ []

pub extend_stopped : (d : DeskState) (f : ExtendFields) → Allows d (commands.Extend f) → is_of (registration_in d.register f.recording) (λ r. not (is_active r)) ≡ true
extend_stopped d f allows = passes_at (command_tests d (commands.Extend f)) (Broken ∷ BadParameter ∷ UnknownRecording ∷ []) (NotActive ∷ StaleSession ∷ UnknownReplay ∷ BadPosition ∷ (block_checks ++ last_checks)) ActiveRecording allows

-- the position of a purge of segments is where a later segment begins
pub purge_base : (d : DeskState) (id position : ℤ) → Allows d (commands.PurgeSegments id position) → is_of (registration_in d.register id) (is_later_base position) ≡ true
purge_base d id position allows = passes_at (command_tests d (commands.PurgeSegments id position)) before_position (block_checks ++ last_checks) BadPosition allows

-- the checks before the one of how many recordings there are
abbrev pub before_count : List Refusal
before_count = first_checks ++ block_checks ++ NeedSettle ∷ ActiveReplay ∷ []

few_active : (d : DeskState) → may_record d.register ≡ true → active_count d.register < 64
few_active d may = grind (arith, nat_tests)

pub start_few : (d : DeskState) (f : StartFields) → Allows d (commands.Start f) → active_count d.register < 64
start_few d f allows =
    let counts = passes_at (command_tests d (commands.Start f)) before_count (MaxReplays ∷ NeedCompact ∷ HistoryFull ∷ []) MaxRecordings allows in
    few_active d (both (may_begin d.register) (may_record d.register) (both (may_begin d.register && may_record d.register) (has_session_number d) counts).0).1

-- there is an id for the new recording
pub start_next : (d : DeskState) (f : StartFields) → Allows d (commands.Start f) → d.register.next ≢ last_number
start_next d f allows =
    let counts = passes_at (command_tests d (commands.Start f)) before_count (MaxReplays ∷ NeedCompact ∷ HistoryFull ∷ []) MaxRecordings allows in
    let begins = (both (may_begin d.register) (may_record d.register) (both (may_begin d.register && may_record d.register) (has_session_number d) counts).0).0 in
    differ d.register.next last_number (both (nat_lt (length d.register.recordings) 1024) (not (int_eq d.register.next last_number)) begins).1

-- and a number for its session
pub start_session : (d : DeskState) (f : StartFields) → Allows d (commands.Start f) → d.callers.next_session ≢ last_number
start_session d f allows =
    let counts = passes_at (command_tests d (commands.Start f)) before_count (MaxReplays ∷ NeedCompact ∷ HistoryFull ∷ []) MaxRecordings allows in
    differ d.callers.next_session last_number (both (may_begin d.register && may_record d.register) (has_session_number d) counts).1

-- a number that is not the last one is below it
pub below_last : (z : ℤ) → FitsSigned w64 z → z ≢ last_number → z <ℤ last_number
below_last z fits other = by (int_lt z last_number) refl
  where
    by : (b : Bool) → int_lt z last_number ≡ b → z <ℤ last_number
    by true is = search (rules, is)
    by false is =
        let high : last_number ≤ℤ z = search (rules, is) in
        absurd (other (omega (arith, ints, high, fits.sfits)))

pub extend_few : (d : DeskState) (f : ExtendFields) → Allows d (commands.Extend f) → active_count d.register < 64
extend_few d f allows =
    let counts = passes_at (command_tests d (commands.Extend f)) before_count (MaxReplays ∷ NeedCompact ∷ HistoryFull ∷ []) MaxRecordings allows in
    few_active d (both (may_record d.register) (has_session_number d) counts).0

-- the checks before the one of open replays
abbrev pub before_replays : List Refusal
before_replays = first_checks ++ block_checks ++ NeedSettle ∷ []

pub truncate_unread : (d : DeskState) (id position : ℤ) → Allows d (commands.Truncate id position) → not (is_replayed d id) ≡ true
truncate_unread d id position allows = passes_at (command_tests d (commands.Truncate id position)) before_replays (MaxRecordings ∷ MaxReplays ∷ NeedCompact ∷ HistoryFull ∷ []) ActiveReplay allows

pub purge_unread : (d : DeskState) (id position : ℤ) → Allows d (commands.PurgeSegments id position) → not (list_any (is_replay_before id position) d.callers.replays) ≡ true
purge_unread d id position allows = passes_at (command_tests d (commands.PurgeSegments id position)) before_replays (MaxRecordings ∷ MaxReplays ∷ NeedCompact ∷ HistoryFull ∷ []) ActiveReplay allows
