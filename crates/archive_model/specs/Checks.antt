-- What must hold for a call to pass each check, and the refusals in the order of the checks. docs/CONTROL.md, "Refusals".
use Rattle.std.specs.Prelude.{◌&&◌, ◌||◌, ◌++◌, not, ℤ, Bool, true, false, List, [], ◌∷◌, Option, Some, None, is_some, Result, Err, if◌then◌else◌}
use Rattle.frame_core.specs.declared.refusal.Refusal.{Refusal}
use Rattle.frame_core.specs.declared.refusal.Refusal.TheVariants.{UnknownRecording, ActiveRecording, NotActive, BadPosition, BadExtension, MaxRecordings, MaxReplays, ActiveReplay, NeedCompact, UnknownReplay, BadParameter, HistoryFull, StaleSession, BadBlock, NeedSettle, Broken}
use Rattle.archive_model.specs.declared.command.StartFields.{StartFields}
use Rattle.archive_model.specs.declared.command.ExtendFields.{ExtendFields}
use Rattle.archive_model.specs.declared.registration.Registration.{Registration}
use Rattle.archive_model.specs.Descriptor.{is_in_range, is_negative}
use Rattle.archive_model.specs.Register.{RegisterState, extends, is_active, is_end, is_later_base, is_within, may_begin, may_record, registration_in}

-- The refusals in the order of their checks: up to where frames are read for a position, up to where a block is looked
-- at, and the rest.
abbrev pub first_checks : List Refusal
first_checks = Broken ∷ BadParameter ∷ UnknownRecording ∷ ActiveRecording ∷ NotActive ∷ StaleSession ∷ UnknownReplay ∷ BadPosition ∷ []

abbrev pub block_checks : List Refusal
block_checks = BadExtension ∷ BadBlock ∷ []

abbrev pub last_checks : List Refusal
last_checks = NeedSettle ∷ ActiveReplay ∷ MaxRecordings ∷ MaxReplays ∷ NeedCompact ∷ HistoryFull ∷ []

abbrev pub checks : List Refusal
checks = first_checks ++ block_checks ++ last_checks

-- what must hold at the check of each refusal
abbrev pub Tests : Type 0
Tests = Refusal → Bool

-- the refusal of the first check whose test does not hold; where each holds, this answer
abbrev pub checked : {X : Type 0} → Tests → List Refusal → Result X Refusal → Result X Refusal
checked tests [] answer = answer
checked tests (r ∷ rs) answer = if tests r then checked tests rs answer else Err r

-- the test of each check holds
abbrev pub passes : Tests → List Refusal → Bool
passes tests [] = true
passes tests (r ∷ rs) = tests r && passes tests rs

-- the recording is there, and this holds of it
abbrev pub is_of : Option Registration → (Registration → Bool) → Bool
is_of None test = false
is_of (Some r) test = test r

-- The tests of commands, over the recording that the register has of the id. Whether the history has room, and what only
-- frames can say, are arguments.

abbrev pub start_tests : RegisterState → Bool → StartFields → Tests
start_tests g room f BadParameter = is_in_range f
start_tests g room f MaxRecordings = may_begin g && may_record g
start_tests g room f HistoryFull = room
start_tests g room f _ = true

-- `follows`: the blocks go on where the recording ends
abbrev pub append_tests : Option Registration → Bool → Bool → Tests
append_tests found room follows UnknownRecording = is_some found
append_tests found room follows NotActive = is_of found is_active
append_tests found room follows BadBlock = follows
append_tests found room follows HistoryFull = room
append_tests found room follows _ = true

abbrev pub stop_tests : Option Registration → Bool → ℤ → Tests
stop_tests found room timestamp BadParameter = not (is_negative timestamp)
stop_tests found room timestamp UnknownRecording = is_some found
stop_tests found room timestamp NotActive = is_of found is_active
stop_tests found room timestamp HistoryFull = room
stop_tests found room timestamp _ = true

abbrev pub extend_tests : RegisterState → Bool → ExtendFields → Tests
extend_tests g room f UnknownRecording = is_some (registration_in g f.recording)
extend_tests g room f ActiveRecording = is_of (registration_in g f.recording) (λ r. not (is_active r))
extend_tests g room f BadExtension = is_of (registration_in g f.recording) (extends f)
extend_tests g room f MaxRecordings = may_record g
extend_tests g room f HistoryFull = room
extend_tests g room f _ = true

-- A position of the recording is a boundary: the start and the recorded position are, whatever the frames are.
-- `begins`: a frame begins there
abbrev pub is_boundary_by : Bool → ℤ → Registration → Bool
is_boundary_by begins position r = is_within position r && (is_end position r || begins)

abbrev pub truncate_tests : Option Registration → Bool → Bool → ℤ → Tests
truncate_tests found room begins position UnknownRecording = is_some found
truncate_tests found room begins position ActiveRecording = is_of found (λ r. not (is_active r))
truncate_tests found room begins position BadPosition = is_of found (is_boundary_by begins position)
truncate_tests found room begins position HistoryFull = room
truncate_tests found room begins position _ = true

abbrev pub purge_segments_tests : Option Registration → Bool → ℤ → Tests
purge_segments_tests found room position UnknownRecording = is_some found
purge_segments_tests found room position BadPosition = is_of found (is_later_base position)
purge_segments_tests found room position HistoryFull = room
purge_segments_tests found room position _ = true

abbrev pub purge_tests : Option Registration → Bool → Tests
purge_tests found room UnknownRecording = is_some found
purge_tests found room ActiveRecording = is_of found (λ r. not (is_active r))
purge_tests found room HistoryFull = room
purge_tests found room _ = true
