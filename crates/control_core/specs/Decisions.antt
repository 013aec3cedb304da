-- What is decided on a request to the catalogue. docs/CONTROL.md, "Requests" and "Refusals".
use Rattle.std.specs.Prelude.{◌&&◌, ◌||◌, ◌++◌, ◌≡◌, not, ℕ, ℤ, pos, negsuc, Bool, true, false, IsTrue, List, [], ◌∷◌, length, map, filter, fold, take, int_le, nat_lt, bytes_eq, unsigned_abs, Option, Some, None, is_some, Result, Ok, Err, if◌then◌else◌}
use Rattle.std.specs.List.{list_any}
use Rattle.std.specs.Int.{int_max}
use Rattle.std.specs.Ordering.{int_eq}
use Rattle.frame_core.specs.declared.refusal.Refusal.{Refusal}
use Rattle.frame_core.specs.declared.refusal.Refusal.TheVariants.{UnknownRecording, ActiveReplay, BadPosition, MaxRecordings, NeedCompact, BadParameter, Broken, NoMemory}
use Rattle.archive_model.specs.declared.command.StartFields.{StartFields}
use Rattle.archive_model.specs.declared.command.ExtendFields.{ExtendFields}
use Rattle.archive_model.specs.declared.command.Command.{Command}
use Rattle.archive_model.specs.declared.command.Command.TheVariants as commands
use Rattle.archive_model.specs.declared.descriptor.Descriptor.{Descriptor}
use Rattle.archive_model.specs.declared.registration.Registration.{Registration}
use Rattle.archive_model.specs.declared.reply.Reply.{Reply}
use Rattle.archive_model.specs.declared.reply.Reply.TheVariants.{Recordings, Found, Positions, Source}
use Rattle.archive_model.specs.Register.{id_of, is_end, registration_in}
use Rattle.archive_model.specs.Checks as model
use Rattle.archive_model.specs.Checks.{Tests, checked, checks, first_checks, block_checks, last_checks, passes}
use Rattle.archive_model.specs.Descriptor.{is_aligned, is_negative}
use Rattle.archive_model.specs.Version.{holds}
use Rattle.control_core.specs.declared.request.Request.{Request}
use Rattle.control_core.specs.declared.request.Request.TheVariants.{Start, Stop, Extend, Truncate, PurgeSegments, PurgeRecording, List as AskList, Find, Positions as AskPositions, Source as AskSource}
use Rattle.control_core.specs.declared.request.FindFields.{FindFields}
use Rattle.control_core.specs.Decided.{Decision}
use Rattle.control_core.specs.Decided.{Refused, Answered, Accepted, IfBoundary}
use Rattle.control_core.specs.Desk.{DeskState, has_room, has_session_number, is_replayed, is_replay_before}

-- What must hold of the desk for a request to pass each check: the tests of its command, no failed write, what only the
-- callers' sessions and replays say, and that the catalogue's bank can hold a new recording's channel and source.

abbrev pub start_tests : DeskState → StartFields → Tests
start_tests d f Broken = not d.is_broken
start_tests d f MaxRecordings = model.start_tests d.register (has_room d) f MaxRecordings && has_session_number d
start_tests d f NeedCompact = holds d.version f.channel f.source_identity
start_tests d f refusal = model.start_tests d.register (has_room d) f refusal

abbrev pub append_tests : DeskState → ℤ → Tests
append_tests d id Broken = not d.is_broken
append_tests d id refusal = model.append_tests (registration_in d.register id) (has_room d) true refusal

abbrev pub stop_tests : DeskState → ℤ → ℤ → Tests
stop_tests d id timestamp Broken = not d.is_broken
stop_tests d id timestamp refusal = model.stop_tests (registration_in d.register id) (has_room d) timestamp refusal

abbrev pub extend_tests : DeskState → ExtendFields → Tests
extend_tests d f Broken = not d.is_broken
extend_tests d f MaxRecordings = model.extend_tests d.register (has_room d) f MaxRecordings && has_session_number d
extend_tests d f refusal = model.extend_tests d.register (has_room d) f refusal

-- where the position is a multiple of 32 strictly inside the recording, the frames are asked
abbrev pub truncate_tests : DeskState → ℤ → ℤ → Tests
truncate_tests d id position Broken = not d.is_broken
truncate_tests d id position BadPosition = model.truncate_tests (registration_in d.register id) (has_room d) true position BadPosition && is_aligned position
truncate_tests d id position ActiveReplay = not (is_replayed d id)
truncate_tests d id position refusal = model.truncate_tests (registration_in d.register id) (has_room d) true position refusal

abbrev pub purge_segments_tests : DeskState → ℤ → ℤ → Tests
purge_segments_tests d id position Broken = not d.is_broken
purge_segments_tests d id position ActiveReplay = not (list_any (is_replay_before id position) d.callers.replays)
purge_segments_tests d id position refusal = model.purge_segments_tests (registration_in d.register id) (has_room d) position refusal

abbrev pub purge_tests : DeskState → ℤ → Tests
purge_tests d id Broken = not d.is_broken
purge_tests d id ActiveReplay = not (is_replayed d id)
purge_tests d id refusal = model.purge_tests (registration_in d.register id) (has_room d) refusal

-- the tests of a command, whatever the frames say
abbrev pub command_tests : DeskState → Command → Tests
command_tests d (commands.Start f) = start_tests d f
command_tests d (commands.Append id blocks) = append_tests d id
command_tests d (commands.Stop id timestamp) = stop_tests d id timestamp
command_tests d (commands.Extend f) = extend_tests d f
command_tests d (commands.Truncate id position) = truncate_tests d id position
command_tests d (commands.PurgeSegments id position) = purge_segments_tests d id position
command_tests d (commands.PurgeRecording id) = purge_tests d id
command_tests d commands.Restart = λ refusal. true

-- each test of the command holds
abbrev pub Allows : DeskState → Command → Type 0
Allows d c = IsTrue (passes (command_tests d c) checks)

abbrev pub list_tests : ℤ → ℤ → Tests
list_tests from count BadParameter = not (is_negative from) && not (is_negative count) && int_le count (pos 1024)
list_tests from count _ = true

abbrev pub find_tests : FindFields → Tests
find_tests f BadParameter = not (is_negative f.least) && nat_lt 0 (length f.fragment)
find_tests f _ = true

abbrev pub positions_tests : DeskState → ℤ → Tests
positions_tests d id UnknownRecording = is_some (registration_in d.register id)
positions_tests d id _ = true

abbrev pub source_tests : DeskState → ℤ → Tests
source_tests d id UnknownRecording = is_some (registration_in d.register id)
source_tests d id _ = true

-- ---- replies

-- the descriptors of recordings of at least an id, at most so many
abbrev pub listed : ℤ → ℤ → List Registration → List Descriptor
listed from count rs = take (unsigned_abs count) (filter (λ d. int_le from d.recording) (map (λ r. r.descriptor) rs))

-- a fragment stands somewhere in a text
unfoldable pub has_fragment : List ℕ → List ℕ → Bool
has_fragment [] fragment = bytes_eq [] fragment
has_fragment (b ∷ text) fragment = bytes_eq (take (length fragment) (b ∷ text)) fragment || has_fragment text fragment

-- of a stream and session, with at least an id
unfoldable pub is_sought : FindFields → Registration → Bool
is_sought f r = int_le f.least (id_of r) && int_eq r.descriptor.stream_id f.stream_id && int_eq r.descriptor.session_id f.session_id

unfoldable pub matches : FindFields → Registration → Bool
matches f r = is_sought f r && has_fragment r.descriptor.channel f.fragment

-- the greatest id of a recording that matches, or -1
abbrev pub greatest : FindFields → List Registration → ℤ
greatest f rs = fold int_max (negsuc 0) (map id_of (filter (matches f) rs))

abbrev pub positions_reply : Option Registration → Reply
positions_reply None = Positions (pos 0) (pos 0) (pos 0)
positions_reply (Some r) = Positions r.descriptor.start_position r.recorded r.descriptor.stop_position

abbrev pub source_reply : Option Registration → Reply
source_reply None = Source []
source_reply (Some r) = Source r.descriptor.source_identity

-- ---- decisions

abbrev pub accepted : Result Command Refusal → Decision
accepted (Ok command) = Accepted command
accepted (Err refusal) = Refused refusal

abbrev pub answered : Result Reply Refusal → Decision
answered (Ok reply) = Answered reply
answered (Err refusal) = Refused refusal

-- the start and the recorded position are boundaries, whatever the frames are
abbrev pub if_boundary : Option Registration → ℤ → ℤ → Result Command Refusal → Decision
if_boundary None id position decided = accepted decided
if_boundary (Some r) id position decided = if is_end position r then accepted decided else IfBoundary id position decided

abbrev pub decided : Result Decision Refusal → Decision
decided (Ok decision) = decision
decided (Err refusal) = Refused refusal

-- what comes behind the test of the position is decided beforehand
abbrev pub on_truncate : DeskState → ℤ → ℤ → Decision
on_truncate d id position =
    let behind = checked (truncate_tests d id position) (block_checks ++ last_checks) (Ok (commands.Truncate id position)) in
    let in_front : Result Decision Refusal = checked (truncate_tests d id position) first_checks (Ok (if_boundary (registration_in d.register id) id position behind)) in
    decided in_front

-- what is decided on a request
abbrev pub decision_of : DeskState → Request → Decision
decision_of d (Start f) = accepted (checked (start_tests d f) checks (Ok (commands.Start f)))
decision_of d (Stop id timestamp) = accepted (checked (stop_tests d id timestamp) checks (Ok (commands.Stop id timestamp)))
decision_of d (Extend f) = accepted (checked (extend_tests d f) checks (Ok (commands.Extend f)))
decision_of d (Truncate id position) = on_truncate d id position
decision_of d (PurgeSegments id position) = accepted (checked (purge_segments_tests d id position) checks (Ok (commands.PurgeSegments id position)))
decision_of d (PurgeRecording id) = accepted (checked (purge_tests d id) checks (Ok (commands.PurgeRecording id)))
decision_of d (AskList from count) = answered (checked (list_tests from count) checks (Ok (Recordings (listed from count d.register.recordings))))
decision_of d (Find f) = answered (checked (find_tests f) checks (Ok (Found (greatest f d.register.recordings))))
decision_of d (AskPositions id) = answered (checked (positions_tests d id) checks (Ok (positions_reply (registration_in d.register id))))
decision_of d (AskSource id) = answered (checked (source_tests d id) checks (Ok (source_reply (registration_in d.register id))))

-- the command that a request asks for; none, where it asks what is there
abbrev pub asked_command : Request → Option Command
asked_command (Start f) = Some (commands.Start f)
asked_command (Stop id timestamp) = Some (commands.Stop id timestamp)
asked_command (Extend f) = Some (commands.Extend f)
asked_command (Truncate id position) = Some (commands.Truncate id position)
asked_command (PurgeSegments id position) = Some (commands.PurgeSegments id position)
asked_command (PurgeRecording id) = Some (commands.PurgeRecording id)
asked_command _ = None

-- this decision, or want of memory in its place, where the decision takes memory
abbrev pub Decides : Bool → Decision → Decision → Type 0
Decides takes (Refused NoMemory) decision = takes ≡ true
Decides takes made decision = made ≡ decision

-- a start copies its channel and source, a list its descriptors, and an answer with a source its text
abbrev pub takes_memory : Request → Bool
takes_memory (Start f) = true
takes_memory (AskList from count) = true
takes_memory (Stop id timestamp) = false
takes_memory (Extend f) = false
takes_memory (Truncate id position) = false
takes_memory (PurgeSegments id position) = false
takes_memory (PurgeRecording id) = false
takes_memory (Find f) = false
takes_memory (AskPositions id) = false
takes_memory (AskSource id) = true

-- the command that a decision leads to, if a frame begins where it asks
abbrev pub command_in : Decision → Option Command
command_in (Accepted command) = Some command
command_in (IfBoundary id position (Ok command)) = Some command
command_in (IfBoundary id position (Err refusal)) = None
command_in (Refused refusal) = None
command_in (Answered reply) = None
