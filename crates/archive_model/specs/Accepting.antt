-- Which commands an archive accepts, and what it answers. docs/CONTROL.md, "Requests" and "Refusals".
use Rattle.std.specs.Prelude.{◌≡◌, ℤ, Bool, true, false, List, IsTrue, IsSomeAnd, MatchBool, Option, Some, None, Result, Ok, nat_lt}
use Rattle.frame_core.specs.declared.block.Block.{Block}
use Rattle.frame_core.specs.declared.refusal.Refusal.{Refusal}
use Rattle.frame_core.specs.Outcome.{Gives}
use Rattle.archive_model.specs.declared.command.Command.{Command}
use Rattle.archive_model.specs.declared.command.Command.TheVariants.{Start, Append, Stop, Extend, Truncate, PurgeSegments, PurgeRecording, Restart}
use Rattle.archive_model.specs.declared.reply.Reply.{Reply}
use Rattle.archive_model.specs.Keyed.{find}
use Rattle.archive_model.specs.State.{Recording, State, id_of, register_of}
use Rattle.archive_model.specs.Register.{registration_in}
use Rattle.archive_model.specs.Replay.{begins_frame}
use Rattle.archive_model.specs.Commands.{reply_to}
use Rattle.archive_model.specs.Acceptance.{BookState, Continue}
use Rattle.archive_model.specs.Checks.{Tests, checked, checks, passes, start_tests, append_tests, stop_tests, extend_tests, truncate_tests, purge_segments_tests, purge_tests}

-- the history has room for one more entry
abbrev pub has_room : BookState → Bool
has_room b = nat_lt b.counted b.limit

-- the tests of a command, by what the frames say of it
abbrev pub tests_of : BookState → Bool → Command → Tests
tests_of b said (Start f) = start_tests (register_of b.state) (has_room b) f
tests_of b said (Append id blocks) = append_tests (registration_in (register_of b.state) id) (has_room b) said
tests_of b said (Stop id timestamp) = stop_tests (registration_in (register_of b.state) id) (has_room b) timestamp
tests_of b said (Extend f) = extend_tests (register_of b.state) (has_room b) f
tests_of b said (Truncate id position) = truncate_tests (registration_in (register_of b.state) id) (has_room b) said position
tests_of b said (PurgeSegments id position) = purge_segments_tests (registration_in (register_of b.state) id) (has_room b) position
tests_of b said (PurgeRecording id) = purge_tests (registration_in (register_of b.state) id) (has_room b)
tests_of b said Restart = λ refusal. true

-- blocks go on where the recording of an id ends
abbrev pub Follow : State → ℤ → List Block → Type 0
Follow s id blocks = IsSomeAnd (find id_of id s.recordings) (λ r. Continue r blocks)

-- a frame of the recording of an id begins at a position
abbrev pub begins_in : Option Recording → ℤ → Bool
begins_in None position = true
begins_in (Some r) position = begins_frame position r

-- what the frames say of a command
abbrev pub Says : State → Command → Bool → Type 0
Says s (Append id blocks) said = MatchBool said (Follow s id blocks) (Follow s id blocks → ⊥)
Says s (Truncate id position) said = said ≡ begins_in (find id_of id s.recordings) position
Says s (Start f) said = said ≡ true
Says s (Stop id timestamp) said = said ≡ true
Says s (Extend f) said = said ≡ true
Says s (PurgeSegments id position) said = said ≡ true
Says s (PurgeRecording id) said = said ≡ true
Says s Restart said = said ≡ true

-- a new recording's channel and source and the frames of an append are copied
abbrev pub takes_memory : Command → Bool
takes_memory (Start f) = true
takes_memory (Append id blocks) = true
takes_memory (Stop id timestamp) = false
takes_memory (Extend f) = false
takes_memory (Truncate id position) = false
takes_memory (PurgeSegments id position) = false
takes_memory (PurgeRecording id) = false
takes_memory Restart = false

-- A command is accepted where each of its tests holds.
abbrev pub Accepts : BookState → Command → Type 0
Accepts b c = (said : Bool) × Says b.state c said × IsTrue (passes (tests_of b said c) checks)

-- What a command is answered: the reply, or the refusal of the first check whose test does not hold. Want of memory may
-- stand in place of it.
abbrev pub Answers : BookState → Command → Result Reply Refusal → Type 0
Answers b c result = (said : Bool) × Says b.state c said × Gives (λ (r : Reply). r) result (checked (tests_of b said c) checks (Ok (reply_to b.state c)))
