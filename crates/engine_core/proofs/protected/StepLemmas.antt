-- What the steps that a call makes leave of a recording that an open replay reads.
use Rattle.std.proofs.Common.{◌≡◌, ◌++◌, refl, ℤ, false, List, [], ◌∷◌, Some}
use Rattle.engine_core.proofs.Words.{Archive, DeskState, Event, IsWell, OpenReplay, Recording, Request, desk_after, open_replay_in}
use Rattle.archive_model.specs.Acceptance.{BookState, book_after}
use Rattle.archive_model.proofs.StateLemmas.{well_after}
use Rattle.control_core.specs.declared.event.Event.TheVariants as events
use Rattle.control_core.specs.declared.request.Request.TheVariants as requests
use Rattle.control_core.specs.declared.turns.Settling.{Settling}
use Rattle.control_core.specs.declared.turns.Settling.TheVariants as settling
use Rattle.control_core.specs.Changes.{checkpointed}
use Rattle.control_core.specs.Consistent.{append_of, appends_of, request_steps, steps_asked}
use Rattle.control_core.specs.Decisions.{asked_command}
use Rattle.control_core.specs.Exact.{settled_by_number, settling_in}
use Rattle.control_core.specs.Steps.{AreAcceptedSteps, AreAllowedSteps, BookStep, Entered, Recounted, books_after, recounted}
use Rattle.engine_core.specs.Protected.{HasFrom}
use Rattle.engine_core.proofs.protected.CommandLemmas.{kept_after}
use Rattle.engine_core.proofs.protected.OpenLemmas.{command_open, is_restart}

-- none of these steps is a restart
abbrev AreLive : List BookStep → Type 0
AreLive [] = Unit {0}
AreLive (Entered c ∷ steps) = (is_restart c ≡ false) × AreLive steps
AreLive (Recounted ∷ steps) = AreLive steps

steps_have : (n : ℤ) (replay : OpenReplay) (r : Recording) (b : BookState) (d : DeskState) (steps : List BookStep) → AreLive steps → IsWell b.state → AreAcceptedSteps b steps → AreAllowedSteps b d steps → open_replay_in d n ≡ Some replay → HasFrom replay.next replay.recording r b.state
    → HasFrom replay.next replay.recording r (books_after b steps).state
steps_have n replay r b d [] live well accepted allowed found has = has
steps_have n replay r b d (Entered c ∷ steps) live well accepted allowed found has =
    steps_have n replay r (book_after b c) (desk_after d c) steps live.1 (well_after b c well accepted.0) accepted.1 allowed.2 (command_open n replay d c live.0 allowed.0 found) (kept_after b d c n replay r well accepted.0 allowed.0 found has)
steps_have n replay r b d (Recounted ∷ steps) live well accepted allowed found has = steps_have n replay r (recounted b) (checkpointed d) steps live well accepted allowed found has

-- ---- the steps that a call asks for

live_request : (request : Request) → AreLive (request_steps (asked_command request))
live_request (requests.Start f) = (refl, tt)
live_request (requests.Stop id timestamp) = (refl, tt)
live_request (requests.Extend f) = (refl, tt)
live_request (requests.Truncate id position) = (refl, tt)
live_request (requests.PurgeSegments id position) = (refl, tt)
live_request (requests.PurgeRecording id) = (refl, tt)
live_request request = tt

live_both : (xs ys : List BookStep) → AreLive xs → AreLive ys → AreLive (xs ++ ys)
live_both [] ys first next = next
live_both (Entered c ∷ xs) ys first next = (first.0, live_both xs ys first.1 next)
live_both (Recounted ∷ xs) ys first next = live_both xs ys first next

live_settling : (a : Archive) (n : ℤ) (s : Settling) → AreLive (append_of a n s)
live_settling a n (settling.Nothing position) = tt
live_settling a n (settling.Blocks id w) = (refl, tt)

live_all : (a : Archive) (ns : List ℤ) → AreLive (appends_of a ns)
live_all a [] = tt
live_all a (n ∷ ns) =
    let mid : Archive = settled_by_number a n (settling_in a n) in
    live_both (append_of a n (settling_in a n)) (appends_of mid ns) (live_settling a n (settling_in a n)) (live_all mid ns)

live_asked : (a : Archive) (event : Event) → AreLive (steps_asked a event)
live_asked a (events.Ask request) = live_request request
live_asked a (events.Settle session) = live_settling a session (settling_in a session)
live_asked a (events.SettleAll sessions) = live_all a sessions
live_asked a events.Checkpoint = tt
live_asked a event = tt

-- they leave the frames that an open replay reads
pub asked_has : (a : Archive) (event : Event) (d : DeskState) (b : BookState) (n : ℤ) (replay : OpenReplay) (r : Recording) → IsWell b.state → AreAcceptedSteps b (steps_asked a event) → AreAllowedSteps b d (steps_asked a event) → open_replay_in d n ≡ Some replay
    → HasFrom replay.next replay.recording r b.state → HasFrom replay.next replay.recording r (books_after b (steps_asked a event)).state
asked_has a event d b n replay r well accepted allowed found has = steps_have n replay r b d (steps_asked a event) (live_asked a event) well accepted allowed found has
