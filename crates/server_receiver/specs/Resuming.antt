-- Images that begin before their publications' setup frames: docs/PROTOCOL.md, "Where an image joins".
use Rattle.std.specs.Prelude.{◌≡◌, ◌&&◌, ◌||◌, ◌+◌, ◌%◌, ℕ, ℤ, pos, int_le, not, Bool, false, List, [], ◌∷◌, Option, None, Some, Result, if◌then◌else◌, slice_get, slice_index_or, slice_set}
use Rattle.std.specs.List.{position}
use Rattle.std.specs.Ordering.{int_eq}
use Rattle.frame_core.specs.declared.block.Publication.{Publication}
use Rattle.frame_core.specs.declared.frame.Frame.{Frame}
use Rattle.frame_core.specs.declared.frame.FrameKind.TheVariants.{Heartbeat}
use Rattle.frame_core.specs.declared.refusal.Refusal.{Refusal}
use Rattle.frame_core.specs.declared.setup.Setup.{Setup}
use Rattle.frame_core.specs.Setup.{HasJoinPosition, geometry_of}
use Rattle.flow_control.specs.Feedback.{has_passed}
use Rattle.image_core.specs.Received.{Received}
use Rattle.stream_pairs.specs.declared.points.StreamPoint.{StreamPoint}
use Rattle.server_state.specs.declared.resuming.Resumes.{Resumes}
use Rattle.server_state.specs.declared.resuming.Resumes.TheVariants.{Yes}
use Rattle.server_receiver.specs.declared.images.DatagramOutcome.{DatagramOutcome}
use Rattle.server_receiver.specs.declared.images.DatagramOutcome.TheVariants.{Joined}
use Rattle.server_receiver.specs.declared.resuming.Looked.{Looked}
use Rattle.server_receiver.specs.declared.resuming.ResumedImage.{ResumedImage}
use Rattle.server_receiver.specs.declared.resuming.Progress.{Progress}
use Rattle.server_receiver.specs.declared.resuming.Progress.TheVariants.{GivesUp, IsWhole, Waits}
use Rattle.server_receiver.specs.declared.unresumed.Unresumed.{Unresumed}
use Rattle.server_receiver.specs.declared.unresumed.UnresumedPublications.{UnresumedPublications}
use Rattle.server_receiver.specs.Datagrams.{HandlesFrames, JoinsBy, publication_of_setup}

-- ---- whether what is missing comes

-- an image that begins to resume: from where, up to where its publication's setup frame was, and when
abbrev pub begun_image : ℤ → ℤ → ℕ → ResumedImage
begun_image from to now = record { from = from; to = to; begun = now; rebuilt = from; since = now }

-- all up to the setup frame was rebuilt
abbrev pub is_whole : Looked → ResumedImage → Bool
is_whole look image = int_le image.to look.rebuilt

-- The time begins anew: more was rebuilt, nothing is asked for, or nothing of the publication came for 1,000 milliseconds.
abbrev pub begins_anew : Looked → ResumedImage → Bool
begins_anew look image =
    not (int_eq look.rebuilt image.rebuilt) || not look.asks || has_passed 1000 look.heard look.time

-- what an image that resumes is known by then
abbrev pub looked_at : Looked → ResumedImage → ResumedImage
looked_at look image =
    if begins_anew look image then record image { rebuilt = look.rebuilt; since = look.time } else image

-- It is given up once 5,000 milliseconds have passed without the time beginning anew.
abbrev pub is_given_up : Looked → ResumedImage → Bool
is_given_up look image = not (begins_anew look image) && has_passed 5000 image.since look.time

abbrev pub progress_of : Looked → ResumedImage → Progress
progress_of look image =
    if is_whole look image then IsWhole image else (if is_given_up look image then GivesUp image else Waits)

abbrev pub progress : Looked → Option ResumedImage → Progress
progress look None = Waits
progress look (Some image) = progress_of look image

-- it resumes on unless it is whole or given up
abbrev pub resumed_on : Looked → ResumedImage → Option ResumedImage
resumed_on look image =
    if is_whole look image || is_given_up look image then None else Some (looked_at look image)

abbrev pub resumed_after : Looked → Option ResumedImage → Option ResumedImage
resumed_after look None = None
resumed_after look (Some image) = resumed_on look image

-- ---- publications that don't resume

-- this was noted of a publication
abbrev pub is_noted_of : Publication → Option Unresumed → Bool
is_noted_of publication None = false
is_noted_of publication (Some u) =
    int_eq u.publication.session_id publication.session_id && int_eq u.publication.stream_id publication.stream_id

-- which of 64 places what is noted of a publication gets: the one that it has, or the next in turn
abbrev pub note_place : Option ℕ → ℕ → ℕ
note_place None next = next
note_place (Some i) next = i

-- the next in turn, once that was noted
abbrev pub note_next : Option ℕ → ℕ → ℕ
note_next None next = (next % 64 + 1) % 64
note_next (Some i) next = next

abbrev pub noted_at : Option ℕ → Unresumed → UnresumedPublications → UnresumedPublications
noted_at i u us = record us { noted = slice_set us.noted (note_place i us.next) (Some u); next = note_next i us.next }

abbrev pub with_unresumed : Publication → Resumes → ℕ → UnresumedPublications → UnresumedPublications
with_unresumed publication cause now us =
    noted_at (position (is_noted_of publication) us.noted) (record { publication = publication; cause = cause; at = now }) us

-- A publication whose image was given up, or lost, does not resume for 60 seconds.
abbrev pub resumes_by : ℕ → Option Unresumed → Resumes
resumes_by now None = Yes
resumes_by now (Some u) = if has_passed 60000 u.at now then Yes else u.cause

abbrev pub resumes_at : Option ℕ → ℕ → List (Option Unresumed) → Resumes
resumes_at None now us = Yes
resumes_at (Some i) now us = resumes_by now (slice_index_or us i None)

abbrev pub resumes_now : Publication → ℕ → UnresumedPublications → Resumes
resumes_now publication now us = resumes_at (position (is_noted_of publication) us.noted) now us.noted

-- ---- images that begin before a setup frame

-- a setup frame of a publication, by which an image begins at a position
pub record IsSetupAt (p : StreamPoint) (position : ℤ) (s : Setup) : Type 0 where
  pub begins : HasJoinPosition s position
  pub publication : publication_of_setup s ≡ p.publication
  pub terms : geometry_of s ≡ p.geometry

-- the heartbeat of a publication that stands where a setup frame says
abbrev pub heartbeat_of : Setup → Frame
heartbeat_of s = record {
  kind = Heartbeat;
  flags = 192;
  length = pos 0;
  term_offset = s.term_offset;
  session_id = s.session_id;
  stream_id = s.stream_id;
  term_id = s.active_term_id;
  reserved = pos 0;
  payload = [];
}

-- the image at a place is offered a frame
abbrev pub HearsIn : Option Received → Frame → Option Received → Type 0
HearsIn None f new = new ≡ None
HearsIn (Some image) f new =
    (after : Received) × (outcome : Result Bool Refusal) × HandlesFrames image (f ∷ []) after outcome × (new ≡ Some after)

abbrev pub HearsBy : Option (Option Received) → ℕ → Frame → List (Option Received) → List (Option Received) → Type 0
HearsBy None i f olds news = news ≡ olds
HearsBy (Some old) i f olds news = (after : Option Received) × HearsIn old f after × (news ≡ slice_set olds i after)

abbrev pub HearsAt : ℕ → Frame → List (Option Received) → List (Option Received) → Type 0
HearsAt i f olds news = HearsBy (slice_get olds i) i f olds news

-- an image that joined hears where its publication stands
abbrev pub HearsStand : DatagramOutcome → Frame → List (Option Received) → List (Option Received) → Type 0
HearsStand (Joined i point) f olds news = HearsAt i f olds news
HearsStand came f olds news = news ≡ olds

-- An image begins by one setup frame, and hears that its publication stands where another one says.
abbrev pub ResumesBy : Setup → Setup → List (Option Received) → List (Option Received) → DatagramOutcome → Type 0
ResumesBy begin stand olds news came =
    (between : List (Option Received)) × JoinsBy begin olds between came × HearsStand came (heartbeat_of stand) between news
