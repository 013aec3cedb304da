-- A sending that is under way: docs/PROTOCOL.md, "Publications of recordings".
use Rattle.std.specs.Prelude.{◌≡◌, ◌&&◌, ◌++◌, ℕ, ℤ, not, unsigned_abs, Bool, true, false, List, [], ◌∷◌, Option, None, Some, is_some}
use Rattle.frame_core.specs.declared.block.Publication.{Publication}
use Rattle.frame_core.specs.declared.frame.Frame.{Frame}
use Rattle.frame_core.specs.declared.geometry.Geometry.{Geometry}
use Rattle.archive_model.specs.declared.reply.PolledFrame.{PolledFrame}
use Rattle.publication_core.specs.Sending.{Sending, after_end, after_hearing, after_laying, after_nak, is_finished, lay_position, new_sending, wants_frames}
use Rattle.server_sender.specs.declared.feedback.Feedback.{Feedback}
use Rattle.server_sender.specs.declared.feedback.Feedback.TheVariants.{Repeat, Status}
use Rattle.server_sender.specs.declared.publishing.LastFrames.{LastFrames}
use Rattle.server_sender.specs.declared.publishing.LastFrames.TheVariants as lasts
use Rattle.server_sender.specs.declared.publishing.SendOver.{SendOver}
use Rattle.server_sender.specs.declared.publishing.SendOver.TheVariants as overs
use Rattle.server_sender.specs.declared.publishing.SendProgress.{SendProgress}

-- its publication, when it began, why no more frames come, and how many datagrams were repeated
pub record PublishingView : Type 0 where
  pub sending : Sending
  pub begun_at : ℕ
  pub last : Option LastFrames
  pub repeats : ℕ

abbrev pub begun_publishing : Geometry → Publication → ℕ → ℕ → PublishingView
begun_publishing g publication p now = record { sending = new_sending g publication p; begun_at = now; last = None; repeats = 0 }

-- what a receiver answers
abbrev pub after_feedback : ℕ → Feedback → PublishingView → PublishingView
after_feedback now (Status s) p = record p { sending = after_hearing now s p.sending }
after_feedback now (Repeat n) p = record p { sending = after_nak now n p.sending }

-- a copy of a frame that begins at a position comes after those that were read before
abbrev pub KeepsRead : List PolledFrame → ℤ → Frame → List PolledFrame → Type 0
KeepsRead old at frame new = new ≡ old ++ record { position = at; frame = frame } ∷ []

-- a frame is laid where it begins, and waits
abbrev pub after_frame : PolledFrame → PublishingView → PublishingView
after_frame f p = record p { sending = after_laying (unsigned_abs f.position) f.frame p.sending }

-- frames are laid, one after another
abbrev pub laid_each : List PolledFrame → PublishingView → PublishingView
laid_each [] p = p
laid_each (f ∷ fs) p = laid_each fs (after_frame f p)

-- more frames are wanted: some may come, the stream does not end, and there is room for them
abbrev pub wants_more : PublishingView → Bool
wants_more p = not (is_some p.last) && not (is_some p.sending.flow.ends_left) && wants_frames p.sending

abbrev pub sending_progress : PublishingView → SendProgress
sending_progress p = record {
  is_heard = is_some p.sending.flow.heard_at;
  position = p.sending.flow.position;
  limit = p.sending.flow.limit;
  consumed = p.sending.flow.consumed;
  repeats = p.repeats;
}

-- all that was laid is consumed, and the stream does not end yet
abbrev pub has_all : PublishingView → Bool
has_all p = not (is_some p.sending.flow.ends_left) && is_finished (lay_position p.sending) p.sending

-- how it ends once it has all: at its bound the stream ends first
abbrev pub ConcludesBy : Option LastFrames → PublishingView → Option SendOver → PublishingView → Type 0
ConcludesBy None old over new = (over ≡ None) × (new ≡ old)
ConcludesBy (Some lasts.Bound) old over new = (over ≡ None) × (new ≡ record old { sending = after_end old.sending })
ConcludesBy (Some lasts.Stopped) old over new = (over ≡ Some overs.Done) × (new ≡ old)
ConcludesBy (Some (lasts.Refused refusal)) old over new = (over ≡ Some (overs.Refused refusal)) × (new ≡ old)

abbrev pub ConcludesIf : Bool → PublishingView → Option SendOver → PublishingView → Type 0
ConcludesIf false old over new = (over ≡ None) × (new ≡ old)
ConcludesIf true old over new = ConcludesBy old.last old over new

abbrev pub Concludes : PublishingView → Option SendOver → PublishingView → Type 0
Concludes old over new = ConcludesIf (has_all old) old over new
