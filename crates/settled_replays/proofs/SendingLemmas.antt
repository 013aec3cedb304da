-- The bytes of frames that were taken one after another.
use Rattle.std.proofs.Common.{◌≡◌, ◌∙◌, ◌++◌, ℕ, ℤ, Bool, List, [], ◌∷◌, Result, Ok, Err, sym, refl, ap, subst}
use Rattle.std.specs.Prelude.{OnOk}
use Rattle.frame_core.specs.declared.refusal.Refusal.{Refusal}
use Rattle.std.proofs.lemmas.List.{append-nil, append_assoc}
use Rattle.disk_core.specs.DiskImage.{DiskImage}
use Rattle.frame_core.specs.declared.frame.Frame.{Frame}
use Rattle.frame_core.specs.FrameEncoding.{stored}
use Rattle.archive_model.specs.declared.registration.Registration.{Registration}
use Rattle.archive_model.specs.declared.reply.PolledFrame.{PolledFrame}
use Rattle.control_core.specs.declared.callers.OpenReplay.{OpenReplay}
use Rattle.recording_reads.specs.Handing.{HandsShown, TakesEach}
use Rattle.settled_replays.specs.Sending.{SendsShown, sent_frames}

abbrev takes_stored : List ℕ → ℤ → Frame → List ℕ → Type 0
takes_stored old position frame new = new ≡ old ++ stored frame

taken_bytes : (old new : List ℕ) (frames : List PolledFrame) → TakesEach takes_stored old frames new → new ≡ old ++ sent_frames frames
taken_bytes old new [] taken = taken ∙ sym (append-nil old)
taken_bytes old new (f ∷ fs) (mid, takes, rest) = taken_bytes mid new fs rest ∙ ap (λ (b : List ℕ). b ++ sent_frames fs) takes ∙ append_assoc old (stored f.frame) (sent_frames fs)

-- what is handed on to bytes that were none is sent
pub sends_shown : (new : List ℕ) (obeys : Bool) (image : DiskImage) (g : Registration) (replay : OpenReplay) (most end : ℤ) → HandsShown takes_stored [] new obeys image g replay most end → SendsShown new obeys image g replay most end
sends_shown new obeys image g replay most end h = record { frames = h.frames; sent = taken_bytes [] new h.frames h.taken; shown = h.shown; begin = h.begin; next = h.next }

-- the same, if it was handed on
pub sends_if : (result : Result (Unit {0}) Refusal) (old new : List ℕ) (obeys : Bool) (image : DiskImage) (g : Registration) (replay : OpenReplay) (most end : ℤ) → old ≡ [] → OnOk result (HandsShown takes_stored old new obeys image g replay most end) → OnOk result (SendsShown new obeys image g replay most end)
sends_if (Ok done) old new obeys image g replay most end none h = sends_shown new obeys image g replay most end (subst (λ (b : List ℕ). HandsShown takes_stored b new obeys image g replay most end) none h)
sends_if (Err refusal) old new obeys image g replay most end none h = tt
