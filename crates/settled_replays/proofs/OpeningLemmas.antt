-- Where a reader begins.
use Rattle.std.proofs.Common.{◌≡◌, ◌∙◌, inl, inr, ℤ, Bool, sym, refl, ap, subst}
use Rattle.std.specs.Prelude.{unsigned_abs}
use Rattle.frame_core.specs.declared.frame.Frame.{Frame}
use Rattle.disk_core.specs.DiskImage.{DiskImage}
use Rattle.archive_model.specs.declared.descriptor.Descriptor.{Descriptor}
use Rattle.archive_model.specs.declared.registration.Registration.{Registration}
use Rattle.recording_reads.specs.Handing.{HandsShown}
use Rattle.recording_reads.specs.Reading.{GivesShown}
use Rattle.recording_reads.specs.Settled.{CursorView, seen_to}
use Rattle.settled_replays.specs.Holding.{HeldReplayView}
use Rattle.settled_replays.specs.Reading.{ReachesFrame, replay_from}

-- a turn that came to the position has read up to it
pub reached_by : {T : Type 0} (takes : T → ℤ → Frame → T → Type 0) (old new : T) (obeys : Bool) (image : DiskImage) (known : Registration) (held : HeldReplayView) (cursor : CursorView) (position seen most next : ℤ) → cursor ≡ record { known = known; replay = replay_from held held.from position } → seen ≡ known.recorded → next ≡ position
    → HandsShown takes old new obeys image (seen_to seen cursor.known) cursor.replay most next → ReachesFrame obeys image known held position
reached_by takes old new obeys image known held cursor position seen most next are is_seen comes handed =
    let same : seen_to seen cursor.known ≡ known = ap (λ (c : CursorView). seen_to seen c.known) are ∙ ap (λ (s : ℤ). seen_to s known) is_seen in
    record {
      reached = inr (inr (λ obeyed. (
        most,
        handed.frames,
        subst (λ (z : Registration × (CursorView × ℤ)). GivesShown image z.0 z.1.0.replay most handed.frames (unsigned_abs z.1.1)) (λ i. (same i, (are i, comes i))) (handed.shown obeyed),
      )));
    }
