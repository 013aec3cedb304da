-- The next frame stays behind where the replay was opened.
use Rattle.std.proofs.Common.{◌≡◌, inl, inr, ℤ, pos, Bool, Result, Ok, Err, arith, subst, sym, ap}
use Rattle.std.proofs.lemmas.Int.{ints}
use Rattle.std.specs.Prelude.{◌<◌, ◌≤ℤ◌, ◌<ℤ◌, IfErr, OnOk, unsigned_abs}
use Rattle.frame_core.specs.declared.frame.Frame.{Frame}
use Rattle.frame_core.specs.declared.refusal.Refusal.{Refusal}
use Rattle.disk_core.specs.DiskImage.{DiskImage}
use Rattle.control_core.specs.declared.callers.OpenReplay.{OpenReplay}
use Rattle.replay_core.specs.Poll.{MovesTo}
use Rattle.recording_reads.specs.Settled.{CursorView, RefusesTurn}

moved_behind : (from seen bound next new : ℤ) → from ≤ℤ next → MovesTo seen bound next new → from ≤ℤ new
moved_behind from seen bound next new behind (inl further) = let more : next <ℤ new = further.0 in omega (arith, ints, behind, more)
moved_behind from seen bound next new behind (inr stays) = subst (λ (z : ℤ). from ≤ℤ z) (sym stays.0) behind

some_asked : (most : ℤ) → pos 1 ≤ℤ most → 0 < unsigned_abs most
some_asked most some = omega (arith, ints, some)

-- whatever a turn is answered
pub still_protected : {T : Type 0} (takes : T → ℤ → Frame → T → Type 0) (leaves : T → T → Type 0) (old new : T) (obeys : Bool) (image : DiskImage) (seen most : ℤ) (before after : CursorView) (result : Result (Unit {0}) Refusal) (from : ℤ) → pos 1 ≤ℤ most → from ≤ℤ before.replay.next
    → OnOk result (0 < unsigned_abs most → MovesTo seen before.replay.bound before.replay.next after.replay.next) → IfErr result (RefusesTurn takes leaves old new obeys image seen most before after) → from ≤ℤ after.replay.next
still_protected takes leaves old new obeys image seen most before after (Ok done) from some behind moves refused = moved_behind from seen before.replay.bound before.replay.next after.replay.next behind (moves (some_asked most some))
still_protected takes leaves old new obeys image seen most before after (Err refusal) from some behind moves refused = subst (λ (r : OpenReplay). from ≤ℤ r.next) (sym refused.stays) behind
