use Rattle.std.proofs.Common.{◌∙◌, ap, ap₂, add-one}
use Rattle.server_state.specs.Measuring.{measured_recording, with_measured}
use Rattle.server_state.proofs.measuring.recordings_of.Goals as goal

pub loop-seat-preserved : goal.loop-seat-preserved
loop-seat-preserved c = rw add-one (c.in_ok-add.ensures ∙ ap₂ with_measured c.loop-seat.invariant (c.slot_measures.ensures ∙ ap measured_recording c.slot.ensures))
