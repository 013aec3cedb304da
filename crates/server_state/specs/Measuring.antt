-- What is measured of recordings: docs/SERVING.md, "Metrics".
use Rattle.std.specs.Prelude.{ℕ, zero, suc, List, [], ◌∷◌, ◌++◌, Option, None, Some, if◌then◌else◌}
use Rattle.stream_pairs.specs.declared.pairs.SessionSlot.{SessionSlot}
use Rattle.stream_pairs.specs.Pairs.{PairsState, slot_of}
use Rattle.metrics_text.specs.declared.measures.RecordingMeasures.{RecordingMeasures}

-- the recording of a session, and where it is settled to
abbrev pub slot_measures : SessionSlot → RecordingMeasures
slot_measures slot = record {
  recording = slot.recording;
  stream_id = slot.point.publication.stream_id;
  session_id = slot.point.publication.session_id;
  recorded = slot.point.position;
}

-- that of a seat's session, if that is open
abbrev pub measured_recording : Option SessionSlot → Option RecordingMeasures
measured_recording None = None
measured_recording (Some slot) = if slot.is_open then Some (slot_measures slot) else None

-- one more, if there is one
abbrev pub with_measured : List RecordingMeasures → Option RecordingMeasures → List RecordingMeasures
with_measured measures None = measures
with_measured measures (Some recording) = measures ++ recording ∷ []

-- those of the seats below a number, by their seats
abbrev pub recordings_below : ℕ → PairsState → List RecordingMeasures
recordings_below zero s = []
recordings_below (suc n) s = with_measured (recordings_below n s) (measured_recording (slot_of n s))
