-- What is measured of recordings that are sent: docs/SERVING.md, "Metrics".
use Rattle.std.specs.Prelude.{List, [], ◌∷◌, if◌then◌else◌}
use Rattle.std.specs.List.{flat_map}
use Rattle.metrics_text.specs.declared.sends.SendMeasures.{SendMeasures}
use Rattle.server_sender.specs.declared.record.SendRecord.{SendRecord}
use Rattle.server_sender.specs.Table.{is_live_send}

-- that of a sending that is not over
abbrev pub measured_send : SendRecord → List SendMeasures
measured_send r = if is_live_send r then record {
  send = r.number;
  recording = r.recording;
  stream_id = r.publication.stream_id;
  session_id = r.publication.session_id;
  position = r.position;
  limit = r.limit;
  consumed = r.consumed;
} ∷ [] else []

abbrev pub measured_sends : List SendRecord → List SendMeasures
measured_sends rs = flat_map measured_send rs
