-- The recordings of publications that are recorded without being asked: docs/SERVING.md, "Recording without being asked".
use Rattle.std.specs.Prelude.{◌&&◌, ℕ, ℤ, pos, Bool, int_le, int_lt, not, if◌then◌else◌, List, [], ◌∷◌, Option, None, Some}
use Rattle.std.specs.Ordering.{int_eq}
use Rattle.archive_model.specs.declared.command.ExtendFields.{ExtendFields}
use Rattle.archive_model.specs.declared.command.StartFields.{StartFields}
use Rattle.archive_model.specs.declared.descriptor.Descriptor.{Descriptor}
use Rattle.stream_pairs.specs.declared.points.StreamPoint.{StreamPoint}
use Rattle.stream_pairs.specs.Pairs.{is_point}
use Rattle.server_state.specs.Resuming.{is_one_stream, is_within_reach, may_resume}
use Rattle.server_state.specs.declared.resuming.Resumes.{Resumes}
use Rattle.server_state.specs.declared.resuming.Stand.{Stand}
use Rattle.server_recorder.specs.declared.streams.Finding.{Finding}
use Rattle.server_recorder.specs.declared.streams.Finding.TheVariants.{Begins, Extends, StandsBefore}

-- where a recording was stopped; the position of one that is active is -1
abbrev pub stop_point : Descriptor → StreamPoint
stop_point d = record {
  publication = record { session_id = d.session_id; stream_id = d.stream_id };
  geometry = record { initial_term_id = d.initial_term_id; term_length = d.term_length; mtu = d.mtu };
  position = d.stop_position;
}

-- a publication that joined at a point goes on with a recording that was stopped there
abbrev pub continues_recording : StreamPoint → Descriptor → Bool
continues_recording p d = is_point p (stop_point d)

-- the recording that it goes on with, if that is this one
abbrev pub continued : StreamPoint → Descriptor → Option ℤ
continued p d = if continues_recording p d then Some d.recording else None

abbrev pub or_else : Option ℤ → Option ℤ → Option ℤ
or_else None other = other
or_else (Some recording) other = Some recording

-- of several recordings, by rising id, it goes on with the last that it can
abbrev pub last_continued : StreamPoint → List Descriptor → Option ℤ
last_continued p [] = None
last_continued p (d ∷ ds) = or_else (last_continued p ds) (continued p d)

-- ---- where a publication stands that joined further on

-- nothing was recorded, and the publication can't go on there
abbrev pub is_passed_over : StreamPoint → Descriptor → Bool
is_passed_over p d = int_eq d.start_position d.stop_position && not (is_within_reach p d.stop_position)

-- a recording of the publication says where it stands
abbrev pub tells_stand : StreamPoint → Descriptor → Bool
tells_stand p d = is_one_stream p (stop_point d) && not (is_passed_over p d)

abbrev pub told_stand : StreamPoint → Descriptor → Option Stand
told_stand p d = if tells_stand p d then Some (record { recording = d.recording; position = d.stop_position }) else None

abbrev pub stand_or_else : Option Stand → Option Stand → Option Stand
stand_or_else None other = other
stand_or_else (Some stand) other = Some stand

-- of several recordings, by rising id, the last one says it; the position of one that is active is -1
abbrev pub last_stand : StreamPoint → List Descriptor → Option Stand
last_stand p [] = None
last_stand p (d ∷ ds) = stand_or_else (last_stand p ds) (told_stand p d)

-- the publication may go on there
abbrev pub resumed_stand : StreamPoint → Option Stand → Option Stand
resumed_stand p None = None
resumed_stand p (Some stand) = if is_within_reach p stand.position then Some stand else None

abbrev pub last_resumable : StreamPoint → List Descriptor → Option Stand
last_resumable p ds = resumed_stand p (last_stand p ds)

-- ---- what is found for an image without a session

-- a recording that ends where it joined goes on; else it begins anew where the last recording of its publication stands, if it may; else a recording begins
abbrev pub found_before : Option Stand → Finding
found_before None = Begins
found_before (Some stand) = StandsBefore stand

abbrev pub found_by : Option ℤ → Resumes → StreamPoint → List Descriptor → Finding
found_by (Some recording) resumes p ds = Extends recording
found_by None resumes p ds = if may_resume resumes then found_before (last_resumable p ds) else Begins

abbrev pub finding_for : Resumes → StreamPoint → List Descriptor → Finding
finding_for resumes p ds = found_by (last_continued p ds) resumes p ds

-- the last recording of its publication, if that was stopped: a recording that begins elsewhere leaves a hole after it, or goes back before its end
abbrev pub stopped_stand : Option Stand → Option Stand
stopped_stand None = None
stopped_stand (Some stand) = if int_le (pos 0) stand.position then Some stand else None

abbrev pub stand_before : StreamPoint → List Descriptor → Option Stand
stand_before p ds = stopped_stand (last_stand p ds)

-- ---- the fields of calls

-- a recording goes on at a point
abbrev pub extend_fields : ℤ → StreamPoint → ExtendFields
extend_fields recording p = record {
  recording = recording;
  stream_id = p.publication.stream_id;
  session_id = p.publication.session_id;
  initial_term_id = p.geometry.initial_term_id;
  term_length = p.geometry.term_length;
  mtu = p.geometry.mtu;
  join_position = p.position;
}

-- bytes of a segment: so many, or a term if that is longer
abbrev pub segment_of : ℤ → ℤ → ℤ
segment_of length term_length = if int_lt length term_length then term_length else length

-- a recording begins at a point
abbrev pub start_fields : StreamPoint → ℤ → ℤ → List ℕ → List ℕ → StartFields
start_fields p segment_length timestamp channel source = record {
  stream_id = p.publication.stream_id;
  session_id = p.publication.session_id;
  initial_term_id = p.geometry.initial_term_id;
  term_length = p.geometry.term_length;
  mtu = p.geometry.mtu;
  segment_length = segment_of segment_length p.geometry.term_length;
  start_position = p.position;
  timestamp = timestamp;
  channel = channel;
  source_identity = source;
}
