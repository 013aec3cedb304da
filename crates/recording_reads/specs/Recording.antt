-- Where the frames of a recording lie: docs/STORAGE.md, "Segments".
use Rattle.segment_store.specs.declared.layout.Layout.{Layout}
use Rattle.archive_model.specs.declared.descriptor.Descriptor.{Descriptor}

-- where the frames of a recording lie
abbrev pub layout_of : Descriptor → Layout
layout_of d = record {
  recording = d.recording;
  stream_id = d.stream_id;
  start_position = d.start_position;
  term_length = d.term_length;
  segment_length = d.segment_length;
}
