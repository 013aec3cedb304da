-- The state of an archive: its recordings, and the id of the next one. docs/CONTROL.md, "Recordings".
use Rattle.std.specs.Prelude.{ℕ, ℤ, pos, negsuc, ◌+ℤ◌, Bool, List, [], count_by, map}
use Rattle.std.specs.Ordering.{int_eq}
use Rattle.frame_core.specs.declared.frame.Frame.{Frame}
use Rattle.frame_core.specs.declared.geometry.Geometry.{Geometry}
use Rattle.frame_core.specs.declared.block.Publication.{Publication}
use Rattle.frame_core.specs.Block.{covered}
use Rattle.archive_model.specs.declared.descriptor.Descriptor.{Descriptor}
use Rattle.archive_model.specs.declared.registration.Registration.{Registration}
use Rattle.archive_model.specs.Register.{RegisterState}

-- what an archive has of a stream: the descriptor, and the recorded frames in order
pub record Recording : Type 0 where
  pub descriptor : Descriptor
  pub frames : List Frame

-- the recordings by rising id, and the next id
pub record State : Type 0 where
  pub recordings : List Recording
  pub next : ℤ

-- before the first recording
abbrev pub empty : State
empty = record { recordings = []; next = pos 0 }

abbrev pub id_of : Recording → ℤ
id_of r = r.descriptor.recording

-- an active recording has no stop position
abbrev pub is_active : Recording → Bool
is_active r = int_eq r.descriptor.stop_position (negsuc 0)

abbrev pub active_count : State → ℕ
active_count s = count_by is_active s.recordings

-- the end of the last recorded frame, or the start position
abbrev pub recorded_position : Recording → ℤ
recorded_position r = r.descriptor.start_position +ℤ pos (covered r.frames)

-- what the register has of a recording
abbrev pub registration_of : Recording → Registration
registration_of r = record { descriptor = r.descriptor; recorded = recorded_position r }

-- the register of a state
abbrev pub register_of : State → RegisterState
register_of s = record { recordings = map registration_of s.recordings; next = s.next }

-- the terms of the recorded stream
abbrev pub geometry_of : Descriptor → Geometry
geometry_of d = record { initial_term_id = d.initial_term_id; term_length = d.term_length; mtu = d.mtu }

-- who sends the recorded stream
abbrev pub publication_of : Descriptor → Publication
publication_of d = record { session_id = d.session_id; stream_id = d.stream_id }
