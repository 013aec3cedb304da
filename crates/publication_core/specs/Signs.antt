-- Setup frames and heartbeats of a sender: docs/PROTOCOL.md, "Publications of recordings".
use Rattle.std.specs.Prelude.{◌≡◌, ℕ, pos, Option, None, Some, []}
use Rattle.frame_core.specs.declared.block.Publication.{Publication}
use Rattle.frame_core.specs.declared.frame.Frame.{Frame}
use Rattle.frame_core.specs.declared.frame.FrameKind.TheVariants.{Heartbeat}
use Rattle.frame_core.specs.declared.geometry.Geometry.{Geometry}
use Rattle.frame_core.specs.declared.setup.Setup.{Setup}
use Rattle.frame_core.specs.Position.{HasPosition}

-- begin and end of a message; and of a stream that ends, with its flag
abbrev pub heartbeat_flags : Option ℕ → ℕ
heartbeat_flags None = 192
heartbeat_flags (Some left) = 224

-- a heartbeat of a publication at a position
pub record IsHeartbeatOf (g : Geometry) (publication : Publication) (flags position : ℕ) (f : Frame) : Type 0 where
  pub kind : f.kind ≡ Heartbeat
  pub flags_are : f.flags ≡ flags
  pub length : f.length ≡ pos 0
  pub at : HasPosition g f.term_id f.term_offset (pos position)
  pub session_id : f.session_id ≡ publication.session_id
  pub stream_id : f.stream_id ≡ publication.stream_id
  pub reserved : f.reserved ≡ pos 0
  pub payload : f.payload ≡ []

-- a setup frame of a publication, which an image joins at a position
pub record IsSetupOf (g : Geometry) (publication : Publication) (position : ℕ) (s : Setup) : Type 0 where
  pub flags : s.flags ≡ 0
  pub at : HasPosition g s.active_term_id s.term_offset (pos position)
  pub session_id : s.session_id ≡ publication.session_id
  pub stream_id : s.stream_id ≡ publication.stream_id
  pub initial_term_id : s.initial_term_id ≡ g.initial_term_id
  pub term_length : s.term_length ≡ g.term_length
  pub mtu : s.mtu ≡ g.mtu
  pub ttl : s.ttl ≡ pos 0
