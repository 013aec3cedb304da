-- How frames are read from their bytes.
use Rattle.std.specs.Prelude.{◌≡◌, ◌≤◌, ◌-◌, ◌≤ℤ◌, ℕ, pos, min, List, length, take, drop, slice_index}
use Rattle.frame_core.specs.declared.frame.FrameKind.{FrameKind}
use Rattle.frame_core.specs.declared.frame.FrameKind.TheVariants.{Pad, Message, Heartbeat}
use Rattle.frame_core.specs.declared.frame.Frame.{Frame}
use Rattle.frame_core.specs.declared.nak.Nak.{Nak}
use Rattle.frame_core.specs.declared.setup.Setup.{Setup}
use Rattle.frame_core.specs.declared.status.StatusMessage.{StatusMessage}
use Rattle.frame_core.specs.FrameEncoding.{u16_at, i32_at, i64_at, aligned}

-- a header of these bytes is of a frame of the kind, whose encoding ends at an offset and which uses that many bytes
abbrev pub IsBody : List ℕ → FrameKind → ℕ → ℕ → Type 0
IsBody bytes Pad end used = (u16_at bytes 6 ≡ 0) × (pos 32 ≤ℤ i32_at bytes 0) × (end ≡ 32) × (used ≡ length bytes)
IsBody bytes Message end used =
    (u16_at bytes 6 ≡ 1) × (i32_at bytes 0 ≡ pos end) × (32 ≤ end) × (end ≤ length bytes) × (used ≡ min (aligned end) (length bytes))
IsBody bytes Heartbeat end used = (u16_at bytes 6 ≡ 1) × (i32_at bytes 0 ≡ pos 0) × (end ≡ 32) × (used ≡ 32)

-- the frame of a kind whose encoding stands in the bytes up to an offset
abbrev pub read_frame : List ℕ → FrameKind → ℕ → Frame
read_frame bytes kind end = record {
  kind = kind;
  flags = slice_index bytes 5;
  length = i32_at bytes 0;
  term_offset = i32_at bytes 8;
  session_id = i32_at bytes 12;
  stream_id = i32_at bytes 16;
  term_id = i32_at bytes 20;
  reserved = i64_at bytes 24;
  payload = take (end - 32) (drop 32 bytes);
}

-- the fields of a setup frame
abbrev pub read_setup : List ℕ → Setup
read_setup bytes = record {
  flags = slice_index bytes 5;
  term_offset = i32_at bytes 8;
  session_id = i32_at bytes 12;
  stream_id = i32_at bytes 16;
  initial_term_id = i32_at bytes 20;
  active_term_id = i32_at bytes 24;
  term_length = i32_at bytes 28;
  mtu = i32_at bytes 32;
  ttl = i32_at bytes 36;
}

-- the fields of a NAK frame
abbrev pub read_nak : List ℕ → Nak
read_nak bytes = record {
  session_id = i32_at bytes 8;
  stream_id = i32_at bytes 12;
  term_id = i32_at bytes 16;
  term_offset = i32_at bytes 20;
  length = i32_at bytes 24;
}

-- the fields of a status message
abbrev pub read_status : List ℕ → StatusMessage
read_status bytes = record {
  flags = slice_index bytes 5;
  session_id = i32_at bytes 8;
  stream_id = i32_at bytes 12;
  consumption_term_id = i32_at bytes 16;
  consumption_term_offset = i32_at bytes 20;
  receiver_window = i32_at bytes 24;
  receiver_id = i64_at bytes 28;
}
