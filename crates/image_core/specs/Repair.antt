-- The frames that a request for repair asks for: docs/PROTOCOL.md, "Repair".
use Rattle.std.specs.Prelude.{◌+ℤ◌, ◌&&◌, pos, int_lt, Bool}
use Rattle.std.specs.Int.{int_max, int_min}
use Rattle.std.specs.Ordering.{int_eq}
use Rattle.frame_core.specs.declared.frame.Frame.{Frame}
use Rattle.frame_core.specs.declared.nak.Nak.{Nak}
use Rattle.frame_core.specs.FrameEncoding.{aligned_length}

-- of the request's session, stream and term
unfoldable pub is_of_request : Nak → Frame → Bool
is_of_request n f = int_eq f.session_id n.session_id && int_eq f.stream_id n.stream_id && int_eq f.term_id n.term_id

-- covers a byte of the request's range
unfoldable pub is_in_range : Nak → Frame → Bool
is_in_range n f = int_lt (int_max f.term_offset n.term_offset) (int_min (f.term_offset +ℤ pos (aligned_length f)) (n.term_offset +ℤ n.length))

-- the request asks for the frame
abbrev pub asks_for : Nak → Frame → Bool
asks_for n f = is_of_request n f && is_in_range n f
