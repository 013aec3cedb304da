use Rattle.std.proofs.Common.{◌≡◌, sym, ◌*◌, ◌^◌, ◌≤◌, ℕ, Some, None, arith}
use Rattle.std.specs.Prelude.{IfSome, Option, unsigned_abs}
use Rattle.std.proofs.lemmas.Int.{ints}
use Rattle.frame_core.specs.declared.frame.Frame.{Frame}
use Rattle.frame_core.specs.declared.geometry.Geometry.{Geometry}
use Rattle.frame_core.specs.FrameEncoding.{frame_of}
use Rattle.frame_core.specs.Position.{HasRoom, frame_position}
use Rattle.frame_core.proofs.PositionLemmas.{given}
use Rattle.image_core.proofs.joining.heartbeat_position.Goals as goal

-- a position lies inside the stream
room_by : (g : Geometry) (f : Frame) (found : Option ℕ) → found ≡ frame_position g f → IfSome found (HasRoom g f.term_offset) → IfSome found (λ p. p ≤ 2 ^ 31 * unsigned_abs g.term_length)
room_by g f None is room = tt
room_by g f (Some p) is room =
    let here = given g f.term_id f.term_offset p (sym is) in
    omega (arith, ints, here.low, here.high, room)

pub returns-then-is_of-clause-room : goal.returns-then-is_of-clause-room
returns-then-is_of-clause-room c =
    room_by c.args.geometry.now (frame_of c.args.frame.now) c.position_in.result c.position_in.ensures.value c.position_in.ensures.room
