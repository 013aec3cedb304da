-- Positions in a stream: Aeron Transport Protocol Specification, "Stream position"; docs/PROTOCOL.md, "Positions".
use Rattle.std.specs.Prelude.{◌≡◌, ◌≤◌, ◌^◌, ◌≤ℤ◌, ◌<ℤ◌, ◌+ℤ◌, ◌-ℤ◌, ◌*ℤ◌, ◌+◌, ◌*◌, ℕ, ℤ, pos, int_lt, unsigned_abs, if◌then◌else◌, Option, Some, None}
use Rattle.std.specs.Int.{w32, int_wrap}
use Rattle.frame_core.specs.declared.frame.Frame.{Frame}
use Rattle.frame_core.specs.declared.geometry.Geometry.{Geometry}

-- how many terms after the first one, the ids taken as wrapping numbers of 32 bits
abbrev pub terms_since : Geometry → ℤ → ℤ
terms_since g term_id = int_wrap w32 (term_id -ℤ g.initial_term_id)

-- the term and the offset have this position
pub record HasPosition (g : Geometry) (term_id offset position : ℤ) : Type 0 where
  pub since : pos 0 ≤ℤ terms_since g term_id
  pub low : pos 0 ≤ℤ offset
  pub high : offset <ℤ g.term_length
  pub sum : position ≡ terms_since g term_id *ℤ g.term_length +ℤ offset

-- the position of an offset in a term, where it has one
unfoldable pub position_of : Geometry → ℤ → ℤ → Option ℕ
position_of g term_id offset =
    if int_lt (terms_since g term_id) (pos 0) then None
    else (if int_lt offset (pos 0) then None
    else (if int_lt offset g.term_length then Some (unsigned_abs (terms_since g term_id) * unsigned_abs g.term_length + unsigned_abs offset)
    else None))

-- a position of that offset is at least a term below the end of the last term
abbrev pub HasRoom : Geometry → ℤ → ℕ → Type 0
HasRoom g offset p = p + unsigned_abs g.term_length ≤ 2 ^ 31 * unsigned_abs g.term_length + unsigned_abs offset

-- the position of a frame, where it has one
abbrev pub frame_position : Geometry → Frame → Option ℕ
frame_position g f = position_of g f.term_id f.term_offset
