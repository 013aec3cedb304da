-- How far a stream is rebuilt from the frames that were received of it, and what of it is missing first: docs/PROTOCOL.md, "Images".
use Rattle.std.specs.Prelude.{◌+◌, ◌*◌, ◌/◌, ◌==◌, ℕ, nat_lt, unsigned_abs, if◌then◌else◌, List, [], ◌∷◌}
use Rattle.frame_core.specs.declared.frame.Frame.{Frame}
use Rattle.frame_core.specs.declared.geometry.Geometry.{Geometry}
use Rattle.frame_core.specs.FrameEncoding.{aligned_length}

-- where a frame ends that was received at a position
abbrev pub end_of : ℕ × Frame → ℕ
end_of m = m.0 + aligned_length m.1

-- the end of the longest chain of frames from a position, the frames by rising position
abbrev pub chain_end : ℕ → List (ℕ × Frame) → ℕ
chain_end p [] = p
chain_end p (m ∷ ms) = chain_end (if p == m.0 then end_of m else p) ms

-- where the first frame begins that begins past a position, else the other position
abbrev pub next_start : ℕ → ℕ → List (ℕ × Frame) → ℕ
next_start p other [] = other
next_start p other (m ∷ ms) = if nat_lt p m.0 then m.0 else next_start p other ms

-- the end of the term in which a position lies
abbrev pub term_end : Geometry → ℕ → ℕ
term_end g p = (p / unsigned_abs g.term_length + 1) * unsigned_abs g.term_length
