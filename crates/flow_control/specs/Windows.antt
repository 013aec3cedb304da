-- Receiver windows: docs/PROTOCOL.md, "Status messages and NAKs of a receiver".
use Rattle.std.specs.Prelude.{◌+◌, ◌-◌, ◌*◌, ◌/◌, ℕ, ℤ, pos, min, int_le, unsigned_abs, Bool}
use Rattle.std.specs.Int.{int_min}
use Rattle.frame_core.specs.declared.geometry.Geometry.{Geometry}
use Rattle.image_core.specs.Received.{window}

-- the receiver window of a publication, in bytes: the least of a bound, half a term and the stock of an image
abbrev pub receiver_window : Geometry → ℤ → ℤ
receiver_window g most = int_min most (pos (min (window g) 1048576))

-- no frame of the publication is longer than the window
abbrev pub has_window : Geometry → ℤ → Bool
has_window g most = int_le g.mtu (receiver_window g most)

-- five sixteenths of a term
abbrev pub five_sixteenths : Geometry → ℕ
five_sixteenths g = unsigned_abs g.term_length * 5 / 16

-- The bound of the positions that status messages name, if a stream is settled up to a position: five sixteenths of a term past that, but for the window.
abbrev pub settled_bound : Geometry → ℤ → ℕ → ℕ
settled_bound g most settled = settled + five_sixteenths g - unsigned_abs (receiver_window g most)
