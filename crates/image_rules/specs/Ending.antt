-- The end of a publication: Aeron Transport Protocol Specification, "Data Frame"; docs/PROTOCOL.md, "Whose frames an image takes".
use Rattle.std.specs.Prelude.{◌-◌, ◌==◌, ◌&&◌, ◌||◌, ℕ, ℤ, bit_and, nat_le, not, Bool}
use Rattle.std.specs.Ordering.{int_eq}
use Rattle.frame_core.specs.declared.geometry.Geometry.{Geometry}
use Rattle.image_rules.specs.declared.ending.EndedPublication.{EndedPublication}

-- the bit 0x20 of a heartbeat's flags: the stream ends at its position
abbrev pub ends_stream : ℕ → Bool
ends_stream flags = not (bit_and flags 32 == 0)

-- and the bit 0x10 with it: no frame of the publication comes any more
abbrev pub is_revoked : ℕ → Bool
is_revoked flags = ends_stream flags && not (bit_and flags 16 == 0)

-- an image has all of a stream that ends at a position: that is its rebuild position, and its mark
abbrev pub is_whole_up_to : ℤ → ℤ → ℤ → Bool
is_whole_up_to end rebuilt mark = int_eq end rebuilt && int_eq end mark

-- frames of a publication that ended bring a request for a setup frame: not heartbeats that say the end, for 10,000 milliseconds
abbrev pub brings_request : Bool → ℕ → EndedPublication → Bool
brings_request says_end time e = not says_end || nat_le 10000 (time - e.at)

-- two publications have the same terms
abbrev pub are_same_terms : Geometry → Geometry → Bool
are_same_terms g h = int_eq g.initial_term_id h.initial_term_id && int_eq g.term_length h.term_length && int_eq g.mtu h.mtu

-- a setup frame has the terms of a publication that ended, and its position is the end
abbrev pub is_at_end : Geometry → ℤ → EndedPublication → Bool
is_at_end g position e = int_eq e.position position && are_same_terms e.geometry g

-- a setup frame joins: not at the end, or 10,000 milliseconds later, or once no heartbeat said the end for 300 milliseconds
abbrev pub may_join : Geometry → ℤ → ℕ → EndedPublication → Bool
may_join g position time e = not (is_at_end g position e) || nat_le 10000 (time - e.at) || nat_le 300 (time - e.heard)
