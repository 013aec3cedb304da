-- Where datagrams of a sender end: docs/PROTOCOL.md, "Publications of recordings".
use Rattle.std.specs.Prelude.{◌≤◌, ◌<◌, ℕ}
use Rattle.frame_core.specs.declared.geometry.Geometry.{Geometry}
use Rattle.image_core.specs.Rebuild.{term_end}
use Rattle.publication_core.specs.declared.datagram.Datagram.{Datagram}

-- a datagram ends at the latest where the term ends in which it begins
abbrev pub EndsInItsTerm : Geometry → Datagram → Type 0
EndsInItsTerm g d = d.end ≤ term_end g d.position

-- it ends past a position
abbrev pub EndsPast : ℕ → Datagram → Type 0
EndsPast p d = p < d.end
