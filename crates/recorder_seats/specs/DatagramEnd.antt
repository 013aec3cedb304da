-- What is received in a buffer: docs/ARCHITECTURE.md, "Blocks from datagrams".
use Rattle.std.specs.Prelude.{ℕ, List, Option, Some, None, take}

-- the datagram that lies at the front of a buffer, by its length, if one came
abbrev pub datagram_in : Option ℕ → List ℕ → Option (List ℕ)
datagram_in None buffer = None
datagram_in (Some count) buffer = Some (take count buffer)
