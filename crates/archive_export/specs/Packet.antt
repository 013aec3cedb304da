-- A frame as a datagram of UDP over IPv4: RFC 791, section 3.1; RFC 768; docs/PROTOCOL.md, "Captures".
use Rattle.std.specs.Prelude.{◌+◌, ◌-◌, ◌/◌, ◌%◌, ◌≤◌, ℕ, List, [], ◌∷◌, ◌++◌, length, fold, replicate}
use Rattle.std.specs.Int.{w16, to_be_bytes}
use Rattle.std.specs.Net.Addr.{ipv4_octets, segments_of}
use Rattle.frame_core.specs.declared.frame.Frame.{Frame}
use Rattle.frame_core.specs.declared.frame.FrameKind.{FrameKind}
use Rattle.frame_core.specs.declared.frame.FrameKind.TheVariants.{Pad, Message, Heartbeat}
use Rattle.frame_core.specs.FrameEncoding.{aligned, encoded}
use Rattle.archive_export.specs.declared.capture.destination.Destination.{Destination}

-- how many zeros are sent behind an encoding of so many bytes: a message fills its aligned length; of a pad and a heartbeat
-- the header alone is sent
abbrev pub zeros_behind : FrameKind → ℕ → ℕ
zeros_behind Pad size = 0
zeros_behind Message size = aligned size - size
zeros_behind Heartbeat size = 0

-- what is sent of a frame
abbrev pub datagram_of : Frame → List ℕ
datagram_of f = encoded f ++ replicate (zeros_behind f.kind (length (encoded f))) 0

-- it fits a datagram of IPv4 behind the headers of both protocols: 65,535 bytes together
abbrev pub FitsDatagram : Frame → Type 0
FitsDatagram f = 28 + length (datagram_of f) ≤ 65535

-- words of 16 bits as bytes, the high one first
abbrev pub in_network_order : List ℕ → List ℕ
in_network_order [] = []
in_network_order (word ∷ words) = to_be_bytes w16 word ++ in_network_order words

-- the one's complement sum of two words: what is carried out is added in again
abbrev pub added : ℕ → ℕ → ℕ
added a b = (a + b) % 65536 + (a + b) / 65536

-- the one's complement of the one's complement sum of words
abbrev pub checksum_of : List ℕ → ℕ
checksum_of words = 65535 - fold added 0 words

-- the header of IPv4 for a datagram of so many bytes, headers included, with a checksum
abbrev pub ipv4_words : Destination → ℕ → ℕ → List ℕ
ipv4_words d total checksum =
    -- version 4, a header of five times 32 bits, type of service 0; the total length
    0x4500
    ∷ total
    -- identification 0; no flags, fragment offset 0
    ∷ 0
    ∷ 0
    -- time to live 64, protocol 17: UDP; the checksum
    ∷ 0x4011
    ∷ checksum
    -- from 127.0.0.1
    ∷ 0x7f00
    ∷ 0x0001
    ∷ segments_of (ipv4_octets d.address)

-- the header's checksum is that of its words with 0 in its place
unfoldable pub ipv4_header : Destination → ℕ → List ℕ
ipv4_header d total = in_network_order (ipv4_words d total (checksum_of (ipv4_words d total 0)))

-- the header of UDP for so many bytes, itself included: from the same port; checksum 0: none was made
unfoldable pub udp_header : Destination → ℕ → List ℕ
udp_header d size = in_network_order (d.port ∷ d.port ∷ size ∷ 0 ∷ [])

-- bytes as a datagram to a destination
abbrev pub packet_of : Destination → List ℕ → List ℕ
packet_of d bytes = ipv4_header d (28 + length bytes) ++ udp_header d (8 + length bytes) ++ bytes
