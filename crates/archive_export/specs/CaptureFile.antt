-- A capture file: the savefile format of pcap, version 2.4; docs/PROTOCOL.md, "Captures".
use Rattle.std.specs.Prelude.{ℕ, List, ◌++◌, length}
use Rattle.std.specs.Int.{w16, w32, to_le_bytes}
use Rattle.std.specs.List.{flat_map}
use Rattle.frame_core.specs.declared.frame.Frame.{Frame}
use Rattle.archive_export.specs.declared.capture.destination.Destination.{Destination}
use Rattle.archive_export.specs.Packet.{datagram_of, packet_of}

-- a number as two or four bytes, the lowest first
abbrev pub u16_bytes : ℕ → List ℕ
u16_bytes n = to_le_bytes w16 n

abbrev pub u32_bytes : ℕ → List ℕ
u32_bytes n = to_le_bytes w32 n

-- the file's header: the magic number of times in microseconds, major and minor version, two reserved fields, how many bytes
-- of a packet are kept at most, and that packets begin with their IPv4 header (link type RAW)
abbrev pub file_header : List ℕ
file_header =
    u32_bytes 0xa1b2c3d4 ++ u16_bytes 2 ++ u16_bytes 4 ++ u32_bytes 0 ++ u32_bytes 0 ++ u32_bytes 65535 ++ u32_bytes 101

-- a packet's record: its time in seconds and microseconds, which is 0, how many bytes are kept and how many it had, and these
abbrev pub packet_record_of : Destination → Frame → List ℕ
packet_record_of d f =
    let packet = packet_of d (datagram_of f) in
    u32_bytes 0 ++ u32_bytes 0 ++ u32_bytes (length packet) ++ u32_bytes (length packet) ++ packet

-- the file of frames that are sent to a destination, one datagram for each
abbrev pub capture_of : Destination → List Frame → List ℕ
capture_of d frames = file_header ++ flat_map (packet_record_of d) frames
