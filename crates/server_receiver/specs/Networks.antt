-- The networks that datagrams are taken from: docs/SERVING.md, "Who can send".
use Rattle.std.specs.Prelude.{◌||◌, ◌==◌, ◌-◌, ◌/◌, ◌^◌, min, not, Bool, false, List, Option, None, Some, is_some}
use Rattle.std.specs.List.{list_any}
use Rattle.std.specs.Net.Addr.{ipv4_bits}
use Rattle.std.specs.Net.Socket.{v4_ip}
use Rattle.std.specs.declared.net.ipv4_addr.Ipv4Addr.{Ipv4Addr}
use Rattle.std.specs.declared.net.socket_addr.SocketAddr.{SocketAddr}
use Rattle.std.specs.declared.net.socket_addr.SocketAddr.TheVariants.{V4}
use Rattle.server_receiver.specs.declared.networks.Network.{Network}

-- an address is in a network: their first bits are the same
abbrev pub contains : Ipv4Addr → Network → Bool
contains address n = ipv4_bits address / 2 ^ (32 - min n.bits 32) == n.address / 2 ^ (32 - min n.bits 32)

abbrev pub is_in_network : Ipv4Addr → Option Network → Bool
is_in_network address None = false
is_in_network address (Some n) = contains address n

abbrev pub is_from_network : Option SocketAddr → Option Network → Bool
is_from_network (Some (V4 from)) n = is_in_network (v4_ip from) n
is_from_network from n = false

-- a datagram is taken if it is from one of the networks, or none is named
abbrev pub takes : Option SocketAddr → List (Option Network) → Bool
takes from ns = not (list_any is_some ns) || list_any (is_from_network from) ns
