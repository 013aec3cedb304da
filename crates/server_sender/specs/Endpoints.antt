-- Where a recording may be sent to: docs/CONTROL.md, "Sendings".
use Rattle.std.specs.Prelude.{◌≡◌, ◌==◌, ◌&&◌, ◌||◌, Bool, false, nat_le, nat_lt, not}
use Rattle.std.specs.Net.Addr.{ipv4_bits}
use Rattle.std.specs.Net.Socket.{v4_ip, v4_port}
use Rattle.std.specs.declared.net.socket_addr.SocketAddr.{SocketAddr}
use Rattle.std.specs.declared.net.socket_addr.SocketAddr.TheVariants.{V4, V6}
use Rattle.std.specs.declared.net.socket_addr.SocketAddrV4.{SocketAddrV4}
use Rattle.server_sender.specs.declared.endpoint.Endpoint.{Endpoint}

-- an endpoint is that of a socket address
pub record IsSocketOf (socket : SocketAddrV4) (e : Endpoint) : Type 0 where
  pub address : e.address ≡ ipv4_bits (v4_ip socket)
  pub port : e.port ≡ v4_port socket

-- it is this socket address
abbrev pub is_endpoint_at : SocketAddrV4 → Endpoint → Bool
is_endpoint_at address e = ipv4_bits (v4_ip address) == e.address && v4_port address == e.port

-- a datagram came from it
abbrev pub is_endpoint_of : SocketAddr → Endpoint → Bool
is_endpoint_of (V4 from) e = is_endpoint_at from e
is_endpoint_of (V6 from) e = false

-- it is one host's: no multicast address (224.0.0.0 to 239.255.255.255), not 255.255.255.255, not 0.0.0.0, and a port that isn't 0
abbrev pub is_unicast : Endpoint → Bool
is_unicast e =
    not (e.address == 0)
    && not (e.address == 0xFFFFFFFF)
    && (nat_lt e.address 0xE0000000 || nat_le 0xF0000000 e.address)
    && not (e.port == 0)

-- what is sent there comes to a socket that is bound to this address: the port is its own, and so is the address, or it takes those of all
abbrev pub is_received_at : SocketAddr → Endpoint → Bool
is_received_at (V4 bound) e = v4_port bound == e.port && (ipv4_bits (v4_ip bound) == e.address || ipv4_bits (v4_ip bound) == 0)
is_received_at (V6 bound) e = false

-- a recording may be sent there: it is one host's, and not where datagrams for this server come to
abbrev pub is_sendable : SocketAddr → Endpoint → Bool
is_sendable receive e = is_unicast e && not (is_received_at receive e)

-- the same address and port
abbrev pub is_same : Endpoint → Endpoint → Bool
is_same e f = e.address == f.address && e.port == f.port
