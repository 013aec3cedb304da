-- Where the datagrams of a channel go: docs/PROTOCOL.md, "Captures"; Aeron Channel Configuration, "endpoint".
use Rattle.std.specs.Prelude.{◌≡◌, ◌<◌, ◌⊎◌, ◌^◌, ◌==◌, not, ℕ, List, [], ◌∷◌, ◌++◌, drop, nat_eq, codes, Option, None, Some, if◌then◌else◌}
use Rattle.std.specs.List.{AllPass, after_first, slice_split, starts_with}
use Rattle.std.specs.Str.Parse.{IsNumeral, digits_value}
use Rattle.std.specs.Net.Grammar.{IsDotted}
use Rattle.std.specs.Net.Addr.{ipv4_octets}
use Rattle.archive_export.specs.declared.capture.destination.Destination.{Destination}

-- the value of the first parameter that is an endpoint
abbrev pub first_endpoint : List (List ℕ) → Option (List ℕ)
first_endpoint [] = None
first_endpoint (parameter ∷ parameters) =
    if starts_with nat_eq parameter (codes "endpoint=") then Some (drop 9 parameter) else first_endpoint parameters

-- a channel's parameters stand behind its first '?', with '|' between them
abbrev pub parameters_of : List ℕ → List (List ℕ)
parameters_of channel = slice_split (λ b. b == 124) (after_first (λ b. b == 63) channel)

-- an endpoint is a host; a port stands behind its last ':', if it has one
abbrev pub IsEndpoint : List ℕ → List ℕ → Option (List ℕ) → Type 0
IsEndpoint text host None = (host ≡ text) × AllPass (λ b. not (b == 58)) text
IsEndpoint text host (Some port) = (text ≡ host ++ 58 ∷ port) × AllPass (λ b. not (b == 58)) port

-- the address that a host is; one that is no IPv4 address is taken as 127.0.0.1
abbrev pub IsAddressOf : List ℕ → List ℕ → Type 0
IsAddressOf host octets =
    IsDotted host octets ⊎ (((other : List ℕ) → IsDotted host other → ⊥) × (octets ≡ 127 ∷ 0 ∷ 0 ∷ 1 ∷ []))

-- a decimal number from 1 to 65,535
pub record HasPort (text : List ℕ) (port : ℕ) : Type 0 where
  pub digits : IsNumeral 10 text
  pub is : port ≡ digits_value 10 text
  pub some : 0 < port
  pub few : port < 2 ^ 16

-- the port that a text names, and 40123 where it names none
abbrev pub IsPortOf : Option (List ℕ) → ℕ → Type 0
IsPortOf None port = port ≡ 40123
IsPortOf (Some text) port = HasPort text port ⊎ (((other : ℕ) → HasPort text other → ⊥) × (port ≡ 40123))

-- the destination that an endpoint names
pub record IsNamed (text : List ℕ) (d : Destination) : Type 0 where
  pub host : List ℕ
  pub port : Option (List ℕ)
  pub endpoint : IsEndpoint text host port
  pub address_is : IsAddressOf host (ipv4_octets d.address)
  pub port_is : IsPortOf port d.port

-- the destination of an endpoint; 127.0.0.1:40123 where there is none
abbrev pub IsDestinationOf : Option (List ℕ) → Destination → Type 0
IsDestinationOf None d = (ipv4_octets d.address ≡ 127 ∷ 0 ∷ 0 ∷ 1 ∷ []) × (d.port ≡ 40123)
IsDestinationOf (Some text) d = IsNamed text d

-- the destination of a channel
abbrev pub IsDestination : List ℕ → Destination → Type 0
IsDestination channel d = IsDestinationOf (first_endpoint (parameters_of channel)) d
