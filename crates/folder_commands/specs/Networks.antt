-- The networks that `--from` and `--send-to` name: docs/SERVING.md, "How to run it" and "Send a recording".
use Rattle.std.specs.Prelude.{◌≡◌, ◌≤◌, ◌<◌, ◌==◌, ℕ, nat_lt, Bool, true, false, if◌then◌else◌, List, [], length, slice_get, slice_index_or, Option, None, Some}
use Rattle.std.specs.Borrow.{Bor}
use Rattle.std.specs.List.{after_first, before_first, position_or_len}
use Rattle.std.specs.Net.Addr.{ipv4_bits}
use Rattle.std.specs.Net.Grammar.{IsIpv4Text}
use Rattle.std.specs.declared.net.ipv4_addr.Ipv4Addr.{Ipv4Addr}
use Rattle.command_line.specs.declared.serving.ServeWords.{ServeWords}
use Rattle.command_line.specs.CommandLine.{IsNumber}
use Rattle.server_receiver.specs.declared.networks.Network.{Network}
use Rattle.server_receiver.specs.declared.networks.Networks.{Networks}

-- a text writes an address of a network
abbrev pub IsAddress : List ℕ → Network → Type 0
IsAddress text n = (address : Ipv4Addr) × IsIpv4Text text address × (n.address ≡ ipv4_bits address)

-- a text is how many of its bits are the same
abbrev pub AreBits : List ℕ → Network → Type 0
AreBits text n = IsNumber n.bits text × (n.bits ≤ 32)

-- a text's part before its first `/`, and the part after it, if it has one
abbrev pub has_slash : List ℕ → Bool
has_slash text = nat_lt (position_or_len (λ b. b == 47) text) (length text)

abbrev pub address_part : List ℕ → List ℕ
address_part text = if has_slash text then before_first (λ b. b == 47) text else text

abbrev pub bits_part : List ℕ → Option (List ℕ)
bits_part text = if has_slash text then Some (after_first (λ b. b == 47) text) else None

-- a text names a network: an address, and how many of the address's bits are the same; all 32 of them if that is not said
abbrev pub IsNetworkOf : List ℕ → Option (List ℕ) → Network → Type 0
IsNetworkOf address None n = IsAddress address n × (n.bits ≡ 32)
IsNetworkOf address (Some bits) n = IsAddress address n × AreBits bits n

abbrev pub IsNetwork : List ℕ → Network → Type 0
IsNetwork text n = IsNetworkOf (address_part text) (bits_part text) n

abbrev pub IsNetworkAt : Option (Bor (List ℕ)) → Option Network → Type 0
IsNetworkAt None None = Unit {0}
IsNetworkAt None (Some n) = ⊥
IsNetworkAt (Some text) None = ⊥
IsNetworkAt (Some text) (Some n) = IsNetwork text.now n

-- these are the networks of the texts, each at its text's place; at most 16
pub record AreNetworks (texts : List (Bor (List ℕ))) (networks : Networks) : Type 0 where
  pub few : length texts ≤ 16
  pub each : (i : ℕ) → i < 16 → IsNetworkAt (slice_get texts i) (slice_index_or networks.networks i None)

-- `--aeron` (set or not) and these texts of `--from` or `--send-to` go together: without it there is none
abbrev pub MayNameNetworks : Bool → List (Bor (List ℕ)) → Type 0
MayNameNetworks true texts = Unit {0}
MayNameNetworks false texts = texts ≡ []

module _ (words : ServeWords) where
  -- the words name these networks
  abbrev pub HasNetworks : Networks → Type 0
  HasNetworks networks = MayNameNetworks words.is_aeron words.from.items × AreNetworks words.from.items networks

  -- what they say of networks is wrong
  abbrev pub HasBadNetworks : Type 0
  HasBadNetworks = (networks : Networks) → HasNetworks networks → ⊥

  -- the words name these networks that recordings may be sent to
  abbrev pub HasSendNetworks : Networks → Type 0
  HasSendNetworks networks = MayNameNetworks words.is_aeron words.send_to.items × AreNetworks words.send_to.items networks

  -- what they say of these is wrong
  abbrev pub HasBadSendNetworks : Type 0
  HasBadSendNetworks = (networks : Networks) → HasSendNetworks networks → ⊥
