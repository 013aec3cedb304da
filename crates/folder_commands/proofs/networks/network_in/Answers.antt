-- A text without a `/` is an address alone.
use Rattle.std.proofs.Common.{◌≡◌, ◌∙◌, ap, sym, subst, ℕ, List, None, Option, Bor}
use Rattle.std.specs.Prelude.{MatchOption, option_map}
use Rattle.server_receiver.specs.declared.networks.Network.{Network}
use Rattle.folder_commands.specs.Networks.{IsNetworkOf, address_part, bits_part}
use Rattle.folder_commands.proofs.networks.network_in.Goals as goal

pub returns-in-None : goal.returns-in-None
returns-in-None c =
    let t = c.args.text.now in
    let none : bits_part t ≡ None = sym c.parts_of.ensures.bits ∙ ap (option_map (λ (b : Bor (List ℕ)). b.now)) c.in-None.is in
    subst (λ (a : List ℕ). MatchOption c.address_alone.result ((n : Network) → IsNetworkOf a (bits_part t) n → ⊥) (IsNetworkOf a (bits_part t))) c.parts_of.ensures.address
    (subst (λ (b : Option (List ℕ)). MatchOption c.address_alone.result ((n : Network) → IsNetworkOf c.parts_of.result.0.now b n → ⊥) (IsNetworkOf c.parts_of.result.0.now b)) (sym none) c.address_alone.ensures)
