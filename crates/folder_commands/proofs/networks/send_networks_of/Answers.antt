-- A text that names no network makes the words wrong.
use Rattle.std.proofs.Common.{subst, sym}
use Rattle.folder_commands.specs.Networks.{AreNetworks}
use Rattle.folder_commands.proofs.networks.send_networks_of.Goals as goal

pub returns-in-None : goal.returns-in-None
returns-in-None c = (λ networks h. c.in-None.ensures networks (subst (λ texts. AreNetworks texts networks) (sym c.as_slice-texts.ensures.value) h.1), c.misworded-in-None.ensures.ending)
