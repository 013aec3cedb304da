-- A text that is no address names no network.
use Rattle.folder_commands.proofs.networks.network_with.Goals as goal

pub returns-in_default : goal.returns-in_default
returns-in_default c = λ n named. c.in_default.ensures.value named.0.0 named.0.1
