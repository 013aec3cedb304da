-- A text that is no address names no network.
use Rattle.folder_commands.proofs.networks.address_alone.Goals as goal

pub returns-in-Err : goal.returns-in-Err
returns-in-Err c = λ n named. c.in-Err.ensures.value named.0.0 named.0.1
