use Rattle.image_core.proofs.LawLemmas.{longest_chain}
use Rattle.image_core.proofs.laws.the_longest_chain_ends_at_the_rebuild_position.Goals as goal

pub returns : goal.returns
returns c g publication join fs encodable = longest_chain g publication join fs encodable
