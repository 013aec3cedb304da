use Rattle.image_core.proofs.LawLemmas.{high_water_mark}
use Rattle.image_core.proofs.laws.the_high_water_mark_is_the_greatest.Goals as goal

pub returns : goal.returns
returns c g publication join fs encodable = high_water_mark g publication join fs encodable
