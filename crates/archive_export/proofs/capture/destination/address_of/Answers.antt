use Rattle.std.proofs.Common.{refl, inr}
use Rattle.archive_export.proofs.capture.destination.address_of.Goals as goal

pub returns-in-Err : goal.returns-in-Err
returns-in-Err c = inr (λ other dotted. c.in-Err.ensures (record { octets = other }) dotted, refl)
