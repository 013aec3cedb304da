-- A disk of which nothing is said but how often a call failed (the proof of `reads_may_stay` has to stand here).
use Rattle.std.specs.Prelude.{ℕ, false, [], None}
use Rattle.std.proofs.Common.{refl}
use Rattle.disk_core.specs.DiskImage.{MayLeave, begun, durable, reads}
use Rattle.disk_core.specs.Life.{Life}
use Rattle.disk_core.specs.Memory.{well_stays}
use Rattle.disk_core.proofs.DiskLemmas.{durable_well}

abbrev pub astray : ℕ → Life
astray faults = record { obeys = false; past = []; now = begun (λ file. None); faults = faults }

pub absent_stays : MayLeave (begun (λ file. None)) (reads (begun (λ file. None)))
absent_stays file = well_stays (durable None) None refl (durable_well None)
