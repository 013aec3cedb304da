-- The name of no archive.
use Rattle.archive_model.specs.declared.version.BankVersion.TheVariants.{Two}
use Rattle.std.specs.Prelude.{false, [], None}
use Rattle.disk_core.specs.DiskImage.{begun}
use Rattle.catalogue_log.specs.declared.banks.Bank.TheVariants.{A}
use Rattle.catalogue_log.specs.declared.banks.Spare.TheVariants.{Unusable}
use Rattle.control_core.specs.Desk.{new_desk}
use Rattle.engine_core.specs.Engine.{EngineState}

-- an archive without files
abbrev pub no_engine : EngineState
no_engine = record {
  life = record { obeys = false; past = []; now = begun (λ file. None); faults = 0 };
  log = record { bank = A; header = record { version = Two; history_limit = 0; epoch = 0 }; spare = Unusable; gate = 0; counted = 0; is_broken = false; room = 0 };
  desk = new_desk 0;
}
