-- Whether an archive can record on: docs/CONTROL.md, "Control state".
use Rattle.archive_model.specs.Register.{active_count}
use Rattle.control_core.specs.Desk.{DeskState}
use Rattle.archive_lock.specs.declared.standing.Standing.{Standing}

-- where the desk stands
abbrev pub standing_of : DeskState → Standing
standing_of d = record {
  is_broken = d.is_broken;
  counted = d.counted;
  limit = d.limit;
  active = active_count d.register;
  version = d.version;
}
