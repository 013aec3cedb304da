use Rattle.std.proofs.Common.{◌≡◌, length}
use Rattle.std.specs.Map.{values_of}
use Rattle.archive_model.specs.Register.{restarted}
use Rattle.archive_model.specs.Registered.{KeepsRegister}
use Rattle.archive_model.proofs.RegisterLemmas.{first_made}
use Rattle.archive_model.proofs.register.Register.restart.Given as goal

abbrev pub invariant-loop-index : goal.invariant-loop-index
invariant-loop-index l = record {
  keeps : KeepsRegister l.self-inside.map.entries l.self-inside.next;
  size : length l.self-inside.map.entries ≡ length l.initial.self-inside.map.entries;
  next : l.self-inside.next ≡ l.initial.self-inside.next;
  done : values_of l.self-inside.map.entries ≡ first_made restarted l.index (values_of l.initial.self-inside.map.entries);
}
