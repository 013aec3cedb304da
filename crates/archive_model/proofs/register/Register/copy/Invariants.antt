use Rattle.std.proofs.Common.{◌≡◌, take, drop}
use Rattle.archive_model.specs.Keyed.{Each, Rise}
use Rattle.archive_model.specs.Register.{HasLayout, id_of}
use Rattle.archive_model.proofs.register.Register.copy.Given as goal

-- the first recordings are copied, and the ids of the others rise from the copy's next one on
abbrev pub invariant-loop-recording : goal.invariant-loop-recording
invariant-loop-recording l = record {
  done : l.copy.state.recordings ≡ take l.recording-index l.recording-items;
  left : Rise id_of l.copy.state.next (drop l.recording-index l.recording-items) l.initial.self.state.next;
  layouts : Each (λ r. HasLayout r.descriptor) (drop l.recording-index l.recording-items);
}
