use Rattle.std.proofs.Common.{◌≡◌, length, drop}
use Rattle.std.specs.List.{slice_split}
use Rattle.archive_export.specs.Destination.{first_endpoint}
use Rattle.std.specs.Prelude.{◌==◌}
use Rattle.archive_export.proofs.capture.destination.first_endpoint.Given as goal

-- the parameters so far are none
abbrev pub invariant-loop-parameter : goal.invariant-loop-parameter
invariant-loop-parameter l =
    let parts = slice_split (λ b. b == 124) l.fn.parameters in
    first_endpoint (drop (length l.yielded) parts) ≡ first_endpoint parts
