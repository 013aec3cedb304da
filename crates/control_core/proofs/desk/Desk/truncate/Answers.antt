use Rattle.std.proofs.Common.{◌≡◌, true, ap, rules, FitsSigned, w64}
use Rattle.std.proofs.lemmas.Int.{to_z-of_z}
use Rattle.frame_core.specs.FrameEncoding.{IsAligned}
use Rattle.archive_model.specs.Checks.{is_boundary_by, is_of}
use Rattle.archive_model.specs.Register.{registration_in}
use Rattle.control_core.specs.Seats.{DeskView}
use Rattle.control_core.proofs.KeptLemmas.{kept_truncated}
use Rattle.control_core.proofs.OrderlyLemmas.{truncate_aligned, truncate_boundary}
use Rattle.control_core.proofs.desk.Desk.truncate.Goals as goal

pub invariant_of-self : goal.invariant_of-self
invariant_of-self c =
    let register : c.self.inside.register.state ≡ c.args.self.now.state.register = ap (λ (v : DeskView). v.state.register) c.self.view_is in
    let boundary : is_of (registration_in c.self.inside.register.state c.args.recording.now) (is_boundary_by true c.args.position) ≡ true = rw register (truncate_boundary c.args.self.now.state c.args.recording.now c.args.position c.requires) in
    let aligned : IsAligned c.args.position = truncate_aligned c.args.self.now.state c.args.recording.now c.args.position c.requires in
    let fits : FitsSigned w64 c.args.position = search rules in
    rw (c.change.ensures.state, c.end.ensures.values, c.end.ensures.next, to_z-of_z w64 c.args.position fits) (kept_truncated _ _ _ _ boundary aligned c.self.invariant)
