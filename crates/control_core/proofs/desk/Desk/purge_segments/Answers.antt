use Rattle.std.proofs.Common.{◌≡◌, true, false, ap, rules, FitsSigned, w64}
use Rattle.std.proofs.lemmas.Int.{to_z-of_z}
use Rattle.std.specs.List.{list_any}
use Rattle.archive_model.specs.Checks.{is_of}
use Rattle.archive_model.specs.Register.{is_later_base, registration_in}
use Rattle.control_core.specs.Desk.{is_replay_before}
use Rattle.control_core.specs.Seats.{DeskView}
use Rattle.control_core.proofs.AllowedLemmas.{purge_base}
use Rattle.control_core.proofs.KeptLemmas.{kept_purged}
use Rattle.control_core.proofs.OrderlyLemmas.{unread_before}
use Rattle.control_core.proofs.desk.Desk.purge_segments.Goals as goal

pub invariant_of-self : goal.invariant_of-self
invariant_of-self c =
    let d = c.args.self.now.state in
    let register : c.self.inside.register.state ≡ d.register = ap (λ (v : DeskView). v.state.register) c.self.view_is in
    let replays : c.self.inside.replays.values ≡ d.callers.replays = ap (λ (v : DeskView). v.state.callers.replays) c.self.view_is in
    let base : is_of (registration_in c.self.inside.register.state c.args.recording.now) (is_later_base c.args.position) ≡ true = rw register (purge_base d c.args.recording.now c.args.position c.requires) in
    let unread : list_any (is_replay_before c.args.recording.now c.args.position) c.self.inside.replays.values ≡ false = rw replays (unread_before d c.args.recording.now c.args.position c.requires) in
    let fits : FitsSigned w64 c.args.position = search rules in
    rw (c.change.ensures.state, to_z-of_z w64 c.args.position fits) (kept_purged _ _ _ _ base unread c.self.invariant)
