use Rattle.std.proofs.Common.{◌≡◌, ◌<◌, true, refl, ap, length}
use Rattle.std.specs.Prelude.{is_some}
use Rattle.archive_model.specs.Register.{registration_in}
use Rattle.control_core.specs.Orderly.{BeginsBy}
use Rattle.control_core.specs.Seats.{DeskView}
use Rattle.control_core.proofs.KeptLemmas.{kept_opened}
use Rattle.control_core.proofs.desk.Desk.open_replay.Goals as goal

pub invariant_of-self : goal.invariant_of-self
invariant_of-self c =
    let register : c.self.inside.register.state ≡ c.args.self.now.state.register = ap (λ (v : DeskView). v.state.register) c.self.view_is in
    let replays : c.self.inside.replays.values ≡ c.args.self.now.state.callers.replays = ap (λ (v : DeskView). v.state.callers.replays) c.self.view_is in
    let few : length c.self.inside.replays.values < 64 = rw replays c.requires.allowed.few in
    let there : is_some (registration_in c.self.inside.register.state c.args.opening.now.recording) ≡ true = rw register c.requires.allowed.there in
    let reads : BeginsBy c.args.opening.now.next c.self.inside.register.state c.args.opening.now.recording = rw register c.requires.from_start in
    rw (c.open.ensures.values, c.open.ensures.next) (kept_opened _ _ _ refl few there reads c.self.invariant)
