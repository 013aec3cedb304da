use Rattle.std.proofs.Common.{◌≡◌, ap}
use Rattle.std.specs.Prelude.{IsSomeAnd}
use Rattle.archive_model.specs.Keyed.{find}
use Rattle.archive_model.specs.Register.{registration_in}
use Rattle.control_core.specs.Callers.{session_number}
use Rattle.control_core.specs.Changes.{with_block}
use Rattle.control_core.specs.Orderly.{LiesBehind}
use Rattle.control_core.specs.Seats.{DeskView}
use Rattle.control_core.proofs.KeptLemmas.{kept_written}
use Rattle.control_core.proofs.desk.Desk.note_written.Goals as goal

pub invariant_of-self : goal.invariant_of-self
invariant_of-self c =
    let register : c.self.inside.register.state ≡ c.args.self.now.state.register = ap (λ (v : DeskView). v.state.register) c.self.view_is in
    let sessions : c.self.inside.sessions.values ≡ c.args.self.now.state.callers.sessions = ap (λ (v : DeskView). v.state.callers.sessions) c.self.view_is in
    let behind : IsSomeAnd (find session_number c.args.session.now c.self.inside.sessions.values) (λ s. IsSomeAnd (registration_in c.self.inside.register.state s.recording) (LiesBehind (with_block c.args.block.now s.written))) = rw (register, sessions) c.requires.behind in
    rw (c.add_written.ensures.values, c.add_written.ensures.next) (kept_written _ _ _ _ behind c.self.invariant)
