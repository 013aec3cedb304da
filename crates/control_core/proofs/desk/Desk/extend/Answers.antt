use Rattle.std.proofs.Common.{◌≡◌, ◌<◌, true, refl, ap, rules, arith}
use Rattle.archive_model.specs.declared.command.Command.TheVariants as commands
use Rattle.std.specs.Prelude.{not}
use Rattle.archive_model.specs.Checks.{is_of}
use Rattle.archive_model.specs.Register.{active_count, is_active, registration_in}
use Rattle.control_core.specs.Seats.{DeskView}
use Rattle.control_core.proofs.KeptLemmas.{kept_extended}
use Rattle.control_core.proofs.AllowedLemmas.{extend_few, extend_stopped, room_of}
use Rattle.control_core.proofs.desk.Desk.extend.Goals as goal

pub invariant_of-self : goal.invariant_of-self
invariant_of-self c =
    let register : c.self.inside.register.state ≡ c.args.self.now.state.register = ap (λ (v : DeskView). v.state.register) c.self.view_is in
    let stopped : is_of (registration_in c.self.inside.register.state c.args.fields.now.recording) (λ r. not (is_active r)) ≡ true = rw register (extend_stopped c.args.self.now.state c.args.fields.now c.requires.allowed) in
    let few : active_count c.self.inside.register.state < 64 = rw register (extend_few c.args.self.now.state c.args.fields.now c.requires.allowed) in
    rw (c.change.ensures.state, c.open.ensures.values, c.open.ensures.next) (kept_extended _ _ _ _ stopped few c.self.invariant)

pub overflow_add-self : goal.overflow_add-self
overflow_add-self c =
    let room = room_of c.args.self.now.state (commands.Extend c.args.fields.now) refl c.requires.allowed in
    let counted : c.self.inside.counted ≡ c.args.self.now.state.counted = ap (λ (v : DeskView). v.state.counted) c.self.view_is in
    let limit : c.self.inside.limit ≡ c.args.self.now.state.limit = ap (λ (v : DeskView). v.state.limit) c.self.view_is in
    let below : c.self.inside.counted < c.self.inside.limit = rw (counted, limit) room in
    search (rules, arith)
