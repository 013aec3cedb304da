use Rattle.std.proofs.Common.{◌≡◌, rules, sym, true}
use Rattle.archive_model.specs.Descriptor.{is_aligned}
use Rattle.archive_model.specs.Register.{id_of}
use Rattle.archive_model.proofs.RegisterLemmas.{found_number}
use Rattle.control_core.proofs.deciding.truncate.Goals as goal

pub behind_position-requires : goal.behind_position-requires
behind_position-requires c = found_number id_of c.args.recording.now c.args.desk.now.state.register.recordings c.in-Some.known.now (sym c.in-Some.ensures.found)

pub returns-clause-decided : goal.returns-clause-decided
returns-clause-decided c =
    let aligned : is_aligned c.args.position.now ≡ true = search rules in
    search (rules, aligned)

pub returns-clause-known : goal.returns-clause-known
returns-clause-known c = search rules
