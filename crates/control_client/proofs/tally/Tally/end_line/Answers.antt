use Rattle.std.proofs.Common.{refl, rules}
use Rattle.control_client.proofs.TallyLemmas.{line_ended}
use Rattle.control_client.proofs.tally.Tally.end_line.Goals as goal

pub returns : goal.returns
returns c = line_ended c.args.self.now _ refl (search rules) (search rules) (search rules) (search rules)
