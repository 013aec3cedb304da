use Rattle.control_client.proofs.TallyLemmas.{answers}
use Rattle.control_client.proofs.tally.Tally.answer.Goals as goal

pub returns : goal.returns
returns c = λ asked until came is. answers asked until came c.args.self.now is
