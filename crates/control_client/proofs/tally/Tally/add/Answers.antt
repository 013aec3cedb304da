use Rattle.std.proofs.lemmas.Result.{IfOk-weaker}
use Rattle.control_client.proofs.TallyLemmas.{byte_came, end_came}
use Rattle.control_client.proofs.tally.Tally.add.Goals as goal

pub returns-then-byte-eq10 : goal.returns-then-byte-eq10
returns-then-byte-eq10 c = end_came c.args.self.now c.end_line.new.self c.args.byte c.if-byte-eq10.true c.end_line.ensures

pub returns : goal.returns
returns c = IfOk-weaker c.grow.result _ _ (λ done grows. byte_came c.args.self.now c.grow.new.self c.args.byte c.if-byte-eq10.false grows) c.grow.ensures
