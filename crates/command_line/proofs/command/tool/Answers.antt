-- The program is its commands, one after the other.
use Rattle.std.proofs.lemmas.Result.{IfOk-weaker}
use Rattle.command_line.proofs.CommandLineLemmas.{adds_one}
use Rattle.command_line.proofs.command.tool.Goals as goal

pub returns : goal.returns
returns c =
    IfOk-weaker c.with-11.result _ _ (λ tool added. adds_one _ tool _ _ _ added
    (adds_one _ _ _ _ _ c.in_ok-tool-10.ensures
    (adds_one _ _ _ _ _ c.in_ok-tool-9.ensures
    (adds_one _ _ _ _ _ c.in_ok-tool-8.ensures
    (adds_one _ _ _ _ _ c.in_ok-tool-7.ensures
    (adds_one _ _ _ _ _ c.in_ok-tool-6.ensures
    (adds_one _ _ _ _ _ c.in_ok-tool-5.ensures
    (adds_one _ _ _ _ _ c.in_ok-tool-4.ensures
    (adds_one _ _ _ _ _ c.in_ok-tool-3.ensures
    (adds_one _ _ _ _ _ c.in_ok-tool-2.ensures
    (adds_one _ _ _ _ _ c.in_ok-tool.ensures c.named.ensures c.create.ensures) c.run.ensures) c.list.ensures)
    c.verify.ensures) c.frames.ensures) c.describe.ensures) c.serve_times.ensures) c.compact.ensures) c.export.ensures) c.ask.ensures) c.when.ensures) c.with-11.ensures
