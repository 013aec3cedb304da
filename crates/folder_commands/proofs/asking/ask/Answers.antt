-- How the command ends by what came.
use Rattle.folder_commands.specs.Folders.{ending_in}
use Rattle.folder_commands.proofs.AskingLemmas.{answered}
use Rattle.folder_commands.proofs.asking.ask.Goals as goal

pub returns-in-Ok : goal.returns-in-Ok
returns-in-Ok g c =
    answered c.args.words.now (g.W.Write.contents c.args.writer.now) (g.W.Write.contents c.ask.new.out) c.in_ok-port_to_ask.ensures
    c.in-Ok.verdict (ending_in c.answered_by.result) (rw c.as_slice.ensures.value at c.in-Ok.ensures.asked) c.answered_by.ensures
