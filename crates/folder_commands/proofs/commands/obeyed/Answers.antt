-- How the command ended, what it left, and whether its output was handed on.
use Rattle.std.proofs.Common.{Option, subst, sym}
use Rattle.disk_core.specs.Life.{Life}
use Rattle.folder_commands.specs.Left.{ends_with, leaves, left_life}
use Rattle.folder_commands.specs.Obeying.{Obeys}
use Rattle.folder_commands.proofs.commands.obeyed.Goals as goal

pub returns : goal.returns
returns g c =
    let input = g.I.Read.remaining c.args.input in
    let contents = g.W.Write.contents c.args.writer.now in
    let gained = g.W.Write.contents c.obey.new.writer in
    let outcome = c.of-left.result in
    record {
      ended = outcome.exit.ending;
      gained = gained;
      obeyed = subst (λ (l : Option Life). Obeys g.given input contents gained (left_life outcome.looked) c.args.command.now l outcome.exit.ending) (sym c.of-left.ensures.left)
          (subst (Obeys g.given input contents gained (left_life outcome.looked) c.args.command.now (leaves c.obey.result)) (sym c.of-left.ensures.ending)
          (subst (λ (l : Option Life). Obeys g.given input contents gained l c.args.command.now (leaves c.obey.result) (ends_with c.obey.result)) (sym c.of-left.ensures.looked) c.obey.ensures));
      kept = c.flush.ensures.bytes;
      is_flushed = c.is_ok.result;
      handed = c.handed_on.ensures;
    }
