-- The streams of `--record` are those of its texts.
use Rattle.std.proofs.Common.{List, ℤ, sym, subst}
use Rattle.std.specs.Prelude.{IfOk, MatchOption}
use Rattle.clap.specs.Words.{Text, found_of}
use Rattle.command_line.specs.CommandLine.{AreNumbers}
use Rattle.command_line.proofs.StreamLemmas.{no_streams, streams_given}
use Rattle.command_line.proofs.serving.streams_of.Goals as goal

pub returns-in-Some : goal.returns-in-Some
returns-in-Some c =
    let given = streams_given (found_of c.args.own.now) c.get_strs.result c.get_strs.ensures c.in-Some.texts c.in-Some.is in
    subst (λ (texts : List Text). IfOk c.numbers_of.result (λ streams. MatchOption streams ((ids : List ℤ) → AreNumbers texts ids → ⊥) (λ ids. AreNumbers texts ids.items)))
    (sym given) c.numbers_of.ensures

pub returns-in-None : goal.returns-in-None
returns-in-None c = no_streams (found_of c.args.own.now) c.get_strs.result c.get_strs.ensures c.in-None.is c.new.result.items c.new.ensures.items
