-- The first blank ends the word.
use Rattle.std.proofs.Common.{None, Some, sym}
use Rattle.server.proofs.ConsumerLemmas.{word_before}
use Rattle.server.proofs.consumer_reader.first_word.Goals as goal

pub returns-in-Some : goal.returns-in-Some
returns-in-Some c = sym (word_before c.args.line.now (Some c.in-Some.at) c.in-Some.ensures)

pub returns-in-None : goal.returns-in-None
returns-in-None c = sym (word_before c.args.line.now None c.in-None.ensures)
