-- Line after line the text goes on, and it answers the lines that were read.
use Rattle.std.proofs.Common.{◌≡◌, true, false, rules, subst}
use Rattle.std.specs.Prelude.{MatchBool}
use Rattle.std.specs.Io.Buffered.{reader_remaining}
use Rattle.std.specs.Io.KnownBytes.{IsAtEnd}
use Rattle.tool_core.specs.InputLines.{ReadsLine}
use Rattle.tool_core.specs.Answering.{Replies, quits}
use Rattle.tool_core.proofs.AnsweringLemmas.{at_end, at_quit, early_here, early_unsaid, one_more, still}
use Rattle.tool_core.proofs.ProgressLemmas.{progress-start}
use Rattle.tool_core.proofs.script.run_lines.Goals as goal

pub lines-init : goal.lines-init
lines-init g c = progress-start c.args.state quits (Replies g.A.Answerer.ways g.A.Answerer.checkpoints) (reader_remaining g.R.Read.remaining c.args.reader.now) (g.W.Write.contents c.args.writer.now)

pub returns-in-Ok-false-clause-whole : goal.returns-in-Ok-false-clause-whole
returns-in-Ok-false-clause-whole g c =
    let end : IsAtEnd (reader_remaining g.R.Read.remaining c.lines.reader) = subst (λ b. MatchBool b (ReadsLine (reader_remaining g.R.Read.remaining c.lines.reader) (reader_remaining g.R.Read.remaining c.next_line.new.reader) c.next_line.new.line) (IsAtEnd (reader_remaining g.R.Read.remaining c.lines.reader))) c.in-Ok-false.field-0-test c.in-Ok-false.ensures.found in
    at_end g.A.Answerer.ways g.A.Answerer.checkpoints c.args.state _ _ _ _ _ (still g.A.Answerer.ways g.A.Answerer.checkpoints c.args.state _ _ _ _ _ _ c.lines.invariant c.next_line.ensures.kept) end

pub returns-in-Err-clause-early : goal.returns-in-Err-clause-early
returns-in-Err-clause-early g c =
    early_here g.A.Answerer.ways g.A.Answerer.checkpoints c.args.state _ _ _ _ _ c.in-Err.end (still g.A.Answerer.ways g.A.Answerer.checkpoints c.args.state _ _ _ _ _ _ c.lines.invariant c.next_line.ensures.kept)

pub returns-in-Err-answered-clause-early : goal.returns-in-Err-answered-clause-early
returns-in-Err-answered-clause-early g c =
    let read = subst (λ b. MatchBool b (ReadsLine (reader_remaining g.R.Read.remaining c.lines.reader) (reader_remaining g.R.Read.remaining c.next_line.new.reader) c.next_line.new.line) (IsAtEnd (reader_remaining g.R.Read.remaining c.lines.reader))) c.in-Ok-true.field-0-test c.in-Ok-true.ensures.found in
    early_unsaid g.A.Answerer.ways g.A.Answerer.checkpoints c.args.state _ _ _ _ _ _ _ _ _ _ c.in-Err-answered.end (still g.A.Answerer.ways g.A.Answerer.checkpoints c.args.state _ _ _ _ _ _ c.lines.invariant c.next_line.ensures.kept) read c.answer_line-next.ensures.replied c.in-Err-answered.is

pub returns-then-is_last-clause-whole : goal.returns-then-is_last-clause-whole
returns-then-is_last-clause-whole g c =
    let read = subst (λ b. MatchBool b (ReadsLine (reader_remaining g.R.Read.remaining c.lines.reader) (reader_remaining g.R.Read.remaining c.next_line.new.reader) c.next_line.new.line) (IsAtEnd (reader_remaining g.R.Read.remaining c.lines.reader))) c.in-Ok-true.field-0-test c.in-Ok-true.ensures.found in
    let quit : quits c.next_line.new.line ≡ true = search rules in
    at_quit g.A.Answerer.ways g.A.Answerer.checkpoints c.args.state _ _ _ _ _ _ _ _ _ _ (still g.A.Answerer.ways g.A.Answerer.checkpoints c.args.state _ _ _ _ _ _ c.lines.invariant c.next_line.ensures.kept) read c.answer_line-next.ensures.replied c.in-Ok.is quit

pub lines-preserved : goal.lines-preserved
lines-preserved g c =
    let read = subst (λ b. MatchBool b (ReadsLine (reader_remaining g.R.Read.remaining c.lines.reader) (reader_remaining g.R.Read.remaining c.next_line.new.reader) c.next_line.new.line) (IsAtEnd (reader_remaining g.R.Read.remaining c.lines.reader))) c.in-Ok-true.field-0-test c.in-Ok-true.ensures.found in
    let more : quits c.next_line.new.line ≡ false = search rules in
    one_more g.A.Answerer.ways g.A.Answerer.checkpoints c.args.state _ _ _ _ _ _ _ _ _ _ (still g.A.Answerer.ways g.A.Answerer.checkpoints c.args.state _ _ _ _ _ _ c.lines.invariant c.next_line.ensures.kept) read c.answer_line-next.ensures.replied c.in-Ok.is more
