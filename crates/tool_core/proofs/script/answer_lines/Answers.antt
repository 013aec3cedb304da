-- What was written is handed on at the end.
use Rattle.std.proofs.Common.{◌≡◌, rules}
use Rattle.std.specs.Io.Buffered.{reader_remaining}
use Rattle.tool_core.proofs.EndLemmas.{ends_early, ends_well, none_answered, ran_of}
use Rattle.tool_core.proofs.script.answer_lines.Goals as goal

pub returns-in_default-clause-early : goal.returns-in_default-clause-early
returns-in_default-clause-early g c = none_answered g.A.Answerer.ways g.A.Answerer.checkpoints c.args.state (g.R.Read.remaining c.args.reader) (g.W.Write.contents c.args.writer.now)

pub returns-clause-whole : goal.returns-clause-whole
returns-clause-whole g c =
    let same : reader_remaining g.R.Read.remaining c.in-Ok.reader ≡ g.R.Read.remaining c.args.reader = search rules in
    ends_well g.A.Answerer.ways g.A.Answerer.checkpoints c.args.state c.run_lines-state.result.0 (g.R.Read.remaining c.args.reader) (g.W.Write.contents c.args.writer.now) (g.W.Write.contents c.run_lines-state.new.writer) (g.W.Write.contents c.flush.new.self) c.run_lines-state.result.1 c.after_flush.result c.is_ok-is_flushed.result
    (ran_of g.A.Answerer.ways g.A.Answerer.checkpoints c.args.state c.run_lines-state.result.0 _ _ _ _ _ same c.run_lines-state.ensures.whole c.run_lines-state.ensures.early) c.after_flush.ensures c.flush.ensures.bytes

pub returns-clause-early : goal.returns-clause-early
returns-clause-early g c =
    let same : reader_remaining g.R.Read.remaining c.in-Ok.reader ≡ g.R.Read.remaining c.args.reader = search rules in
    ends_early g.A.Answerer.ways g.A.Answerer.checkpoints c.args.state c.run_lines-state.result.0 (g.R.Read.remaining c.args.reader) (g.W.Write.contents c.args.writer.now) (g.W.Write.contents c.run_lines-state.new.writer) (g.W.Write.contents c.flush.new.self) c.run_lines-state.result.1 c.after_flush.result c.is_ok-is_flushed.result
    (ran_of g.A.Answerer.ways g.A.Answerer.checkpoints c.args.state c.run_lines-state.result.0 _ _ _ _ _ same c.run_lines-state.ensures.whole c.run_lines-state.ensures.early) c.after_flush.ensures c.flush.ensures.bytes
