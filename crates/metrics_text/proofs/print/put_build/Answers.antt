use Rattle.std.proofs.Common.{codes}
use Rattle.std.proofs.lemmas.Result.{on_ok_weaker}
use Rattle.std.specs.Prelude.{string_bytes}
use Rattle.metrics_text.specs.MetricsText.{build_line, family_text, head}
use Rattle.metrics_text.proofs.MetricsLemmas.{put_first}
use Rattle.metrics_text.proofs.print.put_build.Goals as goal

pub returns : goal.returns
unfolding family_text
returns c =
    let heading = head (codes "gauge") (codes "aeron_recorder_build_info") (codes "The program, and the catalogues that it writes.") in
    on_ok_weaker c.put_build_line.result
    (put_first (string_bytes c.args.out.now) heading (string_bytes c.put_head.new.out) (build_line c.args.about.now) (string_bytes c.put_build_line.new.out) c.in_ok-put_head.ensures)
    c.put_build_line.ensures
