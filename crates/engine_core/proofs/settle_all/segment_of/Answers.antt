use Rattle.std.proofs.Common.{rules, ◌≡◌, ◌∙◌, sym, subst, w64, to_z, of_z, ℤ, Some}
use Rattle.engine_core.proofs.Words.{IsFromStart, IsLayout, Layout, RecorderSession, session_in}
use Rattle.engine_core.proofs.calls.KnownLemmas.{laid_found, layout_laid, written_from_start}
use Rattle.engine_core.proofs.settle_all.segment_of.Goals as goal

pub file_at-requires-clause-layout : goal.file_at-requires-clause-layout
file_at-requires-clause-layout c =
    let d = c.args.desk.now.state in
    let w = c.args.writer.now in
    subst IsLayout (sym c.layout_of-layout.ensures) (layout_laid w.known.now (laid_found d w.found.session.recording w.known.now c.is_broken-orderly.ensures.keeps (sym c.requires.writer.known)).laid_out)

pub file_at-requires-clause-recorded : goal.file_at-requires-clause-recorded
file_at-requires-clause-recorded c =
    let d = c.args.desk.now.state in
    let w = c.args.writer.now in
    let at = to_z w64 (of_z w64 c.args.written.now.first) in
    let same : c.args.written.now.first ≡ at = search rules in
    subst (λ (p : ℤ). IsFromStart c.layout_of-layout.result p) same
    (subst (λ (l : Layout). IsFromStart l c.args.written.now.first) (sym c.layout_of-layout.ensures)
    (written_from_start d c.args.session.now w.found.session w.known.now c.args.written.now c.is_broken-orderly.ensures.keeps c.requires.writer.found.session c.requires.writer.known c.requires.written))
