use Rattle.std.proofs.Common.{◌<ℤ◌, arith, rules, sym, FitsSigned, IfOk, IsTrue, w64}
use Rattle.std.proofs.lemmas.Int.{ints, to_z-of_z}
use Rattle.disk_core.specs.DiskImage.{reads}
use Rattle.recording_reads.specs.Reading.{TellsWritten}
use Rattle.archive_view.proofs.HiddenLemmas.{settles}
use Rattle.archive_view.proofs.KnownLemmas.{found_laid}
use Rattle.archive_view.proofs.hidden.has_frames.Goals as goal

pub is_written_to-requires : goal.is_written_to-requires
is_written_to-requires g c = found_laid c.args.desk.now.state.register c.args.desk.now.state.callers c.in-Settle.recording c.in-Some.known.now c.in-Some.ensures.keeps (sym c.in-Some.ensures.found)

pub returns-clause-found : goal.returns-clause-found
returns-clause-found g c =
    let image = reads (g.D.Disk.life c.args.disk.now).now in
    let known = c.in-Some.known.now in
    let position : FitsSigned w64 c.in-Settle.position = search rules in
    let tells : IfOk c.is_written_to.result (λ told. IsTrue (g.D.Disk.life c.is_written_to.new.disk).obeys → TellsWritten image known c.in-Settle.position told) = simp to_z-of_z at c.is_written_to.ensures.answer in
    let further : known.recorded <ℤ c.in-Settle.position = omega (arith, ints, c.if-position-known.false) in
    settles image c.args.desk.now.state.register c.in-Settle.recording c.in-Settle.position known (sym c.in-Some.ensures.found) (search rules) further
    (IsTrue (g.D.Disk.life c.is_written_to.new.disk).obeys) c.args.entry.now c.in-Settle.is c.is_written_to.result tells
