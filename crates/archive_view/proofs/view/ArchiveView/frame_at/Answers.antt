use Rattle.std.proofs.Common.{rules, pos, arith, FitsSigned, w64, ◌≤ℤ◌, ◌<ℤ◌, ap, sym, ◌≡◌, refl, subst, Option, Some}
use Rattle.std.proofs.lemmas.Int.{ints, to_z-of_z}
use Rattle.disk_core.specs.DiskImage.{Files, reads}
use Rattle.archive_model.specs.declared.registration.Registration.{Registration}
use Rattle.archive_model.specs.Register.{registration_in}
use Rattle.archive_view.specs.ShownFrames.{FrameAnswers}
use Rattle.archive_view.proofs.KnownLemmas.{found_laid, laid_low}
use Rattle.archive_view.proofs.LookLemmas.{shown_answers}
use Rattle.archive_view.proofs.view.ArchiveView.frame_at.Goals as goal

pub shown-requires-clause-laid : goal.shown-requires-clause-laid
shown-requires-clause-laid g c = found_laid c.args.self.now.desk.state.register c.args.self.now.desk.state.callers c.args.recording.now c.in-Some.known.now c.in-Some.ensures.keeps (sym c.in-Some.ensures.found)

pub returns : goal.returns
returns g c =
    let known : Some c.in-Some.known.now ≡ registration_in c.args.self.now.desk.state.register c.args.recording.now = c.in-Some.ensures.found in
    let position : FitsSigned w64 c.args.position = search rules in
    let start : c.in-Some.known.now.descriptor.start_position ≤ℤ c.args.position = search rules in
    let laid = found_laid c.args.self.now.desk.state.register c.args.self.now.desk.state.callers c.args.recording.now c.in-Some.known.now c.in-Some.ensures.keeps (sym c.in-Some.ensures.found) in
    let low : pos 0 ≤ℤ c.args.position = omega (arith, ints, start, (laid_low c.in-Some.known.now laid).0) in
    let due : c.args.position <ℤ c.in-Some.known.now.recorded = search rules in
    record {
      answers = subst (λ (found : Option Registration). FrameAnswers g.D.Disk.life c.args.self.now.disk c.shown.new.disk found c.args.position c.shown.result) known
          (shown_answers g.D.Disk.life c.args.self.now.disk c.shown.new.disk c.in-Some.known.now c.args.position c.shown.result (g.met.D.Disk.reads_may_stay c.args.self.now.disk.disk) c.shown.ensures.quiet start low due (simp to_z-of_z at c.shown.ensures.frame) (simp to_z-of_z at c.shown.ensures.ends) c.shown.ensures.covers (simp to_z-of_z at c.shown.ensures.refused) c.shown.ensures.cause);
      desk = refl;
      same = ap (λ (files : Files). reads files) c.shown.ensures.quiet.now;
    }
