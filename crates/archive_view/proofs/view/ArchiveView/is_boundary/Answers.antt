use Rattle.std.proofs.Common.{rules, FitsSigned, w64, ap, sym, ◌≡◌, refl, subst, Option, Some}
use Rattle.std.proofs.lemmas.Int.{to_z-of_z}
use Rattle.disk_core.specs.DiskImage.{Files, reads}
use Rattle.archive_model.specs.declared.registration.Registration.{Registration}
use Rattle.archive_model.specs.Register.{registration_in}
use Rattle.archive_view.specs.ShownFrames.{BoundaryAnswers}
use Rattle.archive_view.proofs.KnownLemmas.{found_laid}
use Rattle.archive_view.proofs.LookLemmas.{bounded_answers}
use Rattle.archive_view.proofs.view.ArchiveView.is_boundary.Goals as goal

pub is_boundary-requires : goal.is_boundary-requires
is_boundary-requires g c = found_laid c.args.self.now.desk.state.register c.args.self.now.desk.state.callers c.args.recording.now c.in-Some.known.now c.in-Some.ensures.keeps (sym c.in-Some.ensures.found)

pub returns : goal.returns
returns g c =
    let known : Some c.in-Some.known.now ≡ registration_in c.args.self.now.desk.state.register c.args.recording.now = c.in-Some.ensures.found in
    let position : FitsSigned w64 c.args.position = search rules in
    record {
      answers = subst (λ (found : Option Registration). BoundaryAnswers g.D.Disk.life c.args.self.now.disk c.is_boundary.new.disk found c.args.position c.is_boundary.result) known
          (bounded_answers g.D.Disk.life c.args.self.now.disk c.is_boundary.new.disk c.in-Some.known.now c.args.position c.is_boundary.result (g.met.D.Disk.reads_may_stay c.args.self.now.disk.disk) c.is_boundary.ensures.quiet (simp to_z-of_z at c.is_boundary.ensures.answer) (simp to_z-of_z at c.is_boundary.ensures.refused) c.is_boundary.ensures.cause);
      desk = refl;
      same = ap (λ (files : Files). reads files) c.is_boundary.ensures.quiet.now;
    }
