use Rattle.std.proofs.Common.{ap, sym, ◌≡◌, refl, subst, Option, Some}
use Rattle.disk_core.specs.DiskImage.{Files, reads}
use Rattle.archive_model.specs.declared.registration.Registration.{Registration}
use Rattle.archive_model.specs.Register.{registration_in}
use Rattle.archive_view.specs.Verified.{VerifyAnswers}
use Rattle.archive_view.proofs.KnownLemmas.{found_laid}
use Rattle.archive_view.proofs.LookLemmas.{counted_answers}
use Rattle.archive_view.proofs.view.ArchiveView.verify.Goals as goal

pub count_frames-requires : goal.count_frames-requires
count_frames-requires g c = found_laid c.args.self.now.desk.state.register c.args.self.now.desk.state.callers c.args.recording.now c.in-Some.known.now c.in-Some.ensures.keeps (sym c.in-Some.ensures.found)

pub returns : goal.returns
returns g c =
    let known : Some c.in-Some.known.now ≡ registration_in c.args.self.now.desk.state.register c.args.recording.now = c.in-Some.ensures.found in
    record {
      answers = subst (λ (found : Option Registration). VerifyAnswers g.D.Disk.life c.args.self.now.disk c.count_frames.new.disk found c.count_frames.result) known
          (counted_answers g.D.Disk.life c.args.self.now.disk c.count_frames.new.disk c.in-Some.known.now c.count_frames.result (g.met.D.Disk.reads_may_stay c.args.self.now.disk.disk) c.count_frames.ensures.quiet c.count_frames.ensures.count c.count_frames.ensures.refused c.count_frames.ensures.cause);
      desk = refl;
      same = ap (λ (files : Files). reads files) c.count_frames.ensures.quiet.now;
    }
