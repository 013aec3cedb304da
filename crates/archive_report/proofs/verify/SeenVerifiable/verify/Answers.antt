-- The answer is the view's.
use Rattle.std.proofs.Common.{rules, ◌≡◌, refl, sym, subst, [], ◌∷◌, Result, Err}
use Rattle.frame_core.specs.declared.refusal.Refusal.{Refusal}
use Rattle.archive_model.specs.declared.reply.Reply.{Reply}
use Rattle.archive_report.specs.Verifying.{VerifiesEach}
use Rattle.archive_report.proofs.ReportLemmas.{one}
use Rattle.archive_report.proofs.verify.SeenVerifiable.verify.Goals as goal

pub returns-in_err-frames : goal.returns-in_err-frames
returns-in_err-frames g c =
    let refusal = c.in_err-frames.field-0.0 in
    let is : c.from_residual.result ≡ Err refusal = search rules in
    subst (λ (r : Result Reply Refusal). VerifiesEach g.D.Disk.life c.args.self.now.view c.verify.new.self (c.args.recording.now ∷ []) (r ∷ [])) (sym is)
    (one g.D.Disk.life c.args.self.now.view c.verify.new.self c.args.recording.now (Err refusal) (Err refusal) c.in_err-frames.ensures refl)
