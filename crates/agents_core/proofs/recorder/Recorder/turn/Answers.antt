use Rattle.std.proofs.Common.{Some, None, Err, refl, ap, true≢false, sym}
use Rattle.agents_core.proofs.RecorderLemmas.{turn_settled, turn_unsettled, turn_unwritten}
use Rattle.agents_core.proofs.recorder.Recorder.turn.Goals as goal

pub returns-in-Err : goal.returns-in-Err
returns-in-Err g c =
    let e = c.in-Err.ensures in
    let ran = turn_unwritten g.D.Disk.life g.A.Naming.opening c.args.self.now c.write.new.self c.args.block c.in-Err.refusal e.answers (λ none. e.unnoted (ap Err none)) e.pass e.number e.same in
    (Some c.in-Err.refusal, ran, (λ on. absurd (true≢false (sym on)), λ none. absurd (let clash = none in cc)))

pub returns-in-Ok : goal.returns-in-Ok
returns-in-Ok g c =
    let w = c.in_default.ensures in
    let s = c.in-Ok.ensures in
    let ran = turn_settled g.D.Disk.life g.A.Naming.opening c.args.self.now c.write.new.self c.settle.new.self c.args.block c.in_default.field-0 (w.answers tt) w.pass w.number w.same s.pass s.number s.session c.in-Ok.field-0 (s.answers tt) s.raised in
    (None, ran, (λ on. refl, λ none. refl))

pub returns-in-Err-settle : goal.returns-in-Err-settle
returns-in-Err-settle g c =
    let w = c.in_default.ensures in
    let s = c.in-Err-settle.ensures in
    let ran = turn_unsettled g.D.Disk.life g.A.Naming.opening c.args.self.now c.write.new.self c.settle.new.self c.args.block c.in_default.field-0 (w.answers tt) w.pass w.number w.same s.pass s.number s.session c.in-Err-settle.refusal s.answers (λ none. s.unnoted (ap Err none)) s.refused in
    (Some c.in-Err-settle.refusal, ran, (λ on. absurd (true≢false (sym on)), λ none. absurd (let clash = none in cc)))
