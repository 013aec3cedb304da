use Rattle.std.proofs.Common.{rules, ◌≡◌, ◌∙◌, sym, subst, ap, Ok, Err, to_z, of_z, w64}
use Rattle.control_core.specs.declared.event.Event.TheVariants as events
use Rattle.control_core.specs.declared.turns.Settling.TheVariants as settling
use Rattle.engine_core.proofs.Words.{EndsEvent, KeepsFound, NoMemory, state_of, session_in, settle_decision}
use Rattle.engine_core.proofs.calls.SettleCallLemmas.{settle_blocks, settle_nothing, settle_refuses, settled_known}
use Rattle.std.proofs.Common.{refl}
use Rattle.control_core.specs.Exact.{has_blocks}
use Rattle.control_core.specs.Turns.{settle_tests, settling_of}
use Rattle.engine_core.proofs.calls.SettleCallLemmas.{blocks_touch}
use Rattle.engine_core.proofs.calls.SweepCallLemmas.{one_refusal}
use Rattle.engine_core.proofs.calls.TouchLemmas.{checked_memory, nothing_settled}
use Rattle.engine_core.specs.Catalogued.{register_settled}
use Rattle.engine_core.proofs.calls.KeepLemmas.{still_keeps}
use Rattle.engine_core.proofs.stored.StoredArchive.settle.Goals as goal

pub returns-in_err-decided-clause-ends : goal.returns-in_err-decided-clause-ends
returns-in_err-decided-clause-ends g c =
    let e = state_of g.D.Disk.life c.args.self.now in
    let n = c.args.session.now in
    let is : c.from_residual.result ≡ Err c.in_err-decided.field-0.0 = search rules in
    subst (λ o. EndsEvent e e (events.Settle n) o) (sym is) (settle_refuses e n c.in_err-decided.field-0.0 c.in_err-decided.ensures.decided)

pub returns-in-Nothing-clause-ends : goal.returns-in-Nothing-clause-ends
returns-in-Nothing-clause-ends g c =
    let e = state_of g.D.Disk.life c.args.self.now in
    let position = to_z w64 (of_z w64 c.in-Nothing.position) in
    let same : c.in-Nothing.position ≡ position = search rules in
    let decided : settle_decision e.desk c.args.session.now ≡ Ok (settling.Nothing position) = c.in_ok-decided.ensures.decided ∙ ap Ok c.in-Nothing.is ∙ ap (λ z. Ok (settling.Nothing z)) same in
    settle_nothing e c.args.session.now position decided

pub settle_blocks-requires : goal.settle_blocks-requires
settle_blocks-requires g c =
    let d = c.args.self.now.desk.state in
    let n = c.args.session.now in
    let w = c.in-Blocks.written in
    let id = to_z w64 (of_z w64 c.in-Blocks.recording) in
    let same : c.in-Blocks.recording ≡ id = search rules in
    let decided : settle_decision d n ≡ Ok (settling.Blocks id w) = c.in_ok-decided.ensures.decided ∙ ap Ok c.in-Blocks.is ∙ ap (λ z. Ok (settling.Blocks z w)) same in
    record {
      keeps = c.in_ok-decided.ensures.keeps;
      found = c.in_ok-decided.ensures.found.found;
      decided = decided;
      known = c.in_ok-decided.decided.writer.known.now;
      is_known = settled_known d n id w c.in_ok-decided.decided.writer decided c.in_ok-decided.ensures.found;
      layout_is = c.layout_of.ensures;
    }

pub returns-in-Blocks-clause-ends : goal.returns-in-Blocks-clause-ends
returns-in-Blocks-clause-ends g c =
    let old = state_of g.D.Disk.life c.args.self.now in
    let new = state_of g.D.Disk.life c.settle_blocks.new.self in
    let n = c.args.session.now in
    let w = c.in-Blocks.written in
    let id = to_z w64 (of_z w64 c.in-Blocks.recording) in
    let same : c.in-Blocks.recording ≡ id = search rules in
    let decided : settle_decision old.desk n ≡ Ok (settling.Blocks id w) = c.in_ok-decided.ensures.decided ∙ ap Ok c.in-Blocks.is ∙ ap (λ z. Ok (settling.Blocks z w)) same in
    settle_blocks old new n id w c.settle_blocks.result decided c.settle_blocks.ensures.settles

pub returns-in_err-decided-clause-touches : goal.returns-in_err-decided-clause-touches
returns-in_err-decided-clause-touches g c = nothing_settled (state_of g.D.Disk.life c.args.self.now) c.args.session.now

pub returns-in-Nothing-clause-touches : goal.returns-in-Nothing-clause-touches
returns-in-Nothing-clause-touches g c = nothing_settled (state_of g.D.Disk.life c.args.self.now) c.args.session.now

pub returns-in-Blocks-clause-touches : goal.returns-in-Blocks-clause-touches
returns-in-Blocks-clause-touches g c =
    let old = state_of g.D.Disk.life c.args.self.now in
    let n = c.args.session.now in
    let w = c.in-Blocks.written in
    let id = to_z w64 (of_z w64 c.in-Blocks.recording) in
    let same : c.in-Blocks.recording ≡ id = search rules in
    let decided : settle_decision old.desk n ≡ Ok (settling.Blocks id w) = c.in_ok-decided.ensures.decided ∙ ap Ok c.in-Blocks.is ∙ ap (λ z. Ok (settling.Blocks z w)) same in
    let known = c.in_ok-decided.decided.writer.known.now in
    blocks_touch old n id w known c.layout_of.result (g.D.Disk.life c.settle_blocks.new.self.storage.disk) decided (settled_known old.desk n id w c.in_ok-decided.decided.writer decided c.in_ok-decided.ensures.found) c.layout_of.ensures c.settle_blocks.ensures.touches

pub returns-in_err-decided-clause-memory : goal.returns-in_err-decided-clause-memory
returns-in_err-decided-clause-memory g c memory =
    let e = state_of g.D.Disk.life c.args.self.now in
    let is : c.from_residual.result ≡ Err c.in_err-decided.field-0.0 = search rules in
    absurd (checked_memory (settle_tests e.desk c.args.session.now) (settling_of e.desk (session_in e.desk c.args.session.now)) (Err NoMemory) (let same : c.in_err-decided.field-0.0 ≡ NoMemory = one_refusal c.from_residual.result _ _ is memory in ap Err (sym same) ∙ sym c.in_err-decided.ensures.decided) refl)

pub returns-in-Blocks-clause-memory : goal.returns-in-Blocks-clause-memory
returns-in-Blocks-clause-memory g c memory =
    let d = c.args.self.now.desk.state in
    let n = c.args.session.now in
    let w = c.in-Blocks.written in
    let decided : settle_decision d n ≡ Ok (settling.Blocks c.in-Blocks.recording w) = c.in_ok-decided.ensures.decided ∙ ap Ok c.in-Blocks.is in
    ap has_blocks decided

pub returns-in_err-decided-clause-catalogue : goal.returns-in_err-decided-clause-catalogue
returns-in_err-decided-clause-catalogue g c = still_keeps _ _

pub returns-in-Nothing-clause-catalogue : goal.returns-in-Nothing-clause-catalogue
returns-in-Nothing-clause-catalogue g c = still_keeps _ _

pub returns-in-Blocks-clause-catalogue : goal.returns-in-Blocks-clause-catalogue
returns-in-Blocks-clause-catalogue g c =
    let d = c.args.self.now.desk.state in
    let n = c.args.session.now in
    let decided : settle_decision d n ≡ Ok (settling.Blocks c.in-Blocks.recording c.in-Blocks.written) = c.in_ok-decided.ensures.decided ∙ ap Ok c.in-Blocks.is in
    subst (KeepsFound _ _) (ap (register_settled d n) (sym decided)) c.settle_blocks.ensures.catalogue
