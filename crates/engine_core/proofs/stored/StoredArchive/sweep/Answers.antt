use Rattle.std.proofs.Common.{rules, ◌≡◌, refl, Err}
use Rattle.engine_core.proofs.Words.{registered_keeps, state_of}
use Rattle.engine_core.proofs.calls.SweepCallLemmas.{sweep_refused, swept_answers, unkept_answers, unswept_answers}
use Rattle.std.proofs.Common.{inl}
use Rattle.engine_core.proofs.calls.TouchLemmas.{still_quiet, swept_touches}
use Rattle.engine_core.proofs.calls.KeepLemmas.{banks_keep, still_keeps}
use Rattle.engine_core.proofs.files.CatalogueLemmas.{swept_banks}
use Rattle.engine_core.proofs.stored.StoredArchive.sweep.Goals as goal

pub returns-in_err-decide_sweep-clause-ends : goal.returns-in_err-decide_sweep-clause-ends
returns-in_err-decide_sweep-clause-ends g c =
    let is : c.from_residual.result ≡ Err c.in_err-decide_sweep.field-0.0 = search rules in
    sweep_refused _ c.from_residual.result c.in_err-decide_sweep.field-0.0 is c.in_err-decide_sweep.ensures

pub returns-in_err-keeps-clause-ends : goal.returns-in_err-keeps-clause-ends
returns-in_err-keeps-clause-ends g c =
    let is : c.from_residual-in_err-keeps.result ≡ Err c.in_err-keeps.field-0.0 = search rules in
    unkept_answers _ c.from_residual-in_err-keeps.result c.in_err-keeps.field-0.0 is c.in_err-keeps.ensures.err

pub sweep-requires : goal.sweep-requires
sweep-requires g c = record { keeps = search rules }

pub returns-in_err-removed-clause-ends : goal.returns-in_err-removed-clause-ends
returns-in_err-removed-clause-ends g c =
    let registered : c.as_slice.result.now ≡ registered_keeps c.args.self.now.desk.state.register = search rules in
    let refusal = c.in_err-removed.field-0.0 in
    let outcome = c.from_residual-in_err-removed.result in
    let is : outcome ≡ Err refusal = search rules in
    unswept_answers _ _ c.as_slice.result.now outcome refusal is (record {
      asked = registered;
      decided = (c.in_ok-decide_sweep.field-0, c.in_ok-decide_sweep.ensures);
      active = c.sweep.ensures.active;
      stays = c.sweep.ensures.stays;
      spares = c.sweep.ensures.kept;
      desk = refl;
      log = c.sweep.ensures.log;
    }) c.in_err-removed.ensures.refused

pub returns-clause-ends : goal.returns-clause-ends
returns-clause-ends g c =
    let registered : c.as_slice.result.now ≡ registered_keeps c.args.self.now.desk.state.register = search rules in
    swept_answers _ _ c.as_slice.result.now c.in_ok-removed.removed (record {
      asked = registered;
      decided = (c.in_ok-decide_sweep.field-0, c.in_ok-decide_sweep.ensures);
      active = c.sweep.ensures.active;
      stays = c.sweep.ensures.stays;
      spares = c.sweep.ensures.kept;
      desk = refl;
      log = c.sweep.ensures.log;
    }) c.in_ok-removed.ensures.swept

pub returns-in_err-decide_sweep-clause-touches : goal.returns-in_err-decide_sweep-clause-touches
returns-in_err-decide_sweep-clause-touches g c = inl (still_quiet _)

pub returns-in_err-keeps-clause-touches : goal.returns-in_err-keeps-clause-touches
returns-in_err-keeps-clause-touches g c = inl (still_quiet _)

pub returns-in_err-removed-clause-touches : goal.returns-in_err-removed-clause-touches
returns-in_err-removed-clause-touches g c =
    let registered : c.as_slice.result.now ≡ registered_keeps c.args.self.now.desk.state.register = search rules in
    swept_touches (state_of g.D.Disk.life c.args.self.now) (g.D.Disk.life c.sweep.new.self.disk) c.as_slice.result.now registered c.sweep.ensures.bounded.0 c.sweep.ensures.bounded.1

pub returns-clause-touches : goal.returns-clause-touches
returns-clause-touches g c =
    let registered : c.as_slice.result.now ≡ registered_keeps c.args.self.now.desk.state.register = search rules in
    swept_touches (state_of g.D.Disk.life c.args.self.now) (g.D.Disk.life c.sweep.new.self.disk) c.as_slice.result.now registered c.sweep.ensures.bounded.0 c.sweep.ensures.bounded.1

pub returns-in_err-decide_sweep-clause-catalogue : goal.returns-in_err-decide_sweep-clause-catalogue
returns-in_err-decide_sweep-clause-catalogue g c = still_keeps _ _

pub returns-in_err-keeps-clause-catalogue : goal.returns-in_err-keeps-clause-catalogue
returns-in_err-keeps-clause-catalogue g c = still_keeps _ _

pub returns-in_err-removed-clause-catalogue : goal.returns-in_err-removed-clause-catalogue
returns-in_err-removed-clause-catalogue g c = banks_keep _ _ _ (swept_banks _ _ c.as_slice.result.now c.sweep.ensures.bounded.0) c.sweep.ensures.log refl

pub returns-clause-catalogue : goal.returns-clause-catalogue
returns-clause-catalogue g c = banks_keep _ _ _ (swept_banks _ _ c.as_slice.result.now c.sweep.ensures.bounded.0) c.sweep.ensures.log refl
