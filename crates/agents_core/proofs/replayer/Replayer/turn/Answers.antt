use Rattle.std.proofs.Common.{◌≡◌, Some, false, true, rules, subst, sym}
use Rattle.std.specs.Result.{is_err}
use Rattle.frame_core.specs.declared.refusal.Refusal.TheVariants.{NoMemory}
use Rattle.agents_core.specs.declared.replayer.Replayer.{Replayer}
use Rattle.agents_core.specs.Replayers.{HasLooked, HasNotLooked}
use Rattle.agents_core.proofs.ReplayerLemmas.{if_err, if_ok, no_poll, turn_unlooked}
use Rattle.agents_core.proofs.replayer.Replayer.turn.Goals as goal

pub returns-then-is_err-clause-ran : goal.returns-then-is_err-clause-ran
returns-then-is_err-clause-ran g c =
    let is : is_err c.look.result ≡ true = search rules in
    (Some NoMemory, turn_unlooked g.K.FrameSink.takes c.args.self.now c.look.new.self (if_err (HasLooked c.args.self.now c.look.new.self) (HasNotLooked c.args.self.now c.look.new.self) c.look.result is c.look.ensures))

pub returns-then-is_err-clause-one : goal.returns-then-is_err-clause-one
returns-then-is_err-clause-one g c =
    let is : is_err c.look.result ≡ true = search rules in
    no_poll c.args.self.now c.look.new.self (if_err (HasLooked c.args.self.now c.look.new.self) (HasNotLooked c.args.self.now c.look.new.self) c.look.result is c.look.ensures)

pub poll-requires-clause-looked : goal.poll-requires-clause-looked
poll-requires-clause-looked g c =
    let is : is_err c.look.result ≡ false = search rules in
    subst (λ (old : Replayer _). HasLooked old c.look.new.self) (sym c.of-before.ensures) (if_ok (HasLooked c.args.self.now c.look.new.self) (HasNotLooked c.args.self.now c.look.new.self) c.look.result is c.look.ensures)
