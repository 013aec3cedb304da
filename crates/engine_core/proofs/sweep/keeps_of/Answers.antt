-- Recordings that are laid are kept.
use Rattle.std.proofs.Common.{rules, ◌≡◌, List, All, Result, Vec, subst, sym}
use Rattle.std.specs.declared.alloc.Global.{Global}
use Rattle.std.specs.Prelude.{IfOk, Ok, Err}
use Rattle.engine_core.proofs.Words.{Keep, Refusal, registered_keeps}
use Rattle.segment_store.specs.Stale.{IsKeep}
use Rattle.engine_core.proofs.calls.KnownLemmas.{keeps_are}
use Rattle.engine_core.proofs.sweep.keeps_of.Goals as goal

-- what is known of all items is known of those that are answered
all_kept : (wanted : List Keep) (kept : Result (Vec Keep Global) Refusal) → All IsKeep wanted → IfOk kept (λ keeps. keeps.items ≡ wanted) → IfOk kept (λ keeps. All IsKeep keeps.items)
all_kept wanted (Ok keeps) all is = subst (λ (ks : List Keep). All IsKeep ks) (sym is) all
all_kept wanted (Err refusal) all is = tt

pub returns-clause-keeps : goal.returns-clause-keeps
returns-clause-keeps c =
    let desk = c.args.desk.now.state in
    let registered : IfOk c.kept_by.result (λ keeps. keeps.items ≡ registered_keeps desk.register) = search rules in
    all_kept (registered_keeps desk.register) c.kept_by.result (keeps_are desk c.recordings.ensures.keeps) registered
