use Rattle.std.proofs.Common.{rules, ◌≡◌, ◌≢◌, ◌∙◌, ap, sym, subst, length, List, [], ℤ}
use Rattle.std.specs.Prelude.{Err, Ok}
use Rattle.control_core.specs.declared.event.Event.TheVariants as events
use Rattle.control_core.specs.Turns.{settle_all_tests}
use Rattle.engine_core.proofs.Words.{EndsEvent, NoMemory, checked, checks, passes, state_of}
use Rattle.engine_core.specs.Grouping.{entries_each}
use Rattle.engine_core.proofs.calls.GroupEndLemmas.{group_ends_as, group_keeps_as, group_nothing_as, group_refuses, group_unmade, none_of, passes_of}
use Rattle.engine_core.proofs.calls.KeepLemmas.{still_keeps}
use Rattle.engine_core.proofs.stored.StoredArchive.settle_all.Goals as goal

pub returns-in_err-decide_settle_all-clause-ends : goal.returns-in_err-decide_settle_all-clause-ends
returns-in_err-decide_settle_all-clause-ends g c =
    let e = state_of g.D.Disk.life c.args.self.now in
    let is : c.from_residual.result ≡ Err c.in_err-decide_settle_all.field-0.0 = search rules in
    subst (EndsEvent e e (events.SettleAll c.args.sessions.now)) (sym is)
    (group_refuses e c.args.sessions.now c.in_err-decide_settle_all.field-0.0
    (ap (λ (ns : List ℤ). checked (settle_all_tests e.desk ns) checks (Ok (tt {0}))) (sym c.as_slice-numbers.ensures) ∙ sym c.in_err-decide_settle_all.ensures.decided))

pub returns-in_err-decide_settle_all-clause-catalogue : goal.returns-in_err-decide_settle_all-clause-catalogue
returns-in_err-decide_settle_all-clause-catalogue g c = still_keeps _ _

pub returns-in_err-positions-clause-ends : goal.returns-in_err-positions-clause-ends
returns-in_err-positions-clause-ends g c =
    let e = state_of g.D.Disk.life c.args.self.now in
    let is : c.from_residual-in_err-positions.result ≡ Err NoMemory = search rules in
    subst (EndsEvent e e (events.SettleAll c.args.sessions.now)) (sym is) (group_unmade e c.args.sessions.now)

pub returns-in_err-positions-clause-catalogue : goal.returns-in_err-positions-clause-catalogue
returns-in_err-positions-clause-catalogue g c = still_keeps _ _

pub returns-in_err-group-clause-ends : goal.returns-in_err-group-clause-ends
returns-in_err-group-clause-ends g c =
    let e = state_of g.D.Disk.life c.args.self.now in
    let is : c.from_residual-in_err-group.result ≡ Err NoMemory = search rules in
    subst (EndsEvent e e (events.SettleAll c.args.sessions.now)) (sym is) (group_unmade e c.args.sessions.now)

pub returns-in_err-group-clause-catalogue : goal.returns-in_err-group-clause-catalogue
returns-in_err-group-clause-catalogue g c = still_keeps _ _

pub returns-then-is_empty-clause-ends : goal.returns-then-is_empty-clause-ends
returns-then-is_empty-clause-ends g c =
    let e = state_of g.D.Disk.life c.args.self.now in
    let numbers = c.as_slice-numbers.result.now in
    let zero : length c.in_ok-group.group.entries.items ≡ 0 = search rules in
    let none : c.in_ok-group.group.entries.items ≡ [] = none_of c.in_ok-group.group.entries.items zero in
    group_nothing_as e c.args.sessions.now numbers c.in_ok-positions.positions c.as_slice-numbers.ensures c.in_ok-positions.ensures (passes_of e.desk numbers c.in_ok-decide_settle_all.field-0 (sym c.in_ok-decide_settle_all.ensures.decided)) (sym c.in_ok-group.ensures.group.entries ∙ none)

pub returns-then-is_empty-clause-catalogue : goal.returns-then-is_empty-clause-catalogue
returns-then-is_empty-clause-catalogue g c = still_keeps _ _

pub returns-clause-ends : goal.returns-clause-ends
returns-clause-ends g c =
    let old = state_of g.D.Disk.life c.args.self.now in
    let new = state_of g.D.Disk.life c.settle_group.new.self in
    let numbers = c.as_slice-numbers.result.now in
    let some : c.in_ok-group.group.entries.items ≢ [] = search rules in
    group_ends_as old new c.args.sessions.now numbers c.in_ok-positions.positions c.settle_group.result c.as_slice-numbers.ensures c.in_ok-positions.ensures (passes_of old.desk numbers c.in_ok-decide_settle_all.field-0 (sym c.in_ok-decide_settle_all.ensures.decided))
    c.in_ok-group.ensures.group.keeps (λ none. some (c.in_ok-group.ensures.group.entries ∙ none)) c.settle_group.ensures.settles

pub returns-clause-catalogue : goal.returns-clause-catalogue
returns-clause-catalogue g c =
    let old = state_of g.D.Disk.life c.args.self.now in
    let new = state_of g.D.Disk.life c.settle_group.new.self in
    let numbers = c.as_slice-numbers.result.now in
    group_keeps_as old new c.args.sessions.now numbers c.as_slice-numbers.ensures (passes_of old.desk numbers c.in_ok-decide_settle_all.field-0 (sym c.in_ok-decide_settle_all.ensures.decided)) c.settle_group.ensures.catalogue
