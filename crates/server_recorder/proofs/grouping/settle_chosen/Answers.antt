use Rattle.std.proofs.Common.{ℕ, List, ◌≡◌, ◌∙◌, length, rules, subst, sym, true}
use Rattle.std.specs.Prelude.{nat_lt}
use Rattle.server_recorder.specs.declared.settling.Settling.{Settling}
use Rattle.server_recorder.specs.Seats.{SeatsView}
use Rattle.server_recorder.specs.Settles.{SettlesAlone, SettlesSeats}
use Rattle.server_recorder.proofs.SettlesLemmas.{none_there, nothing_settled, settled_after, settled_alone, settled_together}
use Rattle.server_recorder.proofs.grouping.settle_chosen.Goals.{else-group-gt1-via-then-group-gt1+else-settle_group, else-group-gt1-via-else-group-gt1}
use Rattle.server_recorder.proofs.grouping.settle_chosen.Goals as goal

pub returns-then-is_empty : goal.returns-then-is_empty
returns-then-is_empty g c =
    nothing_settled g.D.Disk.life g.A.Naming.opening c.args.group.now c.args.settling.now c.args.seats.now (none_there c.args.group.now (sym c.is_empty.ensures ∙ c.if-is_empty.true))

pub returns-then-settle_group : goal.returns-then-settle_group
returns-then-settle_group g c =
    let flushed = c.flush-is_flushed in
    let several : nat_lt 1 (length c.args.group.now) ≡ true = search rules in
    settled_together g.D.Disk.life g.A.Naming.opening c.args.group.now c.args.settling.now flushed.new.settling c.settle_group.new.settling c.args.seats.now flushed.new.seats c.settle_group.new.seats
    several flushed.ensures.looks flushed.ensures.paced c.if-settle_group.ensures.calls c.if-settle_group.ensures.settled

pub returns : goal.returns
returns g c =
    let life = g.D.Disk.life in
    let opening = g.A.Naming.opening in
    let group = c.args.group.now in
    let was = c.args.settling.now in
    let old = c.args.seats.now in
    let flushed = c.flush-is_flushed in
    let left = c.else-group-gt1 in
    let after = c.settle_each.new.settling in
    let new = c.settle_each.new.seats in
    let each : SettlesAlone life opening group left.settling left.seats new = subst (λ (xs : List ℕ). SettlesAlone life opening xs left.settling left.seats new) (sym c.requires) c.settle_each.ensures.calls in
    let settled : SettlesSeats group left.settling after = subst (λ (xs : List ℕ). SettlesSeats xs left.settling after) (sym c.requires) c.settle_each.ensures.settled in
    elim left.branch [
      | else-group-gt1-via-then-group-gt1+else-settle_group w ↦
          let same : left.settling ≡ flushed.new.settling = w.settling-is ∙ w.if-settle_group.ensures.settled in
          let alone = subst (λ (t : Settling). SettlesAlone life opening group t w.settle_group.new.seats new) same (subst (λ (v : SeatsView). SettlesAlone life opening group left.settling v new) w.seats-is each) in
          let several : nat_lt 1 (length group) ≡ true = search rules in
          settled_after life opening group was flushed.new.settling after old flushed.new.seats w.settle_group.new.seats new several flushed.ensures.looks flushed.ensures.paced w.if-settle_group.ensures.calls alone
          (subst (λ (t : Settling). SettlesSeats group t after) same settled)
      | else-group-gt1-via-else-group-gt1 w ↦
          let alone = subst (λ (t : Settling). SettlesAlone life opening group t flushed.new.seats new) w.settling-is (subst (λ (v : SeatsView). SettlesAlone life opening group left.settling v new) w.seats-is each) in
          settled_alone life opening group was flushed.new.settling after old flushed.new.seats new flushed.ensures.looks flushed.ensures.paced alone
          (subst (λ (t : Settling). SettlesSeats group t after) w.settling-is settled)
    ]
