use Rattle.std.proofs.Common.{arith, length-take}
use Rattle.engine_core.proofs.openings.OpeningLemmas.{all_synced, few_calls, next_synced, none_synced, synced_more}
use Rattle.engine_core.proofs.opening.sync_segments.Goals as goal

pub loop-file-init : goal.loop-file-init
loop-file-init g c = none_synced (g.D.Disk.life c.args.disk.now)

pub loop-file-preserved : goal.loop-file-preserved
loop-file-preserved g c =
    next_synced (g.D.Disk.life c.args.disk.now) (g.D.Disk.life c.loop-file.disk) (g.D.Disk.life c.sync_listed.new.disk) c.args.files.now c.loop-file.file-index _ c.loop-file-test.true c.loop-file.invariant
    c.sync_listed.ensures.only c.in_ok-sync_listed.ensures.synced c.sync_listed.ensures.calls

pub returns-in_err-sync_listed-clause-only : goal.returns-in_err-sync_listed-clause-only
returns-in_err-sync_listed-clause-only g c =
    synced_more (g.D.Disk.life c.args.disk.now) (g.D.Disk.life c.loop-file.disk) (g.D.Disk.life c.sync_listed.new.disk) c.loop-file.invariant.only c.sync_listed.ensures.only

pub returns-clause-only : goal.returns-clause-only
returns-clause-only g c = c.loop-file.invariant.only

pub returns-clause-synced : goal.returns-clause-synced
returns-clause-synced g c obeys recording base there =
    all_synced (g.D.Disk.life c.args.disk.now) (g.D.Disk.life c.loop-file.disk) c.args.files.now c.loop-file.file-index c.loop-file.invariant c.loop-file-test.false (c.requires (c.loop-file.invariant.only.obeyed obeys)) recording base there

pub returns-in_err-sync_listed-clause-calls : goal.returns-in_err-sync_listed-clause-calls
returns-in_err-sync_listed-clause-calls g c =
    let i = c.loop-file.file-index in
    let before = c.loop-file.invariant.calls in
    let one = c.sync_listed.ensures.calls in
    let some = length-take i c.args.files.now in
    let within = c.loop-file-test.true in
    omega (arith, before, one, some, within)

pub returns-clause-calls : goal.returns-clause-calls
returns-clause-calls g c = few_calls (g.D.Disk.life c.args.disk.now) (g.D.Disk.life c.loop-file.disk) c.args.files.now c.loop-file.file-index c.loop-file.invariant
