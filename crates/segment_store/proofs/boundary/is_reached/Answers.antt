use Rattle.std.proofs.Common.{rules, ◌≡◌, ◌∙◌, ◌≤ℤ◌, inl, inr, sym, ap, subst, false, ℤ, pos, to_z, of_z, w64, arith}
use Rattle.std.proofs.lemmas.Int.{ints}
use Rattle.std.specs.Prelude.{unsigned_abs}
use Rattle.disk_core.specs.DiskImage.{Files, reads}
use Rattle.segment_store.specs.Boundary.{RefusesReached, TellsReached}
use Rattle.segment_store.proofs.ChainLemmas.{breaks_off, goes_past, none_there, pos_abs, handed_on, quiet_on, reaches_more, start_there}
use Rattle.segment_store.proofs.boundary.is_reached.Goals as goal

pub returns-then-position-from-clause-answer : goal.returns-then-position-from-clause-answer
returns-then-position-from-clause-answer g c obeys =
    none_there (reads (g.D.Disk.life c.args.disk.now).now) c.args.layout.now c.args.geometry.now c.args.recorded (unsigned_abs c.args.from) c.args.position
    (inl (omega (arith, ints, c.requires.layout.start_is, c.requires.from_start, c.if-position-from.true)))

pub returns-then-position-from-2-clause-answer : goal.returns-then-position-from-2-clause-answer
returns-then-position-from-2-clause-answer g c obeys =
    start_there (reads (g.D.Disk.life c.args.disk.now).now) c.args.layout.now c.args.geometry.now c.args.recorded (unsigned_abs c.args.from) c.args.position
    (omega (arith, ints, c.requires.layout.start_is, c.requires.from_start, c.if-position-from.false, c.if-position-from-2.true))

pub returns-then-position-recorded-clause-answer : goal.returns-then-position-recorded-clause-answer
returns-then-position-recorded-clause-answer g c obeys =
    none_there (reads (g.D.Disk.life c.args.disk.now).now) c.args.layout.now c.args.geometry.now c.args.recorded (unsigned_abs c.args.from) c.args.position
    (inr (omega (arith, ints, c.if-position-recorded.true), omega (arith, ints, c.requires.layout.start_is, c.requires.from_start, c.if-position-from-2.false)))

pub returns-then-end-next-clause-answer : goal.returns-then-end-next-clause-answer
returns-then-end-next-clause-answer g c obeys =
    let files : Files = (g.D.Disk.life c.args.disk.now).now in
    let limit : to_z w64 (of_z w64 c.args.recorded) ≡ c.args.recorded = search rules in
    let end : c.unsigned_abs-end.result ≡ unsigned_abs c.args.position = search rules in
    let low : pos 0 ≤ℤ c.args.position = omega (arith, ints, c.requires.layout.start_is, c.requires.from_start, c.if-position-from-2.false) in
    let from : to_z w64 (of_z w64 c.args.from) ≡ c.args.from = search rules in
    subst (λ (z : ℤ). TellsReached (reads files) c.args.layout.now c.args.geometry.now c.args.recorded (unsigned_abs z) c.args.position false) from (subst (λ (z : ℤ). TellsReached (reads files) c.args.layout.now c.args.geometry.now z (unsigned_abs (to_z w64 (of_z w64 c.args.from))) c.args.position false) limit
    (goes_past (reads files) c.args.layout.now c.args.geometry.now (to_z w64 (of_z w64 c.args.recorded)) (unsigned_abs (to_z w64 (of_z w64 c.args.from))) c.loop-at.at c.in_ok-next.next c.unsigned_abs-end.result c.args.position
    (c.loop-at.invariant.reaches (c.frame_end.ensures.quiet.obeyed obeys)) (c.in_ok-next.ensures.end files c.loop-at.invariant.quiet.now c.loop-at.invariant.window obeys)
    c.loop-at-test.true c.if-end-next.true (pos_abs c.args.position low ∙ ap pos (sym end))))

pub returns-then-end-next-clause-quiet : goal.returns-then-end-next-clause-quiet
returns-then-end-next-clause-quiet g c =
    quiet_on (g.D.Disk.life c.args.disk.now) (g.D.Disk.life c.loop-at.disk) (g.D.Disk.life c.frame_end.new.disk) c.loop-at.invariant.quiet c.frame_end.ensures.quiet

pub returns-in_err-next-clause-refused : goal.returns-in_err-next-clause-refused
returns-in_err-next-clause-refused g c =
    let files : Files = (g.D.Disk.life c.args.disk.now).now in
    let limit : to_z w64 (of_z w64 c.args.recorded) ≡ c.args.recorded = search rules in
    let end : c.unsigned_abs-end.result ≡ unsigned_abs c.args.position = search rules in
    let low : pos 0 ≤ℤ c.args.position = omega (arith, ints, c.requires.layout.start_is, c.requires.from_start, c.if-position-from-2.false) in
    let from : to_z w64 (of_z w64 c.args.from) ≡ c.args.from = search rules in
    let refused : RefusesReached (g.D.Disk.life c.frame_end.new.disk).obeys (reads files) c.args.layout.now c.args.geometry.now c.args.recorded (unsigned_abs c.args.from) c.args.position c.in_err-next.field-0.0 =
    subst (λ (z : ℤ). RefusesReached (g.D.Disk.life c.frame_end.new.disk).obeys (reads files) c.args.layout.now c.args.geometry.now c.args.recorded (unsigned_abs z) c.args.position c.in_err-next.field-0.0) from
    (subst (λ (z : ℤ). RefusesReached (g.D.Disk.life c.frame_end.new.disk).obeys (reads files) c.args.layout.now c.args.geometry.now z (unsigned_abs (to_z w64 (of_z w64 c.args.from))) c.args.position c.in_err-next.field-0.0) limit
    (breaks_off (g.D.Disk.life c.frame_end.new.disk).obeys (reads files) c.args.layout.now c.args.geometry.now (to_z w64 (of_z w64 c.args.recorded)) (unsigned_abs (to_z w64 (of_z w64 c.args.from))) c.args.position c.loop-at.at c.unsigned_abs-end.result c.in_err-next.field-0.0
    (pos_abs c.args.position low ∙ ap pos (sym end)) c.loop-at-test.true (subst (λ (z : ℤ). c.args.position ≤ℤ z) (sym limit) (omega (arith, ints, c.if-position-recorded.false)))
    (λ obeys. c.loop-at.invariant.reaches (c.frame_end.ensures.quiet.obeyed obeys)) (c.in_err-next.ensures.refused files c.loop-at.invariant.quiet.now c.loop-at.invariant.window))) in
    handed_on c.from_residual-in_err-next.result c.in_err-next.field-0.0 (RefusesReached (g.D.Disk.life c.frame_end.new.disk).obeys (reads files) c.args.layout.now c.args.geometry.now c.args.recorded (unsigned_abs c.args.from) c.args.position)
    c.from_residual-in_err-next.ensures.1 refused

pub loop-at-preserved : goal.loop-at-preserved
loop-at-preserved g c =
    let files : Files = (g.D.Disk.life c.args.disk.now).now in
    record {
      quiet = quiet_on (g.D.Disk.life c.args.disk.now) (g.D.Disk.life c.loop-at.disk) (g.D.Disk.life c.frame_end.new.disk) c.loop-at.invariant.quiet c.frame_end.ensures.quiet;
      low = omega (arith, c.loop-at.invariant.low, c.in_ok-next.ensures.later);
      high = omega (arith, c.if-end-next.false);
      window = λ obeys. c.in_ok-next.ensures.window files c.loop-at.invariant.quiet.now c.loop-at.invariant.window obeys;
      reaches = λ obeys. reaches_more (reads files) c.args.layout.now c.args.geometry.now (to_z w64 (of_z w64 c.args.recorded)) (unsigned_abs (to_z w64 (of_z w64 c.args.from))) c.loop-at.at c.in_ok-next.next
          (c.loop-at.invariant.reaches (c.frame_end.ensures.quiet.obeyed obeys)) (c.in_ok-next.ensures.end files c.loop-at.invariant.quiet.now c.loop-at.invariant.window obeys);
    }
