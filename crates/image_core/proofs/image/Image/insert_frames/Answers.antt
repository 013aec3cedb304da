use Rattle.image_core.proofs.InsertLemmas.{all_taken, encodable_at, goes_at, joins_at}
use Rattle.image_core.proofs.image.Image.insert_frames.Goals as goal

pub take_in-requires : goal.take_in-requires
take_in-requires c = encodable_at _ _ _ _ _ _ _ _ c.loop-frame-test.true c.loop-frame.invariant.so

pub loop-frame-preserved : goal.loop-frame-preserved
loop-frame-preserved c = record {
  so = goes_at _ _ _ _ c.loop-frame.inserted _ c.loop-frame.noted.items _ _ _ _ c.in-Ok.fate c.loop-frame-test.true c.loop-frame.invariant.so c.in-Ok.ensures.fate c.in-Ok.ensures.after
      (c.in-Ok.ensures.back c.self.inside.high) c.counted-inserted.ensures;
  kept = c.loop-frame.invariant.kept;
}

pub returns-in-Err-clause-joins : goal.returns-in-Err-clause-joins
returns-in-Err-clause-joins c = joins_at _ _ _ _ c.loop-frame.inserted c.loop-frame.noted.items _ _ _ c.loop-frame-test.true c.loop-frame.invariant.so c.in-Err.ensures.joins.1

pub returns-clause-inserted : goal.returns-clause-inserted
returns-clause-inserted c = all_taken _ _ _ _ _ _ _ c.loop-frame-test.false c.loop-frame.invariant.so
