use Rattle.std.proofs.Common.{◌≡◌, ◌+◌, ◌-◌, ◌∷◌, ℕ, List, length, take, drop, IsTrue, sym, subst, ap, ◌∙◌, arith}
use Rattle.host_disk.specs.Events.{Event, gave, asked}
use Rattle.host_disk.specs.Replay.{replay}
use Rattle.host_disk.proofs.ReadLemmas.{IsReading, goes_on_reading, ends_reading}
use Rattle.host_disk.proofs.read_folder.ReadFolderDisk.read_at.Goals as goal
use Rattle.host_disk.specs.Looked.{events_of}
use borrow.Rule.Slice.PartMut.{put_mid}

pub loop-done-preserved : goal.loop-done-preserved
loop-done-preserved c =
    let noted : events_of c.read_some.new.self
    ≡ gave c.args.file (c.args.at + c.loop-done.done) c.in-Ok.count c.read_some.new.into ∷ asked (take (length c.loop-done.into - c.loop-done.done) (drop c.loop-done.done c.loop-done.into)) ∷ events_of c.loop-done.self.folder =
    c.in-Ok.ensures.noted ∙ ap (λ (from : ℕ). gave c.args.file from c.in-Ok.count c.read_some.new.into ∷ asked (take (length c.loop-done.into - c.loop-done.done) (drop c.loop-done.done c.loop-done.into)) ∷ events_of c.loop-done.self.folder) c.in-Some.ensures.1 in (
      subst (λ (events : List Event). IsReading c.args.file c.args.at c.args.into.now (put_mid c.loop-done.done (length c.loop-done.into - c.loop-done.done) c.loop-done.into c.read_some.new.into) (events_of c.args.self.now.folder) events (c.loop-done.done + c.in-Ok.count)) (sym noted)
          (goes_on_reading c.args.file c.args.at c.args.into.now c.loop-done.into c.read_some.new.into (events_of c.args.self.now.folder) (events_of c.loop-done.self.folder) c.loop-done.done c.in-Ok.count c.loop-done.auto.into c.in-Ok.ensures.within c.loop-done.invariant.0),
      c.loop-done.invariant.1,
    )

pub returns-then-count-eq0-clause-exact : goal.returns-then-count-eq0-clause-exact
returns-then-count-eq0-clause-exact c obeys =
    let noted : events_of c.read_some.new.self
    ≡ gave c.args.file (c.args.at + c.loop-done.done) 0 c.read_some.new.into ∷ asked (take (length c.loop-done.into - c.loop-done.done) (drop c.loop-done.done c.loop-done.into)) ∷ events_of c.loop-done.self.folder =
    c.in-Ok.ensures.noted
    ∙ ap (λ (from : ℕ). gave c.args.file from c.in-Ok.count c.read_some.new.into ∷ asked (take (length c.loop-done.into - c.loop-done.done) (drop c.loop-done.done c.loop-done.into)) ∷ events_of c.loop-done.self.folder) c.in-Some.ensures.1
    ∙ ap (λ (count : ℕ). gave c.args.file (c.args.at + c.loop-done.done) count c.read_some.new.into ∷ asked (take (length c.loop-done.into - c.loop-done.done) (drop c.loop-done.done c.loop-done.into)) ∷ events_of c.loop-done.self.folder) c.if-count-eq0.true in
    ends_reading c.args.file c.args.at c.args.into.now c.loop-done.into c.read_some.new.into (events_of c.args.self.now.folder) (events_of c.loop-done.self.folder) c.loop-done.done c.loop-done.auto.into (omega (arith, c.loop-done.auto.into)) c.loop-done.invariant.0
    (subst (λ (events : List Event). IsTrue (replay events).obeys) noted obeys)
