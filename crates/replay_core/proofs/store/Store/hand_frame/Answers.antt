use Rattle.std.proofs.Common.{rules, ◌≡◌, sym, subst, refl, inl, ℕ, ℤ, to_z, of_z, w64, List, length, IsTrue, arith}
use Rattle.std.proofs.lemmas.Int.{ints}
use Rattle.std.specs.Prelude.{unsigned_abs}
use Rattle.disk_core.specs.DiskImage.{Files, reads}
use Rattle.frame_core.specs.declared.frame.Frame.{Frame}
use Rattle.frame_core.specs.declared.geometry.Geometry.{Geometry}
use Rattle.frame_core.specs.declared.refusal.Refusal.{Refusal}
use Rattle.frame_core.specs.FrameEncoding.{encoded, frame_of}
use Rattle.frame_core.specs.Front.{IsFront}
use Rattle.segment_store.specs.DamagedFrame.{RefusesFrame, ShowsFrame}
use Rattle.segment_store.specs.declared.layout.Layout.{Layout}
use Rattle.segment_store.proofs.LayoutLemmas.{start_before}
use Rattle.segment_store.proofs.ReadLemmas.{belongs_covers, belongs_ends}
use Rattle.replay_core.specs.Gathering.{AreGathered}
use Rattle.replay_core.specs.Pages.{AgreeOver, KeepsRead, Pages, kept}
use Rattle.replay_core.specs.Taking.{RefusesHanding}
use Rattle.replay_core.specs.declared.gathering.Source.{Source}
use Rattle.replay_core.proofs.PageLemmas.{keeps_on}
use Rattle.replay_core.proofs.ShownLemmas.{gathered_shown}
use Rattle.replay_core.proofs.TakingLemmas.{quiet_over, refuses_handing}
use Rattle.replay_core.proofs.store.Store.hand_frame.Goals as goal

pub returns-in_err-gather_frame-clause-pages : goal.returns-in_err-gather_frame-clause-pages
returns-in_err-gather_frame-clause-pages g c =
    let old : Files = (g.D.Disk.life c.args.self.now.disk.now).now in
    let same : to_z w64 (of_z w64 c.args.limit) ≡ c.args.limit = search rules in
    subst (λ (limit : ℤ). KeepsRead (IsTrue (g.D.Disk.life c.gather_frame.new.disk).obeys) (reads old) c.args.self.now.layout c.args.self.now.generation limit (kept c.args.self.now.pages.now) (kept c.gather_frame.new.pages)) same
    (c.gather_frame.ensures.gathers old refl).pages

pub returns-in_err-take-clause-pages : goal.returns-in_err-take-clause-pages
returns-in_err-take-clause-pages g c =
    let old : Files = (g.D.Disk.life c.args.self.now.disk.now).now in
    let same : to_z w64 (of_z w64 c.args.limit) ≡ c.args.limit = search rules in
    subst (λ (limit : ℤ). KeepsRead (IsTrue (g.D.Disk.life c.gather_frame.new.disk).obeys) (reads old) c.args.self.now.layout c.args.self.now.generation limit (kept c.args.self.now.pages.now) (kept c.gather_frame.new.pages)) same
    (c.gather_frame.ensures.gathers old refl).pages

pub returns-in-Some-clause-pages : goal.returns-in-Some-clause-pages
returns-in-Some-clause-pages g c =
    let old : Files = (g.D.Disk.life c.args.self.now.disk.now).now in
    let same : to_z w64 (of_z w64 c.args.limit) ≡ c.args.limit = search rules in
    subst (λ (limit : ℤ). KeepsRead (IsTrue (g.D.Disk.life c.gather_frame.new.disk).obeys) (reads old) c.args.self.now.layout c.args.self.now.generation limit (kept c.args.self.now.pages.now) (kept c.gather_frame.new.pages)) same
    (c.gather_frame.ensures.gathers old refl).pages

pub returns-in-Some-clause-handed : goal.returns-in-Some-clause-handed
returns-in-Some-clause-handed g c =
    let old : Files = (g.D.Disk.life c.args.self.now.disk.now).now in
    let l : Layout = c.args.self.now.layout in
    let geometry : Geometry = c.args.self.now.geometry in
    let frame : Frame = frame_of c.in-Some.shown in
    let p : ℕ = c.unsigned_abs-at.result in
    let limit : ℤ = to_z w64 (of_z w64 c.args.limit) in
    let same : limit ≡ c.args.limit = search rules in
    let position : to_z w64 (of_z w64 c.args.position) ≡ c.args.position = search rules in
    let at : p ≡ unsigned_abs c.args.position = search rules in
    let ends = belongs_ends l geometry p limit frame c.in-Some.ensures.2 in
    record {
      frame = frame;
      taken = subst (λ (z : ℤ). g.T.FrameTaker.takes c.args.taker.now z frame c.take.new.self) position c.in_ok-take.ensures.taken;
      shown = λ obeys agree.
          let source : Source = record { layout = l; generation = c.args.self.now.generation; limit = limit } in
          let base : Pages = kept c.args.self.now.pages.now in
          let gathered : AreGathered (reads old) source base p c.gather_frame.new.pages.gathered.items =
          (c.gather_frame.ensures.gathers old refl).bytes base obeys (λ key page there. inl there) (λ k inside. absurd (omega (arith, inside))) in
          let front : IsFront c.gather_frame.new.pages.gathered.items frame c.in-Some.ensures.0 =
          subst (λ (bytes : List ℕ). IsFront bytes frame c.in-Some.ensures.0) c.as_slice-bytes.ensures.value c.in-Some.ensures.1 in
          let agree_here : AgreeOver (reads old) l c.args.self.now.generation base p (length (encoded frame)) =
          subst (λ (n : ℕ). AgreeOver (reads old) l c.args.self.now.generation base n (length (encoded frame))) (sym at) agree in
          let from = start_before l c.args.position c.requires.layout c.requires.recorded in
          let shown : ShowsFrame (reads old) l geometry limit p frame =
          gathered_shown (reads old) source geometry limit base p c.requires.layout c.requires.geometry (omega (arith, from, at)) c.gather_frame.new.pages.gathered.items frame c.in-Some.ensures.0 front c.in-Some.ensures.2 gathered agree_here in
          subst (λ (z : ℤ). ShowsFrame (reads old) l geometry z (unsigned_abs c.args.position) frame) same (subst (λ (n : ℕ). ShowsFrame (reads old) l geometry limit n frame) at shown);
      covers = c.aligned_length.ensures.value;
      some = belongs_covers l geometry p limit frame c.in-Some.ensures.1.encodable c.in-Some.ensures.2;
      ends = omega (arith, ints, ends, at, same);
    }

pub returns-in_err-frame-clause-refused : goal.returns-in_err-frame-clause-refused
returns-in_err-frame-clause-refused g c =
    let old : Files = (g.D.Disk.life c.args.self.now.disk.now).now in
    let refusal : Refusal = c.in_err-frame.field-0.0 in
    let is : RefusesFrame (g.D.Disk.life c.read_frame.new.disk).obeys (reads old) c.args.self.now.layout c.args.self.now.geometry c.args.limit c.args.position refusal =
    subst (λ (files : Files). RefusesFrame (g.D.Disk.life c.read_frame.new.disk).obeys (reads files) c.args.self.now.layout c.args.self.now.geometry c.args.limit c.args.position refusal) c.gather_frame.ensures.quiet.now (search rules) in
    let handing : RefusesHanding (g.D.Disk.life c.read_frame.new.disk).obeys (reads old) c.args.self.now.layout c.args.self.now.geometry c.args.limit c.args.position refusal =
    refuses_handing _ _ _ _ _ _ refusal is in
    search rules

pub returns-in_err-frame-clause-pages : goal.returns-in_err-frame-clause-pages
returns-in_err-frame-clause-pages g c =
    let old : Files = (g.D.Disk.life c.args.self.now.disk.now).now in
    let same : to_z w64 (of_z w64 c.args.limit) ≡ c.args.limit = search rules in
    subst (λ (limit : ℤ). KeepsRead (IsTrue (g.D.Disk.life c.read_frame.new.disk).obeys) (reads old) c.args.self.now.layout c.args.self.now.generation limit (kept c.args.self.now.pages.now) (kept c.gather_frame.new.pages)) same
    (keeps_on (IsTrue (g.D.Disk.life c.read_frame.new.disk).obeys) (IsTrue (g.D.Disk.life c.gather_frame.new.disk).obeys) (reads old) c.args.self.now.layout c.args.self.now.generation (to_z w64 (of_z w64 c.args.limit))
    (kept c.args.self.now.pages.now) (kept c.gather_frame.new.pages) (kept c.gather_frame.new.pages) c.read_frame.ensures.quiet.obeyed (c.gather_frame.ensures.gathers old refl).pages (λ key page there. inl there))

pub returns-in_err-take-2-clause-pages : goal.returns-in_err-take-2-clause-pages
returns-in_err-take-2-clause-pages g c =
    let old : Files = (g.D.Disk.life c.args.self.now.disk.now).now in
    let same : to_z w64 (of_z w64 c.args.limit) ≡ c.args.limit = search rules in
    subst (λ (limit : ℤ). KeepsRead (IsTrue (g.D.Disk.life c.read_frame.new.disk).obeys) (reads old) c.args.self.now.layout c.args.self.now.generation limit (kept c.args.self.now.pages.now) (kept c.gather_frame.new.pages)) same
    (keeps_on (IsTrue (g.D.Disk.life c.read_frame.new.disk).obeys) (IsTrue (g.D.Disk.life c.gather_frame.new.disk).obeys) (reads old) c.args.self.now.layout c.args.self.now.generation (to_z w64 (of_z w64 c.args.limit))
    (kept c.args.self.now.pages.now) (kept c.gather_frame.new.pages) (kept c.gather_frame.new.pages) c.read_frame.ensures.quiet.obeyed (c.gather_frame.ensures.gathers old refl).pages (λ key page there. inl there))

pub returns-clause-pages : goal.returns-clause-pages
returns-clause-pages g c =
    let old : Files = (g.D.Disk.life c.args.self.now.disk.now).now in
    let same : to_z w64 (of_z w64 c.args.limit) ≡ c.args.limit = search rules in
    subst (λ (limit : ℤ). KeepsRead (IsTrue (g.D.Disk.life c.read_frame.new.disk).obeys) (reads old) c.args.self.now.layout c.args.self.now.generation limit (kept c.args.self.now.pages.now) (kept c.gather_frame.new.pages)) same
    (keeps_on (IsTrue (g.D.Disk.life c.read_frame.new.disk).obeys) (IsTrue (g.D.Disk.life c.gather_frame.new.disk).obeys) (reads old) c.args.self.now.layout c.args.self.now.generation (to_z w64 (of_z w64 c.args.limit))
    (kept c.args.self.now.pages.now) (kept c.gather_frame.new.pages) (kept c.gather_frame.new.pages) c.read_frame.ensures.quiet.obeyed (c.gather_frame.ensures.gathers old refl).pages (λ key page there. inl there))

pub returns-clause-quiet : goal.returns-clause-quiet
returns-clause-quiet g c = quiet_over _ _ _ c.gather_frame.ensures.quiet c.read_frame.ensures.quiet

pub returns-clause-handed : goal.returns-clause-handed
returns-clause-handed g c =
    let old : Files = (g.D.Disk.life c.args.self.now.disk.now).now in
    let l : Layout = c.args.self.now.layout in
    let geometry : Geometry = c.args.self.now.geometry in
    let frame : Frame = c.in_ok-frame.frame in
    let limit : ℤ = to_z w64 (of_z w64 c.args.limit) in
    let same : limit ≡ c.args.limit = search rules in
    let position : to_z w64 (of_z w64 c.args.position) ≡ c.args.position = search rules in
    record {
      frame = frame;
      taken = subst (λ (f : Frame). g.T.FrameTaker.takes c.args.taker.now c.args.position f c.take-2.new.self) c.as_ref.ensures
          (subst (λ (z : ℤ). g.T.FrameTaker.takes c.args.taker.now z (frame_of c.as_ref.result) c.take-2.new.self) position c.in_ok-take-2.ensures.taken);
      shown = λ obeys agree.
          subst (λ (z : ℤ). ShowsFrame (reads old) l geometry c.args.limit (unsigned_abs z) frame) position
          (subst (λ (z : ℤ). ShowsFrame (reads old) l geometry z (unsigned_abs (to_z w64 (of_z w64 c.args.position))) frame) same
          (subst (λ (files : Files). ShowsFrame (reads files) l geometry limit (unsigned_abs (to_z w64 (of_z w64 c.args.position))) frame) c.gather_frame.ensures.quiet.now (c.in_ok-frame.ensures.frame obeys)));
      covers = c.aligned_length-2.ensures.value;
      some = c.in_ok-frame.ensures.covers;
      ends = (let ends = c.in_ok-frame.ensures.ends in omega (arith, ints, ends, position, same));
    }
