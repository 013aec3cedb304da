-- What a poll through pages says where they agree with the disk.
use Rattle.std.proofs.Common.{◌≡◌, subst, ℕ, ℤ, Bool, IsTrue, List}
use Rattle.disk_core.specs.Life.{Life}
use Rattle.disk_core.specs.DiskImage.{DiskImage}
use Rattle.frame_core.specs.declared.frame.Frame.{Frame}
use Rattle.frame_core.specs.declared.geometry.Geometry.{Geometry}
use Rattle.frame_core.specs.declared.refusal.Refusal.{Refusal}
use Rattle.frame_core.specs.declared.refusal.Refusal.TheVariants.{Damaged, DeviceFault, NoMemory}
use Rattle.segment_store.specs.declared.layout.Layout.{Layout}
use Rattle.replay_core.specs.Pages.{KeepsRead, Pages}
use Rattle.replay_core.specs.Poll.{AgreeOn}
use Rattle.replay_core.specs.Poll as paged
use Rattle.recording_reads.specs.Reading.{RefusesPoll}

-- it is refused as a poll of the disk is
pub agreed_refusal : (obeys : Bool) (image : DiskImage) (l : Layout) (g : Geometry) (generation : ℕ) (pages : Pages) (recorded bound : ℤ) (most from : ℕ) (refusal : Refusal) → (IsTrue obeys → (frames : List Frame) → AgreeOn image l generation pages from frames)
    → paged.RefusesPoll obeys image l g generation pages recorded bound most from refusal → RefusesPoll obeys image l g recorded bound most from refusal
agreed_refusal obeys image l g generation pages recorded bound most from DeviceFault agree refuses = tt
agreed_refusal obeys image l g generation pages recorded bound most from NoMemory agree refuses = tt
agreed_refusal obeys image l g generation pages recorded bound most from (Damaged recording at) agree refuses = (
  refuses.0,
  λ does.
      let breaks = refuses.1 does in
      record {
        frames = breaks.frames;
        to = breaks.to;
        stand = breaks.stand (agree does breaks.frames);
        fewer = breaks.fewer;
        is = breaks.is;
        before = breaks.before;
        within = breaks.within;
        damaged = breaks.damaged;
      },
)
agreed_refusal obeys image l g generation pages recorded bound most from refusal agree refuses = absurd refuses

-- pages that are kept behind a loan are those that were kept in it
pub keeps_same : {D : Type 0} (life : D → Life) (disk other : D) (image : DiskImage) (l m : Layout) (generation : ℕ) (limit recorded : ℤ) (old new after : Pages) → disk ≡ other → l ≡ m → limit ≡ recorded → new ≡ after
    → KeepsRead (IsTrue (life disk).obeys) image l generation limit old new → KeepsRead (IsTrue (life other).obeys) image m generation recorded old after
keeps_same life disk other image l m generation limit recorded old new after same_disk same_layout same_limit same_pages keeps =
    subst (λ (pages : Pages). KeepsRead (IsTrue (life other).obeys) image m generation recorded old pages) same_pages
    (subst (λ (z : ℤ). KeepsRead (IsTrue (life other).obeys) image m generation z old new) same_limit
    (subst (λ (layout : Layout). KeepsRead (IsTrue (life other).obeys) image layout generation limit old new) same_layout
    (subst (λ (d : _). KeepsRead (IsTrue (life d).obeys) image l generation limit old new) same_disk keeps)))
