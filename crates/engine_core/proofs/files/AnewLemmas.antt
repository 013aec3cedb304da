-- A catalogue that is written anew and makes the same register keeps the state.
use Rattle.std.proofs.Common.{◌+◌, ◌∷◌, [], ℕ, List}
use Rattle.engine_core.proofs.Words.{BankA, BankB, DiskImage, Files, Frame, HoldsFrames, HoldsRecording, Layout, LeavesOnly, Life, MayLeave, Recovers, Segment, State, aligned_length, first_of, last_of, layout_of, reads, register_of, weaker}
use Rattle.catalogue_log.specs.Compacting.{HasRegister, LeavesRegister}
use Rattle.engine_core.proofs.files.FrameLemmas.{each_then}

-- an image with these banks and those segment files
beside : DiskImage → DiskImage → DiskImage
beside banks segments BankA = banks BankA
beside banks segments BankB = banks BankB
beside banks segments (Segment recording base) = segments (Segment recording base)

same_segments : (banks segments : DiskImage) (l : Layout) (fs : List Frame) (from to : ℕ) → HoldsFrames (beside banks segments) l from fs to → HoldsFrames segments l from fs to
unfolding beside
same_segments banks segments l [] from to holds = holds
same_segments banks segments l (f ∷ fs) from to holds = (holds.0, same_segments banks segments l fs (from + aligned_length f) to holds.1)

-- a catalogue gives the register of the state that its image recovers to
pub recovered_register : (files : Files) (s : State) → ((image : DiskImage) → MayLeave files image → Recovers image s) → LeavesRegister files (register_of s)
recovered_register files s recovers image left =
    let is = recovers image left in
    record { header = is.header; entries = is.entries; catalogue = is.catalogue; makes = is.folds; others = λ file not_a not_b. left file }

module _ (old : Life) (s : State) (may : MayLeave old.now (reads old.now)) (recovers : (image : DiskImage) → MayLeave old.now image → Recovers image s) (image : DiskImage) (has : HasRegister old.now (register_of s) image) where
  -- the banks as they were read, and the segment files as they were left
  left_before : MayLeave old.now (beside (reads old.now) image)
  unfolding beside
  left_before BankA = may BankA
  left_before BankB = may BankB
  left_before (Segment recording base) = has.others (Segment recording base) (λ is. absurd cc) (λ is. absurd cc)

  pub still_recovers : Recovers image s
  still_recovers =
      let before = recovers (beside (reads old.now) image) left_before in
      record {
        header = has.header;
        entries = has.entries;
        catalogue = has.catalogue;
        folds = has.makes;
        frames = each_then (HoldsRecording (beside (reads old.now) image)) (HoldsRecording image) s.recordings before.frames
            (λ r holds. same_segments (reads old.now) image (layout_of r.descriptor) r.frames (first_of r) (last_of r) holds);
        well = before.well;
      }

pub register_moments : (old new : Life) (s : State) → MayLeave old.now (reads old.now) → ((image : DiskImage) → MayLeave old.now image → Recovers image s) → LeavesOnly old new (HasRegister old.now (register_of s))
    → LeavesOnly old new (λ image. Recovers image s)
register_moments old new s may recovers moments = weaker old new (λ image. Recovers image s) (HasRegister old.now (register_of s)) moments (still_recovers old s may recovers)
