-- A block that is written behind what is recorded leaves an archive sound.
use Rattle.std.proofs.Common.{◌≡◌, ◌≢◌, ◌∙◌, inl, inr, sym, ap, subst, refl, ℕ, ℤ, pos, negsuc, ◌+◌, ◌≤◌, ◌≤ℤ◌, List, [], ◌∷◌, Some, length, unsigned_abs, arith}
use Rattle.std.proofs.lemmas.Int.{ints}
use Rattle.std.specs.Prelude.{IfErr, Result, Ok, Err}
use Rattle.engine_core.proofs.Words.{AreEncodable, BankA, BankB, ChangesFile, DeviceFault, DiskImage, Each, FileId, FileState, Files, Frame, Holds, HoldsFrames, HoldsRecording, IsDurable, IsEither, IsKept, IsSound, IsWell, Layout, LeavesOnly, Life, LogState, Moves, Recording, RecoversTo, Refusal, RestsAfter, State, aligned_length, banks_left, bytes_of, each_found, file_of, find, first_of, id_of, last_of, layout_of, offset_of, other_files, reads, recorded_position, same_file, stored, weaker}
use Rattle.disk_core.specs.Standing.{KeepsBelow}
use Rattle.disk_core.proofs.CallerLemmas.{keeps_holds}
use Rattle.segment_store.specs.Stored.{IsLeftBelow}
use Rattle.segment_store.proofs.DurableLemmas.{durable_below, frames_kept, lies_below}
use Rattle.segment_store.proofs.StoredLemmas.{stored_no_longer}
use Rattle.engine_core.proofs.files.FrameLemmas.{a_not_segment, apart, b_not_segment, each_both, each_by, left_frames, same_frames}

-- what a write at a position of a recording does
pub record Wrote (old new : Life) (l : Layout) (at : ℕ) : Type 0 where
  pub keeps : KeepsBelow (offset_of l at) (old.now (file_of l at)) (new.now (file_of l at))
  pub any_moment : LeavesOnly old new (IsLeftBelow old.now (file_of l at) (offset_of l at))
  pub changes : ChangesFile (file_of l at) old new

-- frames that end at or before it are read as before
pub frames_read : (old new : Files) (l : Layout) (frames : List Frame) (from to at : ℕ)
    → AreEncodable frames → HoldsFrames (reads old) l from frames to → to ≤ at
    → KeepsBelow (offset_of l at) (old (file_of l at)) (new (file_of l at)) → ((file : FileId) → file ≢ file_of l at → new file ≡ old file) → HoldsFrames (reads new) l from frames to
frames_read old new l [] from to at encodable holds before kept others = holds
frames_read old new l (f ∷ fs) from to at encodable holds before kept others =
    let fits : from + length (stored f) ≤ at = omega (arith, stored_no_longer f encodable.0, up (reads old) fs (from + aligned_length f) holds.1, before) in
    let here : Holds (bytes_of (reads new (file_of l from))) (offset_of l from) (stored f) = elim (same_file (file_of l from) (file_of l at)) [
      | inl same ↦
          keeps_holds (offset_of l at) (old (file_of l from)) (new (file_of l from)) (offset_of l from) (stored f)
          (subst (λ (file : FileId). KeepsBelow (offset_of l at) (old file) (new file)) (sym same) kept) holds.0 (lies_below l from at (length (stored f)) fits same)
      | inr differs ↦ subst (λ (state : FileState). Holds (bytes_of state.reads) (offset_of l from) (stored f)) (sym (others (file_of l from) differs)) holds.0
    ] in
    (here, frames_read old new l fs (from + aligned_length f) to at encodable.1 holds.1 before kept others)
  where
    up : (image : DiskImage) (gs : List Frame) (low : ℕ) → HoldsFrames image l low gs to → low ≤ to
    up image [] low stand = omega (arith, stand)
    up image (g ∷ gs) low stand = omega (arith, up image gs (low + aligned_length g) stand.1)

module _ (old new : Life) (s : State) (r : Recording) (at : ℕ) (well : IsWell s) (found : find id_of (id_of r) s.recordings ≡ Some r) (behind : last_of r ≤ at) where
  -- what is recorded stays durable
  recordings_kept : Wrote old new (layout_of r.descriptor) at
      → Each (IsDurable old.now) s.recordings → Each (IsDurable new.now) s.recordings
  recordings_kept wrote all =
      each_by (λ x. IsKept x × IsDurable old.now x) (IsDurable new.now) (id_of r) s.next
      (λ x differs both. same_frames old.now new.now (layout_of x.descriptor) x.frames (first_of x) (last_of x) (λ p. wrote.changes.others _ (apart x (layout_of r.descriptor) p at differs)) both.1)
      (pos 0) s.recordings r well.rising found (each_both IsKept (IsDurable old.now) s.recordings well.kept all)
      (λ both. frames_kept old.now new.now (layout_of r.descriptor) r.frames (first_of r) (last_of r) at both.0.encodable both.1 behind wrote.keeps wrote.changes.others)

  -- and stands in what a crash leaves meanwhile
  recordings_below : (image : DiskImage) → IsLeftBelow old.now (file_of (layout_of r.descriptor) at) (offset_of (layout_of r.descriptor) at) image → Each (IsDurable old.now) s.recordings → Each (HoldsRecording image) s.recordings
  recordings_below image left all =
      each_by (λ x. IsKept x × IsDurable old.now x) (HoldsRecording image) (id_of r) s.next
      (λ x differs both. left_frames old.now (layout_of x.descriptor) x.frames (first_of x) (last_of x) image both.1 (λ p. left.others _ (apart x (layout_of r.descriptor) p at differs)))
      (pos 0) s.recordings r well.rising found (each_both IsKept (IsDurable old.now) s.recordings well.kept all)
      (λ both. durable_below old.now (layout_of r.descriptor) r.frames (first_of r) (last_of r) at image both.0.encodable both.1 behind left)

-- the write leaves the archive as it is
moves_at : (result : Result (Unit {0}) Refusal) (old new : Life) (log : LogState) (s : State) (r : Recording) (at : ℕ) → (sound : IsSound old.now log s) → find id_of (id_of r) s.recordings ≡ Some r → last_of r ≤ at
    → Wrote old new (layout_of r.descriptor) at → IfErr result (λ refusal. refusal ≡ DeviceFault) → Moves old new log s s result
moves_at result old new log s r at sound found behind wrote refused = record {
  any_moment = weaker old new (RecoversTo (IsEither s s)) (IsLeftBelow old.now (file_of (layout_of r.descriptor) at) (offset_of (layout_of r.descriptor) at)) wrote.any_moment (λ image left. record {
    state = s;
    is = inl refl;
    recovers = record {
      header = log.header;
      entries = sound.entries;
      catalogue = banks_left old.now log sound.entries image sound.rests (left.others BankA (a_not_segment (layout_of r.descriptor) at)) (left.others BankB (b_not_segment (layout_of r.descriptor) at));
      folds = sound.folds;
      frames = recordings_below old new s r at sound.well found behind image left sound.frames;
      well = sound.well;
    };
  });
  rests = by result refused;
  frames = kept;
}
  where
    kept : Each (IsDurable new.now) s.recordings
    kept = recordings_kept old new s r at sound.well found behind wrote sound.frames

    by : (outcome : Result (Unit {0}) Refusal) → IfErr outcome (λ refusal. refusal ≡ DeviceFault)
        → RestsAfter outcome old new log s s
    by (Ok done) none = record {
      entries = sound.entries;
      rests = other_files old.now new.now log sound.entries sound.rests (wrote.changes.others BankA (a_not_segment (layout_of r.descriptor) at)) (wrote.changes.others BankB (b_not_segment (layout_of r.descriptor) at));
      folds = sound.folds;
      frames = kept;
      well = sound.well;
    }
    by (Err refusal) is = subst (λ (x : Refusal). RestsAfter (Err x) old new log s s) (sym is) tt

-- a position at or behind the recorded one, as natural numbers
pub natural : (a b : ℤ) → pos 0 ≤ℤ a → a ≤ℤ b → unsigned_abs a ≤ unsigned_abs b
natural (pos a) (pos b) low less = omega (arith, ints, less)
natural (pos a) (negsuc b) low less = absurd (omega (arith, ints, less))
natural (negsuc a) b low less = absurd (omega (arith, ints, low))

pub recorded_low : (r : Recording) → IsKept r → pos 0 ≤ℤ recorded_position r
recorded_low r kept = omega (arith, ints, kept.start)

pub written_moves : (result : Result (Unit {0}) Refusal) (old new : Life) (log : LogState) (s : State) (r : Recording) (l : Layout) (position : ℤ) → (sound : IsSound old.now log s)
    → find id_of l.recording s.recordings ≡ Some r → l ≡ layout_of r.descriptor → recorded_position r ≤ℤ position → Wrote old new l (unsigned_abs position) → IfErr result (λ refusal. refusal ≡ DeviceFault) → Moves old new log s s result
written_moves result old new log s r l position sound found is behind wrote refused =
    let kept = each_found id_of IsKept l.recording s.recordings r sound.well.kept found in
    moves_at result old new log s r (unsigned_abs position) sound (ap (λ (x : Layout). find id_of x.recording s.recordings) (sym is) ∙ found)
    (natural (recorded_position r) position (recorded_low r kept) behind) (subst (λ (x : Layout). Wrote old new x (unsigned_abs position)) is wrote) refused
