-- Where frames of a recording begin and end.
use Rattle.std.proofs.Common.{◌≡◌, ◌⊎◌, inl, inr, ℤ, pos, ◌<ℤ◌, ◌≤ℤ◌, Bool, true, false, arith}
use Rattle.std.proofs.lemmas.Int.{ints}
use Rattle.std.proofs.Math.Nat.{le-max_left}
use Rattle.std.specs.Prelude.{◌-◌, ◌%◌, unsigned_abs}
use Rattle.disk_core.specs.DiskImage.{DiskImage}
use Rattle.segment_store.specs.Boundary.{TellsReached}
use Rattle.segment_store.proofs.ChainLemmas.{chain_rises}
use Rattle.archive_model.specs.declared.registration.Registration.{Registration}
use Rattle.archive_model.specs.State.{geometry_of}
use Rattle.recording_reads.specs.Reading.{TellsBoundaryIn, term_start}
use Rattle.recording_reads.specs.Recording.{layout_of}

module _ (image : DiskImage) (g : Registration) (position : ℤ) where
  -- no frame of the recording begins or ends outside it
  pub outside : pos 0 ≤ℤ g.descriptor.start_position → (position <ℤ g.descriptor.start_position) ⊎ (g.recorded <ℤ position) → TellsBoundaryIn image g position false
  outside low (inl before) = (
    λ boundary. omega (arith, ints, before, boundary.from_start),
    λ at breaks.
        let start = le-max_left (unsigned_abs g.descriptor.start_position) (unsigned_abs position - unsigned_abs position % unsigned_abs g.descriptor.term_length) in
        let rises = chain_rises image (layout_of g.descriptor) (geometry_of g.descriptor) g.recorded breaks.reaches.frames (term_start g.descriptor (unsigned_abs position)) at breaks.reaches.chain in
        omega (arith, ints, low, before, breaks.before, start, rises),
  )
  outside low (inr past) = (
    λ boundary. omega (arith, ints, past, boundary.within),
    λ at breaks. omega (arith, ints, past, breaks.within),
  )

  -- the recorded position is one where they do
  pub recorded_is : g.descriptor.start_position ≤ℤ position → position ≡ g.recorded → TellsBoundaryIn image g position true
  recorded_is from is = record { from_start = from; within = omega (arith, ints, is); reached = inl is }

  -- what the frames of its term tell
  pub inside_told : (told : Bool) → g.descriptor.start_position ≤ℤ position → position <ℤ g.recorded
      → TellsReached image (layout_of g.descriptor) (geometry_of g.descriptor) g.recorded (term_start g.descriptor (unsigned_abs position)) position told → TellsBoundaryIn image g position told
  inside_told true from within reached = record { from_start = from; within = omega (arith, ints, within); reached = inr reached }
  inside_told false from within told = (
    λ boundary. elim boundary.reached [
      | inl recorded ↦ omega (arith, ints, recorded, within)
      | inr reached ↦ told.0 reached
    ],
    told.1,
  )
