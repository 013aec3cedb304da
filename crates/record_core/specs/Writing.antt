-- Which block a recorder session writes next: docs/CONTROL.md, "Recorder sessions", and docs/PROTOCOL.md, "Blocks".
use Rattle.std.specs.Prelude.{◌≡◌, ◌==◌, ◌<◌, ◌≤◌, Bool, true, false, not, Result, Ok, Err, unsigned_abs}
use Rattle.std.specs.Ordering.{int_eq}
use Rattle.frame_core.specs.declared.block.Block.{Block}
use Rattle.frame_core.specs.declared.refusal.Refusal.{Refusal}
use Rattle.frame_core.specs.declared.refusal.Refusal.TheVariants.{BadBlock, NeedSettle}
use Rattle.frame_core.specs.Block.{IsBlock}
use Rattle.archive_model.specs.declared.descriptor.Descriptor.{Descriptor}
use Rattle.archive_model.specs.Register.{base_of}
use Rattle.archive_model.specs.State.{geometry_of, publication_of}
use Rattle.record_core.specs.declared.recording.Recording.{Recording}

-- what the session wrote and settled ends at the start of the recording or behind it
pub record IsPartOf (d : Descriptor) (r : Recording) : Type 0 where
  pub term : 0 < unsigned_abs d.term_length
  pub segment : 0 < unsigned_abs d.segment_length
  pub committed : unsigned_abs d.start_position ≤ unsigned_abs r.committed
  pub written : unsigned_abs d.start_position ≤ unsigned_abs r.written

-- a block of the recording's publication, which begins where the last one that was written ends
pub record IsNextBlock (r : Recording) (d : Descriptor) (block : Block) : Type 0 where
  pub is_block : IsBlock (geometry_of d) (publication_of d) block
  pub follows : block.position ≡ r.written

-- something is written that is not settled
abbrev pub must_settle : Recording → Bool
must_settle r = not (int_eq r.written r.committed)

-- the next block would begin in another segment than the first one that is written and not settled
abbrev pub needs_settle : Descriptor → Recording → Bool
needs_settle d r = not (base_of d (unsigned_abs r.committed) == base_of d (unsigned_abs r.written))

-- whether a block may be written: where it is the next one, in the segment of what waits to be settled
abbrev pub MayWrite : {X : Type 0} → Recording → Descriptor → Block → Result X Refusal → Type 0
MayWrite r d block (Ok x) = IsNextBlock r d block × (needs_settle d r ≡ false)
MayWrite r d block (Err BadBlock) = IsNextBlock r d block → ⊥
MayWrite r d block (Err NeedSettle) = IsNextBlock r d block × (needs_settle d r ≡ true)
MayWrite r d block (Err _) = ⊥
