-- A compaction that was refused.
use Rattle.std.proofs.Common.{◌≡◌, ◌⊎◌, inl, inr}
use Rattle.std.specs.Prelude.{IfErr, Result, Ok, Err}
use Rattle.engine_core.proofs.Words.{DeviceFault, LeavesOnly, Life, MayLeave, ReadsAsBefore, Refusal}
use Rattle.catalogue_log.specs.Catalogue.{KeepsReads}

-- each file reads as before
pub kept_as_before : (result : Result (Unit {0}) Refusal) (old new : Life) → IfErr result (λ refusal. (refusal ≡ DeviceFault) ⊎ (KeepsReads old new × LeavesOnly old new (MayLeave old.now)))
    → IfErr result (λ refusal. (refusal ≡ DeviceFault) ⊎ ReadsAsBefore old new)
kept_as_before (Ok done) old new kept = tt
kept_as_before (Err refusal) old new (inl fault) = inl fault
kept_as_before (Err refusal) old new (inr same) = inr (record { same = same.0.reads; any_moment = same.1; obeyed = same.0.obeyed; faults = same.0.faults })
