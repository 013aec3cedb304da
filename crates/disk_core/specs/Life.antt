-- A disk over time: docs/STORAGE.md, "Moments".
use Rattle.std.specs.Prelude.{◌≡◌, ◌≢◌, ◌⊎◌, ℕ, ◌+◌, ◌-◌, ◌^◌, ◌≤◌, min, Bool, IsTrue, List, [], ◌∷◌, ◌++◌, length, drop, Result, OnOk, OnErr, IsErrOf}
use Rattle.disk_core.specs.declared.file_id.FileId.{FileId}
use Rattle.disk_core.specs.declared.fault.ListFault.{ListFault}
use Rattle.disk_core.specs.declared.fault.ListFault.TheVariants.{Device}
use Rattle.disk_core.specs.DiskImage.{DiskImage, FileState, Files, MayLeave, reads, bytes_of}

-- a disk, now and at each earlier moment
pub record Life : Type 0 where
  -- what was read is what had been written, and nobody else wrote
  pub obeys : Bool
  -- the files at each earlier moment, the first of them first: one for each call that changed something
  pub past : List Files
  pub now : Files
  -- how often a call has failed, up to the last u64
  pub faults : ℕ

-- the files at each moment up to now
abbrev pub moments : Life → List Files
moments life = life.past ++ life.now ∷ []

-- this moment, as a number
abbrev pub moment : Life → ℕ
moment life = length life.past

-- what the file reads as now, no bytes if it is absent
abbrev pub bytes_now : Life → FileId → List ℕ
bytes_now life file = bytes_of (reads life.now file)

-- a crash in one of these states may leave this image
abbrev pub AnyLeaves : List Files → DiskImage → Type 0
AnyLeaves [] image = ⊥
AnyLeaves (files ∷ rest) image = MayLeave files image ⊎ AnyLeaves rest image

-- A crash at some moment since that one may have left this image. A crash within a call leaves what one
-- before it or one after it may leave (`writes_keep_outcomes` to `syncs_add_no_outcome` in src/laws.rt).
abbrev pub MayHaveLeft : Life → ℕ → DiskImage → Type 0
MayHaveLeft life since image = AnyLeaves (drop since (moments life)) image

-- nothing changed but the count of faults
pub record IsQuiet (old new : Life) : Type 0 where
  pub obeyed : IsTrue new.obeys → IsTrue old.obeys
  pub past : new.past ≡ old.past
  pub now : new.now ≡ old.now
  pub faults : old.faults ≤ new.faults

-- a call that may change one file: a moment later, or no moment has passed and nothing has changed
pub record Steps (file : FileId) (Change : FileState → FileState → Type 0)
    (old new : Life) : Type 0 where
  pub obeyed : IsTrue new.obeys → IsTrue old.obeys
  pub this : Change (old.now file) (new.now file)
  pub others : (other : FileId) → other ≢ file → new.now other ≡ old.now other
  pub time : (moments new ≡ moments old ++ new.now ∷ [])
      ⊎ ((new.past ≡ old.past) × (new.now ≡ old.now))
  pub faults : old.faults ≤ new.faults

-- where the call succeeds, it has made exactly this change of the file
abbrev pub Makes : {T E : Type 0} → Result T E → FileId → (FileState → FileState)
    → Life → Life → Type 0
Makes result file change old new = OnOk result (new.now file ≡ change (old.now file))

-- the count of faults rose, unless it was at its last value
abbrev pub HasFailed : Life → Life → Type 0
HasFailed old new = min (old.faults + 1) (2 ^ 64 - 1) ≤ new.faults

-- a fault is answered only where the count rose
abbrev pub HasCause : {T E : Type 0} → Result T E → Life → Life → Type 0
HasCause result old new = OnErr result (HasFailed old new)

-- the same of a listing, which may also find no memory
abbrev pub HasListCause : {T : Type 0} → Result T ListFault → Life → Life → Type 0
HasListCause result old new = IsErrOf result Device → HasFailed old new

-- where the call succeeds, no fault was counted
abbrev pub IsSteady : {T E : Type 0} → Result T E → Life → Life → Type 0
IsSteady result old new = OnOk result (new.faults ≡ old.faults)

-- every image that a crash since the old moment may have left has P
pub record LeavesOnly (old new : Life) (P : DiskImage → Type 0) : Type 0 where
  pub since : List Files
  pub extends : moments new ≡ moments old ++ since
  pub each : (image : DiskImage) → MayHaveLeft new (moment old) image → P image
