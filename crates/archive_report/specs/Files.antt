-- The files of an archive, as `describe` reports them: docs/CONTROL.md, "A page for people".
use Rattle.std.specs.Prelude.{◌≡◌, ◌+◌, ◌^◌, ◌-◌, ◌-ℤ◌, ℕ, ℤ, pos, Bool, true, false, List, Option, None, Some, IsSome, codes, count_by, sum_by, filter, int_le, length, map, min, unsigned_abs, if◌then◌else◌}
use Rattle.std.specs.Int.{int_max, saturate_signed, w64}
use Rattle.std.specs.Ordering.{int_eq}
use Rattle.disk_core.specs.declared.file_id.FileId.{FileId}
use Rattle.disk_core.specs.declared.file_id.FileId.TheVariants.{BankA, BankB, Segment}
use Rattle.disk_core.specs.DiskImage.{DiskImage, bytes_of}
use Rattle.disk_core.specs.FileNames.{AreFilesWith}
use Rattle.segment_store.specs.Stale.{AreStale}
use Rattle.archive_model.specs.declared.registration.Registration.{Registration}
use Rattle.archive_model.specs.Register.{RegisterState, registration_in}
use Rattle.engine_core.specs.Moves.{registered_keeps}
use Rattle.archive_view.specs.View.{is_unknown}
use Rattle.archive_report.specs.declared.summary.Measured.{Measured}
use Rattle.archive_report.specs.declared.summary.Total.{Total}
use Rattle.archive_report.specs.declared.summary.Staleness.{Staleness}
use Rattle.archive_report.specs.declared.summary.Staleness.TheVariants.{Gone, Empty, Behind, Before}

-- a file with its length on an image
abbrev pub measured_on : DiskImage → FileId → Measured
measured_on image file = record { file = file; bytes = length (bytes_of (image file)) }

-- those of these files whose recording was never begun
abbrev pub unknown_among : RegisterState → List Measured → List FileId
unknown_among g files = filter (is_unknown g) (map (λ m. m.file) files)

-- These are the files of an image, each once, in order and with its length; and those of them that a sweep would remove.
pub record ShowsFiles (image : DiskImage) (g : RegisterState) (files : List Measured) (stale : List FileId) : Type 0 where
  pub names : List FileId
  pub all : AreFilesWith (λ file. IsSome (image file)) names
  pub measured : files ≡ map (measured_on image) names
  pub stales : AreStale image (registered_keeps g) stale

-- a count stops at the last u64
abbrev pub capped : ℕ → ℕ
capped n = min n (2 ^ 64 - 1)

-- a segment file
abbrev pub is_segment : FileId → Bool
is_segment BankA = false
is_segment BankB = false
is_segment (Segment recording base) = true

-- a segment file of the recording of an id
abbrev pub is_segment_of : ℤ → FileId → Bool
is_segment_of id BankA = false
is_segment_of id BankB = false
is_segment_of id (Segment recording base) = int_eq recording id

-- how many of these files are such, and how many bytes those have
unfoldable pub total_of : (FileId → Bool) → List Measured → Total
total_of is_such files = record {
  files = capped (count_by (λ m. is_such m.file) files);
  bytes = capped (sum_by (λ m. if is_such m.file then m.bytes else 0) files);
}

-- one file more, if it is such
abbrev pub with_file : Bool → ℕ → Total → Total
with_file false bytes t = t
with_file true bytes t = record { files = capped (t.files + 1); bytes = capped (t.bytes + bytes) }

-- how many bytes of its stream a recording has
abbrev pub recorded_bytes : Registration → ℕ
recorded_bytes r = unsigned_abs (int_max (saturate_signed w64 (r.recorded -ℤ r.descriptor.start_position)) (pos 0))

-- why a sweep would remove the segment file with this base, by its recording
abbrev pub staleness_by : Option Registration → ℤ → Staleness
staleness_by None base = Gone
staleness_by (Some r) base =
    if int_eq r.recorded r.descriptor.start_position then Empty
    else (if int_le r.recorded base then Behind else Before)

-- why a sweep would remove a file
abbrev pub staleness_of : RegisterState → FileId → Staleness
staleness_of g BankA = Gone
staleness_of g BankB = Gone
staleness_of g (Segment id base) = staleness_by (registration_in g id) base

-- why, in words
abbrev pub why_text : Staleness → List ℕ
why_text Gone = codes "the recording was purged"
why_text Empty = codes "the recording is empty"
why_text Behind = codes "it lies behind the recorded position"
why_text Before = codes "it lies before the first position"
