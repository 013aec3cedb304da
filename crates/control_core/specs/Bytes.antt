-- Bytes that a recorder session writes: the terms by which they are read, and what becomes of them. docs/CONTROL.md,
-- "Recorder sessions".
use Rattle.std.specs.Prelude.{◌≡◌, ℤ, ℕ, List, Option, Some, None, Result, Ok, Err, if◌then◌else◌}
use Rattle.frame_core.specs.declared.block.Block.{Block}
use Rattle.frame_core.specs.declared.geometry.Geometry.{Geometry}
use Rattle.frame_core.specs.declared.refusal.Refusal.{Refusal}
use Rattle.frame_core.specs.declared.refusal.Refusal.TheVariants.{Broken, NoMemory, StaleSession, UnknownRecording}
use Rattle.frame_core.specs.Block.{AreBlock, IsBlockRefusal}
use Rattle.frame_core.specs.Datagram.{IsDatagram}
use Rattle.archive_model.specs.declared.registration.Registration.{Registration}
use Rattle.archive_model.specs.Register.{registration_in}
use Rattle.archive_model.specs.State.{geometry_of}
use Rattle.control_core.specs.declared.callers.RecorderSession.{RecorderSession}
use Rattle.control_core.specs.Desk.{DeskState}
use Rattle.control_core.specs.Exact.{Archive, ArchiveEnd, Is}
use Rattle.control_core.specs.Turns.{session_in}

-- the terms of a recording; the one that an open session writes is always there
abbrev pub terms_of : Option Registration → Result Geometry Refusal
terms_of None = Err UnknownRecording
terms_of (Some r) = Ok (geometry_of r.descriptor)

-- the terms of the recording that a session writes
abbrev pub terms_by : DeskState → Option RecorderSession → Result Geometry Refusal
terms_by d None = Err StaleSession
terms_by d (Some s) = terms_of (registration_in d.register s.recording)

-- the terms by which the bytes that a session writes are read: none where a write has failed
abbrev pub terms_in : DeskState → ℤ → Result Geometry Refusal
terms_in d session = if d.is_broken then Err Broken else terms_by d (session_in d session)

-- bytes are a block by these terms, or how they are refused; without terms they are not read
abbrev pub IsReadBy : Result Geometry Refusal → List ℕ → Result Block Refusal → Type 0
IsReadBy (Err refusal) bytes read = read ≡ Err refusal
IsReadBy (Ok g) bytes (Ok block) = IsDatagram bytes block.frames × AreBlock g block.frames block.position
IsReadBy (Ok g) bytes (Err NoMemory) = ⊥
IsReadBy (Ok g) bytes (Err refusal) = IsBlockRefusal g bytes refusal

-- a block is handed on; what is none is refused, and nothing has changed
abbrev pub ReadEnd : Archive → (Block → ArchiveEnd) → Result Block Refusal → ArchiveEnd
ReadEnd a Then (Ok block) = Then block
ReadEnd a Then (Err refusal) = Is (Err refusal) a

-- The terms are looked for, then the bytes are read by them, and the block is handed on.
abbrev pub BytesEnd : Archive → ℤ → List ℕ → (Block → ArchiveEnd) → ArchiveEnd
BytesEnd a session bytes Then outcome new =
    (read : Result Block Refusal) × IsReadBy (terms_in a.desk session) bytes read × ReadEnd a Then read outcome new
