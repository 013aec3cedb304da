-- The frames of a datagram: docs/PROTOCOL.md, "Datagrams".
use Rattle.std.specs.Prelude.{◌≡◌, ◌≢◌, ◌<◌, ◌+◌, ◌⊎◌, ℕ, List, [], ◌∷◌, length, drop}
use Rattle.frame_core.specs.declared.frame.FrameKind.TheVariants.{Heartbeat}
use Rattle.frame_core.specs.declared.frame.Frame.{Frame}
use Rattle.frame_core.specs.declared.refusal.Refusal.{Refusal}
use Rattle.frame_core.specs.declared.refusal.Refusal.TheVariants.{NoMemory, BadFrame}
use Rattle.frame_core.specs.Front.{IsFront}

-- these frames, none of them a heartbeat, stand one after another from the start, and use that many bytes
abbrev pub Leads : List ℕ → List Frame → ℕ → Type 0
Leads bytes [] end = end ≡ 0
Leads bytes (f ∷ fs) end = (used rest : ℕ) × IsFront bytes f used × (f.kind ≢ Heartbeat) × Leads (drop used bytes) fs rest × (end ≡ used + rest)

-- a heartbeat stands in front
abbrev pub BeginsWithHeartbeat : List ℕ → Type 0
BeginsWithHeartbeat bytes = (f : Frame) × (used : ℕ) × IsFront bytes f used × (f.kind ≡ Heartbeat)

-- no frame stands in front
abbrev pub HasNoFront : List ℕ → Type 0
HasNoFront bytes = (f : Frame) (used : ℕ) → IsFront bytes f used → ⊥

-- a heartbeat alone
abbrev pub IsLoneHeartbeat : List ℕ → List Frame → Type 0
IsLoneHeartbeat bytes fs = (f : Frame) × (used : ℕ) × IsFront bytes f used × (f.kind ≡ Heartbeat) × (fs ≡ f ∷ [])

-- a datagram of these frames: at least one, up to its end, or a heartbeat with whatever follows
abbrev pub IsDatagram : List ℕ → List Frame → Type 0
IsDatagram bytes fs = ((0 < length bytes) × Leads bytes fs (length bytes)) ⊎ IsLoneHeartbeat bytes fs

-- a datagram whose first bad frame is at the offset: no frame stands there, or a heartbeat that is not the first
pub record IsBadAt (bytes : List ℕ) (offset : ℕ) : Type 0 where
  pub before : List Frame
  pub leads : Leads bytes before offset
  pub goes_on : (offset < length bytes) ⊎ (offset ≡ 0)
  pub bad : HasNoFront (drop offset bytes) ⊎ ((0 < offset) × BeginsWithHeartbeat (drop offset bytes))

-- a datagram is refused so
abbrev pub IsDatagramRefusal : List ℕ → Refusal → Type 0
IsDatagramRefusal bytes NoMemory = Unit {0}
IsDatagramRefusal bytes (BadFrame offset) = IsBadAt bytes offset
IsDatagramRefusal bytes _ = ⊥
