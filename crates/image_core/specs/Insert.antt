-- What the insertion of a datagram answers: docs/PROTOCOL.md, "Images".
use Rattle.std.specs.Prelude.{◌≡◌, ◌<◌, ◌≤◌, ◌+◌, ◌⊎◌, ℕ, Bool, true, false, List, [], ◌∷◌, length}
use Rattle.frame_core.specs.declared.frame.Frame.{Frame}
use Rattle.frame_core.specs.declared.refusal.Refusal.{Refusal}
use Rattle.frame_core.specs.declared.refusal.Refusal.TheVariants.{NoMemory, BadFrame}
use Rattle.frame_core.specs.Datagram.{IsDatagram, IsBadAt}
use Rattle.frame_core.specs.FrameEncoding.{u16_at}
use Rattle.image_core.specs.declared.inserted.Inserted.{Inserted}
use Rattle.image_core.specs.declared.fate.Fate.{Fate}
use Rattle.image_core.specs.declared.fate.Fate.TheVariants.{Joins, Tells, Drops}
use Rattle.image_core.specs.Received.{Received, fate, received, received_all}
use Rattle.image_core.specs.Received.{StandsFor}

-- its header's type is neither that of pads nor that of data
abbrev pub IsForeign : List ℕ → Type 0
IsForeign bytes = (8 ≤ length bytes) × (1 < u16_at bytes 6)

-- nothing is counted yet
abbrev pub uncounted : Bool → Inserted
uncounted foreign = record { held = 0; dropped = 0; heartbeat = false; foreign = foreign }

-- one more frame is counted, by what becomes of it
abbrev pub counted : Inserted → Fate → Inserted
counted i (Joins p) = record i { held = i.held + 1 }
counted i (Tells p) = record i { heartbeat = true }
counted i Drops = record i { dropped = i.dropped + 1 }

-- some more frames, in order
abbrev pub tally : Inserted → Received → List Frame → Inserted
tally i r [] = i
tally i r (f ∷ fs) = tally (counted i (fate r f)) (received r f) fs

-- the frames of a datagram were received, each was counted, and what an image held of all that it received it holds still
pub record TakesIn (old : Received) (fs : List Frame) (i : Inserted) (new : Received) : Type 0 where
  pub counts : i ≡ tally (uncounted false) old fs
  pub after : new ≡ received_all old fs
  pub whole : (all : Received) → StandsFor all old → StandsFor (received_all all fs) new

-- a foreign datagram changes nothing, and another is a datagram of frames
abbrev pub Inserts : Received → List ℕ → Inserted → Received → Type 0
Inserts old bytes i new =
    (IsForeign bytes × (i ≡ uncounted true) × (new ≡ old))
    ⊎ ((IsForeign bytes → ⊥) × (fs : List Frame) × IsDatagram bytes fs × TakesIn old fs i new)

-- why a datagram isn't inserted
abbrev pub IsInsertRefusal : List ℕ → Refusal → Type 0
IsInsertRefusal bytes NoMemory = IsForeign bytes → ⊥
IsInsertRefusal bytes (BadFrame offset) = (IsForeign bytes → ⊥) × IsBadAt bytes offset
IsInsertRefusal bytes _ = ⊥
