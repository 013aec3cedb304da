-- The blocks of an image whose datagrams come from an end, and what is asked for there: docs/ARCHITECTURE.md, "Blocks from datagrams".
use Rattle.std.specs.Prelude.{◌≡◌, ◌⊎◌, ℕ, List, [], ◌∷◌, Option, Some, None}
use Rattle.frame_core.specs.declared.block.Block.{Block}
use Rattle.frame_core.specs.declared.nak.Nak.{Nak}
use Rattle.frame_core.specs.Datagram.{IsBadAt}
use Rattle.frame_core.specs.Nak.{encoded_nak}
use Rattle.image_core.specs.declared.inserted.Inserted.{Inserted}
use Rattle.image_core.specs.Insert.{Inserts, IsForeign}
use Rattle.image_core.specs.Received.{Received, rebuilt}
use Rattle.image_core.specs.Take.{GivesBlock, IsGap}

-- what an image received, and the end that its datagrams come from
pub record SourceState (E : Type 0) : Type 0 where
  pub image : Received
  pub end : E

-- all that was rebuilt was taken
abbrev pub HasNoBlock : Received → Type 0
HasNoBlock image = rebuilt image ≡ image.from

module _ {E : Type 0} (receives : E → Option (List ℕ) → E → Type 0) (sends : E → List ℕ → E → Type 0) where
  -- one request was sent for what is missing first of an image; or nothing was, and nothing is missing
  abbrev pub SendsRequest : Received → E → E → Type 0
  SendsRequest image old new =
      ((nak : Nak) × IsGap image nak × sends old (encoded_nak nak) new)
      ⊎ ((rebuilt image ≡ image.high) × (new ≡ old))

  -- a datagram was inserted, and then what is missing was asked for; or it was refused as no datagram of frames, and nothing
  -- changed and nothing was sent
  abbrev pub HandlesDatagram : SourceState E → List ℕ → SourceState E → Type 0
  HandlesDatagram old bytes new =
      ((inserted : Inserted) × Inserts old.image bytes inserted new.image × SendsRequest new.image old.end new.end)
      ⊎ ((IsForeign bytes → ⊥) × (offset : ℕ) × IsBadAt bytes offset × (new ≡ old))

  -- a datagram came while there was no block to take
  pub record TakesDatagram (old : SourceState E) (bytes : List ℕ) (new : SourceState E) : Type 0 where
    pub none : HasNoBlock old.image
    pub received : E
    pub came : receives old.end (Some bytes) received
    pub handled : HandlesDatagram (record { image = old.image; end = received }) bytes new

  -- datagrams came, one after another
  abbrev pub TakesDatagrams : SourceState E → List (List ℕ) → SourceState E → Type 0
  TakesDatagrams old [] new = new ≡ old
  TakesDatagrams old (bytes ∷ more) new = (mid : SourceState E) × TakesDatagram old bytes mid × TakesDatagrams mid more new

  -- Nothing is given: no more came; or there was no memory for the block that is to be taken; or none for a datagram that
  -- isn't foreign, which is lost.
  abbrev pub GivesNoBlock : SourceState E → SourceState E → Type 0
  GivesNoBlock old new =
      (HasNoBlock old.image × (new.image ≡ old.image) × receives old.end None new.end)
      ⊎ ((HasNoBlock old.image → ⊥) × (new ≡ old))
      ⊎ (HasNoBlock old.image × (new.image ≡ old.image) × (bytes : List ℕ) × receives old.end (Some bytes) new.end × (IsForeign bytes → ⊥))

  -- the first block of the image is given, and its end stays as it was; or none is
  abbrev pub GivesNext : SourceState E → Option Block → SourceState E → Type 0
  GivesNext old (Some block) new = GivesBlock old.image block new.image × (new.end ≡ old.end)
  GivesNext old None new = GivesNoBlock old new

  -- Datagrams came until there was a block to take, no more came, or there was no memory; and then a block was given, or none.
  pub record GivesFromImage (old : SourceState E) (block : Option Block) (new : SourceState E) : Type 0 where
    pub datagrams : List (List ℕ)
    pub mid : SourceState E
    pub taken : TakesDatagrams old datagrams mid
    pub given : GivesNext mid block new
