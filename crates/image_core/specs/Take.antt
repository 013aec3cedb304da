-- What is given of a stream, and what is missing: docs/PROTOCOL.md, "Images".
use Rattle.std.specs.Prelude.{◌≡◌, ◌<◌, ◌+ℤ◌, ◌++◌, ℕ, ℤ, pos, List, [], ◌∷◌, map}
use Rattle.frame_core.specs.declared.frame.Frame.{Frame}
use Rattle.frame_core.specs.declared.block.Block.{Block}
use Rattle.frame_core.specs.declared.block.Publication.{Publication}
use Rattle.frame_core.specs.declared.geometry.Geometry.{Geometry}
use Rattle.frame_core.specs.declared.nak.Nak.{Nak}
use Rattle.frame_core.specs.Block.{AreBlockOf}
use Rattle.frame_core.specs.Nak.{HasRange}
use Rattle.frame_core.specs.Position.{HasPosition}
use Rattle.image_core.specs.Received.{IsChain, StandsFor}
use Rattle.image_core.specs.Received.{Received, gap_end, rebuilt}

-- with the first frame of those that are left, if there is one, frames would be no block at a position
abbrev pub IsLongest : Geometry → Publication → List Frame → ℤ → List (ℕ × Frame) → Type 0
IsLongest g publication fs position [] = Unit {0}
IsLongest g publication fs position (m ∷ ms) = AreBlockOf g publication (fs ++ m.1 ∷ []) position → ⊥

-- the first frames were taken from those that are held: a block of the publication, as long as it can be, whose frames follow one another from where it begins to where the rest does
pub record TakesBlock (g : Geometry) (publication : Publication) (from : ℕ) (before : List (ℕ × Frame)) (given : List Frame) (to : ℕ) (after : List (ℕ × Frame)) : Type 0 where
  pub taken : List (ℕ × Frame)
  pub left : before ≡ taken ++ after
  pub chain : IsChain from taken to
  pub frames : given ≡ map (λ m. m.1) taken
  pub block : AreBlockOf g publication given (pos from)
  pub longest : IsLongest g publication given (pos from) after

-- a block was given of the first frames that were held, and they are held no more. What an image held of all that it received it holds still, apart from what was taken
pub record GivesBlock (old : Received) (b : Block) (new : Received) : Type 0 where
  pub begins : b.position ≡ pos old.from
  pub takes : TakesBlock old.geometry old.publication old.from old.joined b.frames new.from new.joined
  pub same : new ≡ record old { from = new.from; joined = new.joined }
  pub whole : (all : Received) → StandsFor all old → StandsFor all new

-- a request for what is missing first: from the rebuild position, which lies below the high-water mark, to the gap's end
pub record IsGap (r : Received) (n : Nak) : Type 0 where
  pub missing : rebuilt r < r.high
  pub session_id : n.session_id ≡ r.publication.session_id
  pub stream_id : n.stream_id ≡ r.publication.stream_id
  pub begins : HasPosition r.geometry n.term_id n.term_offset (pos (rebuilt r))
  pub ends : pos (rebuilt r) +ℤ n.length ≡ pos (gap_end r)
  pub range : HasRange n
