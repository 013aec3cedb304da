-- The plain book of an archive, and which blocks go on where a recording ends. docs/CONTROL.md, "Requests".
use Rattle.std.specs.Prelude.{◌≡◌, ◌≢◌, ◌+◌, ℕ, ℤ, Bool, true, false, List, [], ◌∷◌, Option, if◌then◌else◌}
use Rattle.frame_core.specs.declared.block.Block.{Block}
use Rattle.frame_core.specs.declared.geometry.Geometry.{Geometry}
use Rattle.frame_core.specs.declared.block.Publication.{Publication}
use Rattle.frame_core.specs.Block.{IsBlock, end_position}
use Rattle.archive_model.specs.declared.command.Command.{Command}
use Rattle.archive_model.specs.declared.command.Command.TheVariants.{Restart}
use Rattle.archive_model.specs.State.{Recording, State, id_of, recorded_position, geometry_of, publication_of}
use Rattle.archive_model.specs.Keyed.{find}
use Rattle.archive_model.specs.Commands.{after}

-- A state, and beside it how many entries of the history count, and how many it may have.
pub record BookState : Type 0 where
  pub state : State
  pub counted : ℕ
  pub limit : ℕ

-- which commands count as an entry of the history
abbrev pub counts : Command → Bool
counts Restart = false
counts _ = true

-- what an accepted command makes of the book
abbrev pub book_after : BookState → Command → BookState
book_after b c = record b { state = after b.state c; counted = if counts c then b.counted + 1 else b.counted }

-- blocks of a publication, the first at a position, and each following one where the one before ends
abbrev pub AreBlocksFrom : Geometry → Publication → ℤ → List Block → Type 0
AreBlocksFrom g publication position [] = Unit {0}
AreBlocksFrom g publication position (b ∷ bs) = IsBlock g publication b × (b.position ≡ position) × AreBlocksFrom g publication (end_position b) bs

-- at least one block, from the recorded position on
abbrev pub Continue : Recording → List Block → Type 0
Continue r blocks = (blocks ≢ []) × AreBlocksFrom (geometry_of r.descriptor) (publication_of r.descriptor) (recorded_position r) blocks

-- the recording of an id
abbrev pub recording_in : BookState → ℤ → Option Recording
recording_in b id = find id_of id b.state.recordings
