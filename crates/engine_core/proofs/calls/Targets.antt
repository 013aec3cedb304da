-- Where a recorder session's block is written: docs/CONTROL.md, "Recorder sessions".
use Rattle.std.specs.Prelude.{◌≡◌, ℤ, Some}
use Rattle.engine_core.proofs.Words.{Block, DeskState, IsBlock, KeepsDesk, Layout, RecorderSession, Registration, end_position, geometry_of, layout_of, publication_of, registration_in, session_in}

-- The session of a number writes a recording of this layout, and the block is one of its terms, session and stream, and
-- ends there.
pub record IsTarget (d : DeskState) (number : ℤ) (block : Block) (layout : Layout) (end : ℤ) : Type 0 where
  pub session : RecorderSession
  pub registration : Registration
  pub found : session_in d number ≡ Some session
  pub known : registration_in d.register session.recording ≡ Some registration
  pub is_block : IsBlock (geometry_of registration.descriptor) (publication_of registration.descriptor) block
  pub layout_is : layout ≡ layout_of registration.descriptor
  pub end_is : end ≡ end_position block
  pub keeps : KeepsDesk d.register d.callers

-- no session of the number writes a recording whose block it is
abbrev pub HasNoTarget : DeskState → ℤ → Block → Type 0
HasNoTarget d number block =
    (s : RecorderSession) (r : Registration) → session_in d number ≡ Some s → registration_in d.register s.recording ≡ Some r →
    IsBlock (geometry_of r.descriptor) (publication_of r.descriptor) block → ⊥
