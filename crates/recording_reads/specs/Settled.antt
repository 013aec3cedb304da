-- How settled frames are read by a disk of the reader's own, next to an archive: docs/CONTROL.md, "Replays".
use Rattle.std.specs.Prelude.{◌≡◌, ◌≤◌, ◌*◌, ◌/◌, ◌^◌, ◌&&◌, ℕ, ℤ, Bool, IsTrue, Vec, Contains, int_le, nat_le, unsigned_abs}
use Rattle.std.specs.declared.alloc.Global.{Global}
use Rattle.disk_core.specs.DiskImage.{DiskImage, reads}
use Rattle.disk_core.specs.Life.{Life}
use Rattle.frame_core.specs.declared.frame.Frame.{Frame}
use Rattle.frame_core.specs.Limits.{is_mtu, is_term_length}
use Rattle.frame_core.specs.declared.refusal.Refusal.{Refusal}
use Rattle.segment_store.specs.declared.layout.Layout.{Layout}
use Rattle.segment_store.specs.Layout.{IsFromStart}
use Rattle.replay_core.specs.declared.cache.PageKey.{PageKey}
use Rattle.replay_core.specs.Pages.{Agrees, Pages}
use Rattle.archive_model.specs.declared.descriptor.Descriptor.{Descriptor}
use Rattle.archive_model.specs.declared.registration.Registration.{Registration}
use Rattle.archive_model.specs.Descriptor.{is_aligned}
use Rattle.archive_model.specs.State.{geometry_of}
use Rattle.control_core.specs.declared.callers.OpenReplay.{OpenReplay}
use Rattle.control_core.specs.Orderly.{IsLaidOut}
use Rattle.recording_reads.specs.Handing.{TakesSome}
use Rattle.recording_reads.specs.Reading.{RefusesPoll}
use Rattle.recording_reads.specs.Recording.{layout_of}

-- a recording as far as it was seen to be recorded, and a replay of it
pub record CursorView : Type 0 where
  pub known : Registration
  pub replay : OpenReplay

-- A replay of a recording can be read: the recording is laid out, and the replay goes on at its start or past it.
pub record IsReadable (known : Registration) (replay : OpenReplay) : Type 0 where
  pub laid_out : IsLaidOut known
  pub from_start : IsFromStart (layout_of known.descriptor) replay.next

-- its terms, segments, MTU and start are such that its frames can be found
abbrev pub has_layout : Descriptor → Bool
has_layout d =
    is_term_length d.term_length && is_term_length d.segment_length && int_le d.term_length d.segment_length && is_mtu d.mtu && is_aligned d.start_position
    && nat_le (unsigned_abs d.start_position) (2 ^ 31 * unsigned_abs d.term_length)

-- a recording, as recorded up to a position that was seen
abbrev pub seen_to : ℤ → Registration → Registration
seen_to seen known = record known { recorded = seen }

-- a cursor that has seen its recording up to a position, and whose replay goes on at another
abbrev pub moved : ℤ → ℤ → CursorView → CursorView
moved seen next cursor = record { known = seen_to seen cursor.known; replay = record cursor.replay { next = next } }

-- each kept page has what the disk reads, from a recording's start on
abbrev pub PagesAgree : Life → Layout → Pages → Type 0
PagesAgree life l pages =
    IsTrue life.obeys → (key : PageKey) (page : Vec ℕ Global) → Contains pages (key, page)
    → (position : ℕ) → unsigned_abs l.start_position ≤ position → position / 4096 ≡ key.number → Agrees (reads life.now) l position page.items

-- Why a turn is refused: as a poll is, with the position that was seen in place of the recorded one. The replay stays where
-- it was. The taker took some frames, and no more, or then left one for which it had no memory.
pub record RefusesTurn {T : Type 0} (takes : T → ℤ → Frame → T → Type 0) (leaves : T → T → Type 0) (old new : T) (obeys : Bool) (image : DiskImage) (seen most : ℤ) (before after : CursorView) (refusal : Refusal) : Type 0 where
  pub why : RefusesPoll obeys image (layout_of before.known.descriptor) (geometry_of before.known.descriptor) seen before.replay.bound (unsigned_abs most) (unsigned_abs before.replay.next) refusal
  pub stays : after.replay ≡ before.replay
  pub left : TakesSome takes leaves old new
