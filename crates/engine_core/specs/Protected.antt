-- What stays in place while a replay is open, so that its frames may be read without the archive's lock: docs/CONTROL.md,
-- "Replays"; docs/STORAGE.md, "Recovery".
use Rattle.std.specs.Prelude.{◌≡◌, ◌≤ℤ◌, ◌++◌, ℕ, ℤ, pos, int_le, Bool, false, List, [], ◌∷◌, filter, unsigned_abs, Some, IsSomeAnd, Result, Ok}
use Rattle.std.specs.Ordering.{int_eq}
use Rattle.disk_core.specs.DiskImage.{DiskImage}
use Rattle.disk_core.specs.Life.{LeavesOnly}
use Rattle.frame_core.specs.declared.refusal.Refusal.{Refusal}
use Rattle.segment_store.specs.Layout.{base_of}
use Rattle.segment_store.specs.Stored.{HoldsFrame}
use Rattle.archive_model.specs.declared.registration.Registration.{Registration}
use Rattle.archive_model.specs.declared.reply.PolledFrame.{PolledFrame}
use Rattle.archive_model.specs.declared.reply.Reply.{Reply}
use Rattle.archive_model.specs.Keyed.{Each, find}
use Rattle.archive_model.specs.Replay.{placed_frames}
use Rattle.archive_model.specs.State.{Recording, State, geometry_of, id_of, recorded_position}
use Rattle.recording_reads.specs.Recording.{layout_of}
use Rattle.control_core.specs.declared.callers.OpenReplay.{OpenReplay}
use Rattle.control_core.specs.declared.event.Event.{Event}
use Rattle.control_core.specs.declared.event.Event.TheVariants.{ReplayClose}
use Rattle.control_core.specs.Desk.{DeskState}
use Rattle.control_core.specs.Turns.{open_replay_in}
use Rattle.engine_core.specs.Engine.{EngineState}

-- ---- frames from a position on

-- a frame begins at a position or past it
abbrev pub is_from : ℤ → PolledFrame → Bool
is_from p f = int_le p f.position

-- the recorded frames that do, each with where it begins
abbrev pub frames_from : ℤ → Recording → List PolledFrame
frames_from p r = filter (is_from p) (placed_frames r)

-- each of them is in the image, in its place
abbrev pub StandFrom : DiskImage → ℤ → Recording → Type 0
StandFrom image p r = Each (λ (f : PolledFrame). HoldsFrame image (layout_of r.descriptor) (unsigned_abs f.position) f.frame) (frames_from p r)

-- ---- a recording that is read from a position on

-- What became of a recording that is read from a position on. Its frames from there on are those that it had, with perhaps
-- more after them. They are of the same stream and terms, and in the same files, at the same offsets. It begins at the
-- position or before it.
pub record KeepsFrom (p : ℤ) (r new : Recording) : Type 0 where
  pub more : List PolledFrame
  pub frames : frames_from p new ≡ frames_from p r ++ more
  pub id : new.descriptor.recording ≡ r.descriptor.recording
  pub stream : new.descriptor.stream_id ≡ r.descriptor.stream_id
  pub geometry : geometry_of new.descriptor ≡ geometry_of r.descriptor
  pub places : (q : ℕ) → p ≤ℤ pos q → base_of (layout_of new.descriptor) q ≡ base_of (layout_of r.descriptor) q
  pub from : new.descriptor.start_position ≤ℤ p

-- the state has the recording of an id, and keeps the frames of another from a position on
abbrev pub HasFrom : ℤ → ℤ → Recording → State → Type 0
HasFrom p id r s = IsSomeAnd (find id_of id s.recordings) (KeepsFrom p r)

-- What a reader knows of a recording, from a position on: its id, its stream and terms, up to where it is recorded, and
-- where its frames lie. The descriptor may be an older one.
pub record KnowsFrom (p : ℤ) (g : Registration) (r : Recording) : Type 0 where
  pub id : g.descriptor.recording ≡ r.descriptor.recording
  pub stream : g.descriptor.stream_id ≡ r.descriptor.stream_id
  pub geometry : geometry_of g.descriptor ≡ geometry_of r.descriptor
  pub recorded : g.recorded ≡ recorded_position r
  pub places : (q : ℕ) → p ≤ℤ pos q → base_of (layout_of g.descriptor) q ≡ base_of (layout_of r.descriptor) q

-- ---- a replay that is open

-- the call closed the replay of a number
abbrev pub closes : ℤ → Event → Result Reply Refusal → Bool
closes n (ReplayClose number) (Ok reply) = int_eq n number
closes n event outcome = false

-- none of these calls did
abbrev pub KeepOpen : ℤ → List Event → List (Result Reply Refusal) → Type 0
KeepOpen n [] [] = Unit {0}
KeepOpen n (event ∷ events) (outcome ∷ outcomes) = (closes n event outcome ≡ false) × KeepOpen n events outcomes
KeepOpen n [] (outcome ∷ outcomes) = Unit {0}
KeepOpen n (event ∷ events) [] = Unit {0}

-- The replay of a number is still open. It is of the same recording, and goes on where it went on or past that.
pub record GoesOn (d : DeskState) (n : ℤ) (replay : OpenReplay) : Type 0 where
  pub later : OpenReplay
  pub found : open_replay_in d n ≡ Some later
  pub recording : later.recording ≡ replay.recording
  pub on : replay.next ≤ℤ later.next

-- The replay of a number is still open. A crash at any moment of the calls leaves each frame that a recording had, from where
-- the replay now goes on, in its place.
pub record StaysRead (old new : EngineState) (n : ℤ) (replay : OpenReplay) (r : Recording) : Type 0 where
  pub goes : GoesOn new.desk n replay
  pub any_moment : LeavesOnly old.life new.life (λ image. StandFrom image goes.later.next r)
