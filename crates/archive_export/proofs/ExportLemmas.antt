-- Frames that are written one after another.
use Rattle.std.proofs.Common.{rules, ◌≡◌, ◌∙◌, ◌⊎◌, inl, inr, refl, sym, ap, subst, ℕ, ℤ, pos, ◌+◌, ◌<◌, ◌≤ℤ◌, ◌<ℤ◌, ◌-ℤ◌, Bool, true, false, IsTrue, List, [], ◌∷◌, ◌++◌, Option, arith}
use Rattle.std.proofs.lemmas.Int.{ints}
use Rattle.std.proofs.lemmas.List.{append-nil}
use Rattle.std.proofs.lemmas.List.Concat.{flat_map-append}
use Rattle.std.proofs.KnownBytes.{Appends-nil, Appends-trans}
use Rattle.std.specs.Io.KnownBytes.{Appends}
use Rattle.std.specs.List.{flat_map}
use Rattle.std.specs.Prelude.{Ok, Err, int_le, unsigned_abs}
use Rattle.frame_core.specs.declared.frame.Frame.{Frame}
use Rattle.frame_core.specs.declared.refusal.Refusal.{Refusal}
use Rattle.frame_core.specs.declared.refusal.Refusal.TheVariants.{BadPosition, Damaged, DeviceFault, NoMemory}
use Rattle.frame_core.specs.FrameEncoding.{aligned_length}
use Rattle.disk_core.specs.DiskImage.{DiskImage, MayLeave, reads}
use Rattle.disk_core.specs.Life.{Life}
use Rattle.disk_core.proofs.CallerLemmas.{goes_on_part, now_leaves, started}
use Rattle.segment_store.specs.Boundary.{IsChain}
use Rattle.segment_store.specs.DamagedFrame.{IsDamaged, RefusesFrame, ShowsFrame}
use Rattle.archive_model.specs.declared.registration.Registration.{Registration}
use Rattle.archive_model.specs.Register.{registration_in}
use Rattle.archive_model.specs.State.{geometry_of}
use Rattle.control_core.specs.Desk.{DeskState}
use Rattle.recording_reads.specs.Recording.{layout_of}
use Rattle.archive_view.specs.declared.view.ArchiveView.{ArchiveView}
use Rattle.archive_view.specs.ReadOnly.{IsOnlyRead, Looks}
use Rattle.archive_view.specs.ShownFrames.{FrameAnswers, HasShown, RefusesShown}
use Rattle.archive_view.specs.Viewed.{desk_of, read_of}
use Rattle.archive_export.specs.declared.capture.destination.Destination.{Destination}
use Rattle.archive_export.specs.CaptureFile.{packet_record_of}
use Rattle.archive_export.specs.Packet.{FitsDatagram}
use Rattle.archive_export.specs.declared.frames.ExportFault.{ExportFault}
use Rattle.archive_export.specs.declared.frames.ExportFault.TheVariants as faults
use Rattle.archive_export.specs.declared.span.Target.{Target}
use Rattle.archive_export.specs.Exporting.{AreShown, IsLookedOn, IsShown, Straddle, inner}
use Rattle.archive_export.specs.Steps.{FailsToWrite, FailsToWriteAll, HasTaken, HasWrittenFrame, HasWrittenAll, IsAt, IsStoppedBy, IsUnwrittenBy, RefusesFrameAt, RefusesFrames}

-- ---- a disk that is only read

unread : (life : Life) → IsOnlyRead life life
unread life = record { same = λ file. refl; any_moment = started life (MayLeave life.now) (λ image left. left); obeyed = λ obeys. obeys }

read_on : (old mid new : Life) → IsOnlyRead old mid → IsOnlyRead mid new → IsOnlyRead old new
read_on old mid new first last = record {
  same = λ file. last.same file ∙ first.same file;
  any_moment = goes_on_part old mid new (MayLeave old.now) (MayLeave mid.now) first.any_moment last.any_moment (now_leaves old mid (MayLeave old.now) first.any_moment);
  obeyed = λ obeys. first.obeyed (last.obeyed obeys);
}

-- ---- why a frame is not written

unwritten : (g : Registration) (obeys : Bool) (image : DiskImage) (at : ℤ) (refusal : Refusal) → RefusesFrame obeys image (layout_of g.descriptor) (geometry_of g.descriptor) g.recorded at refusal → IsUnwrittenBy g obeys image at refusal
unwritten g obeys image at (Damaged recording position) (of, is, damaged) = (of, is, λ o. inl (damaged o))
unwritten g obeys image at DeviceFault why = tt
unwritten g obeys image at NoMemory why = tt
unwritten g obeys image at refusal why = absurd why

-- one more frame is shown behind others
one_more : (g : Registration) (image : DiskImage) (frames : List Frame) (from to : ℕ) (f : Frame) → IsChain image (layout_of g.descriptor) (geometry_of g.descriptor) g.recorded from frames to
    → ShowsFrame image (layout_of g.descriptor) (geometry_of g.descriptor) g.recorded to f → IsChain image (layout_of g.descriptor) (geometry_of g.descriptor) g.recorded from (frames ++ f ∷ []) (to + aligned_length f)
one_more g image [] from to f is shown = (subst (λ (p : ℕ). ShowsFrame image (layout_of g.descriptor) (geometry_of g.descriptor) g.recorded p f) (sym is) shown, ap (λ (p : ℕ). p + aligned_length f) is)
one_more g image (h ∷ hs) from to f is shown = (is.0, one_more g image hs (from + aligned_length h) to f is.1 shown)

le_true : (a b : ℤ) → int_le a b ≡ true → a ≤ℤ b
le_true a b is = search rules

le_false : (a b : ℤ) → int_le a b ≡ false → b <ℤ a
le_false a b is = search rules

-- none is shown at a position, or one that no datagram holds
abbrev Stops : Registration → DiskImage → ℤ → Type 0
Stops g image at = IsDamaged image (layout_of g.descriptor) (geometry_of g.descriptor) g.recorded (unsigned_abs at) ⊎ ((frame : Frame) × IsShown g image at frame × (FitsDatagram frame → ⊥))

-- less is left behind a frame
pub less_left : (at end recorded recorded' : ℤ) (size : ℕ) → recorded' ≡ recorded → end ≡ pos (unsigned_abs at + size) → 0 < size → pos 0 ≤ℤ at → pos (unsigned_abs at + size) ≤ℤ recorded
    → unsigned_abs (recorded' -ℤ end) < unsigned_abs (recorded' -ℤ at)
less_left at end recorded recorded' size same is covers low within = omega (arith, ints)

module _ {D : Type 0} (life : D → Life) where
  pub no_look : (view : ArchiveView D) → IsLookedOn life view view
  no_look view = record { inside = unread (inner life view); same = refl; desk = refl; faults = omega arith }

  pub look_on : (old mid new : ArchiveView D) → IsLookedOn life old mid → IsLookedOn life mid new → IsLookedOn life old new
  look_on old mid new first last = record {
    inside = read_on (inner life old) (inner life mid) (inner life new) first.inside last.inside;
    same = last.same ∙ first.same;
    desk = last.desk ∙ first.desk;
    faults = omega (arith, first.faults, last.faults);
  }

  pub looked : (Seen : DiskImage → Type 0) (old new : ArchiveView D) → Looks life Seen (read_of old) (read_of new) → reads (inner life new).now ≡ reads (inner life old).now → desk_of new ≡ desk_of old → IsLookedOn life old new
  looked Seen old new look same desk = record { inside = look.inside; same = same; desk = desk; faults = look.faults }

  -- ---- one frame

  pub frame_taken : (old new : ArchiveView D) (recording at : ℤ) (t : Target) (g : Registration) (frame : Frame) → HasShown life old new recording at (Ok frame) → IsAt life old recording t g at → HasTaken life old new g at frame
  frame_taken old new recording at t g frame shown there =
      let gives = subst (λ (o : Option Registration). FrameAnswers life (read_of old) (read_of new) o at (Ok frame)) there.found shown.answers in
      record { look = looked _ old new gives.look shown.same shown.desk; shown = gives.look.seen; low = gives.low; covers = gives.covers; ends = gives.ends }

  refused_shown : (old new : ArchiveView D) (at : ℤ) (g : Registration) (refusal : Refusal) → reads (inner life new).now ≡ reads (inner life old).now → desk_of new ≡ desk_of old → at <ℤ g.recorded → g.descriptor.start_position ≤ℤ at
      → RefusesShown life (read_of old) (read_of new) g at refusal → RefusesFrameAt life old new g at refusal
  refused_shown old new at g BadPosition same desk due start answers = absurd (elim answers.0 [ inl low ↦ omega (arith, ints, low, start) | inr high ↦ omega (arith, ints, high, due) ])
  refused_shown old new at g refusal same desk due start answers =
      let refuses = answers.2 in
      record { look = looked _ old new refuses.look same desk; why = unwritten g (inner life new).obeys (reads (inner life old).now) at refusal answers.3; cause = refuses.cause }

  pub frame_refused : (old new : ArchiveView D) (recording at : ℤ) (t : Target) (g : Registration) (refusal : Refusal) → HasShown life old new recording at (Err refusal) → IsAt life old recording t g at → at <ℤ t.last → RefusesFrameAt life old new g at refusal
  frame_refused old new recording at t g refusal shown there due =
      refused_shown old new at g refusal shown.same shown.desk (omega (arith, ints, due, there.last)) there.start
      (subst (λ (o : Option Registration). FrameAnswers life (read_of old) (read_of new) o at (Err refusal)) there.found shown.answers)

  pub frame_unfit : (old new : ArchiveView D) (recording at : ℤ) (t : Target) (g : Registration) (frame : Frame) → HasShown life old new recording at (Ok frame) → IsAt life old recording t g at → (FitsDatagram frame → ⊥) → RefusesFrameAt life old new g at (Damaged t.recording at)
  frame_unfit old new recording at t g frame shown there unfit =
      let has = frame_taken old new recording at t g frame shown there in
      record { look = has.look; why = (there.recording_is, refl, λ obeys. inr (frame, has.shown obeys, unfit)); cause = λ fault. absurd (differ fault) }
    where
      differ : Damaged t.recording at ≡ DeviceFault → ⊥
      differ e = cc

  -- ---- frames

  -- nothing is written yet
  pub none_written : (view : ArchiveView D) (g : Registration) (from to : ℤ) (destination : Destination) (contents : Option (List ℕ)) → from ≤ℤ to → HasWrittenAll life view view g from to destination from contents contents
  none_written view g from to destination contents forward = record { look = no_look view; frames = []; shown = λ obeys. refl; forward = omega (arith, ints); ends = inl forward; told = Appends-nil contents }

  -- where a view goes on, a recording of it stays
  pub still_at : (old mid : ArchiveView D) (recording : ℤ) (t : Target) (g : Registration) (from at : ℤ) → IsAt life old recording t g from → IsLookedOn life old mid → from ≤ℤ at → IsAt life mid recording t g at
  still_at old mid recording t g from at there look forward = record {
    found = ap (λ (d : DeskState). registration_in d.register recording) look.desk ∙ there.found;
    recording_is = there.recording_is;
    recorded_is = there.recorded_is;
    start = omega (arith, ints, there.start, forward);
    last = there.last;
  }

  -- one more is written
  pub one_written : (old mid new : ArchiveView D) (g : Registration) (from to at end : ℤ) (destination : Destination) (contents so_far written : Option (List ℕ)) → at <ℤ to → HasWrittenAll life old mid g from to destination at contents so_far
      → HasWrittenFrame life mid new g at destination end so_far written → HasWrittenAll life old new g from to destination end contents written
  one_written old mid new g from to at end destination contents so_far written due all one =
      let f = one.frame in
      let low = one.taken.low in
      let end_is : unsigned_abs at + aligned_length f ≡ unsigned_abs end = omega (arith, ints, one.end_is) in
      let chain : IsTrue (inner life new).obeys → AreShown g (reads (inner life old).now) from all.frames at = λ obeys. all.shown (one.taken.look.inside.obeyed obeys) in
      let here : IsTrue (inner life new).obeys → IsShown g (reads (inner life old).now) at f = λ obeys. subst (λ (image : DiskImage). IsShown g image at f) all.look.same (one.taken.shown obeys) in
      record {
        look = look_on old mid new all.look one.taken.look;
        frames = all.frames ++ f ∷ [];
        shown = λ obeys.
            subst (λ (n : ℕ). IsChain (reads (inner life old).now) (layout_of g.descriptor) (geometry_of g.descriptor) g.recorded (unsigned_abs from) (all.frames ++ f ∷ []) n) end_is
            (one_more g (reads (inner life old).now) all.frames (unsigned_abs from) (unsigned_abs at) f (chain obeys) (here obeys));
        forward = omega (arith, ints, all.forward, one.end_is, low);
        ends = by (int_le end to) refl chain here;
        told = subst (λ (text : List ℕ). Appends contents written text) text (Appends-trans contents so_far written (flat_map (packet_record_of destination) all.frames) (packet_record_of destination f) all.told one.told);
      }
    where
      text : flat_map (packet_record_of destination) all.frames ++ packet_record_of destination one.frame ≡ flat_map (packet_record_of destination) (all.frames ++ one.frame ∷ [])
      text = ap (λ (l : List ℕ). flat_map (packet_record_of destination) all.frames ++ l) (sym (append-nil (packet_record_of destination one.frame))) ∙ sym (flat_map-append (packet_record_of destination) all.frames (one.frame ∷ []))

      by : (b : Bool) → int_le end to ≡ b → (IsTrue (inner life new).obeys → AreShown g (reads (inner life old).now) from all.frames at) → (IsTrue (inner life new).obeys → IsShown g (reads (inner life old).now) at one.frame)
          → (end ≤ℤ to) ⊎ (IsTrue (inner life new).obeys → Straddle g (reads (inner life old).now) from to)
      by true is chain here = inl (le_true end to is)
      by false is chain here = inr (λ obeys. record {
        frames = all.frames;
        at = at;
        chain = chain obeys;
        frame = one.frame;
        shown = here obeys;
        before = due;
        behind = subst (λ (z : ℤ). to <ℤ z) one.end_is (le_false end to is);
      })

  -- one more is refused
  pub one_refused : (old mid new : ArchiveView D) (g : Registration) (from to at : ℤ) (destination : Destination) (contents so_far : Option (List ℕ)) (refusal : Refusal) → at <ℤ to → HasWrittenAll life old mid g from to destination at contents so_far
      → RefusesFrameAt life mid new g at refusal → RefusesFrames life old new g from to refusal
  one_refused old mid new g from to at destination contents so_far refusal due all refuses = record {
    look = look_on old mid new all.look refuses.look;
    why = by refusal refuses.why;
    cause = λ fault. let failed = refuses.cause fault in let faults = all.look.faults in omega (arith, failed, faults);
  }
    where
      by : (refusal : Refusal) → IsUnwrittenBy g (inner life new).obeys (reads (inner life mid).now) at refusal → IsStoppedBy g (inner life new).obeys (reads (inner life old).now) from to refusal
      by (Damaged recording position) (of, is, why) = (
        of,
        λ obeys. record {
          frames = all.frames;
          chain = subst (λ (p : ℤ). AreShown g (reads (inner life old).now) from all.frames p) (sym is) (all.shown (refuses.look.inside.obeyed obeys));
          before = omega (arith, ints, is, due);
          stops = subst (λ (p : ℤ). Stops g (reads (inner life old).now) p) (sym is) (subst (λ (image : DiskImage). Stops g image at) all.look.same (why obeys));
        },
      )
      by DeviceFault why = tt
      by NoMemory why = tt
      by refusal why = absurd why

  pub all_fail : (old mid new : ArchiveView D) (g : Registration) (from to at : ℤ) (destination : Destination) (contents so_far : Option (List ℕ)) (fault : ExportFault) → at <ℤ to → HasWrittenAll life old mid g from to destination at contents so_far
      → FailsToWrite life mid new g at fault → FailsToWriteAll life old new g from to fault
  all_fail old mid new g from to at destination contents so_far (faults.Refused refusal) due all fails = one_refused old mid new g from to at destination contents so_far refusal due all fails
  all_fail old mid new g from to at destination contents so_far faults.Write due all fails = look_on old mid new all.look fails
