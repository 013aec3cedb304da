-- How an export ends.
use Rattle.std.proofs.Common.{◌≡◌, ◌∙◌, inl, inr, refl, sym, ap, subst, ℕ, ℤ, ◌≤ℤ◌, ◌<ℤ◌, true, false, IsTrue, List, Option, None, Some, arith}
use Rattle.std.proofs.lemmas.Int.{ints}
use Rattle.std.proofs.KnownBytes.{Appends-trans}
use Rattle.std.specs.Io.KnownBytes.{Appends}
use Rattle.std.specs.List.{flat_map}
use Rattle.std.specs.Prelude.{Ok, unsigned_abs}
use Rattle.frame_core.specs.declared.refusal.Refusal.{Refusal}
use Rattle.frame_core.specs.declared.refusal.Refusal.TheVariants.{UnknownRecording, BadPosition, Damaged, DeviceFault, NoMemory}
use Rattle.disk_core.specs.DiskImage.{DiskImage, reads}
use Rattle.disk_core.specs.Life.{Life}
use Rattle.segment_store.specs.Boundary.{IsChain}
use Rattle.recording_reads.specs.Reading.{TellsBoundaryIn}
use Rattle.archive_model.specs.declared.registration.Registration.{Registration}
use Rattle.archive_model.specs.Register.{registration_in}
use Rattle.archive_model.specs.State.{geometry_of}
use Rattle.recording_reads.specs.Recording.{layout_of}
use Rattle.archive_view.specs.declared.view.ArchiveView.{ArchiveView}
use Rattle.archive_view.specs.ShownFrames.{BoundaryAnswers, HasBounded}
use Rattle.archive_view.specs.Viewed.{desk_of, read_of}
use Rattle.archive_export.specs.CaptureFile.{file_header, packet_record_of}
use Rattle.archive_export.specs.declared.frames.ExportFault.{ExportFault}
use Rattle.archive_export.specs.declared.frames.ExportFault.TheVariants as faults
use Rattle.archive_export.specs.declared.span.Span.{Span}
use Rattle.archive_export.specs.declared.span.Target.{Target}
use Rattle.archive_export.specs.Exporting.{AreShown, BreakAt, FailsToExport, HasExported, IsBoundaryOf, IsLookedOn, IsNotExportedBy, RefusesExport, StopAt, Straddle, inner, span_begin, span_end}
use Rattle.archive_export.specs.Steps.{FailsToWriteAll, HasWrittenAll, IsAt, IsRefusedAtOnce, IsStoppedBy, IsTargetOf}
use Rattle.archive_export.proofs.ExportLemmas.{look_on, looked, no_look}

module _ {D : Type 0} (life : D → Life) where
  -- nothing was asked
  pub at_once : (view : ArchiveView D) (recording : ℤ) (span : Span) (refusal : Refusal) → IsRefusedAtOnce (registration_in (desk_of view).register recording) span refusal → RefusesExport life view view recording span refusal
  at_once view recording span refusal refused_so = by (registration_in (desk_of view).register recording) refl refused_so
    where
      refused : (why : Refusal) → (why ≡ DeviceFault → ⊥) → IsNotExportedBy (registration_in (desk_of view).register recording) span (inner life view).obeys (reads (inner life view).now) why → RefusesExport life view view recording span why
      refused why other is = record { look = no_look life view; why = is; cause = λ fault. absurd (other fault) }

      unknown : UnknownRecording ≡ DeviceFault → ⊥
      unknown e = cc

      bad : BadPosition ≡ DeviceFault → ⊥
      bad e = cc

      by : (o : Option Registration) → registration_in (desk_of view).register recording ≡ o → IsRefusedAtOnce o span refusal → RefusesExport life view view recording span refusal
      by None is why = rw why (refused UnknownRecording unknown (rw is tt))
      by (Some g) is (why, outside) = rw why (refused BadPosition bad (rw is (inl outside)))

  -- what was told of the first position
  pub record Begun (old mid : ArchiveView D) (g : Registration) (from : ℤ) : Type 0 where
    pub look : IsLookedOn life old mid
    pub begins : IsTrue (inner life mid).obeys → IsBoundaryOf g (reads (inner life old).now) from

  pub begun : (old mid : ArchiveView D) (recording from : ℤ) (g : Registration) → registration_in (desk_of old).register recording ≡ Some g → HasBounded life old mid recording from (Ok true) → Begun old mid g from
  begun old mid recording from g found bounded =
      let answers = subst (λ (o : Option Registration). BoundaryAnswers life (read_of old) (read_of mid) o from (Ok true)) found bounded.answers in
      record { look = looked life _ old mid answers bounded.same bounded.desk; begins = answers.seen }

  -- no frame begins or ends there
  pub nowhere : (old mid : ArchiveView D) (recording from : ℤ) (span : Span) (g : Registration) → registration_in (desk_of old).register recording ≡ Some g → from ≡ span_begin span g → HasBounded life old mid recording from (Ok false) → RefusesExport life old mid recording span BadPosition
  nowhere old mid recording from span g found first bounded =
      let answers = subst (λ (o : Option Registration). BoundaryAnswers life (read_of old) (read_of mid) o from (Ok false)) found bounded.answers in
      let seen : IsTrue (inner life mid).obeys → TellsBoundaryIn (reads (inner life old).now) g from false = answers.seen in
      record {
        look = looked life _ old mid answers bounded.same bounded.desk;
        why = rw found (inr (λ obeys. inl (subst (λ (z : ℤ). IsBoundaryOf g (reads (inner life old).now) z → ⊥) first (seen obeys).0)));
        cause = λ fault. absurd (differ fault);
      }
    where
      differ : BadPosition ≡ DeviceFault → ⊥
      differ e = cc

  -- the position is where a frame begins
  pub there_at : (old mid : ArchiveView D) (recording : ℤ) (span : Span) (g : Registration) (t : Target) → registration_in (desk_of old).register recording ≡ Some g → IsTargetOf g span t → IsLookedOn life old mid → IsAt life mid recording t g t.first
  there_at old mid recording span g t found target look = record {
    found = ap (λ (d : _). registration_in d.register recording) look.desk ∙ found;
    recording_is = target.recording;
    recorded_is = target.recorded;
    start = subst (λ (z : ℤ). g.descriptor.start_position ≤ℤ z) (sym target.first) target.within.from_start;
    last = subst (λ (z : ℤ). z ≤ℤ g.recorded) (sym target.last) target.within.recorded;
  }

  module _ (old mid new : ArchiveView D) (recording : ℤ) (span : Span) (g : Registration) (t : Target) (found : registration_in (desk_of old).register recording ≡ Some g) (target : IsTargetOf g span t) (begun : Begun old mid g t.first) where
    -- all is written
    pub at_end : (end : ℤ) (contents headed written : Option (List ℕ)) → Appends contents headed file_header → HasWrittenAll life mid new g t.first t.last t.destination end headed written → t.last ≤ℤ end → end ≤ℤ t.last
        → HasExported life old new recording span contents written
    at_end end contents headed written header all past within = record {
      look = look_on life old mid new begun.look all.look;
      g = g;
      found = found;
      within = target.within;
      destination = t.destination;
      is_destination = target.destination;
      frames = all.frames;
      begins = λ obeys. subst (IsBoundaryOf g (reads (inner life old).now)) target.first (begun.begins (all.look.inside.obeyed obeys));
      shown = λ obeys.
          subst (λ (z : ℤ). AreShown g (reads (inner life old).now) (span_begin span g) all.frames z) target.last (subst (λ (z : ℤ). AreShown g (reads (inner life old).now) z all.frames t.last) target.first
          (subst (λ (image : DiskImage). AreShown g image t.first all.frames t.last) begun.look.same
          (subst (λ (n : ℕ). IsChain (reads (inner life mid).now) (layout_of g.descriptor) (geometry_of g.descriptor) g.recorded (unsigned_abs t.first) all.frames n) same (all.shown obeys))));
      told = Appends-trans contents headed written file_header (flat_map (packet_record_of t.destination) all.frames) header all.told;
    }
      where
        same : unsigned_abs end ≡ unsigned_abs t.last
        same = omega (arith, ints, past, within)

    -- the last frame ends behind the last position
    pub past_end : (end : ℤ) (headed written : Option (List ℕ)) → HasWrittenAll life mid new g t.first t.last t.destination end headed written → t.last <ℤ end → RefusesExport life old new recording span BadPosition
    past_end end headed written all past = record {
      look = look_on life old mid new begun.look all.look;
      why = rw found (inr (λ obeys. inr (straddles obeys)));
      cause = λ fault. absurd (differ fault);
    }
      where
        differ : BadPosition ≡ DeviceFault → ⊥
        differ e = cc

        straddles : IsTrue (inner life new).obeys → Straddle g (reads (inner life old).now) (span_begin span g) (span_end span g)
        straddles obeys =
            subst (λ (z : ℤ). Straddle g (reads (inner life old).now) (span_begin span g) z) target.last (subst (λ (z : ℤ). Straddle g (reads (inner life old).now) z t.last) target.first
            (subst (λ (image : DiskImage). Straddle g image t.first t.last) begun.look.same (elim all.ends [ inl within ↦ absurd (omega (arith, ints, within, past)) | inr straddle ↦ straddle obeys ])))

    -- a frame is not written
    pub fails_midway : (fault : ExportFault) → FailsToWriteAll life mid new g t.first t.last fault → FailsToExport life old new recording span fault
    fails_midway (faults.Refused refusal) fails = record {
      look = look_on life old mid new begun.look fails.look;
      why = rw found (by refusal fails.why);
      cause = λ fault. let failed = fails.cause fault in let faults = begun.look.faults in omega (arith, failed, faults);
    }
      where
        stop : (at : ℤ) → StopAt g (reads (inner life mid).now) t.first t.last at → BreakAt g span (reads (inner life old).now) at
        stop at stops = inr (subst (λ (z : ℤ). StopAt g (reads (inner life old).now) (span_begin span g) z at) target.last (subst (λ (z : ℤ). StopAt g (reads (inner life old).now) z t.last at) target.first
            (subst (λ (image : DiskImage). StopAt g image t.first t.last at) begun.look.same stops)))

        by : (refusal : Refusal) → IsStoppedBy g (inner life new).obeys (reads (inner life mid).now) t.first t.last refusal → IsNotExportedBy (Some g) span (inner life new).obeys (reads (inner life old).now) refusal
        by (Damaged recording at) (of, why) = (of, λ obeys. stop at (why obeys))
        by DeviceFault why = tt
        by NoMemory why = tt
        by refusal why = absurd why
    fails_midway faults.Write fails = look_on life old mid new begun.look fails
