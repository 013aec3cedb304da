-- A disk that is only read leaves what it might have left before, and what is counted on it.
use Rattle.std.proofs.Common.{◌≡◌, ◌⊎◌, ◌∙◌, refl, sym, ap, subst, not, ◌||◌, ℕ, ℤ, ◌≤ℤ◌, List, [], ◌∷◌, ◌++◌, drop, append_assoc, inl, inr, IsTrue}
use Rattle.std.proofs.Math.Seq.{drop-append_seam}
use Rattle.std.specs.Prelude.{◌==◌, unsigned_abs, Result, Ok, Err, IfErr, IfOk, IsErrOf, count_by, Some}
use Rattle.frame_core.specs.declared.refusal.Refusal.{Refusal}
use Rattle.frame_core.specs.declared.refusal.Refusal.TheVariants.{DeviceFault, NoMemory}
use Rattle.disk_core.specs.declared.file_id.FileId.{FileId}
use Rattle.disk_core.specs.DiskImage.{DiskImage, Files, LeavesFile, MayLeave, begun, reads}
use Rattle.disk_core.specs.Life.{AnyLeaves, HasFailed, IsQuiet, LeavesOnly, Life, moment, moments}
use Rattle.disk_core.proofs.CallerLemmas.{durable_left, goes_quiet, started}
use Rattle.archive_model.specs.declared.version.BankVersion.{BankVersion}
use Rattle.archive_model.specs.declared.registration.Registration.{Registration}
use Rattle.archive_model.specs.Register.{RegisterState, no_recordings}
use Rattle.archive_model.specs.State.{geometry_of}
use Rattle.catalogue_entries.specs.declared.entry.Entry.{Entry}
use Rattle.catalogue_log.specs.Catalogue.{KeepsReads, RefusesCatalogue}
use Rattle.catalogue_entries.specs.Fold.{after_entries, counts}
use Rattle.catalogue_log.specs.LogState.{IsLogIn, LogState}
use Rattle.catalogue_log.proofs.CallerLemmas.{log_catalogue}
use Rattle.control_core.specs.Desk.{DeskState, opened_desk}
use Rattle.recording_reads.specs.Reading.{HasFrames, RefusesBoundaryIn, RefusesCount}
use Rattle.archive_view.specs.declared.read_only.ReadOnly.{ReadOnly}
use Rattle.archive_view.specs.Asked.{Answers}
use Rattle.archive_view.specs.Verified.{VerifyAnswers}
use Rattle.recording_reads.specs.Recording.{layout_of}
use Rattle.archive_view.specs.ReadLife.{read_life}
use Rattle.archive_view.specs.ReadOnly.{IsOnlyRead, Looks, Refuses, life_of}
use Rattle.archive_view.specs.ShownFrames.{Bounds, BoundaryAnswers, FrameAnswers, RefusesShown, Shows}
use Rattle.archive_view.specs.View.{IsAsCatalogued, TellsMoved}
use Rattle.frame_core.specs.declared.frame.Frame.{Frame}
use Rattle.frame_core.specs.declared.refusal.Refusal.TheVariants.{BadPosition}
use Rattle.frame_core.specs.FrameEncoding.{aligned_length}
use Rattle.segment_store.specs.DamagedFrame.{RefusesFrame}
use Rattle.std.specs.Prelude.{◌<◌, ◌<ℤ◌, ◌+◌, pos, Bool}

-- a list that begins with another and one thing more, without its own last: what stands behind the other
record Behind {T : Type 0} (xs : List T) (x : T) (ys : List T) (y : T) (zs : List T) : Type 0 where
  rest : List T
  is : xs ≡ ys ++ rest
  ends : rest ++ x ∷ [] ≡ y ∷ zs

short : {T : Type 0} (x h y : T) (ts zs : List T) → x ∷ [] ≡ h ∷ (ts ++ y ∷ zs) → ⊥
short x h y [] zs e = cc
short x h y (t ∷ ts) zs e = cc

behind : {T : Type 0} (xs : List T) (x : T) (ys : List T) (y : T) (zs : List T)
    → xs ++ x ∷ [] ≡ ys ++ y ∷ zs → Behind xs x ys y zs
behind xs x [] y zs same = record { rest = xs; is = refl; ends = same }
behind [] x (h ∷ ys) y zs same = absurd (short x h y ys zs same)
behind (k ∷ xs) x (h ∷ ys) y zs same =
    let front : k ≡ h = cc in
    let back : xs ++ x ∷ [] ≡ ys ++ y ∷ zs = cc in
    let so_far = behind xs x ys y zs back in
    record {
      rest = so_far.rest;
      is = ap (λ (ts : List _). k ∷ ts) so_far.is ∙ ap (λ t. t ∷ ys ++ so_far.rest) front;
      ends = so_far.ends;
    }

any_front : (some more : List Files) (image : DiskImage) → AnyLeaves some image → AnyLeaves (some ++ more) image
any_front [] more image left = absurd left
any_front (files ∷ some) more image (inl here) = inl here
any_front (files ∷ some) more image (inr later) = inr (any_front some more image later)

-- of what reads so, and counts as durable, a crash leaves what the disk may leave that reads so
stays_left : (files : Files) (image : DiskImage) → MayLeave files (reads files) → MayLeave (begun (reads files)) image → MayLeave files image
stays_left files image stays left file =
    subst (λ bytes. LeavesFile (files file) bytes) (sym (durable_left (reads files file) (begun (reads files) file) (image file) refl (left file))) (stays file)

-- the disk inside was only read, where what it shows from outside was
pub only_read : (old new : Life) (refused more : ℕ) → MayLeave old.now (reads old.now) → ((file : FileId) → reads new.now file ≡ reads old.now file)
    → (IsTrue new.obeys → IsTrue old.obeys) → LeavesOnly (read_life old refused) (read_life new more) (MayLeave (begun (reads old.now))) → IsOnlyRead old new
only_read old new refused more stays same obeyed only =
    let front : moments new ++ begun (reads new.now) ∷ [] ≡ moments old ++ begun (reads old.now) ∷ only.since = only.extends ∙ append_assoc (moments old) (begun (reads old.now) ∷ []) only.since in
    let cut = behind (moments new) (begun (reads new.now)) (moments old) (begun (reads old.now)) only.since front in
    let since : (image : DiskImage) → AnyLeaves cut.rest image → MayLeave old.now image = λ image left.
    let all : AnyLeaves (begun (reads old.now) ∷ only.since) image = subst (λ (files : List Files). AnyLeaves files image) cut.ends (any_front cut.rest (begun (reads new.now) ∷ []) image left) in
    let back : drop (moment (read_life old refused)) (moments (read_life new more)) ≡ begun (reads old.now) ∷ only.since =
    ap (λ (files : List Files). drop (moment (read_life old refused)) files) front ∙ drop-append_seam (moments old) (begun (reads old.now) ∷ only.since) in
    stays_left old.now image stays (only.each image (subst (λ (files : List Files). AnyLeaves files image) (sym back) all)) in
    record {
      same = same;
      any_moment = record {
        since = cut.rest;
        extends = cut.is;
        each = λ image left.
            let behind_old : drop (moment old) (moments new) ≡ old.now ∷ cut.rest =
            ap (λ (files : List Files). drop (moment old) files) (cut.is ∙ append_assoc old.past (old.now ∷ []) cut.rest) ∙ drop-append_seam old.past (old.now ∷ cut.rest) in
            elim (subst (λ (files : List Files). AnyLeaves files image) behind_old left) [ inl here ↦ here | inr later ↦ since image later ];
      };
      obeyed = obeyed;
    }

pub quiet_read : (old new : Life) (refused more : ℕ) → MayLeave old.now (reads old.now) → IsQuiet (read_life old refused) (read_life new more) → IsOnlyRead old new
quiet_read old new refused more stays quiet =
    let seen = read_life old refused in
    only_read old new refused more stays (λ file. ap (λ (files : Files). reads files file) quiet.now) quiet.obeyed
    (goes_quiet seen seen (read_life new more) (MayLeave seen.now) (started seen (MayLeave seen.now) (λ image left. left)) quiet)

-- a desk that was opened is of its register, its counts, its limit and its version
same_desk : (g h : RegisterState) (counted more limit most : ℕ) (version w : BankVersion) → g ≡ h → counted ≡ more → limit ≡ most → version ≡ w
    → opened_desk g counted limit version ≡ opened_desk h more most w
same_desk g h counted more limit most version w one two three four =
    ap (λ (r : RegisterState). opened_desk r counted limit version) one
    ∙ ap (λ (n : ℕ). opened_desk h n limit version) two
    ∙ ap (λ (n : ℕ). opened_desk h more n version) three
    ∙ ap (λ (v : BankVersion). opened_desk h more most v) four

module _ {D : Type 0} (life : D → Life) where
  -- a catalogue was read
  catalogue_read : (old new : ReadOnly D) (Seen : DiskImage → Type 0) → MayLeave (life old.disk).now (reads (life old.disk).now) → KeepsReads (life_of life old) (life_of life new)
      → LeavesOnly (life_of life old) (life_of life new) (MayLeave (life_of life old).now) → (IsTrue (life new.disk).obeys → Seen (reads (life old.disk).now)) → Looks life Seen old new
  catalogue_read old new Seen stays kept only seen = record {
    inside = only_read (life old.disk) (life new.disk) old.refused new.refused stays kept.reads kept.obeyed only;
    faults = kept.faults;
    seen = seen;
  }

  -- it was refused
  pub refused_read : (old new : ReadOnly D) (refusal : Refusal) → MayLeave (life old.disk).now (reads (life old.disk).now) → KeepsReads (life_of life old) (life_of life new)
      → LeavesOnly (life_of life old) (life_of life new) (MayLeave (life_of life old).now) → (IsTrue (life new.disk).obeys → RefusesCatalogue (reads (life old.disk).now) refusal)
      → (refusal ≡ DeviceFault → HasFailed (life_of life old) (life_of life new)) → Refuses life (λ image. RefusesCatalogue image refusal) old new refusal
  refused_read old new refusal stays kept only refused cause = record { look = catalogue_read old new (λ image. RefusesCatalogue image refusal) stays kept only refused; cause = cause }

  -- it gave a desk
  pub desk_read : (old new : ReadOnly D) (log : LogState) (entries : List Entry) (register : RegisterState) (desk : DeskState) (counted limit : ℕ) (version : BankVersion)
      → MayLeave (life old.disk).now (reads (life old.disk).now) → KeepsReads (life_of life old) (life_of life new) → LeavesOnly (life_of life old) (life_of life new) (MayLeave (life_of life old).now)
      → (IsTrue (life new.disk).obeys → IsLogIn (reads (life old.disk).now) log entries)
      → register ≡ after_entries no_recordings entries → desk ≡ opened_desk register counted limit version → counted ≡ log.counted → limit ≡ log.header.history_limit → version ≡ log.header.version
      → Looks life (λ image. IsAsCatalogued image desk log) old new
  desk_read old new log entries register desk counted limit version stays kept only found made is counted_is limit_is version_is = catalogue_read old new _ stays kept only (λ obeys. record {
    entries = entries;
    catalogue = log_catalogue (reads (life old.disk).now) log entries (found obeys);
    log_is = found obeys;
    is = is ∙ same_desk register (after_entries no_recordings entries) counted (count_by counts entries) limit log.header.history_limit version log.header.version made
        (counted_is ∙ (found obeys).is_log.counted) limit_is version_is;
  })

  -- a catalogue was read again
  pub moved_read : (old new : ReadOnly D) (desk : DeskState) (found log : LogState) (moved : Bool) → moved ≡ not (found.counted == log.counted) || not (found.header.epoch == log.header.epoch)
      → Looks life (λ image. IsAsCatalogued image desk found) old new → Looks life (λ image. TellsMoved image log moved) old new
  moved_read old new desk found log moved is look = record {
    inside = look.inside;
    faults = look.faults;
    seen = λ obeys.
        let seen = look.seen obeys in
        record {
          header = found.header;
          entries = seen.entries;
          catalogue = seen.catalogue;
          is = is ∙ ap (λ (n : ℕ). not (n == log.counted) || not (found.header.epoch == log.header.epoch)) seen.log_is.is_log.counted;
        };
  }

  -- nothing was done but reads
  pub quiet_look : (old new : ReadOnly D) (Seen : DiskImage → Type 0) → MayLeave (life old.disk).now (reads (life old.disk).now) → IsQuiet (life_of life old) (life_of life new)
      → (IsTrue (life new.disk).obeys → Seen (reads (life old.disk).now)) → Looks life Seen old new
  quiet_look old new Seen stays quiet seen = record {
    inside = quiet_read (life old.disk) (life new.disk) old.refused new.refused stays quiet;
    faults = quiet.faults;
    seen = seen;
  }

  -- the frames of a recording were counted, or not
  pub counted_answers : (old new : ReadOnly D) (g : Registration) (result : Result ℤ Refusal) → MayLeave (life old.disk).now (reads (life old.disk).now) → IsQuiet (life_of life old) (life_of life new)
      → IfOk result (λ count. IsTrue (life new.disk).obeys → HasFrames (reads (life old.disk).now) g count) → IfErr result (RefusesCount (life new.disk).obeys (reads (life old.disk).now) g)
      → (IsErrOf result DeviceFault → HasFailed (life_of life old) (life_of life new)) → VerifyAnswers life old new (Some g) result
  counted_answers old new g (Ok count) stays quiet counted refused cause = quiet_look old new (λ image. HasFrames image g count) stays quiet counted
  counted_answers old new g (Err refusal) stays quiet counted refused cause = (
    record { look = quiet_look old new (λ image. Unit {0}) stays quiet (λ obeys. tt); cause = λ fault. cause (ap Err fault) },
    refused,
  )

  -- the files were asked
  pub asked_answers : {T : Type 0} (old new : ReadOnly D) (Seen : DiskImage → T → Type 0) (result : Result T Refusal) → MayLeave (life old.disk).now (reads (life old.disk).now) → IsQuiet (life_of life old) (life_of life new)
      → IfOk result (λ answer. IsTrue (life new.disk).obeys → Seen (reads (life old.disk).now) answer) → IfErr result (λ refusal. (refusal ≡ DeviceFault) ⊎ (refusal ≡ NoMemory))
      → (IsErrOf result DeviceFault → HasFailed (life_of life old) (life_of life new)) → Answers life Seen old new result
  asked_answers old new Seen (Ok answer) stays quiet seen refused cause = quiet_look old new (λ image. Seen image answer) stays quiet seen
  asked_answers old new Seen (Err refusal) stays quiet seen refused cause = (
    record { look = quiet_look old new (λ image. Unit {0}) stays quiet (λ obeys. tt); cause = λ fault. cause (ap Err fault) },
    refused,
  )

  -- a recording was asked for a boundary, or not
  pub bounded_answers : (old new : ReadOnly D) (g : Registration) (position : ℤ) (result : Result Bool Refusal) → MayLeave (life old.disk).now (reads (life old.disk).now) → IsQuiet (life_of life old) (life_of life new)
      → IfOk result (λ told. IsTrue (life new.disk).obeys → Bounds g position told (reads (life old.disk).now))
      → IfErr result (RefusesBoundaryIn (life new.disk).obeys (reads (life old.disk).now) g position)
      → (IsErrOf result DeviceFault → HasFailed (life_of life old) (life_of life new)) → BoundaryAnswers life old new (Some g) position result
  bounded_answers old new g position (Ok told) stays quiet seen refused cause = quiet_look old new (Bounds g position told) stays quiet seen
  bounded_answers old new g position (Err refusal) stays quiet seen refused cause = (
    record { look = quiet_look old new (λ image. Unit {0}) stays quiet (λ obeys. tt); cause = λ fault. cause (ap Err fault) },
    refused,
  )

  -- it was asked for a frame, or not
  frame_refused : (old new : ReadOnly D) (g : Registration) (position : ℤ) (refusal : Refusal) → g.descriptor.start_position ≤ℤ position → position <ℤ g.recorded → Refuses life (λ image. Unit {0}) old new refusal
      → RefusesFrame (life new.disk).obeys (reads (life old.disk).now) (layout_of g.descriptor) (geometry_of g.descriptor) g.recorded position refusal → RefusesShown life old new g position refusal
  frame_refused old new g position BadPosition start due refuses none = absurd none
  frame_refused old new g position refusal start due refuses why = (start, due, refuses, why)

  pub shown_answers : (old new : ReadOnly D) (g : Registration) (position : ℤ) (result : Result Frame Refusal) → MayLeave (life old.disk).now (reads (life old.disk).now) → IsQuiet (life_of life old) (life_of life new)
      → g.descriptor.start_position ≤ℤ position → pos 0 ≤ℤ position → position <ℤ g.recorded → IfOk result (λ frame. IsTrue (life new.disk).obeys → Shows g position frame (reads (life old.disk).now))
      → IfOk result (λ frame. pos (unsigned_abs position + aligned_length frame) ≤ℤ g.recorded) → IfOk result (λ frame. 0 < aligned_length frame)
      → IfErr result (RefusesFrame (life new.disk).obeys (reads (life old.disk).now) (layout_of g.descriptor) (geometry_of g.descriptor) g.recorded position)
      → (IsErrOf result DeviceFault → HasFailed (life_of life old) (life_of life new)) → FrameAnswers life old new (Some g) position result
  shown_answers old new g position (Ok frame) stays quiet start low due seen ends covers refused cause = record { look = quiet_look old new (Shows g position frame) stays quiet seen; from_start = start; low = low; ends = ends; covers = covers }
  shown_answers old new g position (Err refusal) stays quiet start low due seen ends covers refused cause =
      frame_refused old new g position refusal start due (record { look = quiet_look old new (λ image. Unit {0}) stays quiet (λ obeys. tt); cause = λ fault. cause (ap Err fault) }) refused
