-- A command whose position lies strictly inside a recording: frames are read first.
use Rattle.std.proofs.Common.{◌≡◌, ◌⊎◌, ◌∙◌, inl, inr, sym, ap, subst, refl, ℤ, [], Bool, true, false, Some, None, IsTrue, arith}
use Rattle.std.specs.Prelude.{IfOk, IsErrOf, Result, Ok, Err}
use Rattle.engine_core.proofs.Words.{Accepts, Archive, BadPosition, CallEnded, Command, CommitEnds, CommitsEntry, Content, Damaged, DeskState, DeviceFault, DiskGoesOn, DiskImage, EngineState, HasFailed, IsCrashConsistent, IsQuiet, KeepsBank, Life, MayLeave, MayStandIn, NoMemory, Outcome, Recording, RecordingIsRead, RecoversTo, Refusal, RefusesBoundaryIn, Registration, Reply, archive_after, archive_of, begins_frame, book_of, empty, goes_on_part, is_end, reads, recording_at, registration_in, registration_of, reply_after}
use Rattle.segment_store.proofs.ChainLemmas.{quiet_on}
use Rattle.control_core.specs.declared.asked.Told.TheVariants as told
use Rattle.control_core.specs.Exact.{ArchiveEnd, Is, plain}
use Rattle.control_core.specs.Machine as machine
use Rattle.control_core.specs.Machine.{Does, Ends, OrOutside, UnlessBoundary, Unread}
use Rattle.engine_core.specs.Engine.{IsAsBefore, IsSpared}
use Rattle.engine_core.proofs.calls.EndedLemmas.{ended_as, quiet_consistent, quiet_goes_on, quiet_moments, same_bank, still}
use Rattle.engine_core.proofs.calls.KnownLemmas.{is_read}
use Rattle.engine_core.proofs.calls.SweepCallLemmas.{one_refusal}

-- ---- what was done

-- what is decided where a frame begins at a position: the command is made, or refused
abbrev pub BegunEnds : Archive → Result Command Refusal → Type 0 → ArchiveEnd
BegunEnds a (Ok command) faulted = CommitEnds a (reply_after a.desk command) (archive_after a command) faulted
BegunEnds a (Err refusal) faulted = Is (Err refusal) a

-- a read may fail, which changes nothing
abbrev pub InsideEnds : Archive → Bool → Result Command Refusal → Type 0 → ArchiveEnd
InsideEnds a true decided faulted = OrOutside a faulted (λ b. b ≡ a) (BegunEnds a decided faulted)
InsideEnds a false decided faulted = OrOutside a faulted (λ b. b ≡ a) (Is (Err BadPosition) a)

-- What was done with what is decided where a frame begins at a position strictly inside a recording.
pub record MakesInside (old new : EngineState) (id position : ℤ) (decided : Result Command Refusal) (result : Result Reply Refusal) : Type 0 where
  pub goes_on : DiskGoesOn old.life new.life
  pub bank : KeepsBank old.log new.log
  pub kept : IsSpared (new.desk.is_broken ≡ old.desk.is_broken) old new result
  -- a fault has its cause, unless it is what was decided
  pub cause : IsErrOf result DeviceFault → IsErrOf decided DeviceFault ⊎ HasFailed old.life new.life
  pub machine : OrOutside old.desk ⊥ (λ d. ⊥) (UnlessBoundary old.desk (Does old.desk decided)) (plain result) new.desk
  pub ended : (c : Content) (r : Recording) → IsCrashConsistent old.life old.log (archive_of old c) → recording_at (archive_of old c) id ≡ Some r → is_end position (registration_of r) ≡ false →
      (begins_frame position r ≡ true → IfOk decided (λ command. Accepts (book_of (archive_of old c)) command)) → IsTrue new.life.obeys →
      CallEnded old new (archive_of old c) (InsideEnds (archive_of old c) (begins_frame position r) decided (HasFailed old.life new.life) result)

-- any content that an archive may have beside its desk
pub some_content : Content
some_content = record { state = empty; blocks = λ number. []; doubt = None }

-- ---- what the desk machine says

-- frames that cannot be read
boundary_unread : (d : DeskState) (obeys : Bool) (image : DiskImage) (g : Registration) (position : ℤ) (refusal : Refusal) → RefusesBoundaryIn obeys image g position refusal → Unread d (Err refusal) d
boundary_unread d obeys image g position DeviceFault refuses = inl (refl, refl)
boundary_unread d obeys image g position (Damaged recording at) refuses = inr (recording, at, (refl, refl))
boundary_unread d obeys image g position refusal refuses = absurd refuses

-- a commit is one that it allows
pub commit_step : (a : Archive) (command : Command) (faulted : Type 0) (outcome : Result Reply Refusal) (b : Archive) → CommitEnds a (reply_after a.desk command) (archive_after a command) faulted outcome b
    → OrOutside a.desk ⊥ (λ d. ⊥) (machine.Commits a.desk command) (plain outcome) b.desk
commit_step a command faulted (Ok reply) b (is, same) = inl (ap (λ (r : Reply). Ok (told.Reply r)) is, ap (λ (x : Archive). x.desk) same)
commit_step a command faulted (Err NoMemory) b same = inr (ap (λ (x : Archive). x.desk) same)
commit_step a command faulted (Err DeviceFault) b (cause, same) = inl (inr (inr (refl, ap (λ (x : Archive). x.desk) same)))
commit_step a command faulted (Err refusal) b never = absurd never

-- and has a cause where it is a fault
pub commit_cause : (a b : Archive) (reply : Reply) (faulted : Type 0) (outcome : Result Reply Refusal) (c : Archive) → CommitEnds a reply b faulted outcome c → outcome ≡ Err DeviceFault → faulted
commit_cause a b reply faulted outcome c ends is = let failed : CommitEnds a reply b faulted (Err DeviceFault) c = subst (λ (o : Result Reply Refusal). CommitEnds a reply b faulted o c) is ends in failed.0

behind_boundary : (d new : DeskState) (ends : Ends) (o : Outcome)
    → OrOutside d ⊥ (λ x. ⊥) ends o new → OrOutside d ⊥ (λ x. ⊥) (UnlessBoundary d ends) o new
behind_boundary d new ends (Ok answer) end = inr (inr end)
behind_boundary d new ends (Err refusal) end = elim end [ inl exact ↦ inl (inr (inr exact)) | inr out ↦ inr out ]

-- ---- how it ends

inside_fault : (a : Archive) (begins : Bool) (decided : Result Command Refusal) (faulted : Type 0)
    → faulted → InsideEnds a begins decided faulted (Err DeviceFault) a
inside_fault a true decided faulted cause = inr (cause, refl)
inside_fault a false decided faulted cause = inr (cause, refl)

commit_weaker : (a : Archive) (reply : Reply) (b : Archive) (F G : Type 0) (outcome : Result Reply Refusal) (c : Archive) → (F → G) → CommitEnds a reply b F outcome c → CommitEnds a reply b G outcome c
commit_weaker a reply b F G (Ok told) c to ends = ends
commit_weaker a reply b F G (Err NoMemory) c to ends = ends
commit_weaker a reply b F G (Err DeviceFault) c to ends = (to ends.0, ends.1)
commit_weaker a reply b F G (Err refusal) c to ends = absurd ends

begun_inside : (a : Archive) (command : Command) (faulted : Type 0) (outcome : Result Reply Refusal) (b : Archive) → CommitEnds a (reply_after a.desk command) (archive_after a command) faulted outcome b → InsideEnds a true (Ok command) faulted outcome b
begun_inside a command faulted (Ok reply) b ends = ends
begun_inside a command faulted (Err refusal) b ends = inl ends

failed_later : (old mid new : Life) → IsQuiet old mid → HasFailed mid new → HasFailed old new
failed_later old mid new quiet failed = omega (arith, quiet.faults, failed)

-- the engine behind a read: nothing but what befell the disk is another
abbrev pub behind_read : EngineState → Life → EngineState
behind_read old life = record old { life = life }

-- a call behind a read
behind_quiet : (old new : EngineState) (mid : Life) (a : Archive) (P : Archive → Type 0) → IsQuiet old.life mid → IsCrashConsistent old.life old.log a → CallEnded (behind_read old mid) new a P → CallEnded old new a P
behind_quiet old new mid a P quiet was ended = record {
  after = ended.after;
  ends = ended.ends;
  consistent = ended.consistent;
  any_moment = goes_on_part old.life mid new.life (RecoversTo (MayStandIn a (archive_of new ended.after))) (RecoversTo (MayStandIn a (archive_of new ended.after)))
      (quiet_moments old.life mid old.log a (archive_of new ended.after) quiet was) ended.any_moment (λ image is. is);
}

-- what a position and a read say of one another
abbrev pub Tells : Life → Life → Registration → ℤ → Bool → Type 0
Tells old new g position begins = (r : Recording) → RecordingIsRead old new g r → is_end position g ≡ false → begins ≡ begins_frame position r

-- what was read of a recording that is there
pub record HasAsked (old : EngineState) (mid : Life) (id : ℤ) (g : Registration) : Type 0 where
  pub stays : MayLeave old.life.now (reads old.life.now)
  pub found : Some g ≡ registration_in old.desk.register id
  pub quiet : IsQuiet old.life mid

module _ (old : EngineState) (mid : Life) (id position : ℤ) (g : Registration) (decided : Result Command Refusal) (asked : HasAsked old mid id g) where
  read_of : (c : Content) (r : Recording) → IsCrashConsistent old.life old.log (archive_of old c) → recording_at (archive_of old c) id ≡ Some r → IsTrue mid.obeys → RecordingIsRead old.life mid g r
  read_of c r was found obeys = is_read old.life mid old.log (archive_of old c) id g r asked.stays was asked.found found obeys

  begins_is : (begins : Bool) (r : Recording) → Tells old.life mid g position begins → RecordingIsRead old.life mid g r → is_end position (registration_of r) ≡ false → begins_frame position r ≡ begins
  begins_is begins r tells read inside = sym (tells r read (subst (λ (x : Registration). is_end position x ≡ false) (sym read.is) inside))

  read_before : IsAsBefore old (behind_read old mid)
  read_before = record { files = asked.quiet; log = refl; desk = refl }

  -- the frames could not be read
  pub inside_unread : (outcome : Result Reply Refusal) (refusal : Refusal) (obeys : Bool) (image : DiskImage) (at : ℤ) → outcome ≡ Err refusal → RefusesBoundaryIn obeys image g at refusal
      → ((r : Recording) → RecordingIsRead old.life mid g r → refusal ≡ DeviceFault) → (refusal ≡ DeviceFault → HasFailed old.life mid) → MakesInside old (behind_read old mid) id position decided outcome
  inside_unread outcome refusal obeys image at is refuses fault cause = subst (MakesInside old (behind_read old mid) id position decided) (sym is) (record {
    goes_on = quiet_goes_on old.life mid asked.quiet;
    bank = same_bank old.log old.log refl;
    kept = λ harmless. read_before;
    cause = λ failed. inr (cause (one_refusal (Err refusal) refusal DeviceFault refl failed));
    machine = inl (inr (inl (boundary_unread old.desk obeys image g at refusal refuses)));
    ended = λ c r was found inside accepts obeyed.
        let a = archive_of old c in
        let same = fault r (read_of c r was found obeyed) in
        still old (behind_read old mid) a (InsideEnds a (begins_frame position r) decided (HasFailed old.life mid) (Err refusal)) asked.quiet refl refl was
        (subst (λ (x : Refusal). InsideEnds a (begins_frame position r) decided (HasFailed old.life mid) (Err x) a) (sym same) (inside_fault a (begins_frame position r) decided (HasFailed old.life mid) (cause same)));
  })

  -- no frame begins there
  pub inside_none : Tells old.life mid g position false
      → MakesInside old (behind_read old mid) id position decided (Err BadPosition)
  inside_none tells = record {
    goes_on = quiet_goes_on old.life mid asked.quiet;
    bank = same_bank old.log old.log refl;
    kept = λ harmless. read_before;
    cause = λ failed. absurd (let clash = failed in cc);
    machine = inl (inl (refl, refl));
    ended = λ c r was found inside accepts obeyed.
        let a = archive_of old c in
        let none = begins_is false r tells (read_of c r was found obeyed) inside in
        still old (behind_read old mid) a (InsideEnds a (begins_frame position r) decided (HasFailed old.life mid) (Err BadPosition)) asked.quiet refl refl was
        (subst (λ (t : Bool). InsideEnds a t decided (HasFailed old.life mid) (Err BadPosition) a) (sym none) (inl (refl, refl)));
  }

  -- one does, and what is decided is a refusal
  pub inside_refused : (outcome : Result Reply Refusal) (refusal : Refusal) → outcome ≡ Err refusal → decided ≡ Err refusal → Tells old.life mid g position true → MakesInside old (behind_read old mid) id position decided outcome
  inside_refused outcome refusal is refused tells = subst (MakesInside old (behind_read old mid) id position decided) (sym is) (record {
    goes_on = quiet_goes_on old.life mid asked.quiet;
    bank = same_bank old.log old.log refl;
    kept = λ harmless. read_before;
    cause = λ failed. inl (refused ∙ as_decided failed);
    machine = inl (inr (inr (subst (λ (x : Result Command Refusal). Does old.desk x (Err refusal) old.desk) (sym refused) (refl, refl))));
    ended = λ c r was found inside accepts obeyed.
        let a = archive_of old c in
        let begins = begins_is true r tells (read_of c r was found obeyed) inside in
        still old (behind_read old mid) a (InsideEnds a (begins_frame position r) decided (HasFailed old.life mid) (Err refusal)) asked.quiet refl refl was
        (subst (λ (t : Bool). InsideEnds a t decided (HasFailed old.life mid) (Err refusal) a) (sym begins)
        (subst (λ (x : Result Command Refusal). InsideEnds a true x (HasFailed old.life mid) (Err refusal) a) (sym refused) (inl (refl, refl))));
  })
    where
      as_decided : (o : IsErrOf {T = Reply} (Err refusal) DeviceFault) → IsErrOf {T = Command} (Err refusal) DeviceFault
      as_decided same = cc

  -- or a command, which was made
  pub inside_made : (new : EngineState) (command : Command) (outcome : Result Reply Refusal)
      → decided ≡ Ok command → Tells old.life mid g position true
      → CommitsEntry (behind_read old mid) new (λ a. Accepts (book_of a) command) (reply_after old.desk command) (λ a. archive_after a command) outcome → MakesInside old new id position decided outcome
  inside_made new command outcome is tells commits = record {
    goes_on = record { obeyed = λ obeys. asked.quiet.obeyed (commits.goes_on.obeyed obeys); faults = omega (arith, asked.quiet.faults, commits.goes_on.faults) };
    bank = commits.bank;
    kept = spared_behind new outcome commits.kept;
    cause = λ failed. inr (failed_later old.life mid new.life asked.quiet (commit_cause (archive_of old some_content) (archive_after (archive_of old some_content) command) (reply_after old.desk command) (HasFailed mid new.life) outcome (archive_of new some.0) some.1 failed));
    machine = behind_boundary old.desk new.desk (Does old.desk decided) (plain outcome)
        (subst (λ (x : Result Command Refusal). OrOutside old.desk ⊥ (λ d. ⊥) (Does old.desk x) (plain outcome) new.desk) (sym is) (commit_step (archive_of old some_content) command (HasFailed mid new.life) outcome (archive_of new some.0) some.1));
    ended = λ c r was found inside accepts obeyed.
        let a = archive_of old c in
        let faulted = HasFailed old.life new.life in
        let begins = begins_is true r tells (read_of c r was found (commits.goes_on.obeyed obeyed)) inside in
        let holds : Accepts (book_of a) command = subst (λ (x : Result Command Refusal). IfOk x (λ made. Accepts (book_of a) made)) is (accepts begins) in
        behind_quiet old new mid a (InsideEnds a (begins_frame position r) decided faulted outcome) asked.quiet was
        (ended_as (behind_read old mid) new a (CommitEnds a (reply_after a.desk command) (archive_after a command) (HasFailed mid new.life) outcome) (InsideEnds a (begins_frame position r) decided faulted outcome)
        (λ b ends. subst (λ (t : Bool). InsideEnds a t decided faulted outcome b) (sym begins)
        (subst (λ (x : Result Command Refusal). InsideEnds a true x faulted outcome b) (sym is)
        (begun_inside a command faulted outcome b (commit_weaker a (reply_after a.desk command) (archive_after a command) (HasFailed mid new.life) faulted outcome b (failed_later old.life mid new.life asked.quiet) ends))))
        (commits.ended c (quiet_consistent old.life mid old.log a asked.quiet was) holds));
  }
    where
      spared_behind : (now : EngineState) (o : Result Reply Refusal) → IsSpared (now.desk.is_broken ≡ old.desk.is_broken) (behind_read old mid) now o → IsSpared (now.desk.is_broken ≡ old.desk.is_broken) old now o
      spared_behind now (Ok reply) is = tt
      spared_behind now (Err refusal) is = λ harmless. (let same = is harmless in record { files = quiet_on old.life mid now.life asked.quiet same.files; log = same.log; desk = same.desk })

      some : (after : Content) × CommitEnds (archive_of old some_content) (reply_after old.desk command) (archive_after (archive_of old some_content) command) (HasFailed mid new.life) outcome (archive_of new after)
      some = commits.exact some_content
