-- How a replay is opened.
use Rattle.std.proofs.Common.{◌≡◌, ◌∙◌, inl, inr, sym, ap, subst, refl, cond, ℤ, pos, ◌+ℤ◌, Bool, true, false, true≢false, ◌&&◌, IsTrue, List, [], ◌∷◌, ◌++◌, Option, None, Some}
use Rattle.std.specs.Prelude.{IfErr, IfOk, IsErrOf, Result, Ok, Err, int_le, is_some, negsuc}
use Rattle.engine_core.proofs.Words.{Archive, BadPosition, CallEnds, Content, DeskState, DeviceFault, EndsEvent, EngineState, HasFailed, IsAtBoundary, IsCrashConsistent, IsQuiet, Life, LogState, MayLeave, NoMemory, OpenReplay, Recording, RecordingIsRead, Refusal, Registration, Tests, archive_of, begins_frame, block_checks, both, checked, first_checks, held, is_end, is_of, last_checks, open_decision, passes, reads, registration_in, with_desk}
use Rattle.archive_model.specs.declared.reply.Reply.TheVariants as replies
use Rattle.archive_model.specs.Accepting.{begins_in}
use Rattle.archive_model.specs.Checks.{is_boundary_by}
use Rattle.archive_model.proofs.RegisterLemmas.{each_push}
use Rattle.control_core.specs.declared.asked.Told.TheVariants as told
use Rattle.control_core.specs.declared.event.Event.TheVariants as events
use Rattle.control_core.specs.declared.turns.Opening.{Opening}
use Rattle.control_core.specs.Opened.{OpeningDecision}
use Rattle.control_core.specs.Opened as opening
use Rattle.control_core.specs.ByDecision.{OpensBy}
use Rattle.control_core.specs.Changes.{after_open}
use Rattle.control_core.specs.Exact.{OpeningEnds, asked_opening, opens_by_frames}
use Rattle.control_core.specs.Turns.{begins_at, open_tests, opened_at, opening_decided, opening_in, opening_of}
use Rattle.control_core.proofs.CallLemmas.{opening_allowed}
use Rattle.control_core.proofs.ConsistentLemmas.{opened_at_boundary}
use Rattle.control_core.proofs.DeskLemmas.{keeps_opened}
use Rattle.control_core.proofs.StepLemmas.{open_step}
use Rattle.engine_core.specs.Calls.{IfRead}
use Rattle.engine_core.specs.Replaying.{IsDecided}
use Rattle.engine_core.proofs.calls.KnownLemmas.{one_known, read_known}
use Rattle.engine_core.proofs.replays.ReplayLemmas.{checked_fault, has_fault, reads_on, reads_only, unkept}
use Rattle.engine_core.proofs.calls.ShownLemmas.{ComesBehind, among, comes_behind}

-- ---- what the desk decides

-- the replay that a decision leads to
pub leads_to : (decision : OpeningDecision) (decided : Result Opening Refusal)
    → decision ≡ opening.Decided decided → IfOk decided (λ o. opening_in decision ≡ Some o)
leads_to decision (Ok o) is = ap opening_in is
leads_to decision (Err refusal) is = tt

pub leads_inside : (decision : OpeningDecision) (boundary : ℤ) (decided : Result Opening Refusal) → decision ≡ opening.IfBoundary boundary decided → IfOk decided (λ o. opening_in decision ≡ Some o)
leads_inside decision boundary (Ok o) is = ap opening_in is
leads_inside decision boundary (Err refusal) is = tt

-- a position that the frames are asked of lies strictly inside a recording that is there
pub record IsInside (d : DeskState) (id boundary : ℤ) : Type 0 where
  pub known : Registration
  pub found : registration_in d.register id ≡ Some known
  pub inside : is_end boundary known ≡ false

-- the checks in front have passed
inside_front : (tests : Tests) (rs : List Refusal) (decision : OpeningDecision) (boundary : ℤ) (decided : Result Opening Refusal) → opening_decided (checked tests rs (Ok decision)) ≡ opening.IfBoundary boundary decided
    → (passes tests rs ≡ true) × (decision ≡ opening.IfBoundary boundary decided)
inside_front tests [] decision boundary decided e = (refl, e)
inside_front tests (r ∷ rs) decision boundary decided e = by (tests r) e (inside_front tests rs decision boundary decided)
  where
    by : (b : Bool) → opening_decided (cond b (checked tests rs (Ok decision)) (Err r)) ≡ opening.IfBoundary boundary decided
        → (opening_decided (checked tests rs (Ok decision)) ≡ opening.IfBoundary boundary decided → (passes tests rs ≡ true) × (decision ≡ opening.IfBoundary boundary decided))
        → ((b && passes tests rs) ≡ true) × (decision ≡ opening.IfBoundary boundary decided)
    by true e rest = rest e
    by false e rest = absurd cc

inside_at : (d : DeskState) (id boundary next : ℤ) (found : Option Registration) (behind decided : Result Opening Refusal) → registration_in d.register id ≡ found → is_some found ≡ true → opened_at found behind next ≡ opening.IfBoundary boundary decided → IsInside d id boundary
inside_at d id boundary next None behind decided there some e = absurd (true≢false (sym some))
inside_at d id boundary next (Some r) behind decided there some e = by (is_end next r) refl e
  where
    by : (b : Bool) → is_end next r ≡ b → cond b (opening.Decided behind) (opening.IfBoundary next behind) ≡ opening.IfBoundary boundary decided → IsInside d id boundary
    by true is e = absurd cc
    by false is e = let same : next ≡ boundary = cc in record { known = r; found = there; inside = subst (λ (p : ℤ). is_end p r ≡ false) same is }

-- the recording is there once the checks in front have passed
there_of : (d : DeskState) (id position size : ℤ) → passes (open_tests d id position size true) first_checks ≡ true → is_some (registration_in d.register id) ≡ true
there_of d id position size pass =
    let found : Option Registration = registration_in d.register id in
    let boundary : Bool = is_of found (is_boundary_by true (begins_at position found)) in
    let in_range : Bool = int_le (negsuc 0) position && int_le (negsuc 0) size in
    let range : (in_range ≡ true) × ((is_some found && (boundary && true)) ≡ true) = both pass in
    (both range.1).0

pub opens_inside : (d : DeskState) (id position size boundary : ℤ) (decided : Result Opening Refusal) → open_decision d id position size ≡ opening.IfBoundary boundary decided → IsInside d id boundary
opens_inside d id position size boundary decided e =
    let tests : Tests = open_tests d id position size true in
    let found : Option Registration = registration_in d.register id in
    let behind : Result Opening Refusal = checked tests (block_checks ++ last_checks) (Ok (opening_of d id position size)) in
    let front = inside_front tests first_checks (opened_at found behind (begins_at position found)) boundary decided e in
    inside_at d id boundary (begins_at position found) found behind decided refl (there_of d id position size front.0) front.1

-- ---- no device fault is decided

-- what is decided, by the desk or where a frame begins
abbrev pub outcome_in : OpeningDecision → Result Opening Refusal
outcome_in (opening.Decided decided) = decided
outcome_in (opening.IfBoundary position decided) = decided

front_fault : (tests : Tests) (rs : List Refusal) (decision : OpeningDecision) → has_fault rs ≡ false → outcome_in (opening_decided (checked tests rs (Ok decision))) ≡ Err DeviceFault → outcome_in decision ≡ Err DeviceFault
front_fault tests rs decision none is = by (checked tests rs (Ok decision)) refl is
  where
    by : (x : Result OpeningDecision Refusal) → checked tests rs (Ok decision) ≡ x
        → outcome_in (opening_decided x) ≡ Err DeviceFault → outcome_in decision ≡ Err DeviceFault
    by (Ok made) same e = let one : decision ≡ made = (held tests rs decision made same).1 in ap outcome_in one ∙ e
    by (Err refusal) same e =
        let fault : refusal ≡ DeviceFault = cc in
        let told : Ok decision ≡ Err DeviceFault = checked_fault tests rs (Ok decision) none (same ∙ ap Err fault) in
        absurd cc

behind_is : (found : Option Registration) (behind : Result Opening Refusal) (next : ℤ)
    → outcome_in (opened_at found behind next) ≡ behind
behind_is None behind next = refl
behind_is (Some r) behind next = by (is_end next r)
  where
    by : (b : Bool) → outcome_in (cond b (opening.Decided behind) (opening.IfBoundary next behind)) ≡ behind
    by true = refl
    by false = refl

pub opening_no_fault : (d : DeskState) (id position size : ℤ) (decided : Result Opening Refusal)
    → outcome_in (open_decision d id position size) ≡ decided → IsErrOf decided DeviceFault → ⊥
opening_no_fault d id position size decided is fault =
    let tests : Tests = open_tests d id position size true in
    let found : Option Registration = registration_in d.register id in
    let next : ℤ = begins_at position found in
    let behind : Result Opening Refusal = checked tests (block_checks ++ last_checks) (Ok (opening_of d id position size)) in
    let refused : behind ≡ Err DeviceFault = sym (behind_is found behind next) ∙ front_fault tests first_checks (opened_at found behind next) refl (is ∙ fault) in
    let told : Ok (opening_of d id position size) ≡ Err DeviceFault = checked_fault tests (block_checks ++ last_checks) (Ok (opening_of d id position size)) refl refused in
    absurd cc

-- what is decided behind the position of frames
pub opens_behind : (d : DeskState) (id position size boundary : ℤ) (decided : Result Opening Refusal) → open_decision d id position size ≡ opening.IfBoundary boundary decided → ComesBehind decided
opens_behind d id position size boundary decided e =
    let tests : Tests = open_tests d id position size true in
    let found : Option Registration = registration_in d.register id in
    let next : ℤ = begins_at position found in
    let behind : Result Opening Refusal = checked tests (block_checks ++ last_checks) (Ok (opening_of d id position size)) in
    let front = inside_front tests first_checks (opened_at found behind next) boundary decided e in
    let same : behind ≡ decided = sym (behind_is found behind next) ∙ ap outcome_in front.1 in
    subst ComesBehind same (among ComesBehind comes_behind tests (block_checks ++ last_checks) (Ok (opening_of d id position size)) refl (λ r other. other) tt)

-- ---- what the desk machine allows

abbrev pub Allowed : DeskState → OpeningDecision → Refusal → Type 0
Allowed d decision refusal = OpensBy d decision (Err refusal) d

allowed_by : (d : DeskState) (one decision : OpeningDecision) (refusal : Refusal) → decision ≡ one
    → Allowed d one refusal → Allowed d decision refusal
allowed_by d one decision refusal is allows = subst (λ (x : OpeningDecision). Allowed d x refusal) (sym is) allows

pub allowed_alone : (d : DeskState) (decision : OpeningDecision) (decided : Result Opening Refusal)
    → decision ≡ opening.Decided decided → IfErr decided (Allowed d decision)
allowed_alone d decision (Ok o) is = tt
allowed_alone d decision (Err refusal) is = allowed_by d (opening.Decided (Err refusal)) decision refusal is (refl, refl)

pub allowed_behind : (d : DeskState) (decision : OpeningDecision) (boundary : ℤ) (decided : Result Opening Refusal) → decision ≡ opening.IfBoundary boundary decided → IfErr decided (Allowed d decision)
allowed_behind d decision boundary (Ok o) is = tt
allowed_behind d decision boundary (Err refusal) is = allowed_by d (opening.IfBoundary boundary (Err refusal)) decision refusal is (inr (inr (refl, refl)))

-- no frame begins there
pub allowed_nowhere : (d : DeskState) (decision : OpeningDecision) (boundary : ℤ) (decided : Result Opening Refusal) → decision ≡ opening.IfBoundary boundary decided → Allowed d decision BadPosition
allowed_nowhere d decision boundary decided is = allowed_by d (opening.IfBoundary boundary decided) decision BadPosition is (inl (refl, refl))

-- a replay that is opened
opens_by : (d : DeskState) (decision : OpeningDecision) (o : Opening) → opening_in decision ≡ Some o → OpensBy d decision (Ok (told.Reply (replies.ReplayOpened d.callers.next_replay))) (after_open o.recording o.next o.bound d)
opens_by d (opening.Decided (Ok x)) o e = let same : x ≡ o = cc in (refl, ap (λ (y : Opening). after_open y.recording y.next y.bound d) (sym same))
opens_by d (opening.Decided (Err refusal)) o e = absurd cc
opens_by d (opening.IfBoundary position (Ok x)) o e = let same : x ≡ o = cc in inr (inr (refl, ap (λ (y : Opening). after_open y.recording y.next y.bound d) (sym same)))
opens_by d (opening.IfBoundary position (Err refusal)) o e = absurd cc

-- ---- what the frames say of it

-- what is told of a position strictly inside it decides
pub asked_read : (old new : Life) (log : LogState) (desk : DeskState) (a : Archive) (id position size boundary at : ℤ) (decided : Result Opening Refusal) (known : Registration) (told : Bool) → MayLeave old.now (reads old.now) → desk ≡ a.desk → IsCrashConsistent old log a
    → Some known ≡ registration_in desk.register id → opening.IfBoundary boundary decided ≡ open_decision desk id position size → boundary ≡ at → IsTrue new.obeys → ((r : Recording) → RecordingIsRead old new known r → is_end at known ≡ false → told ≡ begins_frame at r)
    → asked_opening a id (open_decision a.desk id position size) ≡ cond told decided (Err BadPosition)
asked_read old new log desk a id position size boundary at decided known told stays desk_is was found is same obeys tells =
    let inside = opens_inside desk id position size boundary decided (sym is) in
    let one : inside.known ≡ known = one_known inside.known known (sym inside.found ∙ sym found) in
    let ends : is_end at known ≡ false = subst (λ (p : ℤ). is_end p known ≡ false) same (subst (λ (g : Registration). is_end boundary g ≡ false) one inside.inside) in
    let read = read_known old new log a id known stays was (found ∙ ap (λ (d : DeskState). registration_in d.register id) desk_is) obeys in
    let begins : begins_frame boundary read.0 ≡ told = ap (λ (p : ℤ). begins_frame p read.0) same ∙ sym (tells read.0 read.2 ends) in
    ap (λ (d : DeskState). asked_opening a id (open_decision d id position size)) (sym desk_is) ∙ ap (asked_opening a id) (sym is)
    ∙ ap (λ (o : Option Recording). cond (begins_in o boundary) decided (Err BadPosition)) read.1 ∙ ap (λ (t : Bool). cond t decided (Err BadPosition)) begins

-- where the desk decides alone
pub asked_alone : (a : Archive) (desk : DeskState) (id position size : ℤ) (decided : Result Opening Refusal) → desk ≡ a.desk → opening.Decided decided ≡ open_decision desk id position size → asked_opening a id (open_decision a.desk id position size) ≡ decided
asked_alone a desk id position size decided same is = ap (λ (d : DeskState). asked_opening a id (open_decision d id position size)) (sym same) ∙ ap (asked_opening a id) (sym is)

-- ---- how it ends

-- where no fault came, it is what is decided
pub is_opened : (decided : Result Opening Refusal) (faulted : Type 0) (o : Opening)
    → IsDecided decided faulted (Ok o) → decided ≡ Ok o
is_opened decided faulted o is = elim is [ inl same ↦ sym same | inr fault ↦ absurd (none fault.0) ]
  where
    none : Ok o ≡ Err DeviceFault → ⊥
    none e = cc

module _ (a : Archive) (id position size : ℤ) (faulted : Type 0) where
  -- it is refused, or the frames cannot be read
  opening_refused : (refusal : Refusal) → IsDecided (asked_opening a id (open_decision a.desk id position size)) (faulted × IsTrue (opens_by_frames (open_decision a.desk id position size))) (Err refusal) → CallEnds a (events.ReplayOpen id position size) faulted (Err refusal) a
  opening_refused refusal decided = elim decided [
    | inl same ↦ inl (subst (λ (d : Result Opening Refusal). OpeningEnds a d (Err refusal) a) same (refl, refl))
    | inr fault ↦ let failed : DeviceFault ≡ refusal = (let e = fault.0 in cc) in subst (λ (x : Refusal). CallEnds a (events.ReplayOpen id position size) faulted (Err x) a) failed (inr (fault.1.0, inl (fault.1.1, refl)))
  ]

  opening_ends : (o : Opening) → asked_opening a id (open_decision a.desk id position size) ≡ Ok o → CallEnds a (events.ReplayOpen id position size) faulted (Ok (replies.ReplayOpened a.desk.callers.next_replay)) (with_desk (after_open o.recording o.next o.bound a.desk) a)
  opening_ends o decided = subst (λ (d : Result Opening Refusal). OpeningEnds a d (Ok (replies.ReplayOpened a.desk.callers.next_replay)) (with_desk (after_open o.recording o.next o.bound a.desk) a)) (sym decided) (refl, refl)

-- what an archive of this desk gives
abbrev pub IsDecidedOf : EngineState → EngineState → ℤ → ℤ → ℤ → Result Opening Refusal → Type 0
IsDecidedOf old new id position size result = (log : LogState) (a : Archive) → old.desk ≡ a.desk → IsCrashConsistent old.life log a →
    IfRead (opens_by_frames (open_decision a.desk id position size)) new.life
    (IsDecided (asked_opening a id (open_decision a.desk id position size)) (HasFailed old.life new.life × IsTrue (opens_by_frames (open_decision a.desk id position size))) result)

pub open_refused : (old new : EngineState) (id position size : ℤ) (refusal : Refusal) → IsQuiet old.life new.life → new.log ≡ old.log → new.desk ≡ old.desk → (IsErrOf {T = Opening} (Err refusal) DeviceFault → HasFailed old.life new.life)
    → Allowed old.desk (open_decision old.desk id position size) refusal → IsDecidedOf old new id position size (Err refusal) → EndsEvent old new (events.ReplayOpen id position size) (Err refusal)
open_refused old new id position size refusal quiet log desk cause allowed decided =
    reads_only old new (events.ReplayOpen id position size) (Err refusal) quiet log desk (λ is. absurd cc) refl (λ fault. cause (let same : refusal ≡ DeviceFault = cc in ap Err same))
    (inl (open_step old.desk id position size (Err refusal) old.desk allowed))
    (λ c was. ((λ reading. opening_refused (archive_of old c) id position size (HasFailed old.life new.life) refusal (decided old.log (archive_of old c) refl was reading)), refl))

-- memory was refused
pub open_unkept : (old new : EngineState) (id position size : ℤ) → IsQuiet old.life new.life → new.log ≡ old.log → new.desk ≡ old.desk → EndsEvent old new (events.ReplayOpen id position size) (Err NoMemory)
open_unkept old new id position size quiet log desk =
    reads_only old new (events.ReplayOpen id position size) (Err NoMemory) quiet log desk (λ is. absurd cc) refl (λ fault. absurd cc) (inr refl)
    (λ c was. ((λ reading. unkept (archive_of old c) (events.ReplayOpen id position size) (HasFailed old.life new.life) NoMemory refl), refl))

pub open_done : (old new : EngineState) (id position size number : ℤ) (o : Opening) → number ≡ old.desk.callers.next_replay → IsQuiet old.life new.life → new.log ≡ old.log → new.desk ≡ after_open o.recording o.next o.bound old.desk → opening_in (open_decision old.desk id position size) ≡ Some o
    → IsDecidedOf old new id position size (Ok o) → EndsEvent old new (events.ReplayOpen id position size) (Ok (replies.ReplayOpened number))
open_done old new id position size number o numbered quiet log desk leads decided =
    let next : ℤ = old.desk.callers.next_replay in
    let replay : OpenReplay = record { number = next; recording = o.recording; next = o.next; bound = o.bound } in
    let may = opening_allowed old.desk id position size o leads in
    let opens = λ (c : Content) (was : IsCrashConsistent old.life old.log (archive_of old c)) (reading : IsTrue (opens_by_frames (open_decision old.desk id position size)) → IsTrue new.life.obeys).
    is_opened (asked_opening (archive_of old c) id (open_decision old.desk id position size)) (HasFailed old.life new.life × IsTrue (opens_by_frames (open_decision old.desk id position size))) o (decided old.log (archive_of old c) refl was reading) in
    subst (λ (n : ℤ). EndsEvent old new (events.ReplayOpen id position size) (Ok (replies.ReplayOpened n))) (sym numbered)
    (reads_on old new (events.ReplayOpen id position size) (replies.ReplayOpened next) (old.desk.callers.replays ++ replay ∷ []) (next +ℤ pos 1) quiet log desk (λ is. absurd cc) refl
    (open_step old.desk id position size (Ok (told.Reply (replies.ReplayOpened next))) (after_open o.recording o.next o.bound old.desk) (opens_by old.desk (open_decision old.desk id position size) o leads))
    (λ seats. keeps_opened old.desk.register old.desk.callers replay refl may.few may.there seats)
    (λ c was obeys. each_push (IsAtBoundary c.state) old.desk.callers.replays replay (was.boundaries (quiet.obeyed obeys)) (opened_at_boundary (archive_of old c) id position size o was.archive.agrees (opens c was (λ asks. obeys))))
    (λ c was. ((λ reading. opening_ends (archive_of old c) id position size (HasFailed old.life new.life) o (opens c was reading)), refl)))
