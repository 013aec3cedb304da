-- What a call tells of frames, whatever the files hold.
use Rattle.std.proofs.Common.{◌≡◌, ◌∙◌, ◌&&◌, ◌||◌, sym, ap, subst, refl, Bool, true, false, true≢false, cond, Option, Some, None, ℤ, List, [], ◌∷◌}
use Rattle.std.specs.Prelude.{IfSome, IsErrOf, Result, Ok, Err, unsigned_abs}
use Rattle.engine_core.proofs.Words.{Archive, BadPosition, Command, CommitEnds, Damaged, Decides, Decision, DeskState, DeviceFault, DiskImage, NoMemory, OpenReplay, Refusal, RefusesBoundaryIn, RefusesCount, RefusesPoll, Registration, Reply, Request, TellsBoundaryIn, Tests, checked, decision_of, geometry_of, layout_of, passes, poll_decision, registration_in}
use Rattle.control_core.specs.Decided as decisions
use Rattle.control_core.specs.declared.turns.Opening.{Opening}
use Rattle.control_core.specs.Opened.{OpeningDecision}
use Rattle.control_core.specs.Opened as opening
use Rattle.control_core.specs.Turns.{held_back}
use Rattle.engine_core.specs.Replaying.{ShowsBegin, ShowsOpening}
use Rattle.engine_core.specs.Shown.{AsksDecided, AsksShown, CountsShown, OpensShown, PollsDecided, PollsShown}

-- ---- refusals of checks behind the position

-- what is refused behind the position of frames: by none of what says of it that no frame begins there, or can't be read
abbrev pub comes_behind : Tests
comes_behind BadPosition = false
comes_behind (Damaged recording at) = false
comes_behind DeviceFault = false
comes_behind NoMemory = false
comes_behind _ = true

abbrev pub ComesBehind : {X : Type 0} → Result X Refusal → Type 0
ComesBehind (Ok x) = Unit {0}
ComesBehind (Err refusal) = comes_behind refusal ≡ true

pub split : (b c : Bool) → (b && c) ≡ true → (b ≡ true) × (c ≡ true)
split true c is = (refl, is)
split false c is = absurd (true≢false (sym is))

-- what holds of some refusals, which are those of the checks, and of an answer holds of what is checked
pub among : {X : Type 0} (P : Result X Refusal → Type 0) (some tests : Tests) (rs : List Refusal) (answer : Result X Refusal) → passes some rs ≡ true → ((r : Refusal) → some r ≡ true → P (Err r)) → P answer → P (checked tests rs answer)
among P some tests [] answer all err ok = ok
among P some tests (r ∷ rs) answer all err ok = by (tests r) (err r (split (some r) (passes some rs) all).0) (among P some tests rs answer (split (some r) (passes some rs) all).1 err ok)
  where
    by : (b : Bool) → P (Err r) → P (checked tests rs answer)
        → P (cond b (checked tests rs answer) (Err r))
    by true here rest = rest
    by false here rest = here

-- ---- one refusal of a list of checks

abbrev pub is_memory : Tests
is_memory NoMemory = true
is_memory _ = false

abbrev pub is_damage : Tests
is_damage (Damaged recording at) = true
is_damage _ = false

abbrev pub is_among : Tests → List Refusal → Bool
is_among P [] = false
is_among P (r ∷ rs) = P r || is_among P rs

-- none of these is answered by checks that are others
pub checked_not : {X : Type 0} (P tests : Tests) (rs : List Refusal) (x : X) (refusal : Refusal) → is_among P rs ≡ false → checked tests rs (Ok x) ≡ Err refusal → P refusal ≡ false
checked_not P tests [] x refusal none is = absurd cc
checked_not {X = X} P tests (r ∷ rs) x refusal none is = by (tests r) is (checked_not P tests rs x refusal (behind (P r) none))
  where
    behind : (b : Bool) → (b || is_among P rs) ≡ false → is_among P rs ≡ false
    behind true e = absurd (true≢false e)
    behind false e = e

    front : (b : Bool) → (b || is_among P rs) ≡ false → b ≡ false
    front true e = absurd (true≢false e)
    front false e = refl

    by : (b : Bool) → cond b (checked tests rs (Ok x)) (Err r) ≡ Err refusal → (checked tests rs (Ok x) ≡ Err refusal → P refusal ≡ false) → P refusal ≡ false
    by true e later = later e
    by false e later = let same : r ≡ refusal = cc in subst (λ (y : Refusal). P y ≡ false) same (front (P r) none)

pub not_memory : {X : Type 0} (refusal : Refusal) → is_memory refusal ≡ false → IsErrOf {T = X} (Err refusal) NoMemory → ⊥
not_memory {X = X} refusal none is =
    let same : refusal ≡ NoMemory = cc in true≢false (ap is_memory (sym same) ∙ none)

-- ---- a truncation

module _ (image : DiskImage) (g : Registration) (position : ℤ) where
  -- frames that could not be read
  pub unread_shown : (refusal : Refusal) → RefusesBoundaryIn true image g position refusal → AsksShown image g position (Err refusal)
  unread_shown DeviceFault refuses = tt
  unread_shown (Damaged recording at) refuses = refuses
  unread_shown refusal refuses = absurd refuses

  -- what comes behind a position where a frame begins
  pub behind_shown : (refusal : Refusal) → comes_behind refusal ≡ true → TellsBoundaryIn image g position true → AsksShown image g position (Err refusal)
  behind_shown BadPosition behind told = absurd (true≢false (sym behind))
  behind_shown (Damaged recording at) behind told = absurd (true≢false (sym behind))
  behind_shown DeviceFault behind told = tt
  behind_shown NoMemory behind told = tt
  behind_shown refusal behind told = told

  -- the same of a replay that is to be opened
  pub unread_begin : (refusal : Refusal) → RefusesBoundaryIn true image g position refusal → ShowsBegin image g position (Err refusal)
  unread_begin DeviceFault refuses = tt
  unread_begin (Damaged recording at) refuses = refuses
  unread_begin refusal refuses = absurd refuses

  pub behind_begin : (decided : Result Opening Refusal) → ComesBehind decided → TellsBoundaryIn image g position true → ShowsBegin image g position decided
  behind_begin (Ok made) behind told = told
  behind_begin (Err BadPosition) behind told = absurd (true≢false (sym behind))
  behind_begin (Err (Damaged recording at)) behind told = absurd (true≢false (sym behind))
  behind_begin (Err DeviceFault) behind told = tt
  behind_begin (Err NoMemory) behind told = tt
  behind_begin (Err refusal) behind told = told

  -- what is told of the position is told of the call
  pub begin_shown : (refusal : Refusal) → ShowsBegin image g position (Err refusal) → AsksShown image g position (Err refusal)
  begin_shown BadPosition shows = shows
  begin_shown (Damaged recording at) shows = shows
  begin_shown DeviceFault shows = tt
  begin_shown NoMemory shows = tt
  begin_shown refusal shows = shows

  -- a command that was made, or could not be
  pub made_shown : (a b : Archive) (reply : Reply) (faulted : Type 0) (outcome : Result Reply Refusal) (c : Archive) → CommitEnds a reply b faulted outcome c → TellsBoundaryIn image g position true → AsksShown image g position outcome
  made_shown a b reply faulted (Ok told) c ends shown = shown
  made_shown a b reply faulted (Err NoMemory) c ends shown = tt
  made_shown a b reply faulted (Err DeviceFault) c ends shown = tt
  made_shown a b reply faulted (Err refusal) c ends shown = absurd ends

module _ (image : DiskImage) (d : DeskState) where
  -- of a request that frames decide nothing about
  pub refused_shown : (takes : Bool) (request : Request) (refusal : Refusal) → Decides takes (decisions.Refused refusal) (decision_of d request) → AsksDecided image d (decision_of d request) (Err refusal)
  refused_shown takes request refusal decides = by refusal decides
    where
      any : (decision : Decision) → AsksDecided image d decision (Err NoMemory)
      any (decisions.Refused r) = tt
      any (decisions.Answered reply) = tt
      any (decisions.Accepted command) = tt
      any (decisions.IfBoundary id position behind) = inside (registration_in d.register id)
        where
          inside : (o : Option Registration) → IfSome o (λ g. AsksShown image g position (Err NoMemory))
          inside None = tt
          inside (Some g) = tt

      by : (r : Refusal) → Decides takes (decisions.Refused r) (decision_of d request) → AsksDecided image d (decision_of d request) (Err r)
      by NoMemory is = any (decision_of d request)
      by r is = subst (λ (x : Decision). AsksDecided image d x (Err r)) is tt

  -- of one that they decide
  pub inside_shown : (request : Request) (id position : ℤ) (behind : Result Command Refusal) (g : Registration) (outcome : Result Reply Refusal) → decision_of d request ≡ decisions.IfBoundary id position behind → registration_in d.register id ≡ Some g
      → AsksShown image g position outcome → AsksDecided image d (decision_of d request) outcome
  inside_shown request id position behind g outcome is found shown =
      subst (λ (x : Decision). AsksDecided image d x outcome) (sym is) (subst (λ (o : Option Registration). IfSome o (λ x. AsksShown image x position outcome)) (sym found) shown)

  -- a replay is opened, or refused, as the frames say
  pub refused_opening : (id : ℤ) (decision : OpeningDecision) (refusal : Refusal) → ShowsOpening image d id decision (Err refusal) → OpensShown image d id decision (Err refusal)
  refused_opening id (opening.Decided made) refusal shows = tt
  refused_opening id (opening.IfBoundary position made) refusal shows = by (registration_in d.register id) shows
    where
      by : (o : Option Registration) → IfSome o (λ g. ShowsBegin image g position (Err refusal)) → IfSome o (λ g. AsksShown image g position (Err refusal))
      by None shows = tt
      by (Some g) shows = begin_shown image g position refusal shows

  pub memory_opening : (id : ℤ) (decision : OpeningDecision) → OpensShown image d id decision (Err NoMemory)
  memory_opening id (opening.Decided made) = tt
  memory_opening id (opening.IfBoundary position made) = by (registration_in d.register id)
    where
      by : (o : Option Registration) → IfSome o (λ g. AsksShown image g position (Err NoMemory))
      by None = tt
      by (Some g) = tt

  pub done_opening : (id : ℤ) (decision : OpeningDecision) (o : Opening) (reply : Reply) → ShowsOpening image d id decision (Ok o) → OpensShown image d id decision (Ok reply)
  done_opening id (opening.Decided made) o reply shows = tt
  done_opening id (opening.IfBoundary position made) o reply shows = by (registration_in d.register id) shows
    where
      by : (found : Option Registration) → IfSome found (λ g. ShowsBegin image g position (Ok o)) → IfSome found (λ g. AsksShown image g position (Ok reply))
      by None shows = tt
      by (Some g) shows = shows

  -- one that the desk decides alone
  pub decided_begin : (id : ℤ) (decision : OpeningDecision) (made outcome : Result Opening Refusal) → opening.Decided made ≡ decision → ShowsOpening image d id decision outcome
  decided_begin id decision made outcome is = subst (λ (x : OpeningDecision). ShowsOpening image d id x outcome) is tt

  -- one that the frames decide
  pub inside_begin : (id : ℤ) (decision : OpeningDecision) (position : ℤ) (made outcome : Result Opening Refusal) (g : Registration) → opening.IfBoundary position made ≡ decision → registration_in d.register id ≡ Some g → ShowsBegin image g position outcome
      → ShowsOpening image d id decision outcome
  inside_begin id decision position made outcome g is found shows =
      subst (λ (x : OpeningDecision). ShowsOpening image d id x outcome) is (subst (λ (o : Option Registration). IfSome o (λ x. ShowsBegin image x position outcome)) (sym found) shows)

  -- ---- polls

  pub unpolled : (g : Registration) (replay : OpenReplay) (most : ℤ) (refusal : Refusal)
      → RefusesPoll true image (layout_of g.descriptor) (geometry_of g.descriptor) g.recorded replay.bound (unsigned_abs most) (unsigned_abs replay.next) refusal → PollsShown image g replay most (Err refusal)
  unpolled g replay most DeviceFault refuses = tt
  unpolled g replay most NoMemory refuses = tt
  unpolled g replay most (Damaged recording at) refuses = refuses
  unpolled g replay most refusal refuses = absurd refuses

  pub poll_refused_shown : (number most : ℤ) (limit : Option ℤ) (refusal : Refusal) (outcome : Result Reply Refusal) → poll_decision d number most limit ≡ Err refusal → PollsDecided image d (poll_decision d number most limit) most limit outcome
  poll_refused_shown number most limit refusal outcome is = subst (λ (o : Result OpenReplay Refusal). PollsDecided image d o most limit outcome) (sym is) tt

  pub polled_shown : (number most : ℤ) (limit : Option ℤ) (replay : OpenReplay) (g : Registration) (outcome : Result Reply Refusal) → poll_decision d number most limit ≡ Ok replay → registration_in d.register replay.recording ≡ Some g
      → PollsShown image g (held_back limit replay) most outcome → PollsDecided image d (poll_decision d number most limit) most limit outcome
  polled_shown number most limit replay g outcome is found shown =
      subst (λ (o : Result OpenReplay Refusal). PollsDecided image d o most limit outcome) (sym is) (subst (λ (o : Option Registration). IfSome o (λ x. PollsShown image x (held_back limit replay) most outcome)) (sym found) shown)

  -- ---- counting

  refused_count : (g : Registration) (refusal : Refusal) → is_damage refusal ≡ false → CountsShown image g (Err refusal)
  refused_count g (Damaged recording at) other = absurd (true≢false other)
  refused_count g refusal other = tt

  pub uncounted_shown : (id : ℤ) (refusal : Refusal) → is_damage refusal ≡ false → IfSome (registration_in d.register id) (λ g. CountsShown image g (Err refusal))
  uncounted_shown id refusal other = by (registration_in d.register id)
    where
      by : (o : Option Registration) → IfSome o (λ g. CountsShown image g (Err refusal))
      by None = tt
      by (Some g) = refused_count g refusal other

  pub unread_count : (g : Registration) (refusal : Refusal) → RefusesCount true image g refusal → CountsShown image g (Err refusal)
  unread_count g DeviceFault refuses = tt
  unread_count g NoMemory refuses = tt
  unread_count g (Damaged recording at) refuses = refuses
  unread_count g refusal refuses = absurd refuses

  pub counted_shown : (id : ℤ) (g : Registration) (outcome : Result Reply Refusal) → Some g ≡ registration_in d.register id → CountsShown image g outcome → IfSome (registration_in d.register id) (λ x. CountsShown image x outcome)
  counted_shown id g outcome found shown = subst (λ (o : Option Registration). IfSome o (λ x. CountsShown image x outcome)) found shown
