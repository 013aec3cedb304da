-- How lines are answered by a part in a shared archive, and where no archive is open: docs/SERVING.md, "Control lines".
use Rattle.std.specs.Prelude.{◌≡◌, ◌⊎◌, ◌++◌, ◌||◌, ℕ, ℤ, Bool, true, false, List, [], ◌∷◌, Option, None, Some, Result, Ok, Err, IsErrOf, IsSome, MatchBool, remove}
use Rattle.std.specs.List.{position}
use Rattle.std.specs.Ordering.{int_eq}
use Rattle.frame_core.specs.declared.geometry.Geometry.{Geometry}
use Rattle.frame_core.specs.declared.refusal.Refusal.{Refusal}
use Rattle.frame_core.specs.declared.refusal.Refusal.TheVariants.{BadLine, Broken, DeviceFault, NoMemory, UnknownReplay}
use Rattle.archive_model.specs.declared.reply.Reply.{Reply}
use Rattle.archive_model.specs.declared.reply.Reply.TheVariants.{ReplayOpened}
use Rattle.disk_core.specs.Life.{Life}
use Rattle.control_core.specs.declared.event.Event.{Event}
use Rattle.control_core.specs.declared.event.Event.TheVariants.{Ask, Checkpoint, ReplayClose, ReplayPoll, ReplayPollTo, Settle, SettleAll}
use Rattle.control_core.specs.declared.request.Request.{Request}
use Rattle.control_core.specs.declared.request.Request.TheVariants as requests
use Rattle.control_core.specs.Bytes.{terms_in}
use Rattle.call_history.specs.Values.{PassView}
use Rattle.engine_core.specs.Engine.{EngineState}
use Rattle.archive_lock.specs.declared.history.Made.{Made}
use Rattle.archive_lock.specs.History.{EndsWithAnswer, IsNoted, SeesDesk}
use Rattle.tool_core.specs.Answering.{Checkpointing, Ways}
use Rattle.tool_core.specs.Merging.{Ends}

-- the line is none here, and nothing is changed
abbrev pub IsNoLine : {A : Type 0} → A → Ends A
IsNoLine old outcome new = (outcome ≡ Err BadLine) × (new ≡ old)

-- the line `checkpoint` is one if a server makes checkpoints; nothing is done before a line
abbrev pub offered_if : {A : Type 0} → (A → Bool) → Checkpointing A
offered_if offers = record { offers = offers; before = λ old new. new ≡ old }

-- ---- clients of a shared archive

-- a client's pass, the replays that its connection opened and did not close, as far as they are noted, and whether its server
-- makes checkpoints
pub record ClientView : Type 0 where
  pub pass : PassView Made
  pub replays : List ℤ
  pub checkpoints : Bool

-- no replay is noted
abbrev pub none_noted : ClientView → ClientView
none_noted c = record c { replays = [] }

-- the replay that a call opened which was answered so
abbrev pub opened_replay : Result Reply Refusal → Option ℤ
opened_replay (Ok (ReplayOpened replay)) = Some replay
opened_replay outcome = None

-- the replay that a call closed which was answered so
abbrev pub closed_replay : Event → Result Reply Refusal → Option ℤ
closed_replay (ReplayClose replay) (Ok reply) = Some replay
closed_replay event outcome = None

-- the replay that a call polls
abbrev pub polled_replay : Event → Option ℤ
polled_replay (ReplayPoll replay most) = Some replay
polled_replay (ReplayPollTo replay most limit) = Some replay
polled_replay event = None

-- a replay that is a follower's can't be polled: no call is made
abbrev pub IsGuarded : {A : Type 0} → Event → A → Result Reply Refusal → A → Type 0
IsGuarded event old outcome new = IsSome (polled_replay event) × (outcome ≡ Err UnknownReplay) × (new ≡ old)

-- these replays without one
abbrev pub is_replay : ℤ → ℤ → Bool
is_replay replay other = int_eq replay other

abbrev pub without_at : Option ℕ → List ℤ → List ℤ
without_at None replays = replays
without_at (Some i) replays = remove replays i

abbrev pub left_open : ℤ → List ℤ → List ℤ
left_open replay replays = without_at (position (is_replay replay) replays) replays

-- a replay is noted, or there is no memory for that
abbrev pub NotesOpened : Option ℤ → List ℤ → List ℤ → Type 0
NotesOpened None old new = new ≡ old
NotesOpened (Some replay) old new = (new ≡ old ++ replay ∷ []) ⊎ (new ≡ old)

-- one that is closed is noted no longer
abbrev pub replays_left_by : Option ℤ → List ℤ → List ℤ
replays_left_by None replays = replays
replays_left_by (Some replay) replays = left_open replay replays

-- what is noted of a call that was answered so
abbrev pub NotesReplay : Event → Result Reply Refusal → List ℤ → List ℤ → Type 0
NotesReplay event outcome old new = (mid : List ℤ) × NotesOpened (opened_replay outcome) old mid × (new ≡ replays_left_by (closed_replay event outcome) mid)

-- What the pass has seen then is a legal history that begins with all that it had seen, with no call of its own more. The terms
-- are those of the desk that it leads to.
abbrev pub TermsAreSeen : EngineState → ℤ → ClientView → Result Geometry Refusal → ClientView → Type 0
TermsAreSeen opening session old terms new = SeesDesk opening old.pass (λ d. terms ≡ terms_in d session) new.pass × (new ≡ record old { pass = new.pass })

module _ {D : Type 0} (life : D → Life) (opening : EngineState) where
  -- What the pass has seen then is a legal history that ends with this call and its answer, and begins with all that it had
  -- seen. Want of memory is none.
  pub record CallsOnce (event : Event) (old : PassView Made) (outcome : Result Reply Refusal) (new : PassView Made) : Type 0 where
    pub answers : IsNoted outcome → EndsWithAnswer life opening old event outcome new
    pub unnoted : IsErrOf outcome NoMemory → new ≡ old

  -- a checkpoint by the pass, which nobody is answered; or none
  abbrev pub KeepsShort : PassView Made → PassView Made → Type 0
  KeepsShort old new = ((outcome : Result Reply Refusal) × CallsOnce Checkpoint old outcome new) ⊎ (new ≡ old)

  -- after a call there may be a checkpoint, if the server makes any; else there is nothing
  abbrev pub FollowsCall : ClientView → ClientView → Type 0
  FollowsCall old new = (new ≡ record old { pass = new.pass }) × MatchBool old.checkpoints (KeepsShort old.pass new.pass) (new.pass ≡ old.pass)

  -- The call is made, and the replay that it opened or closed is noted. Then there may be a checkpoint.
  pub record CallsShared (event : Event) (old : ClientView) (outcome : Result Reply Refusal) (new : ClientView) : Type 0 where
    pub called : ClientView
    pub calls : CallsOnce event old.pass outcome called.pass
    pub noted : NotesReplay event outcome old.replays called.replays
    pub same : called.checkpoints ≡ old.checkpoints
    pub follows : FollowsCall called new

  -- the call is made, or a poll is of a follower's replay
  abbrev pub CallsGuarded : Event → ClientView → Result Reply Refusal → ClientView → Type 0
  CallsGuarded event old outcome new = CallsShared event old outcome new ⊎ IsGuarded event old outcome new

  abbrev pub shared_ways : Ways ClientView
  shared_ways = record { terms = TermsAreSeen opening; call = CallsGuarded; reopen = IsNoLine; compact = IsNoLine }

  -- a call that closes a replay, however it is answered
  abbrev pub ClosesReplay : ℤ → ClientView → ClientView → Type 0
  ClosesReplay replay old new = (outcome : Result Reply Refusal) × CallsShared (ReplayClose replay) old outcome new

  -- calls that close these replays, one after another
  abbrev pub ClosesEach : List ℤ → ClientView → ClientView → Type 0
  ClosesEach [] old new = new ≡ old
  ClosesEach (replay ∷ replays) old new = (mid : ClientView) × ClosesReplay replay old mid × ClosesEach replays mid new

  -- a connection ends: the replays that are noted are closed, or stay open; no longer is one noted
  abbrev pub EndsConnection : Bool → ClientView → ClientView → Type 0
  EndsConnection closes old new = MatchBool closes (ClosesEach old.replays (none_noted old) new) (new ≡ none_noted old)

-- no archive is open
abbrev pub HasNoTerms : {A : Type 0} → ℤ → A → Result Geometry Refusal → A → Type 0
HasNoTerms session old terms new = (terms ≡ Err Broken) × (new ≡ old)

abbrev pub AnswersBroken : {A : Type 0} → Event → A → Ends A
AnswersBroken event old outcome new = (outcome ≡ Err Broken) × (new ≡ old)

abbrev pub unopened_ways : {A : Type 0} → Ways A
unopened_ways = record { terms = HasNoTerms; call = AnswersBroken; reopen = IsNoLine; compact = IsNoLine }

-- ---- entries

-- the request changes the catalogue, where it is accepted
abbrev pub is_command : Request → Bool
is_command (requests.List from count) = false
is_command (requests.Find fields) = false
is_command (requests.Positions recording) = false
is_command (requests.Source recording) = false
is_command request = true

-- a call that makes an entry of the history, where it is accepted
abbrev pub makes_entry : Event → Bool
makes_entry (Ask request) = is_command request
makes_entry (Settle session) = true
makes_entry (SettleAll sessions) = true
makes_entry event = false

-- the device failed
abbrev pub is_device_fault : Result Reply Refusal → Bool
is_device_fault (Err DeviceFault) = true
is_device_fault outcome = false

-- an archive may record nothing after the call: it makes an entry, or the device failed
abbrev pub may_be_last : Event → Result Reply Refusal → Bool
may_be_last event outcome = makes_entry event || is_device_fault outcome

-- ---- settlings

-- the recording whose session settles before a call: that of a stop
abbrev pub settled_before : Event → Option ℤ
settled_before (Ask (requests.Stop recording timestamp)) = Some recording
settled_before event = None

-- the recording whose settling a call waits for, if one is asked for: that of a question for positions
abbrev pub awaited_before : Event → Option ℤ
awaited_before (Ask (requests.Positions recording)) = Some recording
awaited_before event = None

-- the recording whose session is to settle after a call that was answered so: that of positions that were given
abbrev pub settled_after : Event → Result Reply Refusal → Option ℤ
settled_after (Ask (requests.Positions recording)) (Ok reply) = Some recording
settled_after event outcome = None
