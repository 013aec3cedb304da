-- What settles, and by which calls: docs/SERVING.md, "When a frame is durable".
use Rattle.std.specs.Prelude.{◌≡◌, ◌⊎◌, ℕ, ℤ, nat_lt, Bool, true, false, if◌then◌else◌, List, [], ◌∷◌, count_by, fold, length, Option, None, Some, Result, Err, Ok, IfOk, is_ok}
use Rattle.std.specs.Global.{Vec}
use Rattle.disk_core.specs.declared.file_id.FileId.{FileId}
use Rattle.disk_core.specs.Life.{Life}
use Rattle.frame_core.specs.declared.refusal.Refusal.{Refusal}
use Rattle.frame_core.specs.declared.refusal.Refusal.TheVariants.{DeviceFault}
use Rattle.engine_core.specs.Engine.{EngineState}
use Rattle.engine_core.specs.Grouping.{segments_each}
use Rattle.archive_lock.specs.declared.standing.Standing.{Standing}
use Rattle.recorder_seats.specs.Bench.{reseated_at}
use Rattle.server_state.specs.declared.queue.Taken.{Taken}
use Rattle.server_recorder.specs.declared.settling.Settling.{Settling}
use Rattle.server_recorder.specs.declared.settling.Written.{Written}
use Rattle.server_recorder.specs.Checkpoints.{MayCheckpoint, is_checkpoint_wanted}
use Rattle.server_recorder.specs.Grouping.{due_seats, seats_of, with_near}
use Rattle.server_recorder.specs.Seats.{SeatsView, SeesAt, SettlesGroup, SettlesSession}
use Rattle.server_recorder.specs.Settling.{session_at, session_settled}

-- ---- what settles

-- the sessions at some seats settle what they wrote, one after another
abbrev pub settled_seats : List ℕ → Settling → Settling
settled_seats seats s = fold (λ t n. session_settled n t) s seats

-- the same, and how long a sync takes may be noted
abbrev pub SettlesSeats : List ℕ → Settling → Settling → Type 0
SettlesSeats seats old new = new ≡ record (settled_seats seats old) { pace = new.pace }

-- of each seat whether its session settles: it is due, or near to be where several are due
abbrev pub settling_seats : Bool → Taken → Settling → List Bool
settling_seats waits taken s =
    if nat_lt 1 (count_by (λ is. is) (due_seats waits taken s)) then with_near s (due_seats waits taken s) else due_seats waits taken s

-- ---- by which calls

-- a seat writes and settles for a session from now on
abbrev pub reseated : ℕ → ℤ → SeatsView → SeatsView
reseated n session v = record v { bench = record v.bench { seats = reseated_at n session v.bench.seats } }

abbrev pub seated_for : ℕ → Option Written → SeatsView → SeatsView
seated_for n None v = v
seated_for n (Some w) v = reseated n w.session v

-- some seats do for the sessions that wrote something there
abbrev pub seated_each : Settling → List ℕ → SeatsView → SeatsView
seated_each s seats v = fold (λ u n. seated_for n (session_at n s.sessions).written u) v seats

-- nothing is left to settle of those that settled together: want of room or of memory is no answer, since each alone may need less
abbrev pub is_done_with : {A : Type 0} → Result A Refusal → Bool
is_done_with (Ok positions) = true
is_done_with (Err DeviceFault) = true
is_done_with (Err refusal) = false

module _ {D : Type 0} (life : D → Life) (opening : EngineState) where
  -- a checkpoint may be made where it is known that one is due
  abbrev pub MakesShort : Option Standing → SeatsView → SeatsView → Type 0
  MakesShort None old new = new ≡ old
  MakesShort (Some standing) old new = MayCheckpoint life opening (is_checkpoint_wanted standing) old new

  -- the session at a seat settles what it wrote by a call, and whether that is not refused
  pub record SettlesWritten (n : ℕ) (w : Written) (old : SeatsView) (went : Bool) (new : SeatsView) : Type 0 where
    pub answer : Result ℤ Refusal × Option Standing
    pub mid : SeatsView
    pub settles : SettlesSession life opening n (reseated n w.session old) answer mid
    pub told : went ≡ is_ok answer.0
    pub short : MakesShort answer.1 mid new

  -- one that wrote nothing needs no call
  abbrev pub SettlesOne : ℕ → Option Written → SeatsView → Bool → SeatsView → Type 0
  SettlesOne n None old went new = (went ≡ true) × (new ≡ old)
  SettlesOne n (Some w) old went new = SettlesWritten n w old went new

  -- those at some seats do, each by a call of its own
  abbrev pub SettlesAlone : List ℕ → Settling → SeatsView → SeatsView → Type 0
  SettlesAlone [] s old new = new ≡ old
  SettlesAlone (n ∷ ns) s old new = (mid : SeatsView) × (went : Bool) × SettlesOne n (session_at n s.sessions).written old went mid × SettlesAlone ns (session_settled n s) mid new

  -- those at some seats do by one call, and whether nothing is left of them
  pub record SettlesTogether (seats : List ℕ) (s : Settling) (old : SeatsView) (went : Bool) (new : SeatsView) : Type 0 where
    pub answer : Result (List (Option ℤ)) Refusal × Option Standing
    pub mid : SeatsView
    pub settles : SettlesGroup life opening seats (seated_each s seats old) answer mid
    pub told : went ≡ is_done_with answer.0
    pub short : MakesShort answer.1 mid new

  -- several do by one call; where that leaves them, each by its own
  abbrev pub TriesTogether : List ℕ → Settling → SeatsView → SeatsView → Type 0
  TriesTogether seats s old new =
      (nat_lt 1 (length seats) ≡ true)
      × (SettlesTogether seats s old true new ⊎ ((mid : SeatsView) × SettlesTogether seats s old false mid × SettlesAlone seats s mid new))

  -- the pass looks which segment files some sessions wrote to, or at nothing
  abbrev pub LooksForFiles : SeatsView → SeatsView → Type 0
  LooksForFiles old new =
      (new ≡ old) ⊎ ((sessions : List ℤ) × (files : Result (Vec FileId) Refusal) × SeesAt opening (λ d. IfOk files (λ f. f.items ≡ segments_each d sessions)) old new)

  -- those at some seats settle: first the pass may look which files they wrote to
  pub record SettlesAfterLook (seats : List ℕ) (was is : Settling) (old new : SeatsView) : Type 0 where
    pub looked : SeatsView
    pub looks : LooksForFiles old looked
    pub calls : SettlesAlone seats was looked new ⊎ TriesTogether seats was looked new
    pub settled : SettlesSeats seats was is

  -- those settle that are due, where a block waits or not
  abbrev pub SettlesDue : Taken → Settling → Settling → SeatsView → SeatsView → Type 0
  SettlesDue taken was is old new = (waits : Bool) × SettlesAfterLook (seats_of (settling_seats waits taken was)) was is old new
