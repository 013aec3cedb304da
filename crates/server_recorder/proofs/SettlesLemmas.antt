-- What settles, one session after another.
use Rattle.std.proofs.Common.{◌≡◌, ◌∙◌, inl, inr, ℕ, Bool, true, false, List, [], ◌∷◌, ◌++◌, length, sym, ap, refl, subst, arith}
use Rattle.std.specs.Prelude.{◌==◌, if◌then◌else◌, is_some, nat_lt, MatchBool}
use Rattle.std.proofs.lemmas.Bool.Decides.{nat_tests}
use Rattle.std.proofs.lemmas.List.{nil_from_length}
use Rattle.std.proofs.lemmas.List.Sums.{fold-append}
use Rattle.disk_core.specs.Life.{Life}
use Rattle.engine_core.specs.Engine.{EngineState}
use Rattle.server_recorder.specs.declared.settling.SessionState.{SessionState}
use Rattle.server_recorder.specs.declared.settling.Settling.{Settling}
use Rattle.server_recorder.specs.Seats.{SeatsView, SettlesGroup}
use Rattle.server_recorder.specs.Settles.{LooksForFiles, SettlesAfterLook, SettlesAlone, SettlesOne, SettlesSeats, SettlesTogether, seated_each, settled_seats}
use Rattle.server_recorder.specs.Settling.{session_at, session_settled}

-- a list of no length
pub none_there : (xs : List ℕ) → (length xs == 0) ≡ true → xs ≡ []
none_there xs is =
    let none : length xs ≡ 0 = grind (arith, nat_tests) in
    nil_from_length xs none

-- one of two, by a test
pub chosen_first : {X : Type 0} (b : Bool) (x y : X) → b ≡ true → x ≡ (if b then x else y)
chosen_first true x y so = refl
chosen_first false x y so = absurd cc

pub chosen_second : {X : Type 0} (b : Bool) (x y : X) → b ≡ false → y ≡ (if b then x else y)
chosen_second false x y so = refl
chosen_second true x y so = absurd cc

-- what settles does not depend on how long a sync takes
either_paced : (b : Bool) (s : Settling) (sessions : List SessionState) (pace : ℕ)
    → (if b then record (record s { pace = pace }) { sessions = sessions } else record s { pace = pace }) ≡ record (if b then record s { sessions = sessions } else s) { pace = pace }
either_paced true s sessions pace = refl
either_paced false s sessions pace = refl

settled_paced : (n : ℕ) (s : Settling) (pace : ℕ) → session_settled n (record s { pace = pace }) ≡ record (session_settled n s) { pace = pace }
settled_paced n s pace = either_paced (is_some (session_at n s.sessions).written) s _ pace

-- the session at one seat more settles
pub settled_more : (xs : List ℕ) (n : ℕ) (s t u : Settling) → SettlesSeats xs s t → SettlesSeats (n ∷ []) t u → SettlesSeats (xs ++ n ∷ []) s u
settled_more xs n s t u before one =
    one
    ∙ (ap (λ (x : Settling). record (session_settled n x) { pace = u.pace }) before
    ∙ (ap (λ (x : Settling). record x { pace = u.pace }) (settled_paced n (settled_seats xs s) t.pace)
    ∙ ap (λ (x : Settling). record x { pace = u.pace }) (sym (fold-append (λ (x : Settling) (k : ℕ). session_settled k x) s xs (n ∷ [])))))

-- what is at a seat does not depend on it either
pub written_paced : (xs : List ℕ) (n : ℕ) (s t : Settling) → SettlesSeats xs s t → (session_at n t.sessions).written ≡ (session_at n (settled_seats xs s).sessions).written
written_paced xs n s t before = ap (λ (x : Settling). (session_at n x.sessions).written) before

module _ {D : Type 0} (life : D → Life) (opening : EngineState) where
  pub settles_more : (xs : List ℕ) (n : ℕ) (s : Settling) (old mid new : SeatsView) (went : Bool) → SettlesAlone life opening xs s old mid
      → SettlesOne life opening n (session_at n (settled_seats xs s).sessions).written mid went new → SettlesAlone life opening (xs ++ n ∷ []) s old new
  settles_more [] n s old mid new went before one =
      (new, went, subst (λ (v : SeatsView). SettlesOne life opening n (session_at n s.sessions).written v went new) before one, refl)
  settles_more (x ∷ xs) n s old mid new went (between, was, first, rest) one =
      (between, was, first, settles_more xs n (session_settled x s) between mid new went rest one)

  pub settles_paced : (xs : List ℕ) (s : Settling) (pace : ℕ) (old new : SeatsView) → SettlesAlone life opening xs (record s { pace = pace }) old new → SettlesAlone life opening xs s old new
  settles_paced [] s pace old new is = is
  settles_paced (x ∷ xs) s pace old new (mid, went, first, rest) =
      (mid, went, first, settles_paced xs (session_settled x s) pace mid new (subst (λ (t : Settling). SettlesAlone life opening xs t mid new) (settled_paced x s pace) rest))

-- and what was noted of it before counts for nothing
settled_each_paced : (xs : List ℕ) (s : Settling) (pace : ℕ) → settled_seats xs (record s { pace = pace }) ≡ record (settled_seats xs s) { pace = pace }
settled_each_paced [] s pace = refl
settled_each_paced (x ∷ xs) s pace = ap (settled_seats xs) (settled_paced x s pace) ∙ settled_each_paced xs (session_settled x s) pace

pub settles_seats_paced : (xs : List ℕ) (s t u : Settling) → t ≡ record s { pace = t.pace } → SettlesSeats xs t u → SettlesSeats xs s u
settles_seats_paced xs s t u was is =
    is ∙ (ap (λ (x : Settling). record (settled_seats xs x) { pace = u.pace }) was ∙ ap (λ (x : Settling). record x { pace = u.pace }) (settled_each_paced xs s t.pace))

-- by its own pace
own_pace : (t y : Settling) (pace : ℕ) → t ≡ record y { pace = pace } → t ≡ record y { pace = t.pace }
own_pace t y pace is = is ∙ ap (λ (k : ℕ). record y { pace = k }) (sym (ap (λ (x : Settling). x.pace) is))

-- all of them settle after a pace was noted
pub taken_paced : (xs : List ℕ) (s t u : Settling) → t ≡ record s { pace = t.pace } → u ≡ settled_seats xs t → SettlesSeats xs s u
taken_paced xs s t u was is = own_pace u (settled_seats xs s) t.pace (is ∙ (ap (settled_seats xs) was ∙ settled_each_paced xs s t.pace))

-- whether they do is told
pub answered : (is : Bool) (xs : List ℕ) (s t : Settling) → is ≡ true → SettlesSeats xs s t → MatchBool is (SettlesSeats xs s t) (t ≡ s)
answered true xs s t so settles = settles
answered false xs s t so settles = absurd cc

pub unanswered : (is : Bool) (xs : List ℕ) (s t : Settling) → is ≡ false → t ≡ s → MatchBool is (SettlesSeats xs s t) (t ≡ s)
unanswered false xs s t so same = same
unanswered true xs s t so same = absurd cc

module _ {D : Type 0} (life : D → Life) (opening : EngineState) where
  pub together_paced : (xs : List ℕ) (s t : Settling) (old new : SeatsView) (went : Bool) → t ≡ record s { pace = t.pace } → SettlesTogether life opening xs t old went new
      → SettlesTogether life opening xs s old went new
  together_paced xs s t old new went was together = record {
    answer = together.answer;
    mid = together.mid;
    settles = subst (λ (x : Settling). SettlesGroup life opening xs (seated_each x xs old) together.answer together.mid) was together.settles;
    told = together.told;
    short = together.short;
  }

  pub each_paced : (xs : List ℕ) (s t : Settling) (old new : SeatsView) → t ≡ record s { pace = t.pace } → SettlesAlone life opening xs t old new → SettlesAlone life opening xs s old new
  each_paced xs s t old new was each = settles_paced life opening xs s t.pace old new (subst (λ (x : Settling). SettlesAlone life opening xs x old new) was each)

  -- ---- what settled at some seats

  pub nothing_settled : (xs : List ℕ) (s : Settling) (v : SeatsView) → xs ≡ [] → SettlesAfterLook life opening xs s s v v
  nothing_settled [] s v none = record { looked = v; looks = inl refl; calls = inl refl; settled = refl }
  nothing_settled (x ∷ xs) s v none = absurd cc

  pub settled_together : (xs : List ℕ) (s t u : Settling) (old looked new : SeatsView) → nat_lt 1 (length xs) ≡ true → LooksForFiles life opening old looked → t ≡ record s { pace = t.pace }
      → SettlesTogether life opening xs t looked true new → SettlesSeats xs t u → SettlesAfterLook life opening xs s u old new
  settled_together xs s t u old looked new several looks was together settled =
      record { looked = looked; looks = looks; calls = inr (several, inl (together_paced xs s t looked new true was together)); settled = settles_seats_paced xs s t u was settled }

  pub settled_alone : (xs : List ℕ) (s t u : Settling) (old looked new : SeatsView) → LooksForFiles life opening old looked → t ≡ record s { pace = t.pace }
      → SettlesAlone life opening xs t looked new → SettlesSeats xs t u → SettlesAfterLook life opening xs s u old new
  settled_alone xs s t u old looked new looks was each settled =
      record { looked = looked; looks = looks; calls = inl (each_paced xs s t looked new was each); settled = settles_seats_paced xs s t u was settled }

  pub settled_after : (xs : List ℕ) (s t u : Settling) (old looked mid new : SeatsView) → nat_lt 1 (length xs) ≡ true → LooksForFiles life opening old looked → t ≡ record s { pace = t.pace }
      → SettlesTogether life opening xs t looked false mid → SettlesAlone life opening xs t mid new → SettlesSeats xs t u → SettlesAfterLook life opening xs s u old new
  settled_after xs s t u old looked mid new several looks was together each settled = record {
    looked = looked;
    looks = looks;
    calls = inr (several, inr (mid, together_paced xs s t looked mid false was together, each_paced xs s t mid new was each));
    settled = settles_seats_paced xs s t u was settled;
  }
