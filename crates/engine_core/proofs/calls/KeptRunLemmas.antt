-- How calls one after another keep the catalogue, whatever the segment files hold.
use Rattle.std.proofs.Common.{◌≡◌, ◌⊎◌, ◌+◌, ◌<◌, inl, inr, sym, ap, subst, refl, List, [], ◌∷◌, arith}
use Rattle.std.specs.Prelude.{IsFalse, Result, Ok, Err}
use Rattle.engine_core.proofs.Words.{BankHeader, DiskImage, EngineState, Event, IsCatalogued, IsRun, LeavesOnly, LogState, MayLeave, Refusal, RegisterState, Reply, goes_on_part, rest_left, started, weaker}
use Rattle.catalogue_log.specs.Compacting.{next_header}
use Rattle.control_core.specs.declared.event.Event.TheVariants as events
use Rattle.engine_core.specs.Calls.{AnswersEvent, KeepsStanding, StoodIn, TellsBank, WorksOn}
use Rattle.engine_core.specs.Catalogued.{IsLater, KeepsFoundBy, MakesLater, MakesRegister, register_made}

-- what a crash leaves now
pub kept_found : (e : EngineState) (image : DiskImage) → IsCatalogued e → MayLeave e.life.now image → MakesRegister e.log.header e.desk.register image
kept_found e image found left = record { entries = found.entries; catalogue = rest_left e.life.now e.log found.entries image found.rests left; makes = found.makes }

abbrev Makes : BankHeader → (RegisterState → Type 0) → DiskImage → Type 0
Makes h Stood image = (g : RegisterState) × Stood g × MakesLater h g image

-- ---- headers

-- the next header is later
later_next : (h x : BankHeader) → IsLater h x → IsLater h (next_header x)
later_next h x (inl same) = inr (subst (λ (y : BankHeader). h.epoch < y.epoch + 1) (sym same) (omega arith), refl, ap (λ (y : BankHeader). y.history_limit) same)
later_next h x (inr later) = let less = later.0 in inr (omega (arith, less), refl, later.2)

later_same : (h x y : BankHeader) → y ≡ x → IsLater h x → IsLater h y
later_same h x y same later = subst (IsLater h) (sym same) later

-- each call keeps the header, or a checkpoint writes the next one
later_on : (h : BankHeader) (event : Event) (old : EngineState) (log : LogState) (outcome : Result Reply Refusal) → TellsBank event old log outcome → IsLater h old.log.header → IsLater h log.header
later_on h events.Checkpoint old log (Ok reply) anew later = later_same h (next_header old.log.header) log.header (ap (λ (l : LogState). l.header) anew.1) (later_next h old.log.header later)
later_on h events.Checkpoint old log (Err refusal) keeps later = later_same h old.log.header log.header keeps.0.header later
later_on h event old log outcome keeps later = later_same h old.log.header log.header keeps.header later

-- a crash leaves the header before the call, or the one that a checkpoint writes
abbrev Near : Event → EngineState → DiskImage → Type 0
Near event old image =
    (header : BankHeader) × ((header ≡ old.log.header) ⊎ (header ≡ next_header old.log.header)) × (MakesRegister header old.desk.register image ⊎ MakesRegister header (register_made old.desk event) image)

kept_near : (event : Event) (old mid : EngineState) → KeepsFoundBy event old mid → IsCatalogued old → IsFalse old.desk.is_broken → LeavesOnly old.life mid.life (Near event old) × (IsFalse mid.desk.is_broken → IsCatalogued mid)
kept_near events.Checkpoint old mid keeps found works =
    let did = keeps found works in (
      weaker old.life mid.life (Near events.Checkpoint old) _ did.any_moment (λ image has. elim has [ inl before ↦ (old.log.header, inl refl, inl before) | inr next ↦ (next_header old.log.header, inr refl, inl next) ]),
      did.rests,
    )
kept_near event old mid keeps found works =
    let did = keeps found works in
    (weaker old.life mid.life (Near event old) _ did.any_moment (λ image has. (old.log.header, inl refl, has)), did.rests)

near_later : (h header : BankHeader) (old : EngineState) → (header ≡ old.log.header) ⊎ (header ≡ next_header old.log.header) → IsLater h old.log.header → IsLater h header
near_later h header old (inl same) later = later_same h old.log.header header same later
near_later h header old (inr next) later = later_same h (next_header old.log.header) header next (later_next h old.log.header later)

-- ---- the run

-- what stood before the first call
first_stood : (old new : EngineState) (events : List Event) (outcomes : List (Result Reply Refusal)) (run : IsRun old events outcomes new) → StoodIn old events outcomes new run old.desk.register
first_stood old new [] [] run = refl
first_stood old new (event ∷ events) (outcome ∷ outcomes) run = inl refl
first_stood old new [] (outcome ∷ outcomes) run = absurd run
first_stood old new (event ∷ events) [] run = absurd run

-- calls behind others, of which each crash left recordings that stood
module _ (h : BankHeader) (start new : EngineState) (Stood : RegisterState → Type 0) where
  run_on : (old : EngineState) (events : List Event) (outcomes : List (Result Reply Refusal)) (run : IsRun old events outcomes new) → WorksOn old events outcomes new run → IsLater h old.log.header → (IsFalse old.desk.is_broken → IsCatalogued old)
      → ((g : RegisterState) → StoodIn old events outcomes new run g → Stood g) → LeavesOnly start.life old.life (Makes h Stood) → LeavesOnly start.life new.life (Makes h Stood) × (IsFalse new.desk.is_broken → IsCatalogued new)
  run_on old [] [] run works same found stand so_far = (
    subst (λ (e : EngineState). LeavesOnly start.life e.life (Makes h Stood)) (sym run) so_far,
    subst (λ (e : EngineState). IsFalse e.desk.is_broken → IsCatalogued e) (sym run) found,
  )
  run_on old (event ∷ events) (outcome ∷ outcomes) run works same found stand so_far =
      let mid : EngineState = run.0 in
      let answers : AnswersEvent old mid event outcome = run.1 in
      let keeps = kept_near event old mid answers.catalogue (found works.0) works.0 in
      run_on mid events outcomes run.2 works.1 (later_on h event old mid.log outcome answers.ends.bank same) keeps.1 (λ g later. stand g (inr (inr later)))
      (goes_on_part start.life old.life mid.life (Makes h Stood) (Near event old) so_far keeps.0 (λ image has. let later = near_later h has.0 old has.1 same in elim has.2 [
        | inl before ↦ (old.desk.register, stand old.desk.register (inl refl), record { header = has.0; is = later; makes = before })
        | inr made ↦ (register_made old.desk event, stand (register_made old.desk event) (inr (inl refl)), record { header = has.0; is = later; makes = made })
      ]))
  run_on old [] (outcome ∷ outcomes) run works same found stand so_far = absurd run
  run_on old (event ∷ events) [] run works same found stand so_far = absurd run

pub run_keeps : (old new : EngineState) (events : List Event) (outcomes : List (Result Reply Refusal)) (run : IsRun old events outcomes new) → WorksOn old events outcomes new run → IsCatalogued old → KeepsStanding old new (StoodIn old events outcomes new run)
run_keeps old new events outcomes run works found =
    let Stood : RegisterState → Type 0 = StoodIn old events outcomes new run in
    let first = first_stood old new events outcomes run in
    let ran = run_on old.log.header old new Stood old events outcomes run works (inl refl) (λ unbroken. found) (λ g stood. stood) (started old.life (Makes old.log.header Stood) (λ image left. (old.desk.register, first, record { header = old.log.header; is = inl refl; makes = kept_found old image found left }))) in
    record { any_moment = ran.0; rests = ran.1 }
