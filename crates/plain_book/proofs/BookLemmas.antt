-- What the book answers, and what stands in it then.
use Rattle.std.proofs.Common.{◌≡◌, ◌<◌, ◌+ℤ◌, ℕ, ℤ, pos, Bool, true, false, List, ◌∷◌, Option, Some, None, Result, Ok, Err, length, IsTrue, refl, sym, ap, subst, ◌∙◌, arith, slice_get, slice_set, get_or, [], ◌++◌}
use Rattle.std.specs.Prelude.{IsSomeAnd, MatchBool, MatchOption, option_map}
use Rattle.std.proofs.lemmas.Option.{slice_get_read}
use Rattle.std.proofs.lemmas.Bool.Decides.{nat_tests}
use Rattle.frame_core.specs.declared.block.Block.{Block}
use Rattle.frame_core.specs.declared.refusal.Refusal.{Refusal}
use Rattle.frame_core.specs.declared.refusal.Refusal.TheVariants.{UnknownRecording, NotActive, BadBlock, HistoryFull}
use Rattle.frame_core.specs.Block.{covered}
use Rattle.frame_core.specs.Outcome.{Gives}
use Rattle.archive_model.specs.declared.command.Command.TheVariants.{Append}
use Rattle.archive_model.specs.declared.registration.Registration.{Registration}
use Rattle.archive_model.specs.declared.reply.Reply.{Reply}
use Rattle.archive_model.specs.declared.reply.Reply.TheVariants.{Settled}
use Rattle.archive_model.specs.State.{Recording, id_of, is_active, recorded_position, register_of, registration_of}
use Rattle.archive_model.specs.Register.{registration_in}
use Rattle.archive_model.specs.Commands.{frames_of, recorded_in, reply_to}
use Rattle.archive_model.specs.Acceptance.{BookState, Continue}
use Rattle.archive_model.specs.Accepting.{Answers, has_room}
use Rattle.archive_model.specs.Checks.{append_tests, checked, checks}
use Rattle.archive_model.specs.Keyed.{find, change, Rise}
use Rattle.archive_model.specs.Numbered.{IsIndexOf}
use Rattle.plain_book.specs.Kept.{Joins}
use Rattle.archive_model.proofs.RegisterLemmas.{rise_push, rise_set}
use Rattle.archive_model.proofs.StateLemmas.{found_registration}

-- what is found is what the register has
registered_at : (b : BookState) (id : ℤ) (r : Recording) → find id_of id b.state.recordings ≡ Some r → registration_in (register_of b.state) id ≡ Some (registration_of r)
registered_at b id r found = found_registration id b.state.recordings ∙ ap (option_map registration_of) found

-- what an append is answered, by the tests over its recording
append_answer : (b : BookState) (id : ℤ) (blocks : List Block) (r : Recording) (said : Bool) (result : Result Reply Refusal) → find id_of id b.state.recordings ≡ Some r → MatchBool said (Continue r blocks) (Continue r blocks → ⊥)
    → Gives (λ (x : Reply). x) result (checked (append_tests (Some (registration_of r)) (has_room b) said) checks (Ok (reply_to b.state (Append id blocks)))) → Answers b (Append id blocks) result
append_answer b id blocks r said result found says gives = (
  said,
  subst (λ (o : Option Recording). MatchBool said (IsSomeAnd o (λ x. Continue x blocks)) (IsSomeAnd o (λ x. Continue x blocks) → ⊥)) (sym found) says,
  subst (λ (o : Option Registration). Gives (λ (x : Reply). x) result (checked (append_tests o (has_room b) said) checks (Ok (reply_to b.state (Append id blocks))))) (sym (registered_at b id r found)) gives,
)

pub append_unknown : (b : BookState) (id : ℤ) (blocks : List Block) → find id_of id b.state.recordings ≡ None → Answers b (Append id blocks) (Err UnknownRecording)
append_unknown b id blocks none =
    let gone : registration_in (register_of b.state) id ≡ None = found_registration id b.state.recordings ∙ ap (option_map registration_of) none in
    (false, λ follow. subst (λ (o : Option Recording). IsSomeAnd o (λ x. Continue x blocks)) none follow, rw gone refl)

pub append_stopped : (b : BookState) (id : ℤ) (blocks : List Block) (r : Recording) (end : Option ℤ) → find id_of id b.state.recordings ≡ Some r → MatchOption end (Continue r blocks → ⊥) (λ z. Continue r blocks × (z ≡ recorded_position r +ℤ pos (covered (frames_of blocks))))
    → is_active r ≡ false → Answers b (Append id blocks) (Err NotActive)
append_stopped b id blocks r None found bad active = append_answer b id blocks r false (Err NotActive) found bad (rw active refl)
append_stopped b id blocks r (Some end) found good active = append_answer b id blocks r true (Err NotActive) found good.0 (rw active refl)

pub append_bad : (b : BookState) (id : ℤ) (blocks : List Block) (r : Recording) → find id_of id b.state.recordings ≡ Some r → is_active r ≡ true → (Continue r blocks → ⊥) → Answers b (Append id blocks) (Err BadBlock)
append_bad b id blocks r found active bad = append_answer b id blocks r false (Err BadBlock) found bad (rw active refl)

pub append_full : (b : BookState) (id : ℤ) (blocks : List Block) (r : Recording) → find id_of id b.state.recordings ≡ Some r → is_active r ≡ true → Continue r blocks → has_room b ≡ false → Answers b (Append id blocks) (Err HistoryFull)
append_full b id blocks r found active next full = append_answer b id blocks r true (Err HistoryFull) found next (rw (active, full) refl)

has_room_of : (b : BookState) → b.counted < b.limit → has_room b ≡ true
has_room_of b room = grind (arith, nat_tests)

pub append_settles : (b : BookState) (id : ℤ) (blocks : List Block) (index : ℕ) (end : ℤ) → Joins b id blocks index end → Answers b (Append id blocks) (Ok (Settled end))
append_settles b id blocks index end joins =
    let reply : Settled (recorded_in (find id_of id b.state.recordings) +ℤ pos (covered (frames_of blocks))) ≡ Settled end = rw joins.at.found (ap Settled (sym joins.end_is)) in
    append_answer b id blocks joins.at.value true (Ok (Settled end)) joins.at.found joins.next (rw (joins.active, has_room_of b joins.room) (ap Ok reply))

-- recordings stay in order where one is changed under its id, or one of the next id comes behind
pub rising_set : (low : ℤ) (rs : List Recording) (index : ℕ) (r new : Recording) (next : ℤ) → Rise id_of low rs next → slice_get rs index ≡ Some r → id_of new ≡ id_of r
    → Rise id_of low (slice_set rs index new) next
rising_set low rs index r new next rising gets same = rise_set id_of low next rs index r new rising gets same

pub rising_push : (low : ℤ) (rs : List Recording) (r : Recording) (next : ℤ) → Rise id_of low rs next → id_of r ≡ next → Rise id_of low (rs ++ r ∷ []) (next +ℤ pos 1)
rising_push low rs r next rising is = rise_push id_of low next rs r rising is

-- what is read at a index
pub read_at : (rs : List Recording) (index : ℕ) (r : Recording) → index < length rs → r ≡ get_or rs index r → slice_get rs index ≡ Some r
read_at rs index r within is = slice_get_read rs (length rs) index r refl within is

-- which recording stands at a index
stands : (id : ℤ) (rs : List Recording) (index : ℕ) (r : Recording) (at : IsIndexOf id_of id rs index) → r ≡ get_or rs index r → at.value ≡ r
stands id rs index r at is = let same : Some at.value ≡ Some r = sym at.at ∙ read_at rs index r at.within is in cc

-- blocks join a recording that was read at its index
pub joins_at : (b : BookState) (id : ℤ) (blocks : List Block) (index : ℕ) (end : ℤ) (r : Recording) → IsIndexOf id_of id b.state.recordings index → r ≡ get_or b.state.recordings index r
    → IsTrue (is_active r) → Continue r blocks → b.counted < b.limit → end ≡ recorded_position r +ℤ pos (covered (frames_of blocks)) → Joins b id blocks index end
joins_at b id blocks index end r at is active next room ends =
    let same : at.value ≡ r = stands id b.state.recordings index r at is in
    record { at = at; active = rw same active; next = rw same next; room = room; end_is = rw same ends }

-- a recording at its index
pub found_at : (id : ℤ) (rs : List Recording) (index : ℕ) (r : Recording) → IsIndexOf id_of id rs index → r ≡ get_or rs index r → find id_of id rs ≡ Some r
found_at id rs index r at is = at.found ∙ ap Some (stands id rs index r at is)

-- the same of a book whose recordings are these
pub found_in : (id : ℤ) (b : BookState) (rs shown : List Recording) (index : ℕ) (r : Recording) → IsIndexOf id_of id shown index → shown ≡ rs → rs ≡ b.state.recordings → r ≡ get_or rs index r
    → find id_of id b.state.recordings ≡ Some r
found_in id b rs shown index r at same in_book is =
    ap (find id_of id) (sym in_book) ∙ found_at id rs index r (subst (λ (xs : List Recording). IsIndexOf id_of id xs index) same at) is

-- to change the recording at its index is to change it under its id
pub changed_at : (id : ℤ) (rs : List Recording) (index : ℕ) (r new : Recording) (f : Recording → Recording) → IsIndexOf id_of id rs index → r ≡ get_or rs index r → new ≡ f r
    → slice_set rs index new ≡ change id_of id f rs
changed_at id rs index r new f at is made = ap (slice_set rs index) made ∙ ap (λ (x : Recording). slice_set rs index (f x)) (sym (stands id rs index r at is)) ∙ sym (at.changed f)
