-- How a call keeps the catalogue, whatever the segment files hold.
use Rattle.std.proofs.Common.{◌≡◌, ◌≢◌, ◌⊎◌, ◌∙◌, inl, inr, sym, ap, subst, refl, true≢false, List, [], ◌∷◌, ◌++◌}
use Rattle.std.specs.Prelude.{IsFalse, IsTrue, Result, Ok, Err}
use Rattle.engine_core.proofs.Words.{AddsBehind, Command, DeskState, DeviceFault, DiskImage, EngineState, Entry, HasEntries, IsAtRest, IsCatalogued, IsQuiet, KeepsFound, Life, LogState, NoMemory, Refusal, RegisterState, after_entries, after_entry, after_failure, after_more, banks_left, goes_on_part, no_recordings, other_files, weaker}
use Rattle.engine_core.specs.Catalogued.{KeepsBanks, MakesRegister, entry_by}
use Rattle.engine_core.proofs.calls.TouchLemmas.{still_quiet}
use Rattle.engine_core.proofs.calls.MakeLemmas.{IsEntryFor}
use Rattle.engine_core.proofs.files.CatalogueLemmas.{nothing_added, quiet_banks}

abbrev Either : EngineState → RegisterState → DiskImage → Type 0
Either old made image = MakesRegister old.log.header old.desk.register image ⊎ MakesRegister old.log.header made image

-- ---- a call that leaves the banks

pub banks_keep : (old new : EngineState) (made : RegisterState) → KeepsBanks old.life new.life → new.log ≡ old.log → new.desk.register ≡ old.desk.register → KeepsFound old new made
banks_keep old new made banks log register found works = record {
  any_moment = weaker old.life new.life (Either old made) _ banks.any_moment
      (λ image left. inl (record { entries = found.entries; catalogue = banks_left old.life.now old.log found.entries image found.rests left.0 left.1; makes = found.makes }));
  rests = λ unbroken. record {
    entries = found.entries;
    rests = subst (λ (l : LogState). IsAtRest new.life.now l found.entries) (sym log) (other_files old.life.now new.life.now old.log found.entries found.rests banks.bank_a banks.bank_b);
    makes = found.makes ∙ sym register;
  };
}

-- one that changes nothing
pub quiet_keeps : (old new : EngineState) (made : RegisterState) → IsQuiet old.life new.life → new.log ≡ old.log → new.desk.register ≡ old.desk.register → KeepsFound old new made
quiet_keeps old new made quiet log register = banks_keep old new made (quiet_banks old.life new.life quiet) log register

pub still_keeps : (e : EngineState) (made : RegisterState) → KeepsFound e e made
still_keeps e made = quiet_keeps e e made (still_quiet e.life) refl refl

-- one behind a read
pub behind_keeps : (old mid new : EngineState) (made : RegisterState) → IsQuiet old.life mid.life → mid.log ≡ old.log → mid.desk ≡ old.desk → KeepsFound mid new made → KeepsFound old new made
behind_keeps old mid new made quiet log desk keeps found works =
    let register : mid.desk.register ≡ old.desk.register = ap (λ (d : DeskState). d.register) desk in
    let first = quiet_keeps old mid made quiet log register found works in
    let unbroken : IsFalse mid.desk.is_broken = ap (λ (d : DeskState). d.is_broken) desk ∙ works in
    let then = keeps (first.rests unbroken) unbroken in
    record {
      any_moment = goes_on_part old.life mid.life new.life (Either old made) (Either mid made) first.any_moment then.any_moment
          (λ image has. subst (λ h. MakesRegister h old.desk.register image ⊎ MakesRegister h made image) (ap (λ (l : LogState). l.header) log)
          (subst (λ g. MakesRegister mid.log.header g image ⊎ MakesRegister mid.log.header made image) register has));
      rests = then.rests;
    }

-- ---- a call that adds an entry

-- the desk behind it has these recordings; refused by a fault it is broken, and else it has what it had
abbrev pub EndsDesk : {T : Type 0} → EngineState → DeskState → RegisterState → Result T Refusal → Type 0
EndsDesk old d made (Ok done) = d.register ≡ made
EndsDesk old d made (Err refusal) = ((refusal ≡ DeviceFault) × IsTrue d.is_broken) ⊎ ((refusal ≢ DeviceFault) × (d.register ≡ old.desk.register))

module _ (old new : EngineState) (e : Entry) where
  -- what the entries make, with one more or without it
  either_makes : (made : RegisterState) (es : List Entry) → after_entries no_recordings es ≡ old.desk.register → after_entry old.desk.register e ≡ made → (image : DiskImage) → HasEntries old.log.header es e image → Either old made image
  either_makes made es makes leads image (inl before) = inl (record { entries = es; catalogue = before; makes = makes })
  either_makes made es makes leads image (inr behind) = inr (record { entries = es ++ e ∷ []; catalogue = behind; makes = one_more made es makes leads })
    where
      one_more : (made : RegisterState) (es : List Entry) → after_entries no_recordings es ≡ old.desk.register → after_entry old.desk.register e ≡ made → after_entries no_recordings (es ++ e ∷ []) ≡ made
      one_more made es makes leads = after_more no_recordings es e ∙ ap (λ (g : RegisterState). after_entry g e) makes ∙ leads

  rests_by : {T : Type 0} (made : RegisterState) (result : Result T Refusal) (es : List Entry) → after_entries no_recordings es ≡ old.desk.register → after_entry old.desk.register e ≡ made → AddsBehind old.life new.life old.log new.log es e result
      → EndsDesk old new.desk made result → IsFalse new.desk.is_broken → IsCatalogued new
  rests_by made (Ok done) es makes leads adds desk unbroken = record {
    entries = es ++ e ∷ [];
    rests = adds.rests;
    makes = after_more no_recordings es e ∙ ap (λ (g : RegisterState). after_entry g e) makes ∙ leads ∙ sym desk;
  }
  rests_by made (Err refusal) es makes leads adds (inl broke) unbroken = absurd (true≢false (sym broke.1 ∙ unbroken))
  rests_by made (Err refusal) es makes leads adds (inr kept) unbroken = record { entries = es; rests = adds.rests kept.0; makes = makes ∙ sym kept.1 }

  pub added_keeps : {T : Type 0} (made : RegisterState) (result : Result T Refusal) → after_entry old.desk.register e ≡ made
      → ((es : List Entry) → IsAtRest old.life.now old.log es → after_entries no_recordings es ≡ old.desk.register → AddsBehind old.life new.life old.log new.log es e result) → EndsDesk old new.desk made result → KeepsFound old new made
  added_keeps made result leads adds desk found works =
      let did = adds found.entries found.rests found.makes in
      record {
        any_moment = weaker old.life new.life (Either old made) (HasEntries old.log.header found.entries e) did.any_moment (λ image has. either_makes made found.entries found.makes leads image has);
        rests = λ unbroken. rests_by made result found.entries found.makes leads did desk unbroken;
      }

-- a refused write, by its refusal
pub failed_desk : {T : Type 0} (old : EngineState) (d : DeskState) (made : RegisterState) (refusal : Refusal) (told : Result T Refusal) → told ≡ Err refusal → (refusal ≡ DeviceFault) ⊎ (refusal ≡ NoMemory) → d ≡ after_failure refusal old.desk → EndsDesk old d made told
failed_desk {T = T} old d made refusal told is kind desk = subst (EndsDesk old d made) (sym is) (by kind)
  where
    by : (refusal ≡ DeviceFault) ⊎ (refusal ≡ NoMemory) → EndsDesk {T = T} old d made (Err refusal)
    by (inl fault) = inl (fault, ap (λ (x : DeskState). x.is_broken) (desk ∙ ap (λ r. after_failure r old.desk) fault))
    by (inr memory) = inr ((λ fault. absurd (let clash : NoMemory ≡ DeviceFault = sym memory ∙ fault in cc)), ap (λ (x : DeskState). x.register) (desk ∙ ap (λ r. after_failure r old.desk) memory))

-- ---- a command's entry

-- nothing was added
pub none_behind : {T : Type 0} (life : Life) (log : LogState) (es : List Entry) (e : Entry) (told : Result T Refusal) (refusal : Refusal) → told ≡ Err refusal → IsAtRest life.now log es → (new_log : LogState) → new_log ≡ log → AddsBehind life life log new_log es e told
none_behind life log es e told refusal is rests new_log same = subst (AddsBehind life life log new_log es e) (sym is) (nothing_added log es e life new_log refusal rests same)

-- it was added, as the storage says
pub told_behind : {T : Type 0} (old new : Life) (log new_log : LogState) (es : List Entry) (e f : Entry) (told : T) → e ≡ f → AddsBehind {T = Unit {0}} old new log new_log es e (Ok tt) → AddsBehind old new log new_log es f (Ok told)
told_behind old new log new_log es e f told same adds = subst (λ x. AddsBehind old new log new_log es x (Ok told)) same (record { any_moment = adds.any_moment; rests = adds.rests })

-- it was refused
pub refused_behind : {T : Type 0} (old new : Life) (log new_log : LogState) (es : List Entry) (e f : Entry) (refusal : Refusal) (told : Result T Refusal) → told ≡ Err refusal → e ≡ f → AddsBehind {T = Unit {0}} old new log new_log es e (Err refusal) → AddsBehind old new log new_log es f told
refused_behind {T = T} old new log new_log es e f refusal told is same adds =
    subst (AddsBehind old new log new_log es f) (sym is) (subst (λ x. AddsBehind {T = T} old new log new_log es x (Err refusal)) same (record { any_moment = adds.any_moment; rests = adds.rests }))

-- which entry it is
pub kept_entry : (d : DeskState) (c : Command) (e : Entry) → IsEntryFor d c e → e ≡ entry_by d c
kept_entry d c e for = for.is (record { recordings = []; next = d.register.next }) refl
