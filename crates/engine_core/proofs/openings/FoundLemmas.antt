-- What an opening leaves of the catalogue that it finds, whatever the segment files hold.
use Rattle.std.proofs.Common.{◌≡◌, ◌≢◌, ◌⊎◌, ◌∙◌, ◌+◌, ◌≤◌, inl, inr, sym, ap, subst, refl, ℤ, pos, Bool, true, false, cond, List, [], ◌∷◌, ◌++◌, arith}
use Rattle.std.specs.Ordering.{int_eq}
use Rattle.std.proofs.lemmas.Bool.Decides.{Decides-int_eq}
use Rattle.std.proofs.lemmas.Int.{ints}
use Rattle.std.specs.Prelude.{IsTrue, Ok}
use Rattle.engine_core.proofs.Words.{BankA, BankB, BankHeader, ChangesThese, DeskState, DiskImage, EngineState, Entry, FileId, FileState, HasEntries, IsAtRest, IsCatalogue, IsCatalogued, IsLogIn, KeepsBank, LeavesOnly, Life, LogState, MayLeave, ReadsAsBefore, Refusal, RegisterState, Restarts, after_entries, after_more, all_stopped, bank_file, goes_on_part, log_catalogue, moment, no_recordings, one_catalogue, opened_desk, reads, weaker}
use Rattle.archive_model.specs.Register.{active_count}
use Rattle.catalogue_entries.specs.declared.entry.Entry.TheVariants as entries
use Rattle.catalogue_log.specs.declared.banks.Bank.{Bank}
use Rattle.catalogue_log.specs.declared.banks.Bank.TheVariants.{A, B}
use Rattle.catalogue_log.specs.Banks.{other_of}
use Rattle.engine_core.specs.Catalogued.{LeavesCatalogue, OpensCatalogue, restarted_entries}
use Rattle.engine_core.specs.Making.{HasNotStarted}
use Rattle.engine_core.specs.Opened.{HasOpened}
use Rattle.engine_core.specs.Opening.{AreOnDisk}
use Rattle.engine_core.proofs.openings.RestartLemmas.{none_stop}

-- ---- the banks

bank_not_other : (b : Bank) → bank_file (other_of b) ≡ bank_file b → ⊥
bank_not_other A same = absurd cc
bank_not_other B same = absurd cc

segment_not_bank : (b : Bank) (file : FileId) → file ≢ BankA → file ≢ BankB → file ≡ bank_file b → ⊥
segment_not_bank A file not_a not_b same = not_a same
segment_not_bank B file not_a not_b same = not_b same

-- the bank that is not in use reads as before
pub other_read : (old mid new : Life) (log new_log : LogState) → ReadsAsBefore old mid → KeepsBank log new_log → ChangesThese (λ file. file ≡ bank_file log.bank) 4 mid new
    → reads new.now (bank_file (other_of new_log.bank)) ≡ reads old.now (bank_file (other_of new_log.bank))
other_read old mid new log new_log before keeps touches =
    let this : FileId = bank_file (other_of new_log.bank) in
    let not_in_use : this ≡ bank_file log.bank → ⊥ = λ same. bank_not_other new_log.bank (same ∙ ap bank_file (sym keeps.bank)) in
    ap (λ (state : FileState). state.reads) (touches.others this not_in_use) ∙ before.same this

-- the desk that was read has the recordings that the entries make
pub makes_register : (log : LogState) (d : DeskState) (es : List Entry) → d ≡ opened_desk (after_entries no_recordings es) log.counted log.header.history_limit log.header.version → after_entries no_recordings es ≡ d.register
makes_register log d es is = sym (ap (λ (x : DeskState). x.register) is)

-- ---- the entries

-- at each moment of reading and of the restart
meanwhile : (old mid new : Life) (h : BankHeader) (es : List Entry) → ReadsAsBefore old mid → LeavesOnly mid new (HasEntries h es entries.Restart) → LeavesCatalogue old new h es
meanwhile old mid new h es before left =
    let P : DiskImage → Type 0 = λ image. MayLeave old.now image ⊎ HasEntries h es entries.Restart image in
    goes_on_part old mid new P (HasEntries h es entries.Restart) (weaker old mid P (MayLeave old.now) before.any_moment (λ image may. inl may)) left (λ image has. inr has)

-- the header and the entries of the disk are those that were read
module _ (old mid : Life) (log : LogState) (d : DeskState) (h : BankHeader) (es found : List Entry) (has : IsCatalogue (reads old.now) h es) (stands : IsLogIn (reads old.now) log found) where
  one : (log.header ≡ h) × (found ≡ es)
  one = one_catalogue (reads old.now) log.header h found es (log_catalogue (reads old.now) log found stands) has

module _ (old mid : Life) (log : LogState) (d : DeskState) (new : EngineState) (stopped : ℤ) (h : BankHeader) (es found : List Entry) (has : IsCatalogue (reads old.now) h es) (stands : IsLogIn (reads old.now) log found) (rests : IsAtRest mid.now log found)
    (makes : after_entries no_recordings found ≡ d.register) (before : ReadsAsBefore old mid) (went : Restarts (record { life = mid; log = log; desk = d }) new (Ok stopped)) where
  pub opens_catalogue : AreOnDisk old mid → OpensCatalogue old new stopped h es
  opens_catalogue synced =
      let same = one old mid log d h es found has stands in
      let did = went.entries found rests makes in
      record {
        any_moment = meanwhile old mid new.life h es before
            (subst (λ (x : BankHeader). LeavesOnly mid new.life (HasEntries x es entries.Restart)) same.0 (subst (λ (xs : List Entry). LeavesOnly mid new.life (HasEntries log.header xs entries.Restart)) same.1 did.any_moment));
        header = went.bank.header ∙ same.0;
        rests = subst (λ (xs : List Entry). IsAtRest new.life.now new.log (restarted_entries stopped xs)) same.1 did.rests;
        synced = λ file not_a not_b there. went.touches.others file (segment_not_bank log.bank file not_a not_b) ∙ synced file not_a not_b there;
      }

module _ (old mid : Life) (log : LogState) (d : DeskState) (new : Life) (refusal : Refusal) (h : BankHeader) (es found : List Entry) (has : IsCatalogue (reads old.now) h es) (stands : IsLogIn (reads old.now) log found) (rests : IsAtRest mid.now log found)
    (makes : after_entries no_recordings found ≡ d.register) (before : ReadsAsBefore old mid) (went : HasNotStarted (record { life = mid; log = log; desk = d }) new refusal) where
  pub leaves_catalogue : LeavesCatalogue old new h es
  leaves_catalogue =
      let same = one old mid log d h es found has stands in
      let did = went.restarts.entries found rests makes in
      let left : LeavesOnly mid new (HasEntries log.header found entries.Restart) = subst (λ (x : Life). LeavesOnly mid x (HasEntries log.header found entries.Restart)) went.life did.any_moment in
      meanwhile old mid new h es before
      (subst (λ (x : BankHeader). LeavesOnly mid new (HasEntries x es entries.Restart)) same.0 (subst (λ (xs : List Entry). LeavesOnly mid new (HasEntries log.header xs entries.Restart)) same.1 left))

-- a restart that was refused took four calls at most
pub stopped_calls : (e : EngineState) (new : Life) (refusal : Refusal) → HasNotStarted e new refusal → moment new ≤ moment e.life + 4
stopped_calls e new refusal went =
    let calls = went.restarts.touches.calls in
    let same : moment went.new.life ≡ moment new = ap moment went.life in
    omega (arith, calls, same)

-- ---- an engine that was opened

-- what the entries make with the restart, where some were active, and without it
restarted_makes : (stopped : ℤ) (es : List Entry) → stopped ≡ pos (active_count (after_entries no_recordings es)) → after_entries no_recordings (restarted_entries stopped es) ≡ all_stopped (after_entries no_recordings es)
restarted_makes stopped es count = by (int_eq stopped (pos 0)) refl
  where
    g : RegisterState
    g = after_entries no_recordings es

    by : (b : Bool) → int_eq stopped (pos 0) ≡ b → after_entries no_recordings (cond b es (es ++ entries.Restart ∷ [])) ≡ all_stopped g
    by true is =
        let zero : stopped ≡ pos 0 = (Decides-int_eq stopped (pos 0)).0 is in
        let none : active_count g ≡ 0 = omega (arith, ints, count, zero) in
        sym (none_stop g none)
    by false is = after_more no_recordings es entries.Restart

pub opened_kept : (old : Life) (new : EngineState) (stopped : ℤ) (h : BankHeader) (es : List Entry) → HasOpened old new stopped → IsTrue new.life.obeys → IsCatalogue (reads old.now) h es → IsCatalogued new
opened_kept old new stopped h es is obeys has =
    let opens = is.catalogue obeys h es has in
    let d = is.desk obeys in
    let same = one_catalogue (reads old.now) d.header h d.entries es d.catalogue has in
    let count : stopped ≡ pos (active_count (after_entries no_recordings es)) = subst (λ (xs : List Entry). stopped ≡ pos (active_count (after_entries no_recordings xs))) same.1 d.stopped in
    record {
      entries = restarted_entries stopped es;
      rests = opens.rests;
      makes = restarted_makes stopped es count ∙ ap (λ (xs : List Entry). all_stopped (after_entries no_recordings xs)) (sym same.1) ∙ sym (ap (λ (x : DeskState). x.register) d.is);
    }
