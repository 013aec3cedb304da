-- What a choice gives is what a crash may leave.
use Rattle.std.proofs.Common.{◌⊎◌, ◌≡◌, ℕ, ◌<◌, ◌≤◌, List, [], ◌∷◌, length, get_or, Option, Some, None, is_none, Bool, true, false, IsTrue, IsFalse, is_eq, if◌then◌else◌, inl, inr, sym, ap, ◌∙◌, subst, refl, arith, lt_of_not-le}
use Rattle.std.proofs.lemmas.Bool.{cases_eq}
use Rattle.std.proofs.lemmas.List.{get_or_default}
use Rattle.disk_core.specs.declared.file_id.FileId.{FileId}
use Rattle.disk_core.specs.declared.file_id.FileId.TheVariants.{BankA}
use Rattle.disk_core.specs.declared.change.Change.{Change}
use Rattle.disk_core.specs.declared.change.Change.TheVariants.{Began, Wrote, Cut, Removed, Synced}
use Rattle.disk_core.specs.FileNames.{file_cmp}
use Rattle.disk_core.specs.DiskImage.{DiskImage, FileState, Files, LeavesFile, MayLeave, bytes_of, durable}
use Rattle.disk_core.specs.Calls.{write_to, cut_to, removed}
use Rattle.disk_core.specs.CrashChoice.{pick, IsFilledFile, or_else, reads_or_synced, IsLeftBy, IsChosen}
use Rattle.disk_core.specs.Memory.{changed_file, changed_state, changed, after, nothing, IsWell, AreWell, well_stays}
use Rattle.disk_core.proofs.OverwriteLemmas.{write_is_written}
use Rattle.disk_core.proofs.DiskImageLemmas.{written_keeps, cut_keeps, cut_is_cut, removed_keeps}
use Rattle.disk_core.proofs.EntryLemmas.{write_keeps_last}
use Rattle.disk_core.proofs.WellLemmas.{durable_well}

not_both : (b : Bool) → IsTrue b → IsFalse b → ⊥
not_both b on off = cc

short_base : (reads last : Option (List ℕ)) (old : List ℕ) → or_else reads last ≡ Some old → length (bytes_of reads) ≤ length old
short_base None last old is = omega arith
short_base (Some bytes) last old is = let same : bytes ≡ old = cc in omega (arith, ap length same)

base_reads : (reads last : Option (List ℕ)) (old : List ℕ) (offset : ℕ) → or_else reads last ≡ Some old → offset < length (bytes_of reads) → get_or old offset 0 ≡ get_or (bytes_of reads) offset 0
base_reads None last old offset is inside = absurd (omega (arith, inside))
base_reads (Some bytes) last old offset is inside = let same : bytes ≡ old = cc in ap (λ (l : List ℕ). get_or l offset 0) (sym same)

none_base : (reads last : Option (List ℕ)) → or_else reads last ≡ None → is_none reads ≡ true
none_base None last is = refl
none_base (Some bytes) last is = absurd (cc)

none_short : (reads : Option (List ℕ)) → is_none reads ≡ true → length (bytes_of reads) ≡ 0
none_short None none = refl
none_short (Some bytes) none = absurd (cc)

-- a file filled with a byte may be left
filled_leaves : (byte : ℕ) (state : FileState) (base left : Option (List ℕ)) → reads_or_synced state ≡ base → IsWell state → IsTrue state.is_touched → IsFilledFile byte state base left → LeavesFile state left
filled_leaves byte state None left is well touched filled =
    subst (LeavesFile state) (sym filled) (record {
      untouched = λ still. absurd (not_both state.is_touched touched still);
      absent = (
        well.absent (none_base state.reads state.last_synced is),
        omega (arith, well.least, none_short state.reads (none_base state.reads state.last_synced is)),
      );
      present = tt;
    })
filled_leaves byte state (Some old) left is well touched filled =
    subst (LeavesFile state) (sym filled.1) (record {
      untouched = λ still. absurd (not_both state.is_touched touched still);
      absent = tt;
      present = record {
        no_shorter = omega (arith, well.least, short_base state.reads state.last_synced old is, filled.2.long);
        same = λ offset fixed.
            let below : offset < state.least = lt_of_not-le (λ past. fixed (inr past)) in
            filled.2.durable offset fixed ∙ base_reads state.reads state.last_synced old offset is (omega (arith, below, well.least));
      };
    })

-- what a byte gives of a touched file may be left
by_leaves : (byte : ℕ) (state : FileState) (left : Option (List ℕ)) → IsWell state → LeavesFile state state.last_synced → IsTrue state.is_touched → IsLeftBy byte state left → LeavesFile state left
by_leaves byte state left well was touched by = elim (cases_eq byte 0) [
  | inl zero_byte ↦ subst (LeavesFile state) (sym (by.as_synced zero_byte)) was
  | inr some ↦ elim (cases_eq byte 1) [
    | inl one ↦ well_stays state left (by.as_read one) well
    | inr more ↦ filled_leaves byte state (reads_or_synced state) left refl well touched (by.as_filled (omega (arith, some, more)))
  ]
]

write_was : (at : ℕ) (bytes : List ℕ) (state : FileState) → LeavesFile state state.last_synced → LeavesFile (write_to at bytes state) (write_to at bytes state).last_synced
write_was at bytes state was =
    subst (LeavesFile (write_to at bytes state)) (sym (write_keeps_last at bytes state))
    (written_keeps at (length bytes) state (write_to at bytes state) state.last_synced (write_is_written at bytes state) was)

durable_was : (bytes : Option (List ℕ)) → LeavesFile (durable bytes) bytes
durable_was bytes = well_stays (durable bytes) bytes refl (durable_well bytes)

changed_was : (change : Change) (state : FileState) → LeavesFile state state.last_synced → LeavesFile (changed_state change state) (changed_state change state).last_synced
changed_was (Began file bytes) state was = durable_was (Some bytes.items)
changed_was (Wrote file at bytes) state was = write_was at bytes.items state was
changed_was (Cut file len) state was = cut_keeps len state (cut_to len state) state.last_synced (cut_is_cut len state) was
changed_was (Removed file) state was = removed_keeps state (removed state) state.last_synced (inr (inl refl)) was
changed_was (Synced file) state was = durable_was state.reads

either_was : (b : Bool) (made before : FileState) → LeavesFile made made.last_synced → LeavesFile before before.last_synced
    → LeavesFile (if b then made else before) (if b then made else before).last_synced
either_was true made before one other = one
either_was false made before one other = other

after_was : (files : Files) (log : List Change) → ((file : FileId) → LeavesFile (files file) (files file).last_synced) → (file : FileId) → LeavesFile (after files log file) (after files log file).last_synced
after_was files [] was = was
after_was files (change ∷ log) was =
    after_was (changed change files) log
    (λ file. either_was (is_eq (file_cmp (changed_file change) file)) (changed_state change (files file)) (files file) (changed_was change (files file) (was file)) (was file))

touched_or_not : (b : Bool) → (b ≡ true) ⊎ (b ≡ false)
touched_or_not true = inl refl
touched_or_not false = inr refl

-- the image that a choice gives is one that a crash may leave
pub chosen_may_leave : (log : List Change) (choice : List ℕ) (image : DiskImage) → AreWell log → IsChosen (after nothing log) choice image → MayLeave (after nothing log) image
chosen_may_leave log choice image well chosen file =
    let state = after nothing log file in
    let was = after_was nothing log (λ f. durable_was None) file in
    elim (touched_or_not state.is_touched) [
      | inl touched ↦
          let at = (chosen.are_touched.each file).1 touched in
          let is_file : get_or chosen.touched at.0 BankA ≡ file = get_or_default chosen.touched at.0 BankA file at.1 ∙ at.2 in
          by_leaves (pick choice at.0) state (image file) (well file) was touched
          (subst (λ (f : FileId). IsLeftBy (pick choice at.0) (after nothing log f) (image f)) is_file (chosen.each at.0 at.1))
      | inr still ↦ well_stays state (image file) (chosen.others file still) (well file)
    ]
