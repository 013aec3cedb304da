-- What a sweep changes.
use Rattle.std.proofs.Common.{◌≡◌, ◌≢◌, ◌⊎◌, ◌∙◌, inl, inr, sym, ap, subst, refl, ℕ, zero, suc, ◌<◌, true, false, true≢false, cond, List, [], ◌∷◌, length, get_or, Bool, filter, Contains, All, IsSome, IsTrue, slice_get, arith}
use Rattle.std.proofs.lemmas.List.Kept.{IsStrictlySortedBy-filter}
use Rattle.disk_core.specs.declared.file_id.FileId.{FileId}
use Rattle.disk_core.specs.DiskImage.{DiskImage, FileState, Files, LeavesFile, reads}
use Rattle.disk_core.specs.FileNames.{AreFilesWith, file_cmp}
use Rattle.disk_core.specs.Life.{Life, IsQuiet, Steps}
use Rattle.disk_core.proofs.CallerLemmas.{started, goes_on, goes_on_part, goes_quiet}
use Rattle.segment_store.specs.declared.keep.Keep.{Keep}
use Rattle.segment_store.specs.Stale.{AreStale, IsFirst, IsFirstStale, SweepsAtMost, TouchesOnly, is_stale}

-- the other files are left rest_of before
abbrev OthersLeft : FileId → Files → DiskImage → Type 0
OthersLeft this files image = (file : FileId) → file ≢ this → LeavesFile (files file) (image file)

-- a call that changed this file alone
pub touched_once : (this : FileId) (Change : FileState → FileState → Type 0) (old new : Life) → Steps this Change old new → TouchesOnly this old new
touched_once this Change old new step = record {
  changes = record { others = step.others; obeyed = step.obeyed; faults = step.faults };
  any_moment = goes_on old old new (OthersLeft this old.now) this Change (started old (OthersLeft this old.now) (λ image left other differs. left other)) step
      (λ image left other differs. subst (λ (state : FileState). LeavesFile state (image other)) (step.others other differs) (left other));
}

-- another call that changed it
pub touched_twice : (this : FileId) (Change : FileState → FileState → Type 0) (old mid new : Life) → TouchesOnly this old mid → Steps this Change mid new → TouchesOnly this old new
touched_twice this Change old mid new first step = record {
  changes = record {
    others = λ other differs. step.others other differs ∙ first.changes.others other differs;
    obeyed = λ obeys. first.changes.obeyed (step.obeyed obeys);
    faults = omega (arith, first.changes.faults, step.faults);
  };
  any_moment = goes_on old mid new (OthersLeft this old.now) this Change first.any_moment step
      (λ image left other differs. subst (λ (state : FileState). LeavesFile state (image other)) (step.others other differs ∙ first.changes.others other differs) (left other));
}

-- what a list with one element more has
out_at : (a : FileId) (rest_of : List FileId) (x : FileId) (i : ℕ) → i < length (a ∷ rest_of) → get_or (a ∷ rest_of) i x ≡ x → (a ≡ x) ⊎ Contains rest_of x
out_at a rest_of x zero within is = inl is
out_at a rest_of x (suc i) within is = inr (i, omega (arith, within), is)

in_rest : (a : FileId) (rest_of : List FileId) (x : FileId) → Contains rest_of x → Contains (a ∷ rest_of) x
in_rest a rest_of x has = (suc has.0, omega (arith, has.1), has.2)

-- what a filter has
step_in : (test : FileId → Bool) (a : FileId) (rest_of : List FileId) (x : FileId) (b : Bool) → test a ≡ b
    → (Contains (filter test rest_of) x → Contains rest_of x × (test x ≡ true)) → Contains (cond b (a ∷ filter test rest_of) (filter test rest_of)) x → Contains (a ∷ rest_of) x × (test x ≡ true)
step_in test a rest_of x true is rest has = elim (out_at a (filter test rest_of) x has.0 has.1 has.2) [
  | inl same ↦ ((0, omega arith, same), ap test (sym same) ∙ is)
  | inr later ↦ (in_rest a rest_of x (rest later).0, (rest later).1)
]
step_in test a rest_of x false is rest has = (in_rest a rest_of x (rest has).0, (rest has).1)

filtered_in : (test : FileId → Bool) (rest_of : List FileId) (x : FileId) → Contains (filter test rest_of) x → Contains rest_of x × (test x ≡ true)
filtered_in test [] x has = absurd (omega (arith, has.1))
filtered_in test (a ∷ rest_of) x has = step_in test a rest_of x (test a) refl (filtered_in test rest_of x) has

step_has : (test : FileId → Bool) (a : FileId) (rest_of : List FileId) (x : FileId) (b : Bool) → test a ≡ b → test x ≡ true
    → (Contains rest_of x → Contains (filter test rest_of) x) → Contains (a ∷ rest_of) x → Contains (cond b (a ∷ filter test rest_of) (filter test rest_of)) x
step_has test a rest_of x true is passes rest has = elim (out_at a rest_of x has.0 has.1 has.2) [
  | inl same ↦ (0, omega arith, same)
  | inr later ↦ in_rest a (filter test rest_of) x (rest later)
]
step_has test a rest_of x false is passes rest has = elim (out_at a rest_of x has.0 has.1 has.2) [
  | inl same ↦ absurd (true≢false (sym passes ∙ ap test (sym same) ∙ is))
  | inr later ↦ rest later
]

filtered_has : (test : FileId → Bool) (rest_of : List FileId) (x : FileId) → test x ≡ true → Contains rest_of x → Contains (filter test rest_of) x
filtered_has test [] x passes has = has
filtered_has test (a ∷ rest_of) x passes has = step_has test a rest_of x (test a) refl passes (filtered_has test rest_of x passes) has

-- the stale ones of the files that are there
pub stale_filter : (image : DiskImage) (keeps : List Keep) (files kept : List FileId) → AreFilesWith (λ file. IsSome (image file)) files → kept ≡ filter (is_stale keeps) files → AreStale image keeps kept
stale_filter image keeps files kept all is = subst (AreStale image keeps) (sym is) (record {
  in_order = IsStrictlySortedBy-filter file_cmp (is_stale keeps) files all.in_order;
  each = λ file. (
    λ has. let both = filtered_in (is_stale keeps) files file has in ((all.each file).0 both.0, both.1),
    λ both. filtered_has (is_stale keeps) files file both.1 ((all.each file).1 both.0),
  );
})

-- the first of them
pub first_of : (obeys : Bool) (image : DiskImage) (keeps : List Keep) (files : List FileId) → All (λ file. is_stale keeps file ≡ true) files → (IsTrue obeys → AreStale image keeps files)
    → IsFirst obeys image keeps (slice_get files 0)
first_of obeys image keeps [] each stale = stale
first_of obeys image keeps (file ∷ files) each stale = (each 0 file (omega arith), λ yes. (files, stale yes))

-- a file that a quiet call found is changed
pub swept_file : (keeps : List Keep) (file : FileId) (old mid new : Life) → IsQuiet old mid → TouchesOnly file mid new
    → (is_stale keeps file ≡ true) × (IsTrue mid.obeys → IsFirstStale (reads old.now) keeps file) → SweepsAtMost keeps file old new
swept_file keeps file old mid new quiet touched first = record {
  stale = first.0;
  first = λ obeys. first.1 (touched.changes.obeyed obeys);
  touches = record {
    changes = record {
      others = λ other differs. touched.changes.others other differs ∙ ap (λ (files : Files). files other) quiet.now;
      obeyed = λ obeys. quiet.obeyed (touched.changes.obeyed obeys);
      faults = omega (arith, quiet.faults, touched.changes.faults);
    };
    any_moment = goes_on_part old mid new (OthersLeft file old.now) (OthersLeft file mid.now)
        (goes_quiet old old mid (OthersLeft file old.now) (started old (OthersLeft file old.now) (λ image left other differs. left other)) quiet) touched.any_moment
        (λ image left. subst (λ (files : Files). OthersLeft file files image) quiet.now left);
  };
}
