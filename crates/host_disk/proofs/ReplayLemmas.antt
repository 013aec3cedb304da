-- What calls make of the files of a folder.
use Rattle.std.proofs.Common.{◌≡◌, ◌≢◌, inl, inr, ℕ, zero, suc, ◌+◌, ◌≤◌, max, Bool, true, false, not, ◌&&◌, ◌||◌, if◌then◌else◌, List, [], ◌∷◌, map, length, take, drop, length-take, Option, Some, None, option_map, is_some, IsSome, IsTrue, Result, Ok, Err, IfOk, MatchResult, Vec, Ordering, sym, ap, ◌∙◌, subst, refl, arith}
use Rattle.std.specs.Ordering.{is_eq}
use Rattle.std.specs.List.{list_all}
use Rattle.std.specs.List.Sorted.{IsStrictlySortedBy}
use Rattle.std.proofs.lemmas.List.{take_all}
use Rattle.std.specs.declared.alloc.Global.{Global}
use Rattle.disk_core.specs.declared.file_id.FileId.{FileId}
use Rattle.disk_core.specs.declared.fault.ListFault.{ListFault}
use Rattle.disk_core.specs.FileNames.{file_cmp, AreFilesWith}
use Rattle.disk_core.specs.DiskImage.{FileState, Files, bytes_of, reads}
use Rattle.disk_core.specs.Calls.{overwritten, write_to, cut_to, removed, synced, IsWritten, IsCut}
use Rattle.disk_core.specs.Life.{Steps}
use Rattle.disk_core.proofs.CallerLemmas.{equal_files, file_cmp_self, write_is_written, length_overwritten, overwritten_no_shorter, overwritten_below, overwritten_above}
use Rattle.disk_core.proofs.DiskLemmas.{in_list}
use Rattle.host_disk.specs.Events.{Held, Event, opened, locked, measured, measure_failed, asked, gave, read_failed, touched, wrote, write_failed, cut, cut_failed, gone, remove_failed, flushed, flush_failed, listed, list_failed, refused}
use Rattle.host_disk.specs.Faults.{after_list_fault}
use Rattle.host_disk.specs.Replay.{image_of, is_in, is_there, are_there, written_in_part, cut_in_part, removed_or_not, next_left, with_change, replay, life_at}

-- the file that a call is of
change_here : (this : FileId) (change : FileState → FileState) (files : Files) → with_change this change files this ≡ change (files this)
change_here this change files = ap (λ (o : Ordering). if is_eq o then change (files this) else files this) (file_cmp_self this)

not_made : (b : Bool) (made before : FileState) → (b ≡ true → ⊥) → (if b then made else before) ≡ before
not_made true made before not = absurd (not refl)
not_made false made before not = refl

-- the other files
change_elsewhere : (this : FileId) (change : FileState → FileState) (files : Files) (other : FileId) → other ≢ this → with_change this change files other ≡ files other
change_elsewhere this change files other differs =
    not_made (is_eq (file_cmp other this)) (change (files other)) (files other) (λ same. differs (equal_files other this same))

all_taken : (reads : Option (List ℕ)) (len : ℕ) → length (bytes_of reads) ≤ len → reads ≡ option_map (take len) reads
all_taken None len fits = refl
all_taken (Some bytes) len fits = ap (λ (l : List ℕ). Some l) (sym (take_all len bytes fits))

-- a cut that failed may have been made in part
cut_in_part_is_cut : (len : ℕ) (left : Option (List ℕ)) (state : FileState) → IsCut len state (cut_in_part len left state)
cut_in_part_is_cut len None state = inr (record {
  touched = refl;
  written = refl;
  least = refl;
  was_absent = refl;
  last_synced = refl;
  length_left = max len (length (bytes_of state.reads));
  no_less = omega arith;
  reads = all_taken state.reads (max len (length (bytes_of state.reads))) (omega arith);
})
cut_in_part_is_cut len (Some left) state = inr (record {
  touched = refl;
  written = refl;
  least = refl;
  was_absent = refl;
  last_synced = refl;
  length_left = max len (length left);
  no_less = omega arith;
  reads = refl;
})

no_longer : (at n : ℕ) (bytes old : List ℕ) → length bytes ≤ n → length (overwritten at bytes old) ≤ max (length old) (at + n)
no_longer at n [] old fits = omega arith
no_longer at n (byte ∷ bytes) old fits = omega (arith, fits, length_overwritten at (byte ∷ bytes) old (omega arith))

-- a write that failed may have been made in part
written_in_part_is_written : (at n : ℕ) (left : Option (List ℕ)) (state : FileState) → IsWritten at n state (written_in_part at n left state)
written_in_part_is_written at zero left state = inl refl
written_in_part_is_written at (suc n) None state = inr (record {
  some = omega arith;
  touched = refl;
  written = refl;
  least = refl;
  was_absent = refl;
  last_synced = refl;
  stays = λ there. there;
  no_shorter = omega arith;
  no_longer = omega arith;
  below = λ offset under. refl;
  above = λ offset over. refl;
})
written_in_part_is_written at (suc n) (Some left) state =
    let bytes : List ℕ = take (suc n) (drop at left) in
    let old : List ℕ = bytes_of state.reads in
    let fits : length bytes ≤ suc n = omega (arith, length-take (suc n) (drop at left)) in
    inr (record {
      some = omega arith;
      touched = refl;
      written = refl;
      least = refl;
      was_absent = refl;
      last_synced = refl;
      stays = λ there. refl;
      no_shorter = (overwritten_no_shorter at bytes old).0;
      no_longer = no_longer at (suc n) bytes old fits;
      below = λ offset under. overwritten_below at bytes old offset under;
      above = λ offset over. overwritten_above at bytes old offset (omega (arith, fits, over));
    })

-- a write is a step of its file
pub write_steps : (file : FileId) (at : ℕ) (bytes : List ℕ) (events : List Event) (old new : ℕ) → old ≤ new
    → Steps file (IsWritten at (length bytes)) (life_at events old) (life_at (wrote file at bytes ∷ events) new)
write_steps file at bytes events old new more = record {
  obeyed = λ obeyed. obeyed;
  this = subst (IsWritten at (length bytes) ((replay events).now file)) (sym (change_here file (write_to at bytes) (replay events).now)) (write_is_written at bytes ((replay events).now file));
  others = change_elsewhere file (write_to at bytes) (replay events).now;
  time = inl refl;
  faults = more;
}

-- a call that failed is a step of its file
pub failed_write_steps : (file : FileId) (at n : ℕ) (events : List Event) (old new : ℕ) → old ≤ new
    → Steps file (IsWritten at n) (life_at events old) (life_at (write_failed file at n ∷ events) new)
failed_write_steps file at n events old new more = record {
  obeyed = λ obeyed. obeyed;
  this = subst (IsWritten at n ((replay events).now file)) (sym (change_here file (written_in_part at n (next_left (replay events).left)) (replay events).now))
      (written_in_part_is_written at n (next_left (replay events).left) ((replay events).now file));
  others = change_elsewhere file (written_in_part at n (next_left (replay events).left)) (replay events).now;
  time = inl refl;
  faults = more;
}

pub failed_cut_steps : (file : FileId) (len : ℕ) (events : List Event) (old new : ℕ) → old ≤ new
    → Steps file (IsCut len) (life_at events old) (life_at (cut_failed file len ∷ events) new)
failed_cut_steps file len events old new more = record {
  obeyed = λ obeyed. obeyed;
  this = subst (IsCut len ((replay events).now file)) (sym (change_here file (cut_in_part len (next_left (replay events).left)) (replay events).now))
      (cut_in_part_is_cut len (next_left (replay events).left) ((replay events).now file));
  others = change_elsewhere file (cut_in_part len (next_left (replay events).left)) (replay events).now;
  time = inl refl;
  faults = more;
}

or_right : (a b : Bool) → b ≡ true → (a || b) ≡ true
or_right true b is = refl
or_right false b is = is

opened_known : (b : Bool) (bytes : List ℕ) (other : Option (List ℕ)) (known : Bool) → is_some (if b then Some bytes else other) ≡ true → (is_some other ≡ true → known ≡ true) → (b || known) ≡ true
opened_known true bytes other known there rest = refl
opened_known false bytes other known there rest = rest there

-- a file that the opening found is among those that it found
held_known : (held : List Held) (file : FileId) → is_some (image_of held file) ≡ true → is_in (map (λ (h : Held). h.0) held) file ≡ true
held_known [] file there = absurd (cc)
held_known (one ∷ rest) file there = opened_known (is_eq (file_cmp file one.0)) one.1 (image_of rest file) (is_in (map (λ (h : Held). h.0) rest) file) there (held_known rest file)

one_was_there : (b : Bool) (made before : FileState) → (is_some made.reads ≡ true → is_some before.reads ≡ true) → is_some (if b then made else before).reads ≡ true → is_some before.reads ≡ true
one_was_there true made before makes_none there = makes_none there
one_was_there false made before makes_none there = there

-- a file that is there after a change that makes none was there before it
was_there : (this file : FileId) (change : FileState → FileState) (files : Files) → ((state : FileState) → is_some (change state).reads ≡ true → is_some state.reads ≡ true)
    → is_there (with_change this change files) file ≡ true → is_there files file ≡ true
was_there this file change files makes_none there = one_was_there (is_eq (file_cmp file this)) (change (files file)) (files file) (makes_none (files file)) there

some_taken : (reads : Option (List ℕ)) (len : ℕ) → is_some (option_map (take len) reads) ≡ true → is_some reads ≡ true
some_taken None len there = there
some_taken (Some bytes) len there = refl

cut_in_part_reads : (len : ℕ) (left : Option (List ℕ)) (state : FileState) → is_some (cut_in_part len left state).reads ≡ true → is_some state.reads ≡ true
cut_in_part_reads len None state there = there
cut_in_part_reads len (Some left) state there = some_taken state.reads (max len (length left)) there

removed_or_not_reads : (left : Option (List ℕ)) (state : FileState) → is_some (removed_or_not left state).reads ≡ true → is_some state.reads ≡ true
removed_or_not_reads None state there = absurd (cc)
removed_or_not_reads (Some left) state there = there

one_written : (b : Bool) (made before : FileState) (known : Bool) → (is_some before.reads ≡ true → known ≡ true) → is_some (if b then made else before).reads ≡ true → (b || known) ≡ true
one_written true made before known was there = refl
one_written false made before known was there = was there

-- a file that is there after a write was there before it, or is the one that was written
written_known : (this file : FileId) (change : FileState → FileState) (files : Files) (known : List FileId) → (is_there files file ≡ true → is_in known file ≡ true)
    → is_there (with_change this change files) file ≡ true → is_in (this ∷ known) file ≡ true
written_known this file change files known before there = one_written (is_eq (file_cmp file this)) (change (files file)) (files file) (is_in known file) before there

-- each file that is there is known
pub all_known : (events : List Event) (file : FileId) → is_there (replay events).now file ≡ true → is_in (replay events).known file ≡ true
all_known [] file there = absurd (cc)
all_known (opened given ∷ earlier) file there = held_known given.held file there
all_known (locked path ∷ earlier) file there = all_known earlier file there
all_known (measured this n ∷ earlier) file there = all_known earlier file there
all_known (measure_failed this ∷ earlier) file there = all_known earlier file there
all_known (asked bytes ∷ earlier) file there = all_known earlier file there
all_known (gave this at n bytes ∷ earlier) file there = all_known earlier file there
all_known (read_failed this at ∷ earlier) file there = all_known earlier file there
all_known (touched this ∷ earlier) file there = all_known earlier file there
all_known (wrote this at bytes ∷ earlier) file there = written_known this file (write_to at bytes) (replay earlier).now (replay earlier).known (all_known earlier file) there
all_known (write_failed this at n ∷ earlier) file there = written_known this file (written_in_part at n (next_left (replay earlier).left)) (replay earlier).now (replay earlier).known (all_known earlier file) there
all_known (cut this len ∷ earlier) file there = all_known earlier file (was_there this file (cut_to len) (replay earlier).now (λ state. some_taken state.reads len) there)
all_known (cut_failed this len ∷ earlier) file there = all_known earlier file (was_there this file (cut_in_part len (next_left (replay earlier).left)) (replay earlier).now (cut_in_part_reads len (next_left (replay earlier).left)) there)
all_known (gone this ∷ earlier) file there = all_known earlier file (was_there this file removed (replay earlier).now (λ state there. absurd (cc)) there)
all_known (remove_failed this ∷ earlier) file there = all_known earlier file (was_there this file (removed_or_not (next_left (replay earlier).left)) (replay earlier).now (removed_or_not_reads (next_left (replay earlier).left)) there)
all_known (flushed this ∷ earlier) file there = all_known earlier file (was_there this file synced (replay earlier).now (λ state there. there) there)
all_known (flush_failed this ∷ earlier) file there = all_known earlier file there
all_known (listed files ∷ earlier) file there = all_known earlier file there
all_known (list_failed ∷ earlier) file there = all_known earlier file there
all_known (refused this at ∷ earlier) file there = all_known earlier file there

first_of : (a b : Bool) → (a && b) ≡ true → a ≡ true
first_of true b both = refl
first_of false b both = both

second_of : (a b : Bool) → (a && b) ≡ true → b ≡ true
second_of true b both = both
second_of false b both = absurd (cc)

or_else : (a b : Bool) → a ≡ true → (not a || b) ≡ true → b ≡ true
or_else true b is either = either
or_else false b is either = absurd (cc)

one_has : (test : FileId → Bool) (one file : FileId) (b known rest : Bool) → (b ≡ true → file ≡ one) → (known ≡ true → rest ≡ true → test file ≡ true)
    → (test one && rest) ≡ true → (b || known) ≡ true → test file ≡ true
one_has test one file true known rest same later all found = ap test (same refl) ∙ first_of (test one) rest all
one_has test one file false known rest same later all found = later found (second_of (test one) rest all)

-- what each of some files has, one of them has
each_has : (test : FileId → Bool) (files : List FileId) (file : FileId) → list_all test files ≡ true → is_in files file ≡ true → test file ≡ true
each_has test [] file all found = absurd (cc)
each_has test (one ∷ rest) file all found =
    one_has test one file (is_eq (file_cmp file one)) (is_in rest file) (list_all test rest) (equal_files file one) (λ there each. each_has test rest file each there) all found

-- a listing that the folder obeys is of the files that are there
pub listed_files : (files known : List FileId) (now : Files) → IsStrictlySortedBy file_cmp files → are_there now known files ≡ true
    → ((file : FileId) → is_there now file ≡ true → is_in known file ≡ true) → AreFilesWith (λ file. IsSome (reads now file)) files
listed_files files known now sorted are known_all = record {
  in_order = sorted;
  each = λ file. (
    λ contains. each_has (is_there now) files file (first_of (list_all (is_there now) files) _ are) ((in_list files file).1 contains),
    λ there. (in_list files file).0
        (or_else (is_there now file) (is_in files file) there
        (each_has (λ one. not (is_there now one) || is_in files one) known file (second_of (list_all (is_there now) files) _ are) (known_all file there))),
  );
}

-- a listing of a folder gives the files that are there, where the folder obeys
pub listing_is : (result : Result (Vec FileId Global) ListFault) (before after : List Event) → IfOk result (λ files. IsStrictlySortedBy file_cmp files.items)
    → MatchResult result (λ files. after ≡ listed files.items ∷ before) (λ fault. after ≡ after_list_fault fault before)
    → IfOk result (λ files. IsTrue (replay after).obeys → AreFilesWith (λ file. IsSome (reads (replay before).now file)) files.items)
listing_is (Err fault) before after sorted noted = tt
listing_is (Ok files) before after sorted noted = λ obeys.
    listed_files files.items (replay before).known (replay before).now sorted
    (second_of (replay before).obeys _ (subst (λ (events : List Event). (replay events).obeys ≡ true) noted obeys)) (all_known before)
