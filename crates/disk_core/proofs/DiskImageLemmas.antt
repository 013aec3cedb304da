-- What a crash may leave of a file, before and after a call.
use Rattle.std.proofs.Common.{◌≡◌, ℕ, ◌+◌, ◌<◌, ◌≤◌, List, ◌∷◌, get_or, take, Option, Some, None, option_map, IsTrue, IsFalse, Bool, true, false, length, if◌then◌else◌, inl, inr, lt_of_not-le, sym, ap, ◌∙◌, subst, refl, arith}
use Rattle.std.proofs.lemmas.Bool.{cases_lt}
use Rattle.std.proofs.lemmas.List.{get_or-take}
use Rattle.disk_core.specs.declared.file_id.FileId.{FileId}
use Rattle.disk_core.specs.DiskImage.{FileState, IsWithin, IsUnsynced, AgreesWhereDurable, LeavesFile, bytes_of, durable, DiskImage, Files, MayLeave, reads, begun}
use Rattle.disk_core.specs.Calls.{cut_to, removed, IsTorn, IsWritten, IsShorter, IsCut, IsRemoved, IsSynced}

-- a file is not both touched and untouched
not_both : (b : Bool) → IsTrue b → IsFalse b → ⊥
not_both b on off = cc

-- a durable file is left as it is
pub durable_left : (bytes : Option (List ℕ)) (file : FileState) (left : Option (List ℕ)) → file ≡ durable bytes → LeavesFile file left → left ≡ bytes
durable_left bytes file left is leaves =
    let here : LeavesFile (durable bytes) left = subst (λ (f : FileState). LeavesFile f left) is leaves in here.untouched refl

-- after a sync, also a failed one, a crash leaves nothing that it might not have left before
pub synced_left : (before file : FileState) (left : Option (List ℕ)) → LeavesFile before before.reads → IsSynced before file → LeavesFile file left → LeavesFile before left
synced_left before file left stays done leaves = elim done [
  | inl same ↦ subst (λ (f : FileState). LeavesFile f left) same leaves
  | inr on_disk ↦ subst (λ (l : Option (List ℕ)). LeavesFile before l) (sym (durable_left before.reads file left on_disk leaves)) stays
]

-- What is left of a file agrees with it still, where it is no longer, and each offset that is durable in it
-- is durable in the earlier file, which reads the same there.
agrees_on : (old new : FileState) (left : List ℕ) → AgreesWhereDurable old left → new.least ≤ old.least
    → ((offset : ℕ) → ¬ IsUnsynced new offset → ¬ IsUnsynced old offset × (get_or (bytes_of old.reads) offset 0 ≡ get_or (bytes_of new.reads) offset 0))
    → AgreesWhereDurable new left
agrees_on old new left agrees shorter durable_before = record {
  no_shorter = omega (arith, agrees.no_shorter);
  same = λ offset fixed. agrees.same offset (durable_before offset fixed).0 ∙ (durable_before offset fixed).1;
}

-- the same for a file that may be absent
pub leaves_on : (old new : FileState) (left : Option (List ℕ)) → LeavesFile old left → IsTrue new.is_touched → (IsTrue old.was_absent → IsTrue new.was_absent) → new.least ≤ old.least
    → ((offset : ℕ) → ¬ IsUnsynced new offset → ¬ IsUnsynced old offset × (get_or (bytes_of old.reads) offset 0 ≡ get_or (bytes_of new.reads) offset 0))
    → LeavesFile new left
leaves_on old new None leaves touched absent shorter same = record {
  untouched = λ no. absurd (not_both new.is_touched touched no);
  absent = (absent leaves.absent.0, omega (arith, leaves.absent.1, shorter));
  present = tt;
}
leaves_on old new (Some left) leaves touched absent shorter same = record {
  untouched = λ no. absurd (not_both new.is_touched touched no);
  absent = tt;
  present = agrees_on old new left leaves.present shorter same;
}

-- an offset that is durable after a write was durable before it and reads the same
torn_same : (at count : ℕ) (old new : FileState) → IsTorn at count old new → (offset : ℕ) → ¬ IsUnsynced new offset
    → ¬ IsUnsynced old offset × (get_or (bytes_of old.reads) offset 0 ≡ get_or (bytes_of new.reads) offset 0)
torn_same at count old new torn offset fixed =
    let within : IsWithin ((at, count) ∷ old.written) offset → ⊥ = λ w. fixed (inl (subst (λ (ranges : List (ℕ × ℕ)). IsWithin ranges offset) (sym torn.written) w)) in
    let before : ¬ IsUnsynced old offset = λ unsynced. elim unsynced [
      | inl w ↦ within (inr w)
      | inr past ↦ fixed (inr (omega (arith, torn.least, past)))
    ] in
    let same : get_or (bytes_of old.reads) offset 0 ≡ get_or (bytes_of new.reads) offset 0 = elim (cases_lt offset at) [
      | inl below ↦ sym (torn.below offset below)
      | inr from ↦ elim (cases_lt offset (at + count)) [
        | inl inside ↦ absurd (within (inl (from, inside)))
        | inr above ↦ sym (torn.above offset above)
      ]
    ] in
    (before, same)

-- A crash leaves no less of the bytes that are durable, and the same as is read.
pub durable_bytes : (file : FileState) (left : Option (List ℕ)) (offset : ℕ) → LeavesFile file left → ¬ IsUnsynced file offset
    → (offset < length (bytes_of left)) × (get_or (bytes_of left) offset 0 ≡ get_or (bytes_of file.reads) offset 0)
durable_bytes file None offset leaves fixed = absurd (fixed (inr (omega (arith, leaves.absent.1))))
durable_bytes file (Some left) offset leaves fixed =
    (omega (arith, lt_of_not-le (λ past. fixed (inr past)), leaves.present.no_shorter), leaves.present.same offset fixed)

-- What a crash leaves of a file that is changed in part, it may leave of the file once it is wholly changed.
half_left : (old half done : FileState) (left : Option (List ℕ)) → LeavesFile half left → IsTrue done.is_touched
    → half.written ≡ done.written → half.least ≡ done.least → half.was_absent ≡ done.was_absent
    → ((offset : ℕ) → ¬ IsUnsynced half offset → get_or (bytes_of old.reads) offset 0 ≡ get_or (bytes_of half.reads) offset 0)
    → ((offset : ℕ) → ¬ IsUnsynced done offset → get_or (bytes_of old.reads) offset 0 ≡ get_or (bytes_of done.reads) offset 0)
    → LeavesFile done left
half_left old half done left leaves touched written least was_absent half_same done_same =
    leaves_on half done left leaves touched (subst IsTrue was_absent) (omega (arith, least))
    (λ offset fixed.
    let before : ¬ IsUnsynced half offset = λ unsynced. elim unsynced [
      | inl w ↦ fixed (inl (subst (λ (ranges : List (ℕ × ℕ)). IsWithin ranges offset) written w))
      | inr past ↦ fixed (inr (omega (arith, past, least)))
    ] in
    (before, sym (half_same offset before) ∙ done_same offset fixed))

-- What a crash might leave before a write, wholly or partly done, it may leave after it too.
pub written_keeps : (at count : ℕ) (old new : FileState) (left : Option (List ℕ)) → IsWritten at count old new → LeavesFile old left → LeavesFile new left
written_keeps at count old new left written leaves = elim written [
  | inl same ↦ subst (λ (f : FileState). LeavesFile f left) (sym same) leaves
  | inr torn ↦ leaves_on old new left leaves torn.touched (subst IsTrue (sym torn.was_absent)) (omega (arith, torn.least)) (torn_same at count old new torn)
]

-- what it leaves of a file that is half written, it may leave of the written one
pub half_written : (at count : ℕ) (old half done : FileState) (left : Option (List ℕ)) → IsTorn at count old half → IsTorn at count old done → LeavesFile half left → LeavesFile done left
half_written at count old half done left in_part whole leaves =
    half_left old half done left leaves whole.touched (in_part.written ∙ sym whole.written) (in_part.least ∙ sym whole.least) (in_part.was_absent ∙ sym whole.was_absent)
    (λ offset fixed. (torn_same at count old half in_part offset fixed).1) (λ offset fixed. (torn_same at count old done whole offset fixed).1)

-- what is cut off a file lies past the length that is left
pub get_or_cut : (file : Option (List ℕ)) (len offset : ℕ) → offset < len → get_or (bytes_of (option_map (take len) file)) offset 0 ≡ get_or (bytes_of file) offset 0
get_or_cut None len offset below = refl
get_or_cut (Some bytes) len offset below = get_or-take len bytes offset 0 below

shorter_same : (len : ℕ) (old new : FileState) → IsShorter len old new → (offset : ℕ) → ¬ IsUnsynced new offset
    → ¬ IsUnsynced old offset × (get_or (bytes_of old.reads) offset 0 ≡ get_or (bytes_of new.reads) offset 0)
shorter_same len old new shorter offset fixed =
    let before : ¬ IsUnsynced old offset = λ unsynced. elim unsynced [
      | inl w ↦ fixed (inl (subst (λ (ranges : List (ℕ × ℕ)). IsWithin ranges offset) (sym shorter.written) w))
      | inr past ↦ fixed (inr (omega (arith, shorter.least, past)))
    ] in
    let same : get_or (bytes_of old.reads) offset 0 ≡ get_or (bytes_of new.reads) offset 0 = elim (cases_lt offset len) [
      | inl below ↦ sym (ap (λ (r : Option (List ℕ)). get_or (bytes_of r) offset 0) shorter.reads ∙ get_or_cut old.reads shorter.length_left offset (omega (arith, shorter.no_less)))
      | inr past ↦ absurd (fixed (inr (omega (arith, shorter.least, past))))
    ] in
    (before, same)

-- the same of a cut
pub cut_keeps : (len : ℕ) (old new : FileState) (left : Option (List ℕ)) → IsCut len old new → LeavesFile old left → LeavesFile new left
cut_keeps len old new left cut leaves = elim cut [
  | inl same ↦ subst (λ (f : FileState). LeavesFile f left) (sym same) leaves
  | inr shorter ↦ leaves_on old new left leaves shorter.touched (subst IsTrue (sym shorter.was_absent)) (omega (arith, shorter.least)) (shorter_same len old new shorter)
]

-- what it leaves of a file that is cut in part, it may leave of the cut one
pub half_cut : (len : ℕ) (old half done : FileState) (left : Option (List ℕ)) → IsShorter len old half → IsShorter len old done → LeavesFile half left → LeavesFile done left
half_cut len old half done left in_part whole leaves =
    half_left old half done left leaves whole.touched (in_part.written ∙ sym whole.written) (in_part.least ∙ sym whole.least) (in_part.was_absent ∙ sym whole.was_absent)
    (λ offset fixed. (shorter_same len old half in_part offset fixed).1) (λ offset fixed. (shorter_same len old done whole offset fixed).1)

-- what it leaves of a file whose removal failed, it may leave of the removed one
pub half_removed : (old : FileState) (left : Option (List ℕ)) → LeavesFile (record (removed old) { reads = old.reads }) left → LeavesFile (removed old) left
half_removed old left leaves =
    leaves_on (record (removed old) { reads = old.reads }) (removed old) left leaves refl (λ absent. absent) (omega arith)
    (λ offset fixed. absurd (fixed (inr (omega arith))))

-- the same of a remove
pub removed_keeps : (old new : FileState) (left : Option (List ℕ)) → IsRemoved old new → LeavesFile old left → LeavesFile new left
removed_keeps old new left gone leaves = elim gone [
  | inl same ↦ subst (λ (f : FileState). LeavesFile f left) (sym same) leaves
  | inr other ↦ elim other [
    | inl done ↦ subst (λ (f : FileState). LeavesFile f left) (sym done) (leaves_on old (removed old) left leaves refl (λ _. refl) (omega arith) (λ offset fixed. absurd (fixed (inr (omega arith)))))
    | inr failed ↦ subst (λ (f : FileState). LeavesFile f left) (sym failed) (leaves_on old (record (removed old) { reads = old.reads }) left leaves refl (λ _. refl) (omega arith) (λ offset fixed. absurd (fixed (inr (omega arith)))))
  ]
]

-- a cut is one that may have been done in part
pub cut_is_cut : (len : ℕ) (file : FileState) → IsCut len file (cut_to len file)
cut_is_cut len file = inr (record {
  touched = refl;
  written = refl;
  least = refl;
  was_absent = refl;
  last_synced = refl;
  length_left = len;
  no_less = omega arith;
  reads = refl;
})

-- once each file is durable, a crash leaves what is read
pub all_durable : (files : Files) (image : DiskImage) → ((file : FileId) → files file ≡ durable (reads files file)) → MayLeave files image → (file : FileId) → image file ≡ reads files file
all_durable files image each left file = durable_left (reads files file) (files file) (image file) (each file) (left file)

-- a disk begun from an image leaves it
pub begun_left : (first image : DiskImage) → MayLeave (begun first) image → (file : FileId) → image file ≡ first file
begun_left first image left file = durable_left (first file) (durable (first file)) (image file) refl (left file)

-- a file may be left as in either of two images
pub either_image : (files : Files) (one other : DiskImage) (pick : FileId → Bool) → MayLeave files one → MayLeave files other → MayLeave files (λ file. if pick file then one file else other file)
either_image files one other pick left right file =
    elim (pick file) as (λ b. LeavesFile (files file) (if b then one file else other file)) [ true ↦ left file | false ↦ right file ]
