-- What a crash leaves of bytes that were durable before others were written.
use Rattle.std.proofs.Common.{◌≡◌, ℕ, ◌+◌, ◌<◌, ◌≤◌, min, List, length, length-take, get_or, take, Option, option_map, IsSome, Some, None, IsTrue, false, true, inl, inr, lt_of_not-le, le_of_eq, sym, ap, ◌∙◌, subst, refl, arith}
use Rattle.disk_core.specs.DiskImage.{FileState, IsWithin, IsUnsynced, AgreesWhereDurable, LeavesFile, bytes_of, durable}
use Rattle.disk_core.specs.Calls.{IsWritten, IsCut}
use Rattle.disk_core.specs.Standing.{Holds, unsynced_from, KeepsBelow, IsTornCopy, IsSameBelow}
use Rattle.disk_core.proofs.DiskImageLemmas.{leaves_on, durable_left, get_or_cut}

-- an offset that is durable where all from an offset on is unsynced lies below it and is durable
durable_below : (at : ℕ) (file : FileState) (offset : ℕ) → ¬ IsUnsynced (unsynced_from at file) offset → (offset < at) × ¬ IsUnsynced file offset
durable_below at file offset fixed =
    let below : offset < at = lt_of_not-le (λ past. fixed (inr (omega (arith, past)))) in
    (below, λ unsynced. elim unsynced [ inl w ↦ fixed (inl w) | inr past ↦ fixed (inr (omega (arith, past))) ])

-- a file keeps itself
pub keeps_refl : (at : ℕ) (file : FileState) → KeepsBelow at file file
keeps_refl at file = record {
  written = λ offset below within. within;
  least = omega arith;
  was_absent = refl;
  no_shorter = omega arith;
  same = λ offset below. refl;
}

-- one write more, at that offset or past it, wholly or partly done
pub keeps_write : (at to count : ℕ) (old mid new : FileState) → at ≤ to → KeepsBelow at old mid → IsWritten to count mid new → KeepsBelow at old new
keeps_write at to count old mid new past kept written = elim written [
  | inl same ↦ subst (λ (f : FileState). KeepsBelow at old f) (sym same) kept
  | inr torn ↦ record {
    written = λ offset below within.
        elim (subst (λ (ranges : List (ℕ × ℕ)). IsWithin ranges offset) torn.written within) [
          | inl here ↦ absurd (omega (arith, here.0, below, past))
          | inr earlier ↦ kept.written offset below earlier
        ];
    least = omega (arith, kept.least, torn.least);
    was_absent = torn.was_absent ∙ kept.was_absent;
    no_shorter = omega (arith, kept.no_shorter, torn.no_shorter);
    same = λ offset below. torn.below offset (omega (arith, below, past)) ∙ kept.same offset below;
  }
]

length_cut : (file : Option (List ℕ)) (len : ℕ) → length (bytes_of (option_map (take len) file)) ≡ min len (length (bytes_of file))
length_cut None len = omega arith
length_cut (Some bytes) len = length-take len bytes

-- one cut more, to that offset or past it, wholly or partly done
pub keeps_cut : (at len : ℕ) (old mid new : FileState) → at ≤ len → KeepsBelow at old mid → IsCut len mid new → KeepsBelow at old new
keeps_cut at len old mid new past kept cut = elim cut [
  | inl same ↦ subst (λ (f : FileState). KeepsBelow at old f) (sym same) kept
  | inr shorter ↦ record {
    written = λ offset below within.
        kept.written offset below (subst (λ (ranges : List (ℕ × ℕ)). IsWithin ranges offset) shorter.written within);
    least = omega (arith, kept.least, shorter.least, past);
    was_absent = shorter.was_absent ∙ kept.was_absent;
    no_shorter =
        let long : length (bytes_of new.reads) ≡ min shorter.length_left (length (bytes_of mid.reads)) =
        ap (λ (r : Option (List ℕ)). length (bytes_of r)) shorter.reads ∙ length_cut mid.reads shorter.length_left in
        omega (arith, long, kept.no_shorter, shorter.no_less, past);
    same = λ offset below.
        ap (λ (r : Option (List ℕ)). get_or (bytes_of r) offset 0) shorter.reads
        ∙ get_or_cut mid.reads shorter.length_left offset (omega (arith, below, past, shorter.no_less)) ∙ kept.same offset below;
  }
]

-- two changes that keep it one after the other keep it
pub keeps_on : (at : ℕ) (old mid new : FileState) → KeepsBelow at old mid → KeepsBelow at mid new → KeepsBelow at old new
keeps_on at old mid new first then = record {
  written = λ offset below within. first.written offset below (then.written offset below within);
  least = omega (arith, first.least, then.least);
  was_absent = then.was_absent ∙ first.was_absent;
  no_shorter = omega (arith, first.no_shorter, then.no_shorter);
  same = λ offset below. then.same offset below ∙ first.same offset below;
}

-- what is kept below an offset is kept below a lower one
pub keeps_less : (at to : ℕ) (old new : FileState) → at ≤ to → KeepsBelow to old new → KeepsBelow at old new
keeps_less at to old new lower kept = record {
  written = λ offset below within. kept.written offset (omega (arith, below, lower)) within;
  least = omega (arith, kept.least, lower);
  was_absent = kept.was_absent;
  no_shorter = omega (arith, kept.no_shorter, lower);
  same = λ offset below. kept.same offset (omega (arith, below, lower));
}

-- A crash leaves of the file what it may leave of the one from which it came, with all from that offset on
-- unsynced, also where all of it from there on is unsynced.
pub keeps_from : (at : ℕ) (old new : FileState) (left : Option (List ℕ)) → KeepsBelow at old new → LeavesFile (unsynced_from at new) left → LeavesFile (unsynced_from at old) left
keeps_from at old new left kept leaves =
    leaves_on (unsynced_from at new) (unsynced_from at old) left leaves refl (λ absent. subst IsTrue kept.was_absent absent) (omega (arith, kept.least))
    (λ offset fixed.
    let old_below = durable_below at old offset fixed in
    let before : ¬ IsUnsynced (unsynced_from at new) offset = λ unsynced. elim unsynced [
      | inl w ↦ old_below.1 (inl (kept.written offset old_below.0 w))
      | inr past ↦ old_below.1 (inr (omega (arith, kept.least, past, old_below.0)))
    ] in
    (before, kept.same offset old_below.0))

-- of a file, a crash leaves no more than of the same file with more of it unsynced
pub unsynced_keeps : (at : ℕ) (file : FileState) (left : Option (List ℕ)) → LeavesFile file left → LeavesFile (unsynced_from at file) left
unsynced_keeps at file left leaves =
    leaves_on file (unsynced_from at file) left leaves refl (λ absent. absent) (omega arith)
    (λ offset fixed. ((durable_below at file offset fixed).1, refl))

-- the same from a lower offset on
pub unsynced_lower : (at to : ℕ) (file : FileState) (left : Option (List ℕ)) → at ≤ to → LeavesFile (unsynced_from to file) left → LeavesFile (unsynced_from at file) left
unsynced_lower at to file left lower leaves =
    leaves_on (unsynced_from to file) (unsynced_from at file) left leaves refl (λ absent. absent) (omega (arith, lower))
    (λ offset fixed.
    let below = durable_below at file offset fixed in (
      (λ unsynced. elim unsynced [
        | inl w ↦ below.1 (inl w)
        | inr past ↦ below.1 (inr (omega (arith, past, lower, below.0)))
      ]),
      refl,
    ))

-- a crash leaves of the file what it may leave of the one from which it came, with all from that offset on unsynced
pub keeps_left : (at : ℕ) (old new : FileState) (left : Option (List ℕ)) → KeepsBelow at old new → LeavesFile new left → LeavesFile (unsynced_from at old) left
keeps_left at old new left kept leaves = keeps_from at old new left kept (unsynced_keeps at new left leaves)

torn_durable : (at count : ℕ) (old : List ℕ) (file : FileState) (left : Option (List ℕ)) → IsWritten at count (durable (Some old)) file → LeavesFile file left → IsTornCopy at count old left
torn_durable at count old file None written leaves = elim written [
  | inl same ↦ let gone : None ≡ Some old = durable_left (Some old) file None same leaves in absurd (cc)
  | inr torn ↦ let absent : IsTrue file.was_absent = leaves.absent.0 in let was : file.was_absent ≡ false = torn.was_absent in absurd (cc)
]
torn_durable at count old file (Some left) written leaves = elim written [
  | inl same ↦
      let kept : left ≡ old = let whole : Some left ≡ Some old = durable_left (Some old) file (Some left) same leaves in cc in
      record { no_shorter = le_of_eq (sym (ap length kept)); outside = λ offset apart inside. ap (λ (l : List ℕ). get_or l offset 0) kept }
  | inr torn ↦
      let agrees : AgreesWhereDurable file left = leaves.present in
      record {
        no_shorter = omega (arith, agrees.no_shorter, torn.least);
        outside = λ offset apart inside.
            let fixed : ¬ IsUnsynced file offset = λ unsynced. elim unsynced [
              | inl w ↦ elim (subst (λ (ranges : List (ℕ × ℕ)). IsWithin ranges offset) torn.written w) [
                | inl here ↦ elim apart [ inl below ↦ omega (arith, here.0, below) | inr above ↦ omega (arith, here.1, above) ]
                | inr none ↦ none
              ]
              | inr past ↦ omega (arith, past, torn.least, inside)
            ] in
            agrees.same offset fixed ∙ elim apart [ inl below ↦ torn.below offset below | inr above ↦ torn.above offset above ];
      }
]

-- of a durable file that is then written once, wholly or in part, a crash leaves a torn copy
pub torn_left : (at count : ℕ) (old : List ℕ) (before file : FileState) (left : Option (List ℕ)) → before ≡ durable (Some old) → IsWritten at count before file → LeavesFile file left
    → IsTornCopy at count old left
torn_left at count old before file left is written leaves =
    torn_durable at count old file left (subst (λ (b : FileState). IsWritten at count b file) is written) leaves

below_durable : (at : ℕ) (old : List ℕ) (left : Option (List ℕ)) → LeavesFile (unsynced_from at (durable (Some old))) left → IsSameBelow at old left
below_durable at old None leaves = let absent : false ≡ true = leaves.absent.0 in cc
below_durable at old (Some left) leaves =
    let agrees : AgreesWhereDurable (unsynced_from at (durable (Some old))) left = leaves.present in
    (agrees.no_shorter, λ offset below inside. agrees.same offset (λ unsynced. elim unsynced [ inl none ↦ none | inr past ↦ omega (arith, past, below, inside) ]))

-- of a durable file that is then written from an offset on alone, a crash leaves what stood below that offset
pub below_left : (at : ℕ) (old : List ℕ) (before file : FileState) (left : Option (List ℕ)) → before ≡ durable (Some old) → KeepsBelow at before file → LeavesFile file left
    → IsSameBelow at old left
below_left at old before file left is kept leaves =
    below_durable at old left (subst (λ (b : FileState). LeavesFile (unsynced_from at b) left) is (keeps_left at before file left kept leaves))

-- bytes that stood below that offset stand in what a crash leaves
pub below_holds : (at : ℕ) (old left : List ℕ) (offset : ℕ) (bytes : List ℕ) → IsSameBelow at old (Some left) → Holds old offset bytes → offset + length bytes ≤ at → Holds left offset bytes
below_holds at old left offset bytes same holds within k inside =
    let stood = holds k inside in
    (omega (arith, stood.0, same.0, within, inside), same.1 (offset + k) (omega (arith, within, inside)) stood.0 ∙ stood.1)

-- bytes that stood below that offset still stand there
pub keeps_holds : (at : ℕ) (old new : FileState) (offset : ℕ) (bytes : List ℕ) → KeepsBelow at old new
    → Holds (bytes_of old.reads) offset bytes → offset + length bytes ≤ at → Holds (bytes_of new.reads) offset bytes
keeps_holds at old new offset bytes kept holds within k inside =
    let stood = holds k inside in
    (omega (arith, stood.0, kept.no_shorter, within, inside), kept.same (offset + k) (omega (arith, within, inside)) ∙ stood.1)

is_there : (at : ℕ) (old : List ℕ) (left : Option (List ℕ)) → IsSameBelow at old left → IsSome left
is_there at old None same = absurd same
is_there at old (Some left) same = refl

-- a crash leaves a file that was durable before it was changed from an offset on alone
pub below_there : (at : ℕ) (old : List ℕ) (file : FileState) (left : Option (List ℕ)) → KeepsBelow at (durable (Some old)) file → LeavesFile file left → IsSome left
below_there at old file left kept leaves = is_there at old left (below_left at old (durable (Some old)) file left refl kept leaves)

-- and the bytes that stood in it below that offset
pub below_stands : (at : ℕ) (old left : List ℕ) (file : FileState) (offset : ℕ) (bytes : List ℕ) → KeepsBelow at (durable (Some old)) file → LeavesFile file (Some left)
    → Holds old offset bytes → offset + length bytes ≤ at → Holds left offset bytes
below_stands at old left file offset bytes kept leaves =
    below_holds at old left offset bytes (below_left at old (durable (Some old)) file (Some left) refl kept leaves)
