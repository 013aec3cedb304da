-- What is written or cut stays held, and marked so, until it is synced or removed.
use Rattle.std.proofs.Common.{◌≡◌, ℕ, true, List, ◌∷◌, inl, inr, Some, slice_get, Result, Ok, Err, MatchResult, sym, subst}
use Rattle.std.specs.Result.{is_ok}
use Rattle.std.proofs.lemmas.Option.{get_or_from_slice_get}
use Rattle.disk_core.specs.declared.file_id.FileId.{FileId}
use Rattle.disk_core.specs.declared.file_id.FileId.TheVariants.{BankA}
use Rattle.host_disk.specs.declared.open_files.OpenFiles.{OpenFiles}
use Rattle.host_disk.specs.Events.{Event, touched, wrote, write_failed, cut, cut_failed, gone, flushed, flush_failed}
use Rattle.host_disk.specs.OpenFiles.{held, file_at, IsMarked, KeepsMarks, KeepsOtherMarks, HoldsUnsynced}

-- the file of an index, told by what stands there after a mark was set
pub file_of_index : (old new : OpenFiles) (index : ℕ) (file : FileId) → held new ≡ held old → slice_get (held new) index ≡ Some file → file_at old index ≡ file
file_of_index old new index file same there = get_or_from_slice_get (held old) index file BankA (subst (λ (files : List FileId). slice_get files index ≡ Some file) same there)

pub holds_kept : (old new : OpenFiles) (notes : List Event) → KeepsMarks old new → HoldsUnsynced old notes → HoldsUnsynced new notes
holds_kept old new notes keeps holds file unmarked = holds file (λ marked. unmarked (keeps file marked))

pub holds_touched : (old new : OpenFiles) (notes : List Event) (this : FileId) → KeepsMarks old new × IsMarked new this → HoldsUnsynced old notes → HoldsUnsynced new (touched this ∷ notes)
holds_touched old new notes this marks holds file unmarked has = elim has [
  | inl is ↦ unmarked (subst (IsMarked new) (sym is) marks.1)
  | inr was ↦ holds file (λ marked. unmarked (marks.0 file marked)) was
]

-- what holds once a file is to be written holds when it was written, or that has failed
pub noted_write : {T E : Type 0} (P : List Event → Type 0) (result : Result T E) (this : FileId) (at n : ℕ) (bytes : List ℕ) (old new : List Event)
    → MatchResult result (λ _. new ≡ wrote this at bytes ∷ touched this ∷ old) (λ _. new ≡ write_failed this at n ∷ touched this ∷ old)
    → P (wrote this at bytes ∷ touched this ∷ old) → P (write_failed this at n ∷ touched this ∷ old) → P new
noted_write P (Ok t) this at n bytes old new noted done failed = subst P (sym noted) done
noted_write P (Err e) this at n bytes old new noted done failed = subst P (sym noted) failed

pub noted_cut : {T E : Type 0} (P : List Event → Type 0) (result : Result T E) (this : FileId) (len : ℕ) (old new : List Event)
    → MatchResult result (λ _. new ≡ cut this len ∷ touched this ∷ old) (λ _. new ≡ cut_failed this len ∷ touched this ∷ old)
    → P (cut this len ∷ touched this ∷ old) → P (cut_failed this len ∷ touched this ∷ old) → P new
noted_cut P (Ok t) this len old new noted done failed = subst P (sym noted) done
noted_cut P (Err e) this len old new noted done failed = subst P (sym noted) failed

pub noted_sync : {T E : Type 0} (P : List Event → Type 0) (result : Result T E) (this : FileId) (old new : List Event) → is_ok result ≡ true
    → MatchResult result (λ _. new ≡ flushed this ∷ old) (λ _. new ≡ flush_failed this ∷ old) → P (flushed this ∷ old) → P new
noted_sync P (Ok t) this old new ok noted done = subst P (sym noted) done
noted_sync P (Err e) this old new ok noted done = absurd (cc)

pub holds_synced : (old new : OpenFiles) (notes : List Event) (this : FileId) → KeepsOtherMarks this old new → HoldsUnsynced old notes → HoldsUnsynced new (flushed this ∷ notes)
holds_synced old new notes this keeps holds file unmarked has = holds file (λ marked. unmarked (keeps file has.0 marked)) has.1

pub holds_removed : (old new : OpenFiles) (notes : List Event) (this : FileId) → KeepsOtherMarks this old new → HoldsUnsynced old notes → HoldsUnsynced new (gone this ∷ notes)
holds_removed old new notes this keeps holds file unmarked has = holds file (λ marked. unmarked (keeps file has.0 marked)) has.1
