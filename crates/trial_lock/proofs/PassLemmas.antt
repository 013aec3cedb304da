-- Passes of one history.
use Rattle.std.proofs.Common.{◌≡◌, ◌++◌, ℕ, zero, suc, List, [], ◌∷◌, refl}
use Rattle.call_history.specs.Passes.{AllOfTable, new_pass, new_passes}
use Rattle.call_history.specs.Values.{PassView, TableId}
use Rattle.archive_lock.specs.declared.history.Made.{Made}

pub all_push : (table : TableId) (ps : List (PassView Made)) (p : PassView Made) → AllOfTable table ps → p.table ≡ table → AllOfTable table (ps ++ p ∷ [])
all_push table [] p all of = (of, tt)
all_push table (q ∷ ps) p all of = (all.0, all_push table ps p all.1 of)

-- the new passes of an archive
abbrev pub made_passes : TableId → ℕ → List (PassView Made)
made_passes table n = new_passes table n

pub all_new : (table : TableId) (n : ℕ) → AllOfTable table (made_passes table n)
all_new table zero = tt
all_new table (suc n) = all_push table (made_passes table n) (new_pass table n) (all_new table n) refl

pub all_front : (table : TableId) (ps : List (PassView Made)) (p : PassView Made) → AllOfTable table (ps ++ p ∷ []) → AllOfTable table ps
all_front table [] p all = tt
all_front table (q ∷ ps) p all = (all.0, all_front table ps p all.1)

pub all_last : (table : TableId) (ps : List (PassView Made)) (p : PassView Made) → AllOfTable table (ps ++ p ∷ []) → p.table ≡ table
all_last table [] p all = all.0
all_last table (q ∷ ps) p all = all_last table ps p all.1
