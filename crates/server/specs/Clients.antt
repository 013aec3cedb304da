-- How many clients are served at a time, and the passes that are lent to their threads: docs/ARCHITECTURE.md, "Serving".
use Rattle.std.specs.Prelude.{◌≡◌, ℕ, max, min, Bool, if◌then◌else◌, List, [], ◌∷◌, Option, Some, None}
use Rattle.call_history.specs.Values.{PassView}
use Rattle.archive_lock.specs.declared.history.Made.{Made}

-- how many clients are served at a time, by an option that asks for so many
abbrev pub places_of : Option ℕ → ℕ
places_of None = 1
places_of (Some clients) = max 1 (min clients 64)

-- how many more at a port of consumers, if there is one
abbrev pub consumers_of : Bool → ℕ
consumers_of has_consumers = if has_consumers then 64 else 0

-- a pass that was lent and comes back: it may have made calls
pub record IsBack (old new : PassView Made) : Type 0 where
  pub table : new.table ≡ old.table
  pub number : new.number ≡ old.number

-- passes that were lent come back, in their order
abbrev pub AreBack : List (PassView Made) → List (PassView Made) → Type 0
AreBack [] [] = Unit {0}
AreBack (old ∷ olds) (new ∷ news) = IsBack old new × AreBack olds news
AreBack olds news = ⊥
