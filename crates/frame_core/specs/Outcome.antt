-- What a call that may find no memory answers.
use Rattle.std.specs.Prelude.{◌≡◌, Result, Ok, Err}
use Rattle.frame_core.specs.declared.refusal.Refusal.{Refusal}
use Rattle.frame_core.specs.declared.refusal.Refusal.TheVariants.{NoMemory}

-- a refusal is the one that is decided, or want of memory
abbrev pub Refuses : {Y : Type 0} → Refusal → Result Y Refusal → Type 0
Refuses NoMemory decided = Unit {0}
Refuses refusal decided = decided ≡ Err refusal

-- what is answered, read by a view, is what is decided, unless memory ran out
abbrev pub Gives : {X Y : Type 0} → (X → Y) → Result X Refusal → Result Y Refusal → Type 0
Gives view (Ok x) decided = decided ≡ Ok (view x)
Gives view (Err refusal) decided = Refuses refusal decided

-- the same of a call that takes no memory
abbrev pub Shows : {X Y : Type 0} → (X → Y) → Result X Refusal → Result Y Refusal → Type 0
Shows view (Ok x) decided = decided ≡ Ok (view x)
Shows view (Err refusal) decided = decided ≡ Err refusal

infixl 10 ◌>>=◌
-- the one, and then the other on what it gave
abbrev pub ◌>>=◌ : {X Y : Type 0} → Result X Refusal → (X → Result Y Refusal) → Result Y Refusal
(Ok x) >>= next = next x
(Err refusal) >>= next = Err refusal
