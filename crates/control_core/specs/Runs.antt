-- Calls of an archive one after another, and the steps that they made. docs/CONTROL.md, "Control state"; docs/STORAGE.md,
-- "Recovery".
use Rattle.std.specs.Prelude.{◌≡◌, ◌⊎◌, ◌++◌, List, [], ◌∷◌, IsFalse, IsTrue, Some, Result}
use Rattle.frame_core.specs.declared.refusal.Refusal.{Refusal}
use Rattle.archive_model.specs.declared.reply.Reply.{Reply}
use Rattle.archive_model.specs.State.{State}
use Rattle.control_core.specs.declared.event.Event.{Event}
use Rattle.control_core.specs.Consistent.{steps_asked}
use Rattle.control_core.specs.Exact.{Archive, CallEnds, book_of}
use Rattle.control_core.specs.Steps.{AreAcceptedCalls, AreAcceptedSteps, BookStep, books_after, books_after_calls}

-- ---- archives one after another

-- each call ends as it may, from where the one before left the archive; they leave these archives, one after another
abbrev pub Leave : Archive → List Event → List (Result Reply Refusal) → List Archive → Type 0
Leave a [] [] [] = Unit {0}
Leave a (event ∷ events) (outcome ∷ outcomes) (b ∷ left) = CallEnds a event (Unit {0}) outcome b × Leave b events outcomes left
Leave a _ _ _ = ⊥

-- the archive that the last of them left
abbrev pub last_left : Archive → List Archive → Archive
last_left a [] = a
last_left a (b ∷ left) = last_left b left

-- the archive's state, or the one in doubt
abbrev pub MayStand : Archive → State → Type 0
MayStand a x = (x ≡ a.state) ⊎ (a.doubt ≡ Some x)

-- the state of one of them, or one that was in doubt then
abbrev pub StoodAmong : Archive → List Archive → State → Type 0
StoodAmong a [] x = MayStand a x
StoodAmong a (b ∷ left) x = MayStand a x ⊎ StoodAmong b left x

-- ---- the steps that they made

-- each call made no step, or each that it asked for
abbrev pub AreMade : Archive → List Event → List Archive → List (List BookStep) → Type 0
AreMade a [] [] [] = Unit {0}
AreMade a (event ∷ events) (b ∷ left) (steps ∷ made) =
    ((steps ≡ []) ⊎ (steps ≡ steps_asked a event)) × (book_of b ≡ books_after (book_of a) steps) × AreMade b events left made
AreMade a _ _ _ = ⊥

-- one of the calls broke the archive, and had asked for these steps
abbrev pub BrokeAsking : Archive → List Event → List Archive → List BookStep → Type 0
BrokeAsking a (event ∷ events) (b ∷ left) steps =
    (IsFalse a.desk.is_broken × IsTrue b.desk.is_broken × (steps ≡ steps_asked a event)) ⊎ BrokeAsking b events left steps
BrokeAsking a _ _ steps = ⊥

-- what a beginning of the calls made; or what all of them made and, behind it, the steps, all of them accepted, that the call
-- asked for which broke the archive
abbrev pub IsAfterSome : Archive → List Event → List Archive → List (List BookStep) → State → Type 0
IsAfterSome a events left made x =
    ((front : List (List BookStep)) × (back : List (List BookStep)) × (made ≡ front ++ back) × (x ≡ (books_after_calls (book_of a) front).state))
    ⊎ ((steps : List BookStep) × BrokeAsking a events left steps × AreAcceptedSteps (books_after_calls (book_of a) made) steps × (x ≡ (books_after (books_after_calls (book_of a) made) steps).state))

-- Calls made these steps, a list for each call: each command was accepted, and was asked for by the call that made it. They
-- lead to what the last archive has recorded, and whatever stood meanwhile is what a beginning of the calls made.
pub record IsHistory (a : Archive) (events : List Event) (left : List Archive) (steps : List (List BookStep)) : Type 0 where
  pub made : AreMade a events left steps
  pub accepted : AreAcceptedCalls (book_of a) steps
  pub last : book_of (last_left a left) ≡ books_after_calls (book_of a) steps
  pub prefix : (x : State) → StoodAmong a left x → IsAfterSome a events left steps x
