-- How what stands next in a file is read.
use Rattle.std.specs.Prelude.{◌≡◌, ◌≤◌, ◌+◌, ℕ, min, List, length, take, drop, Option, Some, None, IfSome}
use Rattle.std.specs.Io.KnownBytes.{Appends, Consumes, IsAtEnd, Keeps}
use Rattle.frame_core.specs.declared.frame.Frame.{Frame}
use Rattle.frame_core.specs.declared.refusal.Refusal.TheVariants.{BadFrame}
use Rattle.frame_core.specs.FrameEncoding.{aligned_length, frame_of}
use Rattle.control_lines.specs.RefusalText.{refusal_text}
use Rattle.tool_core.specs.declared.fault.EarlyEnd.{EarlyEnd}
use Rattle.tool_core.specs.declared.fault.EarlyEnd.TheVariants as ends
use Rattle.archive_commands.specs.declared.frames.Listing.{Listing}
use Rattle.archive_commands.specs.declared.frames.Listing.TheVariants.{Whole, Damaged}
use Rattle.archive_commands.specs.declared.frames.Listed.{Listed}
use Rattle.archive_commands.specs.declared.stored.Passage.{Passage}
use Rattle.archive_commands.specs.declared.stored.Passage.TheVariants.{Passed, AtEnd}
use Rattle.archive_commands.specs.declared.stored.Next.{Next}
use Rattle.archive_commands.specs.declared.stored.Next.TheVariants as nexts
use Rattle.archive_commands.specs.FrameLines.{EndsFrames, HasNoFrame, StandsFirst, end_text, frame_text}

-- known bytes lose their first n
pub record Passes (old new : Option (List ℕ)) (n : ℕ) : Type 0 where
  pub bytes : List ℕ
  pub consumed : Consumes old new bytes
  pub count : length bytes ≡ n

-- one read of a file took these first bytes of an array
abbrev pub Fills : Passage → Option (List ℕ) → Option (List ℕ) → List ℕ → Type 0
Fills (Passed n) old new out = (n ≤ length out) × Consumes old new (take n out)
Fills AtEnd old new out = IsAtEnd old × Keeps old new

-- one read of a file passed so many bytes of those that are to be passed
abbrev pub Skips : Passage → Option (List ℕ) → Option (List ℕ) → ℕ → Type 0
Skips (Passed n) old new most = (n ≤ most) × Passes old new n
Skips AtEnd old new most = IsAtEnd old × Keeps old new

-- known bytes lose their first 32, and these were read
abbrev pub LosesHeader : Option (List ℕ) → Option (List ℕ) → List ℕ → Type 0
LosesHeader None new header = Unit {0}
LosesHeader (Some xs) None header = ⊥
LosesHeader (Some xs) (Some ys) header = (header ≡ take 32 xs) × (ys ≡ drop 32 xs)

-- known bytes lose their first, at most so many, and this is how many they were
abbrev pub LosesFirst : Option (List ℕ) → Option (List ℕ) → ℕ → ℕ → Type 0
LosesFirst None new most n = Unit {0}
LosesFirst (Some xs) None most n = ⊥
LosesFirst (Some xs) (Some ys) most n = (n ≡ min most (length xs)) × (ys ≡ drop most xs)

-- known bytes lose the frame that stands first in them, with its aligned length
abbrev pub PassesFrame : Option (List ℕ) → Option (List ℕ) → Frame → Type 0
PassesFrame None new header = Unit {0}
PassesFrame (Some xs) None header = ⊥
PassesFrame (Some xs) (Some ys) header = StandsFirst xs header × (ys ≡ drop (aligned_length header) xs)

-- what stands next in a file
abbrev pub StandsNext : Option (List ℕ) → Option (List ℕ) → Next → Type 0
StandsNext old new (nexts.Stored header) = PassesFrame old new (frame_of header)
StandsNext old new nexts.End = IfSome old EndsFrames
StandsNext old new nexts.NoFrame = IfSome old HasNoFrame

-- the frame that stood first was counted, and the bytes that it covers
pub record Counts (old new : Listed) (header : Frame) : Type 0 where
  pub count : new.count ≡ old.count + 1
  pub offset : new.offset ≡ old.offset + aligned_length header

-- the line of what stood next in a file was written: of a frame, which was counted, or the last line of the listing
abbrev pub ListsNext : Option Listing → Option (List ℕ) → Option (List ℕ) → Option (List ℕ) → Option (List ℕ) → Listed → Listed → Type 0
ListsNext None file rest contents written old new = (header : Frame) × PassesFrame file rest header × Counts old new header × Appends contents written (frame_text header)
ListsNext (Some Whole) file rest contents written old new = IfSome file EndsFrames × Appends contents written (end_text old.count)
ListsNext (Some Damaged) file rest contents written old new = IfSome file HasNoFrame × Appends contents written (refusal_text (BadFrame old.offset))

-- why such a line was not written: nothing was where the file could not be read on; nothing is said of a writer that failed
abbrev pub FailsToWriteLine : EarlyEnd → Option (List ℕ) → Option (List ℕ) → Type 0
FailsToWriteLine ends.Read contents written = Keeps contents written
FailsToWriteLine ends.Memory contents written = ⊥
FailsToWriteLine ends.Write contents written = Unit {0}
