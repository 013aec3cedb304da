-- A line that is put together from the parts that a reader shows.
use Rattle.std.specs.Prelude.{◌≡◌, ◌≢◌, ◌++◌, ℕ, List, [], ◌∷◌, Option, Result, Err}
use Rattle.std.specs.List.{All}
use Rattle.std.specs.Io.KnownBytes.{Keeps, Consumes, IsAtEnd}
use Rattle.tool_core.specs.declared.fault.EarlyEnd.{EarlyEnd}
use Rattle.tool_core.specs.declared.fault.EarlyEnd.TheVariants.{Read}
use Rattle.tool_core.specs.declared.lines.Part.{Part}
use Rattle.tool_core.specs.declared.lines.Part.TheVariants.{More, Ended, AtEnd}
use Rattle.tool_core.specs.InputLines.{kept}

-- no line end is among them
abbrev pub HasNoEnd : List ℕ → Type 0
HasNoEnd text = All (λ b. b ≢ 10) text

-- what is kept of a line grows by the text
abbrev pub LineGrows : Option (List ℕ) → Option (List ℕ) → List ℕ → Type 0
LineGrows old new text = (seen : List ℕ) → old ≡ kept seen → new ≡ kept (seen ++ text)

-- a text without a line end, and what ends it, go from an input to a line
pub record MovesText (old new : Option (List ℕ)) (line_old line_new : Option (List ℕ)) (end : List ℕ) : Type 0 where
  pub text : List ℕ
  pub no_end : HasNoEnd text
  pub consumed : Consumes old new (text ++ end)
  pub grown : LineGrows line_old line_new text

-- what one read of an input did
abbrev pub TakesPart : Part → Option (List ℕ) → Option (List ℕ) → Option (List ℕ) → Option (List ℕ) → Type 0
TakesPart More old new line_old line_new = MovesText old new line_old line_new []
TakesPart Ended old new line_old line_new = MovesText old new line_old line_new (10 ∷ [])
TakesPart AtEnd old new line_old line_new = IsAtEnd old × Keeps old new × (line_new ≡ line_old)

-- an input that was read as often as may be is refused, and nothing is taken of it
abbrev pub IsSpent : {T : Type 0} → Result T EarlyEnd → Option (List ℕ) → Option (List ℕ) → Type 0
IsSpent result old new = (result ≡ Err Read) × Keeps old new
