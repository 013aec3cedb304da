-- What a script that makes checkpoints writes and leaves: docs/STORAGE.md, "Checkpoints".
use Rattle.std.specs.Prelude.{ℕ, Bool, true, false, List}
use Rattle.disk_core.specs.Life.{Life}
use Rattle.catalogue_log.specs.LogState.{Banks}
use Rattle.tool_core.specs.Answering.{AnswersFirstLines, AnswersLines}
use Rattle.tool_core.specs.Archives.{IsScript, IsScriptBy, IsScriptOfFirst, archive_ways}
use Rattle.tool_core.specs.Checkpoints.{exact_checkpoints, script_checkpoints}
use Rattle.tool_core.specs.Script.{IsTranscript, IsTranscriptBy, IsTranscriptOfFirst}
use Rattle.tool_core.specs.ScriptLines.{Standing, exact_ways}

-- The text answers all lines, over an archive of which checkpoints are made: before each line at which one is due, and where a
-- line asks for one.
abbrev pub IsCheckpointedScript : Life → Life → List (List ℕ) → List ℕ → Type 0
IsCheckpointedScript = IsScriptBy (AnswersLines archive_ways (script_checkpoints true))

-- it answers the first of these lines, or one more, of whose answer nothing was written
abbrev pub IsCheckpointedScriptOfFirst : Life → Life → List (List ℕ) → List ℕ → Type 0
IsCheckpointedScriptOfFirst = IsScriptBy (AnswersFirstLines archive_ways (script_checkpoints true))

-- the text answers all lines up to the one that quits, and the disk is left so
abbrev pub IsCheckpointedTranscript : Standing → Banks → Life → Life → List (List ℕ) → List ℕ → Type 0
IsCheckpointedTranscript = IsTranscriptBy (AnswersLines exact_ways (exact_checkpoints true))

-- the same of the first of these lines
abbrev pub IsCheckpointedTranscriptOfFirst : Standing → Banks → Life → Life → List (List ℕ) → List ℕ → Type 0
IsCheckpointedTranscriptOfFirst = IsTranscriptBy (AnswersFirstLines exact_ways (exact_checkpoints true))

-- ---- with checkpoints or without

abbrev pub IsScriptWhere : Bool → Life → Life → List (List ℕ) → List ℕ → Type 0
IsScriptWhere true = IsCheckpointedScript
IsScriptWhere false = IsScript

abbrev pub IsScriptOfFirstWhere : Bool → Life → Life → List (List ℕ) → List ℕ → Type 0
IsScriptOfFirstWhere true = IsCheckpointedScriptOfFirst
IsScriptOfFirstWhere false = IsScriptOfFirst

abbrev pub IsTranscriptWhere : Bool → Standing → Banks → Life → Life → List (List ℕ) → List ℕ → Type 0
IsTranscriptWhere true = IsCheckpointedTranscript
IsTranscriptWhere false = IsTranscript

abbrev pub IsTranscriptOfFirstWhere : Bool → Standing → Banks → Life → Life → List (List ℕ) → List ℕ → Type 0
IsTranscriptOfFirstWhere true = IsCheckpointedTranscriptOfFirst
IsTranscriptOfFirstWhere false = IsTranscriptOfFirst
