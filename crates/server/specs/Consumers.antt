-- How lines of clients that only read are answered: docs/SERVING.md, "Consumers".
use Rattle.std.specs.Prelude.{◌≡◌, ℤ, Bool, true, false, MatchBool, Result, Err}
use Rattle.frame_core.specs.declared.geometry.Geometry.{Geometry}
use Rattle.frame_core.specs.declared.refusal.Refusal.{Refusal}
use Rattle.frame_core.specs.declared.refusal.Refusal.TheVariants.{BadLine}
use Rattle.control_core.specs.declared.event.Event.{Event}
use Rattle.control_core.specs.declared.event.Event.TheVariants.{Ask}
use Rattle.control_core.specs.declared.request.Request.{Request}
use Rattle.control_core.specs.declared.request.Request.TheVariants as requests
use Rattle.tool_core.specs.Answering.{Ways}
use Rattle.tool_core.specs.Merging.{Ends}
use Rattle.server.specs.Answering.{IsNoLine}

-- the request changes nothing: for descriptors, a recording's number, its positions or its source
abbrev pub is_question : Request → Bool
is_question (requests.List from count) = true
is_question (requests.Find fields) = true
is_question (requests.Positions recording) = true
is_question (requests.Source recording) = true
is_question request = false

-- a call that makes no other request, and none of the archive as a whole
abbrev pub only_asks : Event → Bool
only_asks (Ask request) = is_question request
only_asks event = false

-- no terms are given, so no bytes of a block are read
abbrev pub GivesNoTerms : {A : Type 0} → ℤ → A → Result Geometry Refusal → A → Type 0
GivesNoTerms session old terms new = (terms ≡ Err BadLine) × (new ≡ old)

module _ {A : Type 0} (ways : Ways A) where
  -- a call that only asks is answered as by a server; any other is no line, and changes nothing
  abbrev pub AsksAlone : Event → A → Ends A
  AsksAlone event old outcome new = MatchBool (only_asks event) (ways.call event old outcome new) (IsNoLine old outcome new)

  abbrev pub consumer_ways : Ways A
  consumer_ways = record { terms = GivesNoTerms; call = AsksAlone; reopen = IsNoLine; compact = IsNoLine }
