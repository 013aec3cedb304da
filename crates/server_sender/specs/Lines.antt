-- The lines about sendings: docs/CONTROL.md, "Sendings".
use Rattle.std.specs.Prelude.{◌≡◌, ◌++◌, ◌<◌, ◌^◌, ℕ, List, Option, MatchOption, FitsSigned, codes, decimal}
use Rattle.std.specs.Int.{w64}
use Rattle.std.specs.Fmt.{signed_decimal}
use Rattle.server_sender.specs.declared.endpoint.Endpoint.{Endpoint}
use Rattle.server_sender.specs.declared.line.SendFields.{SendFields}
use Rattle.server_sender.specs.declared.line.SendLine.{SendLine}
use Rattle.server_sender.specs.declared.line.SendLine.TheVariants.{Send, Stop}
use Rattle.server_sender.specs.Texts.{endpoint_text}

-- a recording, a position and a length, and where it is sent to
abbrev pub fields_text : SendFields → List ℕ
fields_text f =
    signed_decimal f.recording ++ (codes " " ++ (signed_decimal f.position ++ (codes " " ++ (signed_decimal f.length ++ (codes " " ++ endpoint_text f.endpoint)))))

-- a line, without its end
abbrev pub sends_line_text : SendLine → List ℕ
sends_line_text (Send f) = codes "send" ++ (codes " " ++ fields_text f)
sends_line_text (Stop n) = codes "stop-sending" ++ (codes " " ++ signed_decimal n)

-- an address of 32 bits and a port of 16
pub record IsEndpoint (e : Endpoint) : Type 0 where
  pub address : e.address < 2 ^ 32
  pub port : e.port < 2 ^ 16

-- three numbers of 64 bits, and an endpoint
pub record AreFields (f : SendFields) : Type 0 where
  pub recording : FitsSigned w64 f.recording
  pub position : FitsSigned w64 f.position
  pub length : FitsSigned w64 f.length
  pub endpoint : IsEndpoint f.endpoint

-- a line's numbers are of 64 bits
abbrev pub IsLine : SendLine → Type 0
IsLine (Send f) = AreFields f
IsLine (Stop n) = FitsSigned w64 n

-- a text is read exactly: as the value that it is the text of, and as none only if it is that of no value
abbrev pub IsRead : {A : Type 0} → (A → List ℕ) → (A → Type 0) → List ℕ → Option A → Type 0
IsRead {A} text_of IsValue text found = MatchOption found ((x : A) → IsValue x → ¬ (text ≡ text_of x)) (λ x. text ≡ text_of x)

-- what they are answered
abbrev pub sending_text : ℕ → List ℕ
sending_text n = codes "sending " ++ (decimal n ++ codes "\n")

abbrev pub stopped_text : ℕ → List ℕ
stopped_text consumed = codes "stopped-sending " ++ (decimal consumed ++ codes "\n")
