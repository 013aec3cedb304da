-- What the lines about sendings answer: docs/CONTROL.md, "Sendings".
use Rattle.std.specs.Prelude.{◌++◌, ℕ, List, codes, decimal, length}
use Rattle.std.specs.Fmt.{signed_decimal}
use Rattle.std.specs.List.{flat_map}
use Rattle.std.specs.Int.{to_be_bytes, w32}
use Rattle.std.specs.Net.Text.{ipv4_text}
use Rattle.server_sender.specs.declared.endpoint.Endpoint.{Endpoint}
use Rattle.server_sender.specs.declared.record.SendRecord.{SendRecord}
use Rattle.server_sender.specs.declared.record.SendState.{SendState}
use Rattle.server_sender.specs.declared.record.SendState.TheVariants as states

abbrev pub send_state_text : SendState → List ℕ
send_state_text states.Waiting = codes "waiting"
send_state_text states.Sending = codes "sending"
send_state_text states.Done = codes "done"
send_state_text states.Gone = codes "gone"
send_state_text states.Refused = codes "refused"

-- an endpoint: the four bytes of its address with dots between them, and its port
unfoldable pub endpoint_text : Endpoint → List ℕ
endpoint_text e = ipv4_text (to_be_bytes w32 e.address) ++ codes ":" ++ decimal e.port

-- its number, its recording, where it goes to, and its state
unfoldable pub send_target : SendRecord → List ℕ
send_target r =
    codes "send " ++ (decimal r.number ++ (codes " " ++ (signed_decimal r.recording ++ (codes " " ++ (endpoint_text r.endpoint ++ (codes " " ++ send_state_text r.state))))))

-- how far it is, and where it ends
unfoldable pub send_way : SendRecord → List ℕ
send_way r =
    codes " " ++ (decimal r.position ++ (codes " " ++ (decimal r.limit ++ (codes " " ++ (decimal r.consumed ++ (codes " " ++ (signed_decimal r.bound ++ (codes " " ++ (decimal r.repeats ++ codes "\n")))))))))

-- a sending's line
abbrev pub send_line : SendRecord → List ℕ
send_line r = send_target r ++ send_way r

-- the answer to the line `sends`
abbrev pub send_table_text : List SendRecord → List ℕ
send_table_text rs = flat_map send_line rs ++ (codes "end " ++ (decimal (length rs) ++ codes "\n"))
