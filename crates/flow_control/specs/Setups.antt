-- Which publications are asked for a setup frame: docs/PROTOCOL.md, "Status messages and NAKs of a receiver".
use Rattle.std.specs.Prelude.{◌++◌, ◌&&◌, ℕ, ℤ, pos, nat_lt, Bool, true, if◌then◌else◌, List, [], ◌∷◌, length, remove, slice_get, Option, None, Some, option_and_then}
use Rattle.std.specs.List.{position}
use Rattle.std.specs.Option.{option_or}
use Rattle.std.specs.Ordering.{int_eq}
use Rattle.frame_core.specs.declared.block.Publication.{Publication}
use Rattle.frame_core.specs.declared.status.StatusMessage.{StatusMessage}
use Rattle.flow_control.specs.declared.setups.SetupRequest.{SetupRequest}
use Rattle.flow_control.specs.Feedback.{has_passed}

-- a request for a setup frame of this publication
abbrev pub is_for : Publication → SetupRequest → Bool
is_for publication r = int_eq r.publication.session_id publication.session_id && int_eq r.publication.stream_id publication.stream_id

-- the index of the noted request that one more would take the place of: the one for the same publication; if there is none, and 64 are noted, the oldest. They are noted in the order of asking
abbrev pub replaced : Publication → List SetupRequest → Option ℕ
replaced publication rs = option_or (position (is_for publication) rs) (if nat_lt (length rs) 64 then None else Some 0)

-- a noted request gives way once 200 milliseconds have passed since
abbrev pub gives_way : ℕ → Option SetupRequest → Bool
gives_way time None = true
gives_way time (Some r) = has_passed 200 r.at time

-- a publication is asked: nothing has to give way, or it does
abbrev pub may_ask : Publication → ℕ → List SetupRequest → Bool
may_ask publication time rs = gives_way time (option_and_then (slice_get rs) (replaced publication rs))

abbrev pub without_request : Option ℕ → List SetupRequest → List SetupRequest
without_request None rs = rs
without_request (Some i) rs = remove rs i

-- one more is noted, as the last
abbrev pub with_request : Publication → ℕ → List SetupRequest → List SetupRequest
with_request publication time rs =
    without_request (replaced publication rs) rs ++ (record { publication = publication; at = time }) ∷ []

abbrev pub after_asking : Publication → ℕ → List SetupRequest → List SetupRequest
after_asking publication time rs = if may_ask publication time rs then with_request publication time rs else rs

-- the status message that asks a publication for a setup frame
abbrev pub setup_request_of : Publication → ℤ → StatusMessage
setup_request_of publication receiver_id = record {
  flags = 128;
  session_id = publication.session_id;
  stream_id = publication.stream_id;
  consumption_term_id = pos 0;
  consumption_term_offset = pos 0;
  receiver_window = pos 0;
  receiver_id = receiver_id;
}
