-- Which sendings there are: docs/CONTROL.md, "Sendings".
use Rattle.std.specs.Prelude.{◌≡◌, ◌+◌, ◌-◌, ◌++◌, ◌==◌, ◌&&◌, ◌^◌, ℕ, not, nat_lt, Bool, true, false, if◌then◌else◌, List, [], ◌∷◌, count_by, map, remove, slice_get, Option, None, Some, Result, Ok, Err}
use Rattle.std.specs.List.{list_any, position}
use Rattle.std.specs.Ordering.{int_eq}
use Rattle.std.specs.declared.net.socket_addr.SocketAddr.{SocketAddr}
use Rattle.frame_core.specs.declared.block.Publication.{Publication}
use Rattle.frame_core.specs.declared.refusal.Refusal.{Refusal}
use Rattle.frame_core.specs.declared.refusal.Refusal.TheVariants.{ActiveReplay, MaxReplays, NoMemory}
use Rattle.server_sender.specs.declared.endpoint.Endpoint.{Endpoint}
use Rattle.server_sender.specs.declared.publishing.SendProgress.{SendProgress}
use Rattle.server_sender.specs.declared.record.SendRecord.{SendRecord}
use Rattle.server_sender.specs.declared.record.SendRequest.{SendRequest}
use Rattle.server_sender.specs.declared.record.SendState.{SendState}
use Rattle.server_sender.specs.declared.record.SendState.TheVariants as states
use Rattle.server_sender.specs.Endpoints.{is_endpoint_of, is_same}

-- the sendings that are known, in the order in which they began, and the number of the next one
pub record AllSends : Type 0 where
  pub sends : List SendRecord
  pub next : ℕ

abbrev pub no_sends : AllSends
no_sends = record { sends = []; next = 0 }

-- ---- one sending

abbrev pub is_over : SendState → Bool
is_over states.Waiting = false
is_over states.Sending = false
is_over states.Done = true
is_over states.Gone = true
is_over states.Refused = true

abbrev pub is_live_send : SendRecord → Bool
is_live_send r = not (is_over r.state)

abbrev pub has_ended : SendRecord → Bool
has_ended r = is_over r.state

abbrev pub has_send_number : ℕ → SendRecord → Bool
has_send_number n r = r.number == n

abbrev pub is_live_as : ℕ → SendRecord → Bool
is_live_as n r = has_send_number n r && is_live_send r

-- its datagrams are of a publication
abbrev pub is_send_of : Publication → SendRecord → Bool
is_send_of p r = int_eq r.publication.session_id p.session_id && int_eq r.publication.stream_id p.stream_id

-- it is not over, and its datagrams are of a publication and go to an endpoint
abbrev pub holds_endpoint : Endpoint → Publication → SendRecord → Bool
holds_endpoint e p r = is_live_send r && is_same r.endpoint e && is_send_of p r

-- a sending that begins
abbrev pub begun_record : SendRequest → ℕ → SendRecord
begun_record q n = record {
  number = n;
  recording = q.recording;
  endpoint = q.endpoint;
  publication = q.publication;
  state = states.Waiting;
  position = q.position;
  limit = q.position;
  consumed = q.position;
  bound = q.bound;
  repeats = 0;
  place = q.place;
}

-- how far it is while it is not over, by whether a receiver was heard
abbrev pub state_while : Bool → SendState
state_while heard = if heard then states.Sending else states.Waiting

abbrev pub with_progress : SendProgress → SendRecord → SendRecord
with_progress p r = record r { state = state_while p.is_heard; position = p.position; limit = p.limit; consumed = p.consumed; repeats = p.repeats }

-- how far the sending of a number is, if it is not over
abbrev pub noted_progress : ℕ → SendProgress → SendRecord → SendRecord
noted_progress n p r = if has_send_number n r && is_live_send r then with_progress p r else r

-- how it ended, if it was not over
abbrev pub ended_as : ℕ → SendState → SendRecord → SendRecord
ended_as n state r = if has_send_number n r && is_live_send r then record r { state = state } else r

-- ---- all of them

-- A sending begins, with the next number; or there is no memory for it, or there is no further number. It is refused if one that
-- is not over has its session id and stream id, and goes to its endpoint.
abbrev pub BeginsSending : SendRequest → AllSends → Result ℕ Refusal → AllSends → Type 0
BeginsSending q old (Ok n) new =
    (list_any (holds_endpoint q.endpoint q.publication) old.sends ≡ false) × (n ≡ old.next)
    × (new ≡ record { sends = old.sends ++ begun_record q n ∷ []; next = n + 1 })
BeginsSending q old (Err ActiveReplay) new = (list_any (holds_endpoint q.endpoint q.publication) old.sends ≡ true) × (new ≡ old)
BeginsSending q old (Err MaxReplays) new = (list_any (holds_endpoint q.endpoint q.publication) old.sends ≡ false) × (old.next ≡ 2 ^ 64 - 1) × (new ≡ old)
BeginsSending q old (Err NoMemory) new = (list_any (holds_endpoint q.endpoint q.publication) old.sends ≡ false) × (new ≡ old)
BeginsSending q old (Err other) new = ⊥

-- how far one is
abbrev pub after_noting : ℕ → SendProgress → AllSends → AllSends
after_noting n p s = record s { sends = map (noted_progress n p) s.sends }

-- at an index there is none any more
abbrev pub without_send_at : Option ℕ → List SendRecord → List SendRecord
without_send_at None rs = rs
without_send_at (Some i) rs = remove rs i

-- the first one that is over is known no more
abbrev pub without_first_ended : List SendRecord → List SendRecord
without_first_ended rs = without_send_at (position has_ended rs) rs

-- of those that are over the newest 64 stay
abbrev pub newest_ended : List SendRecord → List SendRecord
newest_ended rs = if nat_lt 64 (count_by has_ended rs) then without_first_ended rs else rs

-- how one ended
abbrev pub after_ending : ℕ → SendState → AllSends → AllSends
after_ending n state s = record s { sends = newest_ended (map (ended_as n state) s.sends) }

-- the one of a number
abbrev pub found_at : Option ℕ → List SendRecord → Option SendRecord
found_at None rs = None
found_at (Some i) rs = slice_get rs i

abbrev pub find_send : ℕ → AllSends → Option SendRecord
find_send n s = found_at (position (has_send_number n) s.sends) s.sends

-- it is known no more
abbrev pub sends_after_stopping : ℕ → AllSends → AllSends
sends_after_stopping n s = record s { sends = without_send_at (position (has_send_number n) s.sends) s.sends }

-- ---- what counts for which

-- a datagram of a publication from an address counts for a sending: it is not over, its endpoint is the address, and it is of the publication
abbrev pub counts_for : SocketAddr → Publication → SendRecord → Bool
counts_for from p r = is_live_send r && is_endpoint_of from r.endpoint && is_send_of p r

abbrev pub sending_for : SocketAddr → Publication → AllSends → Option SendRecord
sending_for from p s = found_at (position (counts_for from p) s.sends) s.sends
