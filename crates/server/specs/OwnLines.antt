-- Where the lines are in what a client sends that the server answers by itself: docs/SERVING.md, "Which images there are", "Which
-- replays are open", "Consumers" and "Send a recording".
use Rattle.std.specs.Prelude.{◌+◌, ◌&&◌, ◌||◌, ◌==◌, ℕ, Bool, List, [], ◌∷◌, bytes_eq, codes, length, nat_eq, nat_le, nat_lt, not, take, if◌then◌else◌}
use Rattle.std.specs.List.{list_any, starts_with}
use Rattle.server.specs.declared.script_reader.OwnLines.{OwnLines}

-- bytes begin with a line of one word; of a client that sends no more its end may be missing
abbrev pub is_line : List ℕ → List ℕ → Bool → List ℕ → Bool
is_line line word has_ended bytes = starts_with nat_eq bytes line || (has_ended && bytes_eq bytes word)

-- or they may once more of them come
abbrev pub may_be_line : List ℕ → List ℕ → Bool → List ℕ → Bool
may_be_line line word has_ended bytes = is_line line word has_ended bytes || (not has_ended && starts_with nat_eq line bytes)

-- the line `images`
abbrev pub is_images : Bool → List ℕ → Bool
is_images = is_line (codes "images\n") (codes "images")

abbrev pub may_be_images : Bool → List ℕ → Bool
may_be_images = may_be_line (codes "images\n") (codes "images")

-- the line `replays`
abbrev pub is_replays : Bool → List ℕ → Bool
is_replays = is_line (codes "replays\n") (codes "replays")

abbrev pub may_be_replays : Bool → List ℕ → Bool
may_be_replays = may_be_line (codes "replays\n") (codes "replays")

-- the line `sends`
abbrev pub is_sends : Bool → List ℕ → Bool
is_sends = is_line (codes "sends\n") (codes "sends")

abbrev pub may_be_sends : Bool → List ℕ → Bool
may_be_sends = may_be_line (codes "sends\n") (codes "sends")

-- how lines of several words begin
abbrev pub follow_word : List ℕ
follow_word = codes "follow "

abbrev pub send_word : List ℕ
send_word = codes "send "

abbrev pub stop_sending_word : List ℕ
stop_sending_word = codes "stop-sending "

-- the line that bytes begin with has at most 90 bytes, its end among them; of a client that sends no more that may be missing
abbrev pub ends_soon : Bool → List ℕ → Bool
ends_soon has_ended bytes = list_any (λ b. b == 10) (take 90 bytes) || (has_ended && nat_le (length bytes) 90)

-- bytes begin with such a line that begins with a word
abbrev pub is_worded : List ℕ → Bool → List ℕ → Bool
is_worded word has_ended bytes = starts_with nat_eq bytes word && ends_soon has_ended bytes

-- bytes may be the first of such a line
abbrev pub may_grow : List ℕ → List ℕ → Bool
may_grow word bytes = nat_lt (length bytes) 90 && (starts_with nat_eq bytes word || starts_with nat_eq word bytes)

-- or they may once more of them come
abbrev pub may_be_worded : List ℕ → Bool → List ℕ → Bool
may_be_worded word has_ended bytes = is_worded word has_ended bytes || (not has_ended && may_grow word bytes)

-- a line about sendings, or they may be one once more of them come
abbrev pub may_be_sending : Bool → List ℕ → Bool
may_be_sending has_ended bytes =
    may_be_sends has_ended bytes || may_be_worded send_word has_ended bytes || may_be_worded stop_sending_word has_ended bytes

-- bytes begin with a line that the server answers by itself, or may once more of them come
abbrev pub may_be_own : OwnLines → Bool → List ℕ → Bool
may_be_own own has_ended bytes =
    (own.images && may_be_images has_ended bytes) || (own.replays && may_be_replays has_ended bytes)
    || (own.follow && may_be_worded follow_word has_ended bytes) || (own.sends && may_be_sending has_ended bytes)

-- how many bytes stand before such a line, or before what may become one; whether the first one begins a line is given
abbrev pub script_length : OwnLines → Bool → Bool → List ℕ → ℕ
script_length own has_ended begins [] = 0
script_length own has_ended begins (b ∷ bs) =
    if begins && may_be_own own has_ended (b ∷ bs) then 0 else 1 + script_length own has_ended (b == 10) bs
