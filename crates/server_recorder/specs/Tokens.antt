-- How many recordings the server begins by itself within a short time: docs/SERVING.md, "Recording without being asked".
use Rattle.std.specs.Prelude.{◌+◌, ◌-◌, ◌*◌, ◌/◌, ℕ, nat_le, if◌then◌else◌}
use Rattle.server_recorder.specs.declared.tokens.Tokens.{Tokens}

-- how many more may begin since: one each 15 seconds
abbrev pub came_back : ℕ → Tokens → ℕ
came_back now t = (now - t.since) / 15000

-- How many may begin at a time, at most 64. While it is 64 no further one is on its way.
abbrev pub tokens_at : ℕ → Tokens → Tokens
tokens_at now t =
    if nat_le (64 - t.left) (came_back now t) then record { left = 64; since = now }
    else record { left = t.left + came_back now t; since = t.since + came_back now t * 15000 }

-- one began
abbrev pub without_token : Tokens → Tokens
without_token t = record t { left = t.left - 1 }
