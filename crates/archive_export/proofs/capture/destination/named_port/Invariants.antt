use Rattle.std.proofs.Common.{◌≡◌, ◌≤◌, drop}
use Rattle.std.specs.Str.Parse.{AllDigits, digits_value, digits_value_after}
use Rattle.archive_export.proofs.capture.destination.named_port.Given as goal

-- the digits so far, and whether the rest are digits
abbrev pub invariant-loop-byte : goal.invariant-loop-byte
invariant-loop-byte l =
    (l.port ≤ 65535)
    × (digits_value_after 10 l.port (drop l.byte-index l.text) ≡ digits_value 10 l.text)
    × (AllDigits 10 (drop l.byte-index l.text) → AllDigits 10 l.text)
    × (AllDigits 10 l.text → AllDigits 10 (drop l.byte-index l.text))
