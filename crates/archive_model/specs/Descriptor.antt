-- Which parameters a recording may have: docs/CONTROL.md, "Limits".
use Rattle.std.specs.Prelude.{◌%◌, ◌*◌, ◌^◌, ◌==◌, ◌&&◌, ◌||◌, not, ℕ, ℤ, pos, negsuc, Bool, true, false, List, length, nat_le, nat_lt, int_le, unsigned_abs, chars}
use Rattle.std.specs.List.{list_any}
use Rattle.std.specs.Char.{is_control}
use Rattle.frame_core.specs.Limits.{is_term_length, is_mtu}
use Rattle.archive_model.specs.declared.command.StartFields.{StartFields}

abbrev pub is_negative : ℤ → Bool
is_negative (pos n) = false
is_negative (negsuc n) = true

-- the term and the segment have lengths that a term may have, the segment's at least the term's
unfoldable pub is_layout : StartFields → Bool
is_layout f = is_term_length f.term_length && is_term_length f.segment_length && int_le f.term_length f.segment_length && is_mtu f.mtu

-- a multiple of 32 from 0: frames begin and end nowhere else
unfoldable pub is_aligned : ℤ → Bool
is_aligned (pos p) = p % 32 == 0
is_aligned (negsuc p) = false

-- a multiple of 32 from 0, less than 2^31 terms
unfoldable pub is_start_position : ℤ → ℤ → Bool
is_start_position (pos p) term_length = p % 32 == 0 && nat_lt p (2 ^ 31 * unsigned_abs term_length)
is_start_position (negsuc p) term_length = false

-- what is recorded or merged may begin there, in a stream whose terms are that long
abbrev pub may_begin_at : ℤ → ℤ → Bool
may_begin_at term_length position = is_term_length term_length && is_start_position position term_length

-- a text of 1 to 1,024 bytes without control characters, which are those below U+0020 and from U+007F to U+009F
unfoldable pub is_channel : List ℕ → Bool
is_channel text = nat_le 1 (length text) && nat_le (length text) 1024 && not (list_any is_control (chars text))

-- U+0020 or a control character
abbrev pub is_blank : ℕ → Bool
is_blank c = c == 32 || is_control c

-- a text of at most 128 bytes without blanks and control characters
unfoldable pub is_source : List ℕ → Bool
is_source text = nat_le (length text) 128 && not (list_any is_blank (chars text))

-- a channel, and a source
abbrev pub is_origin : List ℕ → List ℕ → Bool
is_origin channel source = is_channel channel && is_source source

-- what a new recording may be
abbrev pub is_in_range : StartFields → Bool
is_in_range f = is_layout f && is_start_position f.start_position f.term_length && not (is_negative f.timestamp) && is_origin f.channel f.source_identity
