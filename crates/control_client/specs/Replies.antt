-- What a reply is, by its lines: docs/CONTROL.md, "Lines".
use Rattle.std.specs.Prelude.{◌||◌, ℕ, Bool, true, false, not, List, [], ◌∷◌, length, bytes_eq, codes, nat_eq, nat_lt, Option, Some, None, if◌then◌else◌}
use Rattle.std.specs.List.{list_any, starts_with}
use Rattle.control_client.specs.declared.answer.Answer.{Answer}
use Rattle.control_client.specs.declared.answer.Verdict.{Verdict}
use Rattle.control_client.specs.declared.answer.Verdict.TheVariants.{Answered, Refused, Unanswered}
use Rattle.control_client.specs.Lines.{whole_lines}

-- the line of a recording, an image, a frame, an open replay or a sending: further lines of the same reply follow
abbrev pub goes_on : List ℕ → Bool
goes_on line =
    starts_with nat_eq line (codes "recording ") || (starts_with nat_eq line (codes "image ") || (starts_with nat_eq line (codes "frame ")
    || (starts_with nat_eq line (codes "open ") || starts_with nat_eq line (codes "send "))))

-- The line is the last one of a reply to the line that was asked. The reply to `merge-take` has one line.
abbrev pub ends_reply : List ℕ → List ℕ → Bool
ends_reply asked line = bytes_eq asked (codes "merge-take") || not (goes_on line)

-- the line is a refusal
abbrev pub is_refusal : List ℕ → Bool
is_refusal line = starts_with nat_eq line (codes "error ")

-- the line is the last one of the reply to the first asked line
abbrev pub is_answered : List (List ℕ) → List ℕ → Bool
is_answered [] line = false
is_answered (first ∷ asked) line = ends_reply first line

-- the asked lines that have no whole reply among these lines; replies come in the order of the asked lines
abbrev pub unanswered : List (List ℕ) → List (List ℕ) → List (List ℕ)
unanswered asked [] = asked
unanswered [] (line ∷ lines) = []
unanswered (first ∷ asked) (line ∷ lines) = if ends_reply first line then unanswered asked lines else unanswered (first ∷ asked) lines

-- the last of these lines is this one; if there is none, it is so if it may be
abbrev pub ends_with : Bool → List ℕ → List (List ℕ) → Bool
ends_with may_be line [] = may_be
ends_with may_be line (other ∷ lines) = ends_with (bytes_eq other line) line lines

-- the last of these lines is the one that is awaited, if one is
abbrev pub is_awaited : Option (List ℕ) → List (List ℕ) → Bool
is_awaited None lines = true
is_awaited (Some line) lines = ends_with false line lines

-- what these bytes answer to lines that were asked, until this line comes
abbrev pub answer_of : List (List ℕ) → Option (List ℕ) → List ℕ → Answer
answer_of asked until came = record {
  left = length (unanswered asked (whole_lines came));
  is_refused = list_any is_refusal (whole_lines came);
  is_awaited = is_awaited until (whole_lines came);
}

-- How asking ends by an answer: a line has no reply; else a reply is a refusal; else it is the awaited one. Else it goes on.
abbrev pub verdict_after : Answer → Option Verdict
verdict_after answer =
    if nat_lt 0 answer.left then Some (Unanswered answer.left)
    else (if answer.is_refused then Some Refused else (if answer.is_awaited then Some Answered else None))
