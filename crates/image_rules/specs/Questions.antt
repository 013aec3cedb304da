-- When an image is in question, and when its publication is another one: docs/PROTOCOL.md, "Whose frames an image takes".
use Rattle.std.specs.Prelude.{◌≡◌, ◌≢◌, ◌⊎◌, ◌≤◌, ◌+◌, ◌-◌, ◌&&◌, ◌||◌, ◌++◌, ℕ, nat_le, not, Bool, true, false, List, [], ◌∷◌, Option, None, Some, if◌then◌else◌}
use Rattle.image_rules.specs.declared.signs.Sign.{Sign}
use Rattle.image_rules.specs.declared.signs.Sign.TheVariants.{Heartbeat, Repeats, Setup}
use Rattle.image_rules.specs.declared.questions.Question.{Question}
use Rattle.image_rules.specs.declared.questions.Doubt.{Doubt}

-- three frames that came again
abbrev pub is_repeats : Sign → Bool
is_repeats Repeats = true
is_repeats Setup = false
is_repeats Heartbeat = false

-- two signs are of one kind
abbrev pub is_same_kind : Sign → Sign → Bool
is_same_kind Setup Setup = true
is_same_kind Heartbeat Heartbeat = true
is_same_kind Repeats Repeats = true
is_same_kind s t = false

-- a question is open: 300 milliseconds have not passed
abbrev pub is_open_at : ℕ → Question → Bool
is_open_at time q = nat_le (time - q.since) 300

-- a sign after the first one decides: it is of another kind, three further frames came again, or it came 100 milliseconds or more after the first
abbrev pub decides : Sign → ℕ → Question → Bool
decides sign time q = not (is_same_kind sign q.first) || is_repeats sign || nat_le 100 (time - q.since)

-- the image is in question
abbrev pub is_open_in : ℕ → Option Question → Bool
is_open_in time None = false
is_open_in time (Some q) = is_open_at time q

abbrev pub is_in_question : ℕ → Doubt → Bool
is_in_question time d = is_open_in time d.last

-- a sign decides the question that is open
abbrev pub is_decided : Sign → ℕ → Option Question → Bool
is_decided sign time None = false
is_decided sign time (Some q) = is_open_at time q && decides sign time q

abbrev pub is_another : Sign → ℕ → Doubt → Bool
is_another sign time d = is_decided sign time d.last

-- no question began within 2,300 milliseconds
abbrev pub has_rested : ℕ → Option Question → Bool
has_rested time None = true
has_rested time (Some q) = nat_le 2300 (time - q.since)

-- a sign begins a question. In a group frames that came again begin none
abbrev pub may_begin_question : Sign → Bool → ℕ → Doubt → Bool
may_begin_question sign is_group time d = not (is_group && is_repeats sign) && has_rested time d.last

-- the last question after a sign
abbrev pub after_sign : Sign → Bool → ℕ → Doubt → Doubt
after_sign sign is_group time d = if may_begin_question sign is_group time d then record { last = Some (record { first = sign; since = time }) } else d

-- ---- over all signs that come

-- a sign, and when it came
pub record SignHeard : Type 0 where
  pub sign : Sign
  pub time : ℕ

-- the last question after some signs, the first of them first
abbrev pub after_signs : Bool → List SignHeard → Doubt → Doubt
after_signs is_group [] d = d
after_signs is_group (c ∷ cs) d = after_signs is_group cs (after_sign c.sign is_group c.time d)

-- some signs decide, the first of them first, that the publication is another one
abbrev pub is_decided_in : Bool → List SignHeard → Doubt → Bool
is_decided_in is_group [] d = false
is_decided_in is_group (c ∷ cs) d = is_another c.sign c.time d || is_decided_in is_group cs (after_sign c.sign is_group c.time d)

abbrev pub is_decided_by : Bool → List SignHeard → Bool
is_decided_by is_group signs = is_decided_in is_group signs (record { last = None })

-- two signs show another publication: the second comes at most 300 milliseconds after the first, and is of another kind, of frames that came again, or 100 milliseconds or more later
abbrev pub ShowAnother : SignHeard → SignHeard → Type 0
ShowAnother first second =
    (second.time - first.time ≤ 300)
    × ((is_same_kind second.sign first.sign ≡ false) ⊎ (second.sign ≡ Repeats) ⊎ (100 ≤ second.time - first.time))

-- some signs have one in them
abbrev pub Has : SignHeard → List SignHeard → Type 0
Has c [] = ⊥
Has c (d ∷ ds) = (c ≡ d) ⊎ Has c ds
