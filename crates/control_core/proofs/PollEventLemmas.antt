-- What holds of both polls, with a limit and without.
use Rattle.std.proofs.Common.{◌≡◌, ◌<ℤ◌, ℤ, Bool, true, false, cond, Option, Some, None, refl, int_lt, arith}
use Rattle.std.proofs.lemmas.Int.{ints}
use Rattle.archive_model.specs.Checks.{checks, passes}
use Rattle.control_core.specs.declared.asked.Asked.TheVariants as calls
use Rattle.control_core.specs.Desk.{DeskState}
use Rattle.control_core.specs.Exact.{Archive, ArchiveEnds, PollingEnds, asked_of, from_position, plain_poll, poll_event, reads_files, told_of}
use Rattle.control_core.proofs.PollLemmas.{lt_false}
use Rattle.control_core.specs.Turns.{held_to, open_replay_in, poll_decision, poll_tests}

pub ends_of_poll : (a : Archive) (number most : ℤ) (limit : Option ℤ) → ArchiveEnds a (poll_event number most limit) ≡ PollingEnds a most limit (poll_decision a.desk number most limit)
ends_of_poll a number most None = refl
ends_of_poll a number most (Some limit) = refl

pub asked_of_poll : (number most : ℤ) (limit : Option ℤ) → asked_of (poll_event number most limit) ≡ calls.ReplayPoll number most limit
asked_of_poll number most None = refl
asked_of_poll number most (Some limit) = refl

pub told_of_poll : (d : DeskState) (number most : ℤ) (limit : Option ℤ) → told_of d (poll_event number most limit) ≡ plain_poll (from_position (open_replay_in d number))
told_of_poll d number most None = refl
told_of_poll d number most (Some limit) = refl

pub poll_reads : (d : DeskState) (number most : ℤ) (limit : Option ℤ) → reads_files d (poll_event number most limit) ≡ passes (poll_tests d number most limit) checks
poll_reads d number most None = refl
poll_reads d number most (Some limit) = refl

-- what begins before the lesser of limit and bound begins before the limit
pub before_limit : (limit bound position : ℤ) → position <ℤ held_to (Some limit) bound → position <ℤ limit
before_limit limit bound position before = by (int_lt limit bound) refl before
  where
    by : (t : Bool) → int_lt limit bound ≡ t → position <ℤ cond t limit bound → position <ℤ limit
    by true is before = before
    by false is before = let least = lt_false limit bound is in omega (arith, ints, before, least)
