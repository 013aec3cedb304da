-- What came is printed.
use Rattle.std.proofs.Common.{◌≡◌, ◌∙◌, ℕ, Bool, List, [], ◌++◌, Option, Some, None, sym, ap, append-nil}
use Rattle.std.specs.Io.KnownBytes.{Appends, Consumes, IsAtEnd}
use Rattle.std.proofs.KnownBytes.{Appends-nil, Appends-trans, Consumes-nil, Consumes-trans}
use Rattle.control_client.specs.declared.answer.Answer.{Answer}
use Rattle.control_client.specs.declared.fault.AskFault.{AskFault}
use Rattle.control_client.specs.declared.fault.AskFault.TheVariants.{Connection, Output, Memory}
use Rattle.control_client.specs.declared.tally.Tally.{Tally}
use Rattle.control_client.specs.Asking.{GivesAll, GivesFirst, HasPrinted, HasPrintedFirst, PrintsUpTo}
use Rattle.control_client.specs.Replies.{answer_of}
use Rattle.control_client.specs.Tally.{IsTally, MovesPiece, StopsAt}

-- what was read was printed, and is kept
pub record HasPassed (asked : List (List ℕ)) (until : Option (List ℕ)) (left more contents written : Option (List ℕ)) (tally : Tally) : Type 0 where
  pub came : List ℕ
  pub consumed : Consumes left more came
  pub printed : Appends contents written came
  pub kept : IsTally asked until came tally

gives : (left more : Option (List ℕ)) (came : List ℕ) → Consumes left more came → IsAtEnd more → GivesAll left came
gives None more came consumed end = tt
gives (Some xs) None came consumed end = absurd consumed
gives (Some xs) (Some ys) came consumed end = sym (consumed ∙ ap (λ rest. came ++ rest) end ∙ append-nil came)

gives_first : (left more : Option (List ℕ)) (came : List ℕ) → Consumes left more came → GivesFirst left came
gives_first None more came consumed = tt
gives_first (Some xs) None came consumed = absurd consumed
gives_first (Some xs) (Some ys) came consumed = (ys, consumed)

module _ (asked : List (List ℕ)) (until : Option (List ℕ)) (left contents : Option (List ℕ)) where
  pub passed_nil : (tally : Tally) → IsTally asked until [] tally → HasPassed asked until left left contents contents tally
  passed_nil tally kept = record { came = []; consumed = Consumes-nil left; printed = Appends-nil contents; kept = kept }

  pub passed_more : (mid more mid_written written : Option (List ℕ)) (old new : Tally) (is_more : Bool)
      → HasPassed asked until left mid contents mid_written old → MovesPiece mid more mid_written written old new is_more
      → HasPassed asked until left more contents written new
  passed_more mid more mid_written written old new is_more h moves = record {
    came = h.came ++ moves.bytes;
    consumed = Consumes-trans left mid more h.came moves.bytes h.consumed moves.consumed;
    printed = Appends-trans contents mid_written written h.came moves.bytes h.printed moves.printed;
    kept = moves.follows asked until h.came h.kept;
  }

  -- the reader was at its end then
  pub passed_all : (more written : Option (List ℕ)) (tally : Tally) (answer : Answer) → HasPassed asked until left more contents written tally → IsAtEnd more
      → ((came : List ℕ) → IsTally asked until came tally → answer ≡ answer_of asked until came)
      → (came : List ℕ) × HasPrinted left contents written came × (answer ≡ answer_of asked until came)
  passed_all more written tally answer h end is =
      (h.came, record { all = gives left more h.came h.consumed end; printed = h.printed }, is h.came h.kept)

  -- a fault came
  pub passed_some : (more written : Option (List ℕ)) (tally : Tally) (fault : AskFault) → HasPassed asked until left more contents written tally → PrintsUpTo left contents written fault
  passed_some more written tally Output h = tt
  passed_some more written tally (Connection fault) h = (h.came, record { first = gives_first left more h.came h.consumed; printed = h.printed })
  passed_some more written tally Memory h = (h.came, record { first = gives_first left more h.came h.consumed; printed = h.printed })

  stopped_by : (mid more mid_written written : Option (List ℕ)) (tally : Tally) → HasPassed asked until left mid contents mid_written tally
      → (bytes : List ℕ) → Consumes mid more bytes → Appends mid_written written bytes → (came : List ℕ) × HasPrintedFirst left contents written came
  stopped_by mid more mid_written written tally h bytes consumed printed = (
    h.came ++ bytes,
    record {
      first = gives_first left more (h.came ++ bytes) (Consumes-trans left mid more h.came bytes h.consumed consumed);
      printed = Appends-trans contents mid_written written h.came bytes h.printed printed;
    },
  )

  pub passed_stopped : (mid more mid_written written : Option (List ℕ)) (tally : Tally) (fault : AskFault)
      → HasPassed asked until left mid contents mid_written tally → StopsAt mid more mid_written written fault → PrintsUpTo left contents written fault
  passed_stopped mid more mid_written written tally Output h stops = tt
  passed_stopped mid more mid_written written tally (Connection fault) h stops = stopped_by mid more mid_written written tally h stops.0 stops.1 stops.2
  passed_stopped mid more mid_written written tally Memory h stops = stopped_by mid more mid_written written tally h stops.0 stops.1 stops.2
