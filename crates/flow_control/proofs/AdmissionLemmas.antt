-- What status messages with a bound name and admit.
use Rattle.std.proofs.Common.{◌≡◌, ◌+◌, ◌-◌, ◌≤◌, ◌≤ℤ◌, ◌+ℤ◌, ℕ, ℤ, pos, negsuc, List, [], ◌∷◌, Some, None, arith}
use Rattle.std.specs.Prelude.{Option, IfSome, unsigned_abs}
use Rattle.std.specs.List.{AllByRecursion}
use Rattle.std.proofs.lemmas.Int.{ints, clamps}
use Rattle.frame_core.specs.declared.geometry.Geometry.{Geometry}
use Rattle.frame_core.specs.declared.status.StatusMessage.{StatusMessage}
use Rattle.frame_core.specs.FrameEncoding.{IsAligned}
use Rattle.image_core.specs.Received.{Received}
use Rattle.flow_control.specs.declared.feedback.Feedback.{Feedback}
use Rattle.flow_control.specs.Admission.{AdmitsPast, AdmitsUpTo, AreBoundCalls, IsBoundCall, StatusCall}
use Rattle.flow_control.specs.Feedback.{GivesStatus, told_position}
use Rattle.flow_control.specs.Progress.{HasNotFallen, MovesOn}
use Rattle.flow_control.specs.Windows.{five_sixteenths, receiver_window, settled_bound}
use Rattle.flow_control.proofs.RoomLemmas.{window_low}

-- ---- what is named

pub consumed : (r : Received) (bound : Option ℕ) → told_position r bound ≤ r.from
consumed r None = omega arith
consumed r (Some bound) = omega arith

within_bound : (r : Received) (bound : ℕ) → told_position r (Some bound) ≤ bound
within_bound r bound = omega arith

pub rising : (old new : Received) (bound later : Option ℕ) → MovesOn old new → HasNotFallen bound later → told_position old bound ≤ told_position new later
rising old new None None on up = on.consumed
rising old new None (Some later) on up = absurd up
rising old new (Some bound) None on up = omega (arith, on.consumed)
rising old new (Some bound) (Some later) on up = omega (arith, on.consumed, up)

window_high : (g : Geometry) (most : ℤ) → receiver_window g most ≤ℤ most
window_high g most = omega (arith, ints, clamps)

-- a window of at most so many bytes, of which a bound is short
short : (w : ℤ) (size : ℕ) → pos 0 ≤ℤ w → w ≤ℤ pos size → unsigned_abs w ≤ size
short (pos n) size low high = omega (arith, ints, high)
short (negsuc n) size low high = absurd (omega (arith, ints, low))

pub settled : (r : Received) (most : ℤ) (at : ℕ) → pos 0 ≤ℤ most → most ≤ℤ pos (five_sixteenths r.geometry) → IsAligned (pos at) → at ≤ r.from
    → at ≤ told_position r (Some (settled_bound r.geometry most at))
settled r most at low high aligned before =
    let few = short (receiver_window r.geometry most) (five_sixteenths r.geometry) (window_low r.geometry most low) (let less = window_high r.geometry most in omega (arith, ints, less, high)) in
    let whole = aligned.1 in omega (arith, ints, few, whole, before)

pub further : (g : Geometry) (most : ℤ) (at later : ℕ) → at ≤ later → settled_bound g most at ≤ settled_bound g most later
further g most at later up = omega (arith, up)

-- ---- what is admitted

pub bound_of : (time : ℕ) (most receiver_id : ℤ) (bound : ℕ) (r : Received) (old new : Feedback) (s : StatusMessage) → GivesStatus time most (Some bound) receiver_id r old (Some s) new
    → AdmitsUpTo r.geometry (pos bound +ℤ s.receiver_window) s
bound_of time most receiver_id bound r old new s gives = record {
  position = told_position r (Some bound);
  names = gives.1.told;
  within = let low = within_bound r bound in omega (arith, ints, low);
}

-- past a bound that is a window short of a limit, a window ends at most at the limit
up_to : (w : ℤ) (told limit : ℕ) → pos 0 ≤ℤ w → unsigned_abs w ≤ limit → told ≤ limit - unsigned_abs w → (pos told +ℤ w) ≤ℤ pos limit
up_to (pos n) told limit low few le = omega (arith, ints, few, le)
up_to (negsuc n) told limit low few le = absurd (omega (arith, ints, low))

admits : (g : Geometry) (time : ℕ) (most : ℤ) (at : ℕ) (receiver_id : ℤ) (image : Received) (before : Feedback) (given : Option StatusMessage) (after : Feedback) → image.geometry ≡ g
    → pos 0 ≤ℤ most → most ≤ℤ pos (five_sixteenths g) → GivesStatus time most (Some (settled_bound g most at)) receiver_id image before given after
    → IfSome given (AdmitsUpTo g (pos (at + five_sixteenths g)))
admits g time most at receiver_id image before None after terms low high gives = tt
admits g time most at receiver_id image before (Some s) after terms low high gives =
    let status = gives.1 in
    let least = window_low g most low in
    let few = short (receiver_window g most) (five_sixteenths g) least (let less = window_high g most in omega (arith, ints, less, high)) in
    let told = told_position image (Some (settled_bound g most at)) in
    let le = within_bound image (settled_bound g most at) in
    record {
      position = told;
      names = rw terms at status.told;
      within = rw (status.window, terms) (up_to (receiver_window g most) told (at + five_sixteenths g) least (omega (arith, few)) le);
    }

pub call : (g : Geometry) (c : StatusCall) → IsBoundCall g c → AdmitsPast g c.settled c
call g c is = admits g c.time c.most c.settled c.receiver_id c.image c.before c.given c.after is.terms is.least is.most is.gives

-- a limit further on
further_on : (g : Geometry) (low high : ℕ) (given : Option StatusMessage) → low ≤ high → IfSome given (AdmitsUpTo g (pos low)) → IfSome given (AdmitsUpTo g (pos high))
further_on g low high None up is = tt
further_on g low high (Some s) up is = record { position = is.position; names = is.names; within = let le = is.within in omega (arith, ints, le, up) }

never_falls : (g : Geometry) (from : ℕ) (cs : List StatusCall) (to : ℕ) → AreBoundCalls g from cs to → from ≤ to
never_falls g from [] to are = are
never_falls g from (c ∷ cs) to are = let rest = never_falls g c.settled cs to are.2 in let first = are.1 in omega (arith, first, rest)

pub calls : (g : Geometry) (from : ℕ) (cs : List StatusCall) (to : ℕ) → AreBoundCalls g from cs to → AllByRecursion (AdmitsPast g to) cs
calls g from [] to are = tt
calls g from (c ∷ cs) to are =
    let up = never_falls g c.settled cs to are.2 in
    (further_on g (c.settled + five_sixteenths g) (to + five_sixteenths g) c.given (omega (arith, up)) (call g c are.0), calls g c.settled cs to are.2)
