use Rattle.std.proofs.Common.{rules, ◌≡◌, ◌≢◌, ◌∙◌, ap, ◌++◌, ◌∷◌, [], ℕ, List, arith, subst}
use Rattle.std.specs.Prelude.{map}
use Rattle.std.proofs.lemmas.List.{map-append}
use Rattle.frame_core.specs.declared.frame.FrameRef.{FrameRef}
use Rattle.frame_core.specs.declared.frame.FrameKind.TheVariants.{Heartbeat}
use Rattle.frame_core.specs.FrameEncoding.{frame_of}
use Rattle.frame_core.specs.Front.{IsFront}
use Rattle.frame_core.proofs.FrontLemmas.{front_uses}
use Rattle.frame_core.proofs.DatagramLemmas.{leads_more, bad_empty, bad_front, lone_heartbeat}
use Rattle.frame_core.proofs.datagram.frames_of_datagram.Goals as goal

-- one more frame that is lent
pushed : (frames new : List FrameRef) (frame : FrameRef) → new ≡ frames ++ frame ∷ [] → map frame_of new ≡ map frame_of frames ++ frame_of frame ∷ []
pushed frames new frame is = ap (map frame_of) is ∙ map-append frame_of frames (frame ∷ [])

pub returns-then-is_empty : goal.returns-then-is_empty
returns-then-is_empty c = bad_empty c.args.bytes.now (search rules)

pub returns-in_default : goal.returns-in_default
returns-in_default c =
    bad_front c.args.bytes.now c.split_at.result.1.now (map frame_of c.fronts.frames.items) c.fronts.offset c.fronts.invariant.leads c.fronts-test.true c.split_at.ensures.back c.in_default.ensures.refused

pub returns-then-eq : goal.returns-then-eq
returns-then-eq c =
    let kind : c.in-Ok.frame.kind ≡ Heartbeat = search rules in
    lone_heartbeat
    c.args.bytes.now
    c.split_at.result.1.now
    (map frame_of c.fronts.frames.items)
    (map frame_of c.push.new.self.items)
    c.fronts.offset
    (frame_of c.in-Ok.frame)
    c.in-Ok.used
    c.fronts.invariant.leads
    (omega arith)
    c.split_at.ensures.back
    c.in-Ok.ensures.found
    kind
    (pushed c.fronts.frames.items c.push.new.self.items c.in-Ok.frame c.in_ok-push.ensures.items)

pub fronts-smaller : goal.fronts-smaller
fronts-smaller c =
    let uses = front_uses c.split_at.result.1.now (frame_of c.in-Ok.frame) c.in-Ok.used c.in-Ok.ensures.found in
    omega (arith, uses)

pub fronts-preserved : goal.fronts-preserved
fronts-preserved c =
    let kind : c.in-Ok.frame.kind ≢ Heartbeat = search rules in
    let front = subst (λ (bs : List ℕ). IsFront bs (frame_of c.in-Ok.frame) c.in-Ok.used) c.split_at.ensures.back c.in-Ok.ensures.found in
    let more = leads_more c.args.bytes.now (map frame_of c.fronts.frames.items) c.fronts.offset (frame_of c.in-Ok.frame) c.in-Ok.used c.fronts.invariant.leads front kind in
    record {
      leads = rw (pushed c.fronts.frames.items c.push-in-fronts.new.self.items c.in-Ok.frame c.in_ok-push-2.ensures.items) more;
      within = omega (arith, front_uses c.split_at.result.1.now (frame_of c.in-Ok.frame) c.in-Ok.used c.in-Ok.ensures.found);
    }
