use Rattle.std.proofs.Common.{rules, ◌≡◌, ◌∙◌, sym, ap, inl, inr, cond, true, false, Err}
use Rattle.std.proofs.Common.{to_z, of_z, w64}
use Rattle.engine_core.proofs.Words.{BadPosition, RefusesBoundaryIn, TellsBoundaryIn, open_decision, reads, registration_in}
use Rattle.control_core.specs.Exact.{opens_by_frames}
use Rattle.engine_core.proofs.calls.KnownLemmas.{laid_found, read_known}
use Rattle.engine_core.proofs.replays.ReplayOpenLemmas.{allowed_alone, allowed_behind, allowed_nowhere, asked_alone, asked_read, leads_inside, leads_to, opening_no_fault, outcome_in}
use Rattle.engine_core.proofs.replays.ReadLemmas.{fault_read, told_read}
use Rattle.std.proofs.Common.{ℤ, Bool, subst}
use Rattle.engine_core.specs.Replaying.{ShowsBegin}
use Rattle.engine_core.proofs.calls.ShownLemmas.{behind_begin, decided_begin, inside_begin, unread_begin}
use Rattle.engine_core.proofs.replays.ReplayOpenLemmas.{opens_behind}
use Rattle.engine_core.proofs.replay_open.decided_opening.Goals as goal

pub returns-in-Decided-clause-decided : goal.returns-in-Decided-clause-decided
returns-in-Decided-clause-decided g c log a desk was reads = inl (sym (asked_alone a c.args.desk.now.state c.args.recording.now c.args.position.now c.args.length.now c.in-Decided.decided desk c.in-Decided.ensures.decided))

pub returns-in-Decided-clause-leads : goal.returns-in-Decided-clause-leads
returns-in-Decided-clause-leads g c = leads_to _ c.in-Decided.decided (sym c.in-Decided.ensures.decided)

pub is_boundary-requires : goal.is_boundary-requires
is_boundary-requires g c = (laid_found c.args.desk.now.state c.args.recording.now c.in-IfBoundary.known.now c.in-IfBoundary.ensures.known.1 (sym c.in-IfBoundary.ensures.known.0))

pub returns-in_err-is_boundary-in-IfBoundary-clause-decided : goal.returns-in_err-is_boundary-in-IfBoundary-clause-decided
returns-in_err-is_boundary-in-IfBoundary-clause-decided g c log a desk was reads =
    let old = g.D.Disk.life c.args.disk.now in
    let new = g.D.Disk.life c.is_boundary.new.disk in
    let by_frames : opens_by_frames (open_decision a.desk c.args.recording.now c.args.position.now c.args.length.now) ≡ true = ap (λ d. opens_by_frames (open_decision d c.args.recording.now c.args.position.now c.args.length.now)) (sym desk)
    ∙ ap opens_by_frames (sym c.in-IfBoundary.ensures.decided) in
    let read = read_known old new log a c.args.recording.now c.in-IfBoundary.known.now (g.met.D.Disk.reads_may_stay c.args.disk.now) was (sym c.in-IfBoundary.ensures.known.0 ∙ ap (λ d. registration_in d.register c.args.recording.now) desk) (reads by_frames) in
    let is : c.from_residual.result ≡ Err c.in_err-is_boundary-in-IfBoundary.field-0.0 = search rules in
    let fault = fault_read old new c.in-IfBoundary.known.now read.0 read.2 (to_z w64 (of_z w64 c.in-IfBoundary.position)) c.in_err-is_boundary-in-IfBoundary.field-0.0 c.in_err-is_boundary-in-IfBoundary.ensures.refused in
    inr (is ∙ ap Err fault, (c.in_err-is_boundary-in-IfBoundary.ensures.cause (ap Err fault), by_frames))

pub returns-then-not-branch-clause-decided : goal.returns-then-not-branch-clause-decided
returns-then-not-branch-clause-decided g c log a desk was reads =
    let old = g.D.Disk.life c.args.disk.now in
    let new = g.D.Disk.life c.is_boundary.new.disk in
    let by_frames : opens_by_frames (open_decision a.desk c.args.recording.now c.args.position.now c.args.length.now) ≡ true = ap (λ d. opens_by_frames (open_decision d c.args.recording.now c.args.position.now c.args.length.now)) (sym desk)
    ∙ ap opens_by_frames (sym c.in-IfBoundary.ensures.decided) in
    let boundary = c.in-IfBoundary.position in
    let same : boundary ≡ to_z w64 (of_z w64 boundary) = search rules in
    let no : c.in_ok-is_boundary-in-IfBoundary.field-0 ≡ false = search rules in
    inl (sym (asked_read old new log c.args.desk.now.state a c.args.recording.now c.args.position.now c.args.length.now boundary _ c.in-IfBoundary.decided c.in-IfBoundary.known.now c.in_ok-is_boundary-in-IfBoundary.field-0
    (g.met.D.Disk.reads_may_stay c.args.disk.now) desk was (sym c.in-IfBoundary.ensures.known.0) c.in-IfBoundary.ensures.decided same (reads by_frames) (λ r known inside. told_read old new c.in-IfBoundary.known.now r known (to_z w64 (of_z w64 c.in-IfBoundary.position)) c.in_ok-is_boundary-in-IfBoundary.field-0 inside (c.in_ok-is_boundary-in-IfBoundary.ensures.answer known.obeys)) ∙ ap (λ t. cond t c.in-IfBoundary.decided (Err BadPosition)) no))

pub returns-else-not-branch-clause-decided : goal.returns-else-not-branch-clause-decided
returns-else-not-branch-clause-decided g c log a desk was reads =
    let old = g.D.Disk.life c.args.disk.now in
    let new = g.D.Disk.life c.is_boundary.new.disk in
    let by_frames : opens_by_frames (open_decision a.desk c.args.recording.now c.args.position.now c.args.length.now) ≡ true = ap (λ d. opens_by_frames (open_decision d c.args.recording.now c.args.position.now c.args.length.now)) (sym desk)
    ∙ ap opens_by_frames (sym c.in-IfBoundary.ensures.decided) in
    let boundary = c.in-IfBoundary.position in
    let same : boundary ≡ to_z w64 (of_z w64 boundary) = search rules in
    let yes : c.in_ok-is_boundary-in-IfBoundary.field-0 ≡ true = search rules in
    inl (sym (asked_read old new log c.args.desk.now.state a c.args.recording.now c.args.position.now c.args.length.now boundary _ c.in-IfBoundary.decided c.in-IfBoundary.known.now c.in_ok-is_boundary-in-IfBoundary.field-0
    (g.met.D.Disk.reads_may_stay c.args.disk.now) desk was (sym c.in-IfBoundary.ensures.known.0) c.in-IfBoundary.ensures.decided same (reads by_frames) (λ r known inside. told_read old new c.in-IfBoundary.known.now r known (to_z w64 (of_z w64 c.in-IfBoundary.position)) c.in_ok-is_boundary-in-IfBoundary.field-0 inside (c.in_ok-is_boundary-in-IfBoundary.ensures.answer known.obeys)) ∙ ap (λ t. cond t c.in-IfBoundary.decided (Err BadPosition)) yes))

pub returns-else-not-branch-clause-leads : goal.returns-else-not-branch-clause-leads
returns-else-not-branch-clause-leads g c = leads_inside _ c.in-IfBoundary.position c.in-IfBoundary.decided (sym c.in-IfBoundary.ensures.decided)

pub returns-in-Decided-clause-allowed : goal.returns-in-Decided-clause-allowed
returns-in-Decided-clause-allowed g c = allowed_alone _ _ c.in-Decided.decided (sym c.in-Decided.ensures.decided)

pub returns-in-Decided-clause-cause : goal.returns-in-Decided-clause-cause
returns-in-Decided-clause-cause g c fault = absurd (opening_no_fault c.args.desk.now.state c.args.recording.now c.args.position.now c.args.length.now c.in-Decided.decided (ap outcome_in (sym c.in-Decided.ensures.decided)) fault)

pub returns-then-not-branch-clause-allowed : goal.returns-then-not-branch-clause-allowed
returns-then-not-branch-clause-allowed g c = allowed_nowhere _ _ c.in-IfBoundary.position c.in-IfBoundary.decided (sym c.in-IfBoundary.ensures.decided)

pub returns-else-not-branch-clause-allowed : goal.returns-else-not-branch-clause-allowed
returns-else-not-branch-clause-allowed g c = allowed_behind _ _ c.in-IfBoundary.position c.in-IfBoundary.decided (sym c.in-IfBoundary.ensures.decided)

pub returns-else-not-branch-clause-cause : goal.returns-else-not-branch-clause-cause
returns-else-not-branch-clause-cause g c fault = absurd (opening_no_fault c.args.desk.now.state c.args.recording.now c.args.position.now c.args.length.now c.in-IfBoundary.decided (ap outcome_in (sym c.in-IfBoundary.ensures.decided)) fault)

pub returns-in-Decided-clause-shows : goal.returns-in-Decided-clause-shows
returns-in-Decided-clause-shows g c obeys = decided_begin _ c.args.desk.now.state c.args.recording.now _ c.in-Decided.decided c.in-Decided.decided c.in-Decided.ensures.decided

pub returns-in_err-is_boundary-in-IfBoundary-clause-shows : goal.returns-in_err-is_boundary-in-IfBoundary-clause-shows
returns-in_err-is_boundary-in-IfBoundary-clause-shows g c obeys =
    let d = c.args.desk.now.state in
    let image = reads (g.D.Disk.life c.args.disk.now).now in
    let known = c.in-IfBoundary.known.now in
    let boundary = c.in-IfBoundary.position in
    let same : to_z w64 (of_z w64 boundary) ≡ boundary = search rules in
    let refusal = c.in_err-is_boundary-in-IfBoundary.field-0.0 in
    let is : c.from_residual.result ≡ Err refusal = search rules in
    let refuses : RefusesBoundaryIn true image known boundary refusal =
    subst (λ (z : ℤ). RefusesBoundaryIn true image known z refusal) same (subst (λ (b : Bool). RefusesBoundaryIn b image known (to_z w64 (of_z w64 boundary)) refusal) obeys c.in_err-is_boundary-in-IfBoundary.ensures.refused) in
    inside_begin image d c.args.recording.now _ boundary c.in-IfBoundary.decided c.from_residual.result known c.in-IfBoundary.ensures.decided c.in-IfBoundary.ensures.known.0
    (subst (ShowsBegin image known boundary) (sym is) (unread_begin image known boundary refusal refuses))

pub returns-then-not-branch-clause-shows : goal.returns-then-not-branch-clause-shows
returns-then-not-branch-clause-shows g c obeys =
    let d = c.args.desk.now.state in
    let image = reads (g.D.Disk.life c.args.disk.now).now in
    let known = c.in-IfBoundary.known.now in
    let boundary = c.in-IfBoundary.position in
    let same : to_z w64 (of_z w64 boundary) ≡ boundary = search rules in
    let no : c.in_ok-is_boundary-in-IfBoundary.field-0 ≡ false = search rules in
    let told : TellsBoundaryIn image known boundary false = subst (λ (z : ℤ). TellsBoundaryIn image known z false) same (subst (TellsBoundaryIn image known (to_z w64 (of_z w64 boundary))) no (c.in_ok-is_boundary-in-IfBoundary.ensures.answer obeys)) in
    inside_begin image d c.args.recording.now _ boundary c.in-IfBoundary.decided (Err BadPosition) known c.in-IfBoundary.ensures.decided c.in-IfBoundary.ensures.known.0 told

pub returns-else-not-branch-clause-shows : goal.returns-else-not-branch-clause-shows
returns-else-not-branch-clause-shows g c obeys =
    let d = c.args.desk.now.state in
    let image = reads (g.D.Disk.life c.args.disk.now).now in
    let known = c.in-IfBoundary.known.now in
    let boundary = c.in-IfBoundary.position in
    let same : to_z w64 (of_z w64 boundary) ≡ boundary = search rules in
    let yes : c.in_ok-is_boundary-in-IfBoundary.field-0 ≡ true = search rules in
    let told : TellsBoundaryIn image known boundary true = subst (λ (z : ℤ). TellsBoundaryIn image known z true) same (subst (TellsBoundaryIn image known (to_z w64 (of_z w64 boundary))) yes (c.in_ok-is_boundary-in-IfBoundary.ensures.answer obeys)) in
    inside_begin image d c.args.recording.now _ boundary c.in-IfBoundary.decided c.in-IfBoundary.decided known c.in-IfBoundary.ensures.decided c.in-IfBoundary.ensures.known.0
    (behind_begin image known boundary c.in-IfBoundary.decided (opens_behind d c.args.recording.now c.args.position.now c.args.length.now boundary c.in-IfBoundary.decided (sym c.in-IfBoundary.ensures.decided)) told)
