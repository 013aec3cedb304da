use Rattle.std.proofs.Common.{refl, rules, ◌≡◌, ℤ, Bool, true, false, sym, ap, subst, Ok, Err}
use Rattle.std.proofs.Common.{to_z, of_z, w64}
use Rattle.archive_model.specs.Register.{id_of}
use Rattle.engine_core.proofs.Words.{BadPosition, Decision, KeepsFound, NoMemory, RefusesBoundaryIn, TellsBoundaryIn, command_in, decision_of, reads, state_of, takes_memory}
use Rattle.engine_core.proofs.calls.AskLemmas.{ask_answered, ask_inside, ask_made, ask_refused, decided_requested, requested_inside}
use Rattle.engine_core.proofs.calls.InsideLemmas.{Tells, inside_made, inside_none, inside_refused, inside_unread}
use Rattle.engine_core.proofs.calls.KnownLemmas.{laid_found}
use Rattle.engine_core.proofs.replays.ReadLemmas.{fault_read, told_read}
use Rattle.std.proofs.Common.{Some}
use Rattle.engine_core.specs.Shown.{AsksDecided, AsksShown}
use Rattle.engine_core.proofs.calls.AskLemmas.{asks_inside, inside_leads}
use Rattle.engine_core.proofs.calls.InsideLemmas.{some_content}
use Rattle.engine_core.proofs.calls.ShownLemmas.{ComesBehind, behind_shown, comes_behind, inside_shown, made_shown, refused_shown, unread_shown}
use Rattle.engine_core.proofs.calls.SweepCallLemmas.{one_refusal}
use Rattle.engine_core.proofs.calls.TouchLemmas.{behind_memory, behind_these, command_memory, made_touches, quiet_either, refused_memory, still_quiet, unread_memory}
use Rattle.engine_core.proofs.calls.KeepLemmas.{behind_keeps, quiet_keeps, still_keeps}
use Rattle.engine_core.specs.Catalogued.{register_by}
use Rattle.engine_core.proofs.stored.StoredArchive.ask.Goals as goal

pub make-requires-clause-requested : goal.make-requires-clause-requested
make-requires-clause-requested g c = (decided_requested c.args.self.now.desk.state c.args.request.now c.in-Accepted.command (ap command_in (sym c.in-Accepted.ensures.decided))).0

pub make-requires-clause-allowed : goal.make-requires-clause-allowed
make-requires-clause-allowed g c = (decided_requested c.args.self.now.desk.state c.args.request.now c.in-Accepted.command (ap command_in (sym c.in-Accepted.ensures.decided))).1

pub make-requires-clause-works : goal.make-requires-clause-works
make-requires-clause-works g c = (decided_requested c.args.self.now.desk.state c.args.request.now c.in-Accepted.command (ap command_in (sym c.in-Accepted.ensures.decided))).2

pub returns-in-Refused-clause-ends : goal.returns-in-Refused-clause-ends
returns-in-Refused-clause-ends g c = ask_refused _ c.args.request.now c.in-Refused.refusal c.in-Refused.ensures.decided

pub returns-in-Answered-clause-ends : goal.returns-in-Answered-clause-ends
returns-in-Answered-clause-ends g c = ask_answered _ c.args.request.now c.in-Answered.reply c.in-Answered.ensures.decided

pub returns-in-Accepted-clause-ends : goal.returns-in-Accepted-clause-ends
returns-in-Accepted-clause-ends g c = ask_made _ _ c.args.request.now c.in-Accepted.command c.make.result (sym c.in-Accepted.ensures.decided) c.make.ensures.made

pub is_boundary-requires : goal.is_boundary-requires
is_boundary-requires g c = (laid_found c.args.self.now.desk.state (id_of c.in-IfBoundary.known.now) c.in-IfBoundary.known.now c.in-IfBoundary.ensures.known.1 (sym c.in-IfBoundary.ensures.known.0))

pub returns-in_err-is_boundary-in-IfBoundary-clause-ends : goal.returns-in_err-is_boundary-in-IfBoundary-clause-ends
returns-in_err-is_boundary-in-IfBoundary-clause-ends g c =
    let known = c.in-IfBoundary.known.now in
    let refusal = c.in_err-is_boundary-in-IfBoundary.field-0.0 in
    let is : c.from_residual.result ≡ Err refusal = search rules in
    ask_inside _ _ c.args.request.now (id_of known) c.in-IfBoundary.position c.in-IfBoundary.decided _ (sym c.in-IfBoundary.ensures.decided)
    (inside_unread _ _ _ _ known _ (record { stays = g.met.D.Disk.reads_may_stay c.args.self.now.storage.disk; found = sym c.in-IfBoundary.ensures.known.0; quiet = c.is_boundary.ensures.quiet }) c.from_residual.result refusal (g.D.Disk.life c.is_boundary.new.disk).obeys (reads (g.D.Disk.life c.args.self.now.storage.disk).now) (to_z w64 (of_z w64 c.in-IfBoundary.position)) is c.in_err-is_boundary-in-IfBoundary.ensures.refused
    (λ r read. fault_read (g.D.Disk.life c.args.self.now.storage.disk) (g.D.Disk.life c.is_boundary.new.disk) known r read (to_z w64 (of_z w64 c.in-IfBoundary.position)) refusal c.in_err-is_boundary-in-IfBoundary.ensures.refused) (λ fault. c.in_err-is_boundary-in-IfBoundary.ensures.cause (ap Err fault)))

pub returns-then-not-branch-clause-ends : goal.returns-then-not-branch-clause-ends
returns-then-not-branch-clause-ends g c =
    let old = g.D.Disk.life c.args.self.now.storage.disk in
    let mid = g.D.Disk.life c.is_boundary.new.disk in
    let known = c.in-IfBoundary.known.now in
    let position = c.in-IfBoundary.position in
    let same : to_z w64 (of_z w64 position) ≡ position = search rules in
    let no : c.in_ok-is_boundary-in-IfBoundary.field-0 ≡ false = search rules in
    let told : Tells old mid known (to_z w64 (of_z w64 position)) c.in_ok-is_boundary-in-IfBoundary.field-0 = λ r read inside. told_read old mid known r read (to_z w64 (of_z w64 position)) c.in_ok-is_boundary-in-IfBoundary.field-0 inside (c.in_ok-is_boundary-in-IfBoundary.ensures.answer read.obeys) in
    let tells = subst (λ (b : Bool). Tells old mid known position b) no (subst (λ (p : ℤ). Tells old mid known p c.in_ok-is_boundary-in-IfBoundary.field-0) same told) in
    ask_inside _ _ c.args.request.now (id_of known) position c.in-IfBoundary.decided _ (sym c.in-IfBoundary.ensures.decided) (inside_none _ _ _ _ known _ (record { stays = g.met.D.Disk.reads_may_stay c.args.self.now.storage.disk; found = sym c.in-IfBoundary.ensures.known.0; quiet = c.is_boundary.ensures.quiet }) tells)

pub returns-in_err-decided-in-IfBoundary-clause-ends : goal.returns-in_err-decided-in-IfBoundary-clause-ends
returns-in_err-decided-in-IfBoundary-clause-ends g c =
    let old = g.D.Disk.life c.args.self.now.storage.disk in
    let mid = g.D.Disk.life c.is_boundary.new.disk in
    let known = c.in-IfBoundary.known.now in
    let position = c.in-IfBoundary.position in
    let same : to_z w64 (of_z w64 position) ≡ position = search rules in
    let yes : c.in_ok-is_boundary-in-IfBoundary.field-0 ≡ true = search rules in
    let told : Tells old mid known (to_z w64 (of_z w64 position)) c.in_ok-is_boundary-in-IfBoundary.field-0 = λ r read inside. told_read old mid known r read (to_z w64 (of_z w64 position)) c.in_ok-is_boundary-in-IfBoundary.field-0 inside (c.in_ok-is_boundary-in-IfBoundary.ensures.answer read.obeys) in
    let tells = subst (λ (b : Bool). Tells old mid known position b) yes (subst (λ (p : ℤ). Tells old mid known p c.in_ok-is_boundary-in-IfBoundary.field-0) same told) in
    let refusal = c.in_err-decided-in-IfBoundary.field-0.0 in
    let decided : c.in-IfBoundary.decided ≡ Err refusal = search rules in
    let is : c.from_residual-in_err-decided-in-IfBoundary.result ≡ Err refusal = search rules in
    ask_inside _ _ c.args.request.now (id_of known) position c.in-IfBoundary.decided _ (sym c.in-IfBoundary.ensures.decided)
    (inside_refused _ _ _ _ known _ (record { stays = g.met.D.Disk.reads_may_stay c.args.self.now.storage.disk; found = sym c.in-IfBoundary.ensures.known.0; quiet = c.is_boundary.ensures.quiet }) c.from_residual-in_err-decided-in-IfBoundary.result refusal is decided tells)

pub make-requires-in-IfBoundary-clause-requested : goal.make-requires-in-IfBoundary-clause-requested
make-requires-in-IfBoundary-clause-requested g c =
    let decided : c.in-IfBoundary.decided ≡ Ok c.in_ok-decided-in-IfBoundary.field-0 = search rules in
    (requested_inside c.args.self.now.desk.state c.args.request.now _ _ c.in-IfBoundary.decided _ c.in-IfBoundary.ensures.decided decided).0

pub make-requires-in-IfBoundary-clause-allowed : goal.make-requires-in-IfBoundary-clause-allowed
make-requires-in-IfBoundary-clause-allowed g c =
    let decided : c.in-IfBoundary.decided ≡ Ok c.in_ok-decided-in-IfBoundary.field-0 = search rules in
    (requested_inside c.args.self.now.desk.state c.args.request.now _ _ c.in-IfBoundary.decided _ c.in-IfBoundary.ensures.decided decided).1

pub make-requires-in-IfBoundary-clause-works : goal.make-requires-in-IfBoundary-clause-works
make-requires-in-IfBoundary-clause-works g c =
    let decided : c.in-IfBoundary.decided ≡ Ok c.in_ok-decided-in-IfBoundary.field-0 = search rules in
    (requested_inside c.args.self.now.desk.state c.args.request.now _ _ c.in-IfBoundary.decided _ c.in-IfBoundary.ensures.decided decided).2

pub returns-in_ok-decided-in-IfBoundary-clause-ends : goal.returns-in_ok-decided-in-IfBoundary-clause-ends
returns-in_ok-decided-in-IfBoundary-clause-ends g c =
    let old = g.D.Disk.life c.args.self.now.storage.disk in
    let mid = g.D.Disk.life c.is_boundary.new.disk in
    let known = c.in-IfBoundary.known.now in
    let position = c.in-IfBoundary.position in
    let same : to_z w64 (of_z w64 position) ≡ position = search rules in
    let yes : c.in_ok-is_boundary-in-IfBoundary.field-0 ≡ true = search rules in
    let told : Tells old mid known (to_z w64 (of_z w64 position)) c.in_ok-is_boundary-in-IfBoundary.field-0 = λ r read inside. told_read old mid known r read (to_z w64 (of_z w64 position)) c.in_ok-is_boundary-in-IfBoundary.field-0 inside (c.in_ok-is_boundary-in-IfBoundary.ensures.answer read.obeys) in
    let tells = subst (λ (b : Bool). Tells old mid known position b) yes (subst (λ (p : ℤ). Tells old mid known p c.in_ok-is_boundary-in-IfBoundary.field-0) same told) in
    let decided : c.in-IfBoundary.decided ≡ Ok c.in_ok-decided-in-IfBoundary.field-0 = search rules in
    ask_inside _ _ c.args.request.now (id_of known) position c.in-IfBoundary.decided _ (sym c.in-IfBoundary.ensures.decided)
    (inside_made _ mid _ _ known _ (record { stays = g.met.D.Disk.reads_may_stay c.args.self.now.storage.disk; found = sym c.in-IfBoundary.ensures.known.0; quiet = c.is_boundary.ensures.quiet }) _ c.in_ok-decided-in-IfBoundary.field-0 c.make-in-IfBoundary.result decided tells c.make-in-IfBoundary.ensures.made)

pub returns-in-Refused-clause-shows : goal.returns-in-Refused-clause-shows
returns-in-Refused-clause-shows g c obeys = refused_shown _ c.args.self.now.desk.state (takes_memory c.args.request.now) c.args.request.now c.in-Refused.refusal c.in-Refused.ensures.decided

pub returns-in-Refused-clause-touches : goal.returns-in-Refused-clause-touches
returns-in-Refused-clause-touches g c = quiet_either _ _ 4 _ _ (still_quiet _)

pub returns-in-Refused-clause-memory : goal.returns-in-Refused-clause-memory
returns-in-Refused-clause-memory g c = refused_memory c.args.self.now.desk.state c.args.request.now c.in-Refused.refusal c.in-Refused.ensures.decided

pub returns-in-Answered-clause-shows : goal.returns-in-Answered-clause-shows
returns-in-Answered-clause-shows g c obeys = subst (λ (d : Decision). AsksDecided (reads (g.D.Disk.life c.args.self.now.storage.disk).now) c.args.self.now.desk.state d (Ok c.in-Answered.reply)) c.in-Answered.ensures.decided tt

pub returns-in-Answered-clause-touches : goal.returns-in-Answered-clause-touches
returns-in-Answered-clause-touches g c = quiet_either _ _ 4 _ _ (still_quiet _)

pub returns-in-Accepted-clause-shows : goal.returns-in-Accepted-clause-shows
returns-in-Accepted-clause-shows g c obeys = subst (λ (d : Decision). AsksDecided (reads (g.D.Disk.life c.args.self.now.storage.disk).now) c.args.self.now.desk.state d c.make.result) c.in-Accepted.ensures.decided tt

pub returns-in-Accepted-clause-touches : goal.returns-in-Accepted-clause-touches
returns-in-Accepted-clause-touches g c =
    let leads : command_in (decision_of c.args.self.now.desk.state c.args.request.now) ≡ Some c.in-Accepted.command = ap command_in (sym c.in-Accepted.ensures.decided) in
    made_touches _ c.in-Accepted.command _ _ _ leads c.make.ensures.touches

pub returns-in-Accepted-clause-memory : goal.returns-in-Accepted-clause-memory
returns-in-Accepted-clause-memory g c = command_memory c.args.self.now.desk.state c.args.request.now c.in-Accepted.command c.make.result (ap command_in (sym c.in-Accepted.ensures.decided))

pub returns-in_err-is_boundary-in-IfBoundary-clause-shows : goal.returns-in_err-is_boundary-in-IfBoundary-clause-shows
returns-in_err-is_boundary-in-IfBoundary-clause-shows g c obeys =
    let d = c.args.self.now.desk.state in
    let image = reads (g.D.Disk.life c.args.self.now.storage.disk).now in
    let known = c.in-IfBoundary.known.now in
    let position = c.in-IfBoundary.position in
    let same : to_z w64 (of_z w64 position) ≡ position = search rules in
    let refusal = c.in_err-is_boundary-in-IfBoundary.field-0.0 in
    let is : c.from_residual.result ≡ Err refusal = search rules in
    let refuses : RefusesBoundaryIn true image known position refusal =
    subst (λ (z : ℤ). RefusesBoundaryIn true image known z refusal) same (subst (λ (b : Bool). RefusesBoundaryIn b image known (to_z w64 (of_z w64 position)) refusal) obeys c.in_err-is_boundary-in-IfBoundary.ensures.refused) in
    inside_shown image d c.args.request.now (id_of known) position c.in-IfBoundary.decided known c.from_residual.result (sym c.in-IfBoundary.ensures.decided) c.in-IfBoundary.ensures.known.0 (subst (AsksShown image known position) (sym is) (unread_shown image known position refusal refuses))

pub returns-in_err-is_boundary-in-IfBoundary-clause-touches : goal.returns-in_err-is_boundary-in-IfBoundary-clause-touches
returns-in_err-is_boundary-in-IfBoundary-clause-touches g c = quiet_either _ _ 4 _ _ c.is_boundary.ensures.quiet

pub returns-in_err-is_boundary-in-IfBoundary-clause-memory : goal.returns-in_err-is_boundary-in-IfBoundary-clause-memory
returns-in_err-is_boundary-in-IfBoundary-clause-memory g c memory =
    let refusal = c.in_err-is_boundary-in-IfBoundary.field-0.0 in
    let is : c.from_residual.result ≡ Err refusal = search rules in
    absurd (unread_memory (g.D.Disk.life c.is_boundary.new.disk).obeys (reads (g.D.Disk.life c.args.self.now.storage.disk).now) c.in-IfBoundary.known.now (to_z w64 (of_z w64 c.in-IfBoundary.position)) refusal c.in_err-is_boundary-in-IfBoundary.ensures.refused (one_refusal c.from_residual.result refusal NoMemory is memory))

pub returns-then-not-branch-clause-shows : goal.returns-then-not-branch-clause-shows
returns-then-not-branch-clause-shows g c obeys =
    let d = c.args.self.now.desk.state in
    let image = reads (g.D.Disk.life c.args.self.now.storage.disk).now in
    let known = c.in-IfBoundary.known.now in
    let position = c.in-IfBoundary.position in
    let same : to_z w64 (of_z w64 position) ≡ position = search rules in
    let no : c.in_ok-is_boundary-in-IfBoundary.field-0 ≡ false = search rules in
    let told : TellsBoundaryIn image known position false = subst (λ (z : ℤ). TellsBoundaryIn image known z false) same (subst (TellsBoundaryIn image known (to_z w64 (of_z w64 position))) no (c.in_ok-is_boundary-in-IfBoundary.ensures.answer obeys)) in
    inside_shown image d c.args.request.now (id_of known) position c.in-IfBoundary.decided known (Err BadPosition) (sym c.in-IfBoundary.ensures.decided) c.in-IfBoundary.ensures.known.0 told

pub returns-then-not-branch-clause-touches : goal.returns-then-not-branch-clause-touches
returns-then-not-branch-clause-touches g c = quiet_either _ _ 4 _ _ c.is_boundary.ensures.quiet

pub returns-in_err-decided-in-IfBoundary-clause-shows : goal.returns-in_err-decided-in-IfBoundary-clause-shows
returns-in_err-decided-in-IfBoundary-clause-shows g c obeys =
    let d = c.args.self.now.desk.state in
    let image = reads (g.D.Disk.life c.args.self.now.storage.disk).now in
    let known = c.in-IfBoundary.known.now in
    let position = c.in-IfBoundary.position in
    let same : to_z w64 (of_z w64 position) ≡ position = search rules in
    let yes : c.in_ok-is_boundary-in-IfBoundary.field-0 ≡ true = search rules in
    let told : TellsBoundaryIn image known position true = subst (λ (z : ℤ). TellsBoundaryIn image known z true) same (subst (TellsBoundaryIn image known (to_z w64 (of_z w64 position))) yes (c.in_ok-is_boundary-in-IfBoundary.ensures.answer obeys)) in
    let refusal = c.in_err-decided-in-IfBoundary.field-0.0 in
    let decided : c.in-IfBoundary.decided ≡ Err refusal = search rules in
    let is : c.from_residual-in_err-decided-in-IfBoundary.result ≡ Err refusal = search rules in
    let behind : comes_behind refusal ≡ true = subst ComesBehind decided (asks_inside d c.args.request.now (id_of known) position c.in-IfBoundary.decided (sym c.in-IfBoundary.ensures.decided)).comes in
    inside_shown image d c.args.request.now (id_of known) position c.in-IfBoundary.decided known c.from_residual-in_err-decided-in-IfBoundary.result (sym c.in-IfBoundary.ensures.decided) c.in-IfBoundary.ensures.known.0
    (subst (AsksShown image known position) (sym is) (behind_shown image known position refusal behind told))

pub returns-in_err-decided-in-IfBoundary-clause-touches : goal.returns-in_err-decided-in-IfBoundary-clause-touches
returns-in_err-decided-in-IfBoundary-clause-touches g c = quiet_either _ _ 4 _ _ c.is_boundary.ensures.quiet

pub returns-in_err-decided-in-IfBoundary-clause-memory : goal.returns-in_err-decided-in-IfBoundary-clause-memory
returns-in_err-decided-in-IfBoundary-clause-memory g c memory =
    let known = c.in-IfBoundary.known.now in
    let refusal = c.in_err-decided-in-IfBoundary.field-0.0 in
    let decided : c.in-IfBoundary.decided ≡ Err refusal = search rules in
    let is : c.from_residual-in_err-decided-in-IfBoundary.result ≡ Err refusal = search rules in
    let behind : comes_behind refusal ≡ true = subst ComesBehind decided (asks_inside c.args.self.now.desk.state c.args.request.now (id_of known) c.in-IfBoundary.position c.in-IfBoundary.decided (sym c.in-IfBoundary.ensures.decided)).comes in
    absurd (behind_memory refusal behind (one_refusal c.from_residual-in_err-decided-in-IfBoundary.result refusal NoMemory is memory))

pub returns-in_ok-decided-in-IfBoundary-clause-shows : goal.returns-in_ok-decided-in-IfBoundary-clause-shows
returns-in_ok-decided-in-IfBoundary-clause-shows g c obeys =
    let d = c.args.self.now.desk.state in
    let image = reads (g.D.Disk.life c.args.self.now.storage.disk).now in
    let known = c.in-IfBoundary.known.now in
    let position = c.in-IfBoundary.position in
    let same : to_z w64 (of_z w64 position) ≡ position = search rules in
    let yes : c.in_ok-is_boundary-in-IfBoundary.field-0 ≡ true = search rules in
    let made = c.make-in-IfBoundary.ensures.made in
    let told : TellsBoundaryIn image known position true = subst (λ (z : ℤ). TellsBoundaryIn image known z true) same (subst (TellsBoundaryIn image known (to_z w64 (of_z w64 position))) yes (c.in_ok-is_boundary-in-IfBoundary.ensures.answer (made.goes_on.obeyed obeys))) in
    inside_shown image d c.args.request.now (id_of known) position c.in-IfBoundary.decided known c.make-in-IfBoundary.result (sym c.in-IfBoundary.ensures.decided) c.in-IfBoundary.ensures.known.0
    (made_shown image known position _ _ _ _ c.make-in-IfBoundary.result _ (made.exact some_content).1 told)

pub returns-in_ok-decided-in-IfBoundary-clause-touches : goal.returns-in_ok-decided-in-IfBoundary-clause-touches
returns-in_ok-decided-in-IfBoundary-clause-touches g c =
    let decided : c.in-IfBoundary.decided ≡ Ok c.in_ok-decided-in-IfBoundary.field-0 = search rules in
    let leads : command_in (decision_of c.args.self.now.desk.state c.args.request.now) ≡ Some c.in_ok-decided-in-IfBoundary.field-0 = inside_leads c.args.self.now.desk.state c.args.request.now _ _ c.in-IfBoundary.decided _ c.in-IfBoundary.ensures.decided decided in
    made_touches _ c.in_ok-decided-in-IfBoundary.field-0 _ _ _ leads (behind_these _ 4 _ _ _ c.is_boundary.ensures.quiet c.make-in-IfBoundary.ensures.touches)

pub returns-in_ok-decided-in-IfBoundary-clause-memory : goal.returns-in_ok-decided-in-IfBoundary-clause-memory
returns-in_ok-decided-in-IfBoundary-clause-memory g c =
    let decided : c.in-IfBoundary.decided ≡ Ok c.in_ok-decided-in-IfBoundary.field-0 = search rules in
    command_memory c.args.self.now.desk.state c.args.request.now c.in_ok-decided-in-IfBoundary.field-0 c.make-in-IfBoundary.result
    (inside_leads c.args.self.now.desk.state c.args.request.now _ _ c.in-IfBoundary.decided _ c.in-IfBoundary.ensures.decided decided)

pub returns-in-Refused-clause-catalogue : goal.returns-in-Refused-clause-catalogue
returns-in-Refused-clause-catalogue g c = still_keeps _ _

pub returns-in-Answered-clause-catalogue : goal.returns-in-Answered-clause-catalogue
returns-in-Answered-clause-catalogue g c = still_keeps _ _

pub returns-in-Accepted-clause-catalogue : goal.returns-in-Accepted-clause-catalogue
returns-in-Accepted-clause-catalogue g c =
    let d = c.args.self.now.desk.state in
    let leads : command_in (decision_of d c.args.request.now) ≡ Some c.in-Accepted.command = ap command_in (sym c.in-Accepted.ensures.decided) in
    subst (KeepsFound _ _) (ap (register_by d) (sym leads)) c.make.ensures.catalogue

pub returns-in_err-is_boundary-in-IfBoundary-clause-catalogue : goal.returns-in_err-is_boundary-in-IfBoundary-clause-catalogue
returns-in_err-is_boundary-in-IfBoundary-clause-catalogue g c =
    let e = state_of g.D.Disk.life c.args.self.now in
    quiet_keeps e (record { life = g.D.Disk.life c.is_boundary.new.disk; log = e.log; desk = e.desk }) _ c.is_boundary.ensures.quiet refl refl

pub returns-then-not-branch-clause-catalogue : goal.returns-then-not-branch-clause-catalogue
returns-then-not-branch-clause-catalogue g c =
    let e = state_of g.D.Disk.life c.args.self.now in
    quiet_keeps e (record { life = g.D.Disk.life c.is_boundary.new.disk; log = e.log; desk = e.desk }) _ c.is_boundary.ensures.quiet refl refl

pub returns-in_err-decided-in-IfBoundary-clause-catalogue : goal.returns-in_err-decided-in-IfBoundary-clause-catalogue
returns-in_err-decided-in-IfBoundary-clause-catalogue g c =
    let e = state_of g.D.Disk.life c.args.self.now in
    quiet_keeps e (record { life = g.D.Disk.life c.is_boundary.new.disk; log = e.log; desk = e.desk }) _ c.is_boundary.ensures.quiet refl refl

pub returns-in_ok-decided-in-IfBoundary-clause-catalogue : goal.returns-in_ok-decided-in-IfBoundary-clause-catalogue
returns-in_ok-decided-in-IfBoundary-clause-catalogue g c =
    let d = c.args.self.now.desk.state in
    let decided : c.in-IfBoundary.decided ≡ Ok c.in_ok-decided-in-IfBoundary.field-0 = search rules in
    let leads : command_in (decision_of d c.args.request.now) ≡ Some c.in_ok-decided-in-IfBoundary.field-0 = inside_leads d c.args.request.now _ _ c.in-IfBoundary.decided _ c.in-IfBoundary.ensures.decided decided in
    let e = state_of g.D.Disk.life c.args.self.now in
    subst (KeepsFound _ _) (ap (register_by d) (sym leads)) (behind_keeps e (record { life = g.D.Disk.life c.is_boundary.new.disk; log = e.log; desk = e.desk }) _ _ c.is_boundary.ensures.quiet refl refl c.make-in-IfBoundary.ensures.catalogue)
