-- What is decided may be accepted, and the desk follows the state.
use Rattle.std.proofs.Common.{◌≡◌, ◌&&◌, ◌+ℤ◌, pos, ℤ, Bool, true, false, cond, List, [], ◌∷◌, ◌++◌, Option, Some, None, Result, Ok, Err, refl, sym, ap, subst, ◌∙◌}
use Rattle.frame_core.specs.declared.refusal.Refusal.{Refusal}
use Rattle.frame_core.specs.declared.block.Block.{Block}
use Rattle.frame_core.specs.Block.{covered}
use Rattle.archive_model.specs.declared.command.Command.{Command}
use Rattle.archive_model.specs.declared.command.Command.TheVariants as commands
use Rattle.archive_model.specs.declared.registration.Registration.{Registration}
use Rattle.archive_model.specs.declared.registration.Change.TheVariants as changes
use Rattle.archive_model.specs.declared.reply.Reply.{Reply}
use Rattle.archive_model.specs.Keyed.{find}
use Rattle.archive_model.specs.Checks.{Tests, block_checks, checked, checks, first_checks, last_checks, passes}
use Rattle.archive_model.specs.Register as register
use Rattle.archive_model.specs.Register.{is_end, registration_in}
use Rattle.archive_model.specs.State.{State, id_of, register_of}
use Rattle.archive_model.specs.Commands.{after, frames_of, recorded_in, register_after}
use Rattle.archive_model.specs.Acceptance.{BookState}
use Rattle.archive_model.specs.Accepting.{Accepts}
use Rattle.archive_model.specs.WellFormed.{IsWell}
use Rattle.archive_model.proofs.StateLemmas.{register_follows}
use Rattle.control_core.specs.declared.callers.RecorderSession.{RecorderSession}
use Rattle.control_core.specs.declared.callers.Written.{Written}
use Rattle.control_core.specs.Decided.{Decision}
use Rattle.control_core.specs.Decided as decisions
use Rattle.control_core.specs.declared.request.Request.{Request}
use Rattle.control_core.specs.declared.request.Request.TheVariants as requests
use Rattle.control_core.specs.Desk.{DeskState}
use Rattle.control_core.specs.Changes.{desk_after, settled, settled_by}
use Rattle.control_core.specs.Decisions.{Allows, accepted, answered, asked_command, command_in, command_tests, decided, decision_of, extend_tests, if_boundary, on_truncate, purge_segments_tests, purge_tests, start_tests, stop_tests, truncate_tests}
use Rattle.control_core.specs.Agreement.{Agrees, HasWritten, WroteBlocks}

-- ---- what is decided may be accepted

no_command : (c : Command) → None ≡ Some c → ⊥
no_command c e = cc e

-- a reply is no command
pub answered_none : (o : Result Reply Refusal) (c : Command) → command_in (answered o) ≡ Some c → ⊥
answered_none (Ok reply) c e = cc e
answered_none (Err refusal) c e = cc e

pub passing : (tests : Tests) (rs : List Refusal) (made c : Command) → command_in (accepted (checked tests rs (Ok made))) ≡ Some c → (passes tests rs ≡ true) × (made ≡ c)
passing tests [] made c e = (refl, cc e)
passing tests (r ∷ rs) made c e = by (tests r) e (passing tests rs made c)
  where
    by : (b : Bool) → command_in (accepted (cond b (checked tests rs (Ok made)) (Err r))) ≡ Some c → (command_in (accepted (checked tests rs (Ok made))) ≡ Some c → (passes tests rs ≡ true) × (made ≡ c))
        → ((b && passes tests rs) ≡ true) × (made ≡ c)
    by true e rest = rest e
    by false e rest = absurd (no_command c e)

allows_made : (d : DeskState) (made c : Command) → command_in (accepted (checked (command_tests d made) checks (Ok made))) ≡ Some c → Allows d c
allows_made d made c e = let is = passing (command_tests d made) checks made c e in subst (Allows d) is.1 is.0

pub passes_on : (tests : Tests) (rs more : List Refusal) → passes tests rs ≡ true → passes tests more ≡ true → passes tests (rs ++ more) ≡ true
passes_on tests [] more first second = second
passes_on tests (r ∷ rs) more first second = by (tests r) first (λ rest. passes_on tests rs more rest second)
  where
    by : (b : Bool) → (b && passes tests rs) ≡ true → (passes tests rs ≡ true → passes tests (rs ++ more) ≡ true) → (b && passes tests (rs ++ more)) ≡ true
    by true all rest = rest all
    by false all rest = all

pub at_boundary : (found : Option Registration) (id position : ℤ) (behind : Result Command Refusal) (c : Command) → command_in (if_boundary found id position behind) ≡ Some c → command_in (accepted behind) ≡ Some c
at_boundary None id position behind c e = e
at_boundary (Some r) id position behind c e = by (is_end position r) behind e
  where
    by : (b : Bool) (o : Result Command Refusal) → command_in (cond b (accepted o) (decisions.IfBoundary id position o)) ≡ Some c → command_in (accepted o) ≡ Some c
    by true o e = e
    by false (Ok command) e = e
    by false (Err refusal) e = absurd (no_command c e)

pub in_front : (tests : Tests) (rs : List Refusal) (decision : Decision) (c : Command) → command_in (decided (checked tests rs (Ok decision))) ≡ Some c → (passes tests rs ≡ true) × (command_in decision ≡ Some c)
in_front tests [] decision c e = (refl, e)
in_front tests (r ∷ rs) decision c e = by (tests r) e (in_front tests rs decision c)
  where
    by : (b : Bool) → command_in (decided (cond b (checked tests rs (Ok decision)) (Err r))) ≡ Some c → (command_in (decided (checked tests rs (Ok decision))) ≡ Some c → (passes tests rs ≡ true) × (command_in decision ≡ Some c))
        → ((b && passes tests rs) ≡ true) × (command_in decision ≡ Some c)
    by true e rest = rest e
    by false e rest = absurd (no_command c e)

truncation_allowed : (d : DeskState) (id position : ℤ) (c : Command) → command_in (on_truncate d id position) ≡ Some c → Allows d c
truncation_allowed d id position c e =
    let tests = truncate_tests d id position in
    let made = commands.Truncate id position in
    let behind = checked tests (block_checks ++ last_checks) (Ok made) in
    let first = in_front tests first_checks (if_boundary (registration_in d.register id) id position behind) c e in
    let second = passing tests (block_checks ++ last_checks) made c (at_boundary (registration_in d.register id) id position behind c first.1) in
    subst (Allows d) second.1 (passes_on tests first_checks (block_checks ++ last_checks) first.0 second.0)

pub allowed : (d : DeskState) (request : Request) (c : Command) → command_in (decision_of d request) ≡ Some c → Allows d c
allowed d (requests.Start f) c e = allows_made d (commands.Start f) c e
allowed d (requests.Stop id timestamp) c e = allows_made d (commands.Stop id timestamp) c e
allowed d (requests.Extend f) c e = allows_made d (commands.Extend f) c e
allowed d (requests.Truncate id position) c e = truncation_allowed d id position c e
allowed d (requests.PurgeSegments id position) c e = allows_made d (commands.PurgeSegments id position) c e
allowed d (requests.PurgeRecording id) c e = allows_made d (commands.PurgeRecording id) c e
allowed d (requests.List from count) c e = absurd (answered_none _ c e)
allowed d (requests.Find f) c e = absurd (answered_none _ c e)
allowed d (requests.Positions id) c e = absurd (answered_none _ c e)
allowed d (requests.Source id) c e = absurd (answered_none _ c e)

-- ---- what is decided is what was asked for

asked_for : (tests : Tests) (rs : List Refusal) (made c : Command) → command_in (accepted (checked tests rs (Ok made))) ≡ Some c → Some made ≡ Some c
asked_for tests rs made c e = ap (λ (x : Command). Some x) (passing tests rs made c e).1

pub asked_is : (d : DeskState) (request : Request) (c : Command) → command_in (decision_of d request) ≡ Some c → asked_command request ≡ Some c
asked_is d (requests.Start f) c e = asked_for (start_tests d f) checks (commands.Start f) c e
asked_is d (requests.Stop id timestamp) c e = asked_for (stop_tests d id timestamp) checks (commands.Stop id timestamp) c e
asked_is d (requests.Extend f) c e = asked_for (extend_tests d f) checks (commands.Extend f) c e
asked_is d (requests.Truncate id position) c e =
    let tests = truncate_tests d id position in
    let made = commands.Truncate id position in
    let behind : Result Command Refusal = checked tests (block_checks ++ last_checks) (Ok made) in
    let front = in_front tests first_checks (if_boundary (registration_in d.register id) id position behind) c e in
    asked_for tests (block_checks ++ last_checks) made c (at_boundary (registration_in d.register id) id position behind c front.1)
asked_is d (requests.PurgeSegments id position) c e = asked_for (purge_segments_tests d id position) checks (commands.PurgeSegments id position) c e
asked_is d (requests.PurgeRecording id) c e = asked_for (purge_tests d id) checks (commands.PurgeRecording id) c e
asked_is d (requests.List from count) c e = absurd (answered_none _ c e)
asked_is d (requests.Find f) c e = absurd (answered_none _ c e)
asked_is d (requests.Positions id) c e = absurd (answered_none _ c e)
asked_is d (requests.Source id) c e = absurd (answered_none _ c e)

-- ---- the desk follows the state

appended : (d : DeskState) (s : State) (id : ℤ) (blocks : List Block) → WroteBlocks d s id blocks
    → (desk_after d (commands.Append id blocks)).register ≡ register.changed id (changes.Settle (recorded_in (find id_of id s.recordings) +ℤ pos (covered (frames_of blocks)))) d.register
appended d s id blocks wrote =
    ap (λ (o : Option RecorderSession). (settled o d).register) wrote.writer
    ∙ ap (λ (o : Option Written). (settled_by wrote.session o d).register) wrote.has
    ∙ ap (λ (n : ℤ). register.changed n (changes.Settle wrote.written.last) d.register) wrote.recording
    ∙ ap (λ (p : ℤ). register.changed id (changes.Settle p) d.register) wrote.ends

pub register_is : (d : DeskState) (s : State) (c : Command) → Agrees d s → HasWritten d s c → (desk_after d c).register ≡ register_after s c (register_of s)
register_is d s (commands.Start f) agrees wrote = ap (register_after s (commands.Start f)) agrees
register_is d s (commands.Append id blocks) agrees wrote = appended d s id blocks wrote ∙ ap (register_after s (commands.Append id blocks)) agrees
register_is d s (commands.Stop id timestamp) agrees wrote = ap (register_after s (commands.Stop id timestamp)) agrees
register_is d s (commands.Extend f) agrees wrote = ap (register_after s (commands.Extend f)) agrees
register_is d s (commands.Truncate id position) agrees wrote = ap (register_after s (commands.Truncate id position)) agrees
register_is d s (commands.PurgeSegments id position) agrees wrote = ap (register_after s (commands.PurgeSegments id position)) agrees
register_is d s (commands.PurgeRecording id) agrees wrote = ap (register_after s (commands.PurgeRecording id)) agrees
register_is d s commands.Restart agrees wrote = ap (register_after s commands.Restart) agrees

pub agrees : (d : DeskState) (b : BookState) (c : Command) → Agrees d b.state → HasWritten d b.state c → IsWell b.state → Accepts b c → Agrees (desk_after d c) (after b.state c)
agrees d b c agree wrote well accepts = register_is d b.state c agree wrote ∙ sym (register_follows b c well accepts)
