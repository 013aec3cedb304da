-- An event leaves kept pages pages of their recordings.
use Rattle.std.proofs.Common.{◌≡◌, ◌≢◌, ◌⊎◌, ◌∙◌, inl, inr, sym, ap, subst, refl, ℕ, ℤ, pos, ◌<◌, ◌≤◌, ◌<ℤ◌, ◌≤ℤ◌, ◌++◌, Bool, true, false, true≢false, List, [], ◌∷◌, Option, Some, None, map, unsigned_abs, arith}
use Rattle.std.proofs.lemmas.Int.{ints}
use Rattle.std.specs.Prelude.{◌||◌, MatchBool, MatchOption, IfSome, IsFalse, IsSomeAnd, Result, Ok, Err, cond}
use Rattle.std.specs.List.{list_any}
use Rattle.std.specs.Ordering.{int_eq}
use Rattle.std.proofs.lemmas.Bool.Decides.{Decides-int_eq}
use Rattle.engine_core.proofs.Words.{Allows, BankA, BankB, Below, Block, Command, Decision, DeskState, EngineState, Event, FileId, FileState, Files, IsLaid, IsQuiet, IsRequested, Keep, KeepsDesk, Layout, Life, OpenReplay, Outcome, RecorderSession, Refusal, RegisterState, Registration, Reply, Segment, Stepped, SweepsAtMost, Tests, Written, asked_of, bank_file, base_of, checks, command_in, decision_of, desk_after, file_of, find, found_number, layout_of, offset_of, open_replay_in, reads, registered_keeps, registration_in, reply_after, same_file, session_in, settled, told_of}
use Rattle.frame_core.specs.declared.refusal.Refusal.TheVariants.{BadBlock, BadPosition, DeviceFault, HistoryFull, NoMemory, NotCatalogue}
use Rattle.frame_core.specs.ReplayEnd.{bound_of}
use Rattle.disk_core.specs.Standing.{KeepsBelow}
use Rattle.segment_store.specs.Stale.{is_kept, is_stale, keeps_base}
use Rattle.segment_store.proofs.LayoutLemmas.{base_before, length_positive}
use Rattle.replay_core.specs.Pages.{HasByte, Pages}
use Rattle.archive_model.specs.declared.command.Command.TheVariants.{Truncate}
use Rattle.archive_model.specs.declared.reply.Reply.TheVariants as replies
use Rattle.archive_model.specs.Checks.{block_checks, first_checks, last_checks}
use Rattle.archive_model.specs.Register as register
use Rattle.archive_model.specs.Register.{is_active, is_end}
use Rattle.catalogue_log.specs.declared.banks.Bank.{Bank}
use Rattle.catalogue_log.specs.declared.banks.Bank.TheVariants.{A, B}
use Rattle.catalogue_log.specs.Banks.{other_of}
use Rattle.control_core.specs.declared.asked.Asked.{Asked}
use Rattle.control_core.specs.declared.asked.Told.TheVariants as told
use Rattle.control_core.specs.declared.event.Event.TheVariants as events
use Rattle.control_core.specs.declared.request.Request.{Request}
use Rattle.control_core.specs.Decided.{Refused, Answered, Accepted, IfBoundary}
use Rattle.control_core.specs.Changes.{after_close, after_open, after_write, checkpointed, positions_each, settled_each, settled_position}
use Rattle.control_core.specs.Exact.{plain, span_of}
use Rattle.control_core.specs.Turns.{begins_at, close_tests, open_tests, poll_tests, settle_all_tests, settle_tests, sweep_tests, verify_tests, write_tests}
use Rattle.control_core.specs.Machine.{AtPosition, Breaks, Checkpoints, Closes, Commits, Decided, Either, Ended, Ends, Faults, GivesFrames, Opens, Outside, Passing, Polls, RefusedByBanks, RefusesCall, Settles, SettlesAll, Step, Sweeps, UnlessBoundary, Unread, Verifies, Writes, recording_of}
use Rattle.frame_core.specs.declared.frame.Frame.{Frame}
use Rattle.engine_core.specs.Calls.{AnswersEvent}
use Rattle.engine_core.specs.Handing.{HandsPolled}
use Rattle.engine_core.specs.KeptPages.{KeepsPages, generation_after}
use Rattle.engine_core.specs.Moves.{ChangesThese, registered_keep}
use Rattle.engine_core.specs.Touching.{Touches, WritesBlock, written_by}
use Rattle.engine_core.proofs.calls.AskLemmas.{decided_requested}
use Rattle.engine_core.proofs.calls.FollowLemmas.{Follows, command_follows, follows_equal, is_truncation, next_kept, settled_each_follows, settled_follows}
use Rattle.engine_core.proofs.calls.KnownLemmas.{laid_found, laid_low, one_known}
use Rattle.engine_core.proofs.calls.PageLemmas.{KeepsBytes, byte_read, pages_past, pages_stay, same_bytes}
use Rattle.engine_core.proofs.files.SweepLemmas.{and_both, and_not, base_kept, fresh_kept, length_low, or_left, or_right, start_kept}
use Rattle.engine_core.proofs.files.WriteLemmas.{natural}

-- ---- what an event makes of the register

-- a truncation was answered
abbrev IsTruncated : Result Reply Refusal → Type 0
IsTruncated result = (position : ℤ) × (result ≡ Ok (replies.Truncated position))

-- the recordings go on, or one was truncated
abbrev GoOn : RegisterState → RegisterState → Result Reply Refusal → Type 0
GoOn g h result = Follows g h ⊎ (IsTruncated result × (g.next ≤ℤ h.next))

-- the desk is as it was, or its call ended so
passing_or : (old : DeskState) (tests : Tests) (rs : List Refusal) (ends : Ends) (outcome : Outcome) (new : DeskState) → Passing old tests rs ends outcome new → (new ≡ old) ⊎ ends outcome new
passing_or old tests [] ends outcome new passing = inr passing
passing_or old tests (r ∷ rs) ends outcome new passing = by (tests r) passing (λ rest. passing_or old tests rs ends outcome new rest)
  where
    by : (b : Bool) → MatchBool b (Passing old tests rs ends outcome new) (RefusesCall old r outcome new) → (Passing old tests rs ends outcome new → (new ≡ old) ⊎ ends outcome new) → (new ≡ old) ⊎ ends outcome new
    by true rest later = later rest
    by false refused later = inl refused.1

-- a write that fails keeps the register
breaks_same : (old : DeskState) (outcome : Outcome) (new : DeskState) → Breaks old outcome new → new.register ≡ old.register
breaks_same old outcome new (inl faults) = ap (λ d. d.register) faults.1
breaks_same old outcome new (inr broke) = ap (λ d. d.register) broke.1

-- a command that is made, of a request that leads to it
abbrev Makes : DeskState → Decision → Outcome → DeskState → Type 0
Makes old decision outcome new =
    (new.register ≡ old.register) ⊎ ((c : Command) × (command_in decision ≡ Some c) × (outcome ≡ Ok (told.Reply (reply_after old c))) × (new ≡ desk_after old c))

commits_makes : (old : DeskState) (decision : Decision) (c : Command) (outcome : Outcome) (new : DeskState) → command_in decision ≡ Some c → Commits old c outcome new → Makes old decision outcome new
commits_makes old decision c outcome new is (inl made) = inr (c, is, made.0, made.1)
commits_makes old decision c outcome new is (inr breaks) = inl (breaks_same old outcome new breaks)

decided_makes : (old : DeskState) (decision : Decision) (outcome : Outcome) (new : DeskState) → Decided old decision outcome new → Makes old decision outcome new
decided_makes old (Refused refusal) outcome new decided = inl (ap (λ d. d.register) decided.1)
decided_makes old (Answered reply) outcome new decided = inl (ap (λ d. d.register) decided.1)
decided_makes old (Accepted command) outcome new decided = commits_makes old (Accepted command) command outcome new refl decided
decided_makes old (IfBoundary recording position made) outcome new (inl none) = inl (ap (λ d. d.register) none.1)
decided_makes old (IfBoundary recording position made) outcome new (inr (inl (inl faults))) = inl (ap (λ d. d.register) faults.1)
decided_makes old (IfBoundary recording position made) outcome new (inr (inl (inr damaged))) = inl (ap (λ d. d.register) damaged.2.1)
decided_makes old (IfBoundary recording position (Ok command)) outcome new (inr (inr does)) = commits_makes old (IfBoundary recording position (Ok command)) command outcome new refl does
decided_makes old (IfBoundary recording position (Err refusal)) outcome new (inr (inr does)) = inl (ap (λ d. d.register) does.1)

-- what is told of a reply is the reply
told_reply : (result : Result Reply Refusal) (reply : Reply) → plain result ≡ Ok (told.Reply reply) → result ≡ Ok reply
told_reply (Ok given) reply is = cc
told_reply (Err refusal) reply is = absurd cc

truncated_told : (old : DeskState) (c : Command) (result : Result Reply Refusal) → is_truncation c ≡ true → result ≡ Ok (reply_after old c) → IsTruncated result
truncated_told old (Truncate id position) result is told = (position, told)
truncated_told old c result is told = absurd (true≢false (sym is))

ask_goes : (old new : DeskState) (request : Request) (result : Result Reply Refusal) → KeepsDesk old.register old.callers → Makes old (decision_of old request) (plain result) new → GoOn old.register new.register result
ask_goes old new request result keeps (inl same) = inl (follows_equal old.register new.register same)
ask_goes old new request result keeps (inr (c, is, told, desk)) = by (is_truncation c) refl
  where
    asked : IsRequested c × Allows old c × IsFalse old.is_broken
    asked = decided_requested old request c is

    by : (b : Bool) → is_truncation c ≡ b → GoOn old.register new.register result
    by true truncates = inr (truncated_told old c result truncates (told_reply result (reply_after old c) told), subst (λ (d : DeskState). old.register.next ≤ℤ d.register.next) (sym desk) (next_kept old c asked.0))
    by false other = inl (subst (λ (d : DeskState). Follows old.register d.register) (sym desk) (command_follows old c asked.0 asked.1 keeps other))

-- a call that leaves the register leaves what is recorded
same_goes : (old new : DeskState) (result : Result Reply Refusal) → new.register ≡ old.register → GoOn old.register new.register result
same_goes old new result same = inl (follows_equal old.register new.register same)

same_register : (old new : DeskState) → new ≡ old → new.register ≡ old.register
same_register old new same = ap (λ (d : DeskState). d.register) same

-- a call that ends so leaves the register
abbrev KeepsRegister : DeskState → Ends → Type 0
KeepsRegister old ends = (outcome : Outcome) (new : DeskState) → ends outcome new → new.register ≡ old.register

ended_same : (old : DeskState) (answer : Outcome) (after : DeskState) → after.register ≡ old.register → KeepsRegister old (Ended answer after)
ended_same old answer after same outcome new end = ap (λ (d : DeskState). d.register) end.1 ∙ same

either_same : (old : DeskState) (this that : Ends) → KeepsRegister old this → KeepsRegister old that → KeepsRegister old (Either this that)
either_same old this that one other outcome new (inl end) = one outcome new end
either_same old this that one other outcome new (inr end) = other outcome new end

passing_same : (old : DeskState) (tests : Tests) (rs : List Refusal) (ends : Ends) → KeepsRegister old ends → KeepsRegister old (Passing old tests rs ends)
passing_same old tests rs ends behind outcome new passing = elim (passing_or old tests rs ends outcome new passing) [ inl same ↦ same_register old new same | inr end ↦ behind outcome new end ]

unread_same : (old : DeskState) → KeepsRegister old (Unread old)
unread_same old outcome new (inl faults) = same_register old new faults.1
unread_same old outcome new (inr damaged) = same_register old new damaged.2.1

write_same : (old : DeskState) (session : ℤ) (block : Written) → KeepsRegister old (Writes old session block)
write_same old session block =
    let tests : Tests = write_tests old session block true in
    let written : Ends = Ended (Ok (told.Reply (replies.Written block.last))) (after_write session block old) in
    let late : Ends = Either written (Breaks old) in
    let rest : Ends = Passing old tests last_checks late in
    passing_same old tests (first_checks ++ block_checks) (Either (RefusesCall old BadBlock) rest)
    (either_same old (RefusesCall old BadBlock) rest (ended_same old (Err BadBlock) old refl)
    (passing_same old tests last_checks late (either_same old written (Breaks old) (ended_same old (Ok (told.Reply (replies.Written block.last))) (after_write session block old) refl) (breaks_same old))))

settle_goes : (old new : DeskState) (session : ℤ) (outcome : Outcome) → KeepsDesk old.register old.callers → Settles old session outcome new → Follows old.register new.register
settle_goes old new session outcome keeps step =
    let found = session_in old session in
    let done : Ends = Ended (Ok (told.Reply (replies.Settled (settled_position old found)))) (settled found old) in
    elim (passing_or old (settle_tests old session) checks (Either done (Breaks old)) outcome new step) [
      | inl same ↦ follows_equal old.register new.register (same_register old new same)
      | inr (inl settles) ↦ subst (λ (d : DeskState). Follows old.register d.register) (sym settles.1) (settled_follows old session found refl keeps)
      | inr (inr breaks) ↦ follows_equal old.register new.register (breaks_same old outcome new breaks)
    ]

settle_all_goes : (old new : DeskState) (sessions : List ℤ) (outcome : Outcome) → KeepsDesk old.register old.callers → SettlesAll old sessions outcome new → Follows old.register new.register
settle_all_goes old new sessions outcome keeps step =
    let done : Ends = Ended (Ok (told.Reply (replies.SettledAll (positions_each sessions old)))) (settled_each sessions old) in
    elim (passing_or old (settle_all_tests old sessions) checks (Either done (Breaks old)) outcome new step) [
      | inl same ↦ follows_equal old.register new.register (same_register old new same)
      | inr (inl settles) ↦ subst (λ (d : DeskState). Follows old.register d.register) (sym settles.1) (settled_each_follows old sessions keeps)
      | inr (inr breaks) ↦ follows_equal old.register new.register (breaks_same old outcome new breaks)
    ]

unless_same : (old : DeskState) (ends : Ends) → KeepsRegister old ends → KeepsRegister old (UnlessBoundary old ends)
unless_same old ends behind =
    either_same old (RefusesCall old BadPosition) (Either (Unread old) ends) (ended_same old (Err BadPosition) old refl) (either_same old (Unread old) ends (unread_same old) behind)

at_same : (old : DeskState) (found : Option Registration) (position : ℤ) (ends : Ends) → KeepsRegister old ends → KeepsRegister old (AtPosition old found position ends)
at_same old None position ends behind outcome new step = unless_same old ends behind outcome new step
at_same old (Some r) position ends behind outcome new step = by (is_end position r) step
  where
    by : (b : Bool) → MatchBool b (ends outcome new) (UnlessBoundary old ends outcome new) → new.register ≡ old.register
    by true end = behind outcome new end
    by false unless = unless_same old ends behind outcome new unless

open_same : (old : DeskState) (id position size : ℤ) → KeepsRegister old (Opens old id position size)
open_same old id position size =
    let found = registration_in old.register id in
    let next = begins_at position found in
    let tests : Tests = open_tests old id position size true in
    let opened : Ends = Ended (Ok (told.Reply (replies.ReplayOpened old.callers.next_replay))) (after_open id next (bound_of next size) old) in
    let rest : Ends = Passing old tests (block_checks ++ last_checks) opened in
    passing_same old tests first_checks (AtPosition old found next rest)
    (at_same old found next rest (passing_same old tests (block_checks ++ last_checks) opened (ended_same old (Ok (told.Reply (replies.ReplayOpened old.callers.next_replay))) (after_open id next (bound_of next size) old) refl)))

gives_same : (old : DeskState) (limit : Option ℤ) (found : Option OpenReplay) (known : Option Registration) → KeepsRegister old (GivesFrames old limit found known)
gives_same old limit None known outcome new gives = absurd gives
gives_same old limit (Some replay) None outcome new gives = absurd gives
gives_same old limit (Some replay) (Some r) outcome new gives = ap (λ (d : DeskState). d.register) gives.2.1

poll_same : (old : DeskState) (number most : ℤ) (limit : Option ℤ) → KeepsRegister old (Polls old number most limit)
poll_same old number most limit =
    let found = open_replay_in old number in
    let gives : Ends = GivesFrames old limit found (recording_of old found) in
    passing_same old (poll_tests old number most limit) checks (Either (Unread old) gives) (either_same old (Unread old) gives (unread_same old) (gives_same old limit found (recording_of old found)))

close_same : (old : DeskState) (number : ℤ) → KeepsRegister old (Closes old number)
close_same old number =
    passing_same old (close_tests old number) checks (Ended (Ok (told.Reply replies.Closed)) (after_close number old)) (ended_same old (Ok (told.Reply replies.Closed)) (after_close number old) refl)

sweep_same : (old : DeskState) → KeepsRegister old (Sweeps old)
sweep_same old =
    passing_same old (sweep_tests old) checks (λ outcome new. ((removed : Bool) × Ended (Ok (told.Reply (replies.Swept removed))) old outcome new) ⊎ Faults old outcome new)
    (λ outcome new end. elim end [ inl swept ↦ same_register old new swept.1.1 | inr faults ↦ same_register old new faults.1 ])

verify_same : (old : DeskState) (id : ℤ) → KeepsRegister old (Verifies old id)
verify_same old id =
    passing_same old (verify_tests old id) checks (λ outcome new. ((frames : ℤ) × Ended (Ok (told.Reply (replies.Verified frames))) old outcome new) ⊎ Unread old outcome new)
    (λ outcome new end. elim end [ inl verified ↦ same_register old new verified.1.1 | inr unread ↦ unread_same old outcome new unread ])

checkpoint_same : (old : DeskState) → KeepsRegister old (Checkpoints old)
checkpoint_same old =
    let anew : Ends = Ended (Ok (told.Reply replies.Checkpointed)) (checkpointed old) in
    let banks : Ends = RefusedByBanks old in
    passing_same old (sweep_tests old) checks (Either anew (Either banks (Breaks old)))
    (either_same old anew (Either banks (Breaks old)) (ended_same old (Ok (told.Reply replies.Checkpointed)) (checkpointed old) refl)
    (either_same old banks (Breaks old) (either_same old (RefusesCall old NotCatalogue) (RefusesCall old HistoryFull) (ended_same old (Err NotCatalogue) old refl) (ended_same old (Err HistoryFull) old refl)) (breaks_same old)))

-- a step of the machine, or want of memory, which changes nothing
stepped_or : (old : DeskState) (asked : Asked) (outcome : Outcome) (new : DeskState) → Stepped old asked outcome new → Step old asked outcome new ⊎ (new ≡ old)
stepped_or old asked (Ok answer) new step = inl step
stepped_or old asked (Err refusal) new (inl step) = inl step
stepped_or old asked (Err refusal) new (inr outside) = inr (by refusal outside)
  where
    by : (r : Refusal) → Outside old ⊥ (λ x. ⊥) r new → new ≡ old
    by NoMemory same = same
    by DeviceFault broke = absurd broke.0
    by r none = absurd none

event_goes : (old new : DeskState) (event : Event) (result : Result Reply Refusal) → KeepsDesk old.register old.callers → Stepped old (asked_of event) (told_of old event result) new → GoOn old.register new.register result
event_goes old new event result keeps stepped = elim (stepped_or old (asked_of event) (told_of old event result) new stepped) [
  | inr same ↦ same_goes old new result (same_register old new same)
  | inl step ↦ by event step
]
  where
    by : (e : Event) → Step old (asked_of e) (told_of old e result) new → GoOn old.register new.register result
    by (events.Ask request) step = ask_goes old new request result keeps (decided_makes old (decision_of old request) (plain result) new step)
    by (events.Write session block) step = same_goes old new result (write_same old session (span_of block) (plain result) new step)
    by (events.Settle session) step = inl (settle_goes old new session (plain result) keeps step)
    by (events.SettleAll sessions) step = inl (settle_all_goes old new sessions (plain result) keeps step)
    by (events.ReplayOpen id position size) step = same_goes old new result (open_same old id position size (plain result) new step)
    by (events.ReplayPoll number most) step = same_goes old new result (poll_same old number most None (told_of old (events.ReplayPoll number most) result) new step)
    by (events.ReplayPollTo number most limit) step = same_goes old new result (poll_same old number most (Some limit) (told_of old (events.ReplayPollTo number most limit) result) new step)
    by (events.ReplayClose number) step = same_goes old new result (close_same old number (plain result) new step)
    by events.Sweep step = same_goes old new result (sweep_same old (plain result) new step)
    by (events.Verify id) step = same_goes old new result (verify_same old id (plain result) new step)
    by events.Checkpoint step = same_goes old new result (checkpoint_same old (plain result) new step)

-- ---- what an event leaves of recorded bytes

-- a bank is no segment
no_bank : (bank : Bank) (id base : ℤ) → Segment id base ≡ bank_file bank → ⊥
no_bank A id base is = cc
no_bank B id base is = cc

quiet_bytes : (old new : Life) (g : RegisterState) → IsQuiet old new → KeepsBytes (reads old.now) (reads new.now) g
quiet_bytes old new g quiet = same_bytes (reads old.now) (reads new.now) g (λ id base. ap (λ (files : Files). reads files (Segment id base)) quiet.now)

-- a request changes a bank alone
ask_bytes : {X : Type 0} (o : Option X) (bank : Bank) (old new : Life) (g : RegisterState) → MatchOption o (IsQuiet old new) (λ c. ChangesThese (λ file. file ≡ bank_file bank) 4 old new) → KeepsBytes (reads old.now) (reads new.now) g
ask_bytes None bank old new g quiet = quiet_bytes old new g quiet
ask_bytes (Some c) bank old new g changes =
    same_bytes (reads old.now) (reads new.now) g (λ id base. ap (λ (file : FileState). file.reads) (changes.others (Segment id base) (no_bank bank id base)))

segment_inside : (r w : Registration) (p q : ℕ) → file_of (layout_of r.descriptor) p ≡ file_of (layout_of w.descriptor) q → (register.id_of r ≡ register.id_of w) × (base_of (layout_of r.descriptor) p ≡ base_of (layout_of w.descriptor) q)
segment_inside r w p q same = (cc, (let bases : pos (base_of (layout_of r.descriptor) p) ≡ pos (base_of (layout_of w.descriptor) q) = cc in omega (arith, ints, bases)))

-- a byte below a write
byte_below : (old new : Life) (l : Layout) (p at byte : ℕ) → offset_of l p < at → KeepsBelow at (old.now (file_of l p)) (new.now (file_of l p)) → HasByte (reads old.now) l p byte → HasByte (reads new.now) l p byte
byte_below old new l p at byte below keeps has = record {
  inside = omega (arith, below, keeps.no_shorter, has.inside);
  is = keeps.same (offset_of l p) below ∙ has.is;
}

-- a checkpoint changes the other bank alone
checkpoint_bytes : (bank : Bank) (old new : Life) (g : RegisterState) → ChangesThese (λ file. file ≡ bank_file bank) 7 old new → KeepsBytes (reads old.now) (reads new.now) g
checkpoint_bytes bank old new g changes =
    same_bytes (reads old.now) (reads new.now) g (λ id base. ap (λ (file : FileState). file.reads) (changes.others (Segment id base) (no_bank bank id base)))

-- what a write says of the recording that is written, or of none

abbrev IsThere : ℕ → Option Registration → FileId → Type 0
IsThere at o file = IsSomeAnd o (λ g. file ≡ file_of (layout_of g.descriptor) at)

abbrev LeavesBelow : ℕ → Life → Life → Option Registration → Type 0
LeavesBelow at old new o = IfSome o (λ g. KeepsBelow (offset_of (layout_of g.descriptor) at) (old.now (file_of (layout_of g.descriptor) at)) (new.now (file_of (layout_of g.descriptor) at)))

abbrev IsBehind : ℤ → Life → Life → Option Registration → Type 0
IsBehind position old new o = IsQuiet old new ⊎ IsSomeAnd o (λ g. g.recorded ≤ℤ position)

-- a block is written at or behind the recorded position of its recording, or nothing is
write_bytes : (d : DeskState) (session : ℤ) (block : Block) (old new : Life) → KeepsDesk d.register d.callers → WritesBlock d session block old new → KeepsBytes (reads old.now) (reads new.now) d.register
write_bytes d session block old new keeps wrote id r p byte found from below has =
    by (session_in d session) refl wrote.changes.others wrote.keeps wrote.behind
  where
    at : ℕ
    at = unsigned_abs block.position

    l : Layout
    l = layout_of r.descriptor

    unchanged : new.now (file_of l p) ≡ old.now (file_of l p) → HasByte (reads new.now) l p byte
    unchanged same = byte_read (reads old.now) (reads new.now) l p byte (ap (λ (file : FileState). file.reads) same) has

    -- the recording of the session
    its : (s : RecorderSession) (o : Option Registration) → registration_in d.register s.recording ≡ o → ((file : FileId) → (IsThere at o file → ⊥) → new.now file ≡ old.now file) → LeavesBelow at old new o → IsBehind block.position old new o → HasByte (reads new.now) l p byte
    its s None is others kept behind = unchanged (others (file_of l p) (λ none. none))
    its s (Some w) is others kept (inl quiet) = unchanged (ap (λ (files : Files). files (file_of l p)) quiet.now)
    its s (Some w) is others kept (inr behind) = elim (same_file (file_of l p) (file_of (layout_of w.descriptor) at)) [
      | inr differs ↦ unchanged (others (file_of l p) differs)
      | inl same ↦ here w s is same kept behind
    ]
      where
        here : (w : Registration) (s : RecorderSession) → registration_in d.register s.recording ≡ Some w → file_of l p ≡ file_of (layout_of w.descriptor) at → LeavesBelow at old new (Some w) → w.recorded ≤ℤ block.position → HasByte (reads new.now) l p byte
        here w s is same kept behind =
            let parts = segment_inside r w p at same in
            let mine : id ≡ s.recording = sym (found_number register.id_of id d.register.recordings r found) ∙ parts.0 ∙ found_number register.id_of s.recording d.register.recordings w is in
            let one : w ≡ r = one_known w r (sym is ∙ ap (registration_in d.register) (sym mine) ∙ found) in
            let low = (laid_low w (laid_found d s.recording w keeps (sym is))).1 in
            let less : pos p <ℤ w.recorded = subst (λ (x : Registration). pos p <ℤ x.recorded) (sym one) below in
            let before : p < at = omega (arith, ints, less, behind, low) in
            let offset : offset_of l p < offset_of (layout_of w.descriptor) at = omega (arith, before, parts.1, base_before l p) in
            byte_below old new l p (offset_of (layout_of w.descriptor) at) byte offset
            (subst (λ (file : FileId). KeepsBelow (offset_of (layout_of w.descriptor) at) (old.now file) (new.now file)) (sym same) kept) has

    by : (o : Option RecorderSession) → session_in d session ≡ o → ((file : FileId) → (IsThere at (written_by d o) file → ⊥) → new.now file ≡ old.now file) → LeavesBelow at old new (written_by d o) → IsBehind block.position old new (written_by d o) → HasByte (reads new.now) l p byte
    by None is others kept behind = unchanged (others (file_of l p) (λ none. none))
    by (Some s) is others kept behind = its s (registration_in d.register s.recording) refl others kept behind

-- a segment file stays as it reads
settle_bytes : (old new : Life) (g : RegisterState) → ((file : FileId) → file ≢ BankA → file ≢ BankB → reads new.now file ≡ reads old.now file) → KeepsBytes (reads old.now) (reads new.now) g
settle_bytes old new g same = same_bytes (reads old.now) (reads new.now) g (λ id base. same (Segment id base) (λ is. cc) (λ is. cc))

-- ---- a sweep

-- what a test finds of a recording it finds of the register
registered_hit : (test : Keep → Bool) (id : ℤ) (rs : List Registration) (r : Registration) → find register.id_of id rs ≡ Some r → test (registered_keep r) ≡ true → list_any test (map registered_keep rs) ≡ true
registered_hit test id [] r found is = absurd cc
registered_hit test id (x ∷ xs) r found is = by (int_eq id (register.id_of x)) found (λ later. registered_hit test id xs r later is)
  where
    by : (b : Bool) → cond b (Some x) (find register.id_of id xs) ≡ Some r → (find register.id_of id xs ≡ Some r → list_any test (map registered_keep xs) ≡ true) → test (registered_keep x) || list_any test (map registered_keep xs) ≡ true
    by true here later = let same : r ≡ x = cc in or_left (test (registered_keep x)) (list_any test (map registered_keep xs)) (subst (λ (y : Registration). test (registered_keep y) ≡ true) same is)
    by false here later = or_right (test (registered_keep x)) (list_any test (map registered_keep xs)) (later here)

-- a recorded byte lies in no stale file
recorded_fresh : (d : DeskState) (id : ℤ) (r : Registration) (p : ℕ) → KeepsDesk d.register d.callers → registration_in d.register id ≡ Some r → unsigned_abs r.descriptor.start_position ≤ p → pos p <ℤ r.recorded
    → is_stale (registered_keeps d.register) (file_of (layout_of r.descriptor) p) ≡ false
recorded_fresh d id r p keeps found from below =
    let base : ℤ = pos (base_of l p) in
    let mine : int_eq (register.id_of r) (register.id_of r) ≡ true = (Decides-int_eq (register.id_of r) (register.id_of r)).1 refl in
    let here : is_kept (register.id_of r) base (registered_keep r) ≡ true = and_both (int_eq (register.id_of r) (register.id_of r)) _ mine (kept (is_active r)) in
    let hit = or_right (is_kept (register.id_of r) base (Below d.register.next)) _ (registered_hit (is_kept (register.id_of r) base) id d.register.recordings r found here) in
    and_not _ (list_any (is_kept (register.id_of r) base) (registered_keeps d.register)) hit
  where
    l : Layout
    l = layout_of r.descriptor

    laid : IsLaid r
    laid = laid_found d id r keeps (sym found)

    kept : (b : Bool) → keeps_base l r.recorded b (pos (base_of l p)) ≡ true
    kept true =
        let layout = laid.laid_out.layout in
        start_kept l p (length_positive l.term_length layout.term) (natural l.term_length l.segment_length (length_low l.term_length layout.term) layout.no_less) from
    kept false = base_kept l r.recorded p (length_positive l.segment_length laid.laid_out.layout.segment) from below

sweep_bytes : (d : DeskState) (old new : Life) → KeepsDesk d.register d.callers → IsQuiet old new ⊎ ((file : FileId) × SweepsAtMost (registered_keeps d.register) file old new) → KeepsBytes (reads old.now) (reads new.now) d.register
sweep_bytes d old new keeps swept id r p byte found from below has =
    byte_read (reads old.now) (reads new.now) (layout_of r.descriptor) p byte
    (ap (λ (file : FileState). file.reads) (fresh_kept (registered_keeps d.register) old new swept (file_of (layout_of r.descriptor) p) (recorded_fresh d id r p keeps found from below))) has

event_bytes : (e : EngineState) (event : Event) (new : Life) → KeepsDesk e.desk.register e.desk.callers → Touches e event new → KeepsBytes (reads e.life.now) (reads new.now) e.desk.register
event_bytes e (events.Ask request) new keeps touches = ask_bytes (command_in (decision_of e.desk request)) e.log.bank e.life new e.desk.register touches
event_bytes e (events.Write session block) new keeps touches = write_bytes e.desk session block e.life new keeps touches
event_bytes e (events.Settle session) new keeps touches = settle_bytes e.life new e.desk.register touches.segments
event_bytes e (events.SettleAll sessions) new keeps touches = settle_bytes e.life new e.desk.register touches.segments
event_bytes e events.Checkpoint new keeps touches = checkpoint_bytes (other_of e.log.bank) e.life new e.desk.register touches
event_bytes e (events.ReplayOpen id position size) new keeps touches = quiet_bytes e.life new e.desk.register touches
event_bytes e (events.ReplayPoll number most) new keeps touches = quiet_bytes e.life new e.desk.register touches
event_bytes e (events.ReplayPollTo number most limit) new keeps touches = quiet_bytes e.life new e.desk.register touches
event_bytes e (events.ReplayClose number) new keeps touches = quiet_bytes e.life new e.desk.register touches
event_bytes e events.Sweep new keeps (inl quiet) = quiet_bytes e.life new e.desk.register quiet
event_bytes e events.Sweep new keeps (inr swept) = sweep_bytes e.desk e.life new keeps (inr (swept.0, swept.1))
event_bytes e (events.Verify id) new keeps touches = quiet_bytes e.life new e.desk.register touches

-- ---- the pages

-- a generation that may rise
generation_same : (result : Result Reply Refusal) (generation : ℕ) → (generation_after result generation ≡ generation) ⊎ IsTruncated result
generation_same (Ok (replies.Truncated position)) generation = inr (position, refl)
generation_same (Ok reply) generation = inl refl
generation_same (Err refusal) generation = inl refl

-- pages that are kept before an event are kept behind it
pub event_keeps : (old new : EngineState) (event : Event) (result : Result Reply Refusal) (generation : ℕ) (pages : Pages) → KeepsDesk old.desk.register old.desk.callers → AnswersEvent old new event result → KeepsPages old.life old.desk.register generation pages
    → KeepsPages new.life new.desk.register (generation_after result generation) pages
event_keeps old new event result generation pages keeps answers kept = elim (event_goes old.desk new.desk event result keeps answers.ends.machine) [
  | inl follows ↦ elim (generation_same result generation) [
    | inl same ↦ subst (λ (n : ℕ). KeepsPages new.life new.desk.register n pages) (sym same)
        (pages_stay old.life new.life old.desk.register new.desk.register generation pages answers.ends.goes_on.obeyed (event_bytes old event new.life keeps answers.touches) follows kept)
    | inr truncated ↦ risen truncated follows.next
  ]
  | inr truncated ↦ risen truncated.0 truncated.1
]
  where
    risen : IsTruncated result → old.desk.register.next ≤ℤ new.desk.register.next → KeepsPages new.life new.desk.register (generation_after result generation) pages
    risen truncated next =
        subst (λ (o : Result Reply Refusal). KeepsPages new.life new.desk.register (generation_after o generation) pages) (sym truncated.1)
        (pages_past old.life new.life old.desk.register new.desk.register generation pages answers.ends.goes_on.obeyed next kept)

-- and behind a poll whose frames were handed on
pub handing_keeps : {T : Type 0} (takes : T → ℤ → Frame → T → Type 0) (leaves : T → T → Type 0) (from to : T) (old new : EngineState) (event : Event) (result : Result (Option ℤ) Refusal) (generation : ℕ) (pages : Pages) → KeepsDesk old.desk.register old.desk.callers
    → HandsPolled takes leaves from to (AnswersEvent old new event) result → KeepsPages old.life old.desk.register generation pages → KeepsPages new.life new.desk.register generation pages
handing_keeps takes leaves from to old new event (Ok next) generation pages keeps handed kept = event_keeps old new event (Ok (replies.Polled handed.0 next)) generation pages keeps handed.2 kept
handing_keeps takes leaves from to old new event (Err refusal) generation pages keeps handed kept = event_keeps old new event (Err refusal) generation pages keeps handed.1 kept
