-- What an accepted command leaves of a recording that an open replay reads.
use Rattle.std.proofs.Common.{◌≡◌, ◌∙◌, ◌≤ℤ◌, ◌&&◌, not, sym, subst, refl, ℤ, Bool, true, false, cond, true≢false, [], ◌∷◌, int_le, Option, Some, None}
use Rattle.std.proofs.lemmas.Bool.Decides.{Decides-int_eq}
use Rattle.std.specs.Prelude.{IsSomeAnd}
use Rattle.std.specs.Ordering.{int_eq}
use Rattle.engine_core.proofs.Words.{Accepts, Allows, Append, Command, DeskState, IsKept, IsWell, OpenReplay, Recording, Restart, after, each_found, find, id_of, open_replay_in, replay_number}
use Rattle.frame_core.specs.declared.refusal.Refusal.TheVariants.{ActiveReplay, HistoryFull, MaxRecordings, MaxReplays, NeedCompact}
use Rattle.archive_model.specs.declared.command.Command.TheVariants as commands
use Rattle.archive_model.specs.Acceptance.{BookState}
use Rattle.archive_model.specs.Commands.{appended, extended, purged, stopped, truncated}
use Rattle.archive_model.specs.Left.{left_of}
use Rattle.archive_model.proofs.LeftLemmas.{command_leaves}
use Rattle.archive_model.proofs.StateLemmas.{base_of_purge}
use Rattle.control_core.specs.Decisions.{command_tests}
use Rattle.control_core.specs.Desk.{is_replay_before, is_replay_of, is_replayed}
use Rattle.control_core.proofs.AllowedLemmas.{before_replays, passes_at, purge_unread, truncate_unread}
use Rattle.control_core.proofs.PollLemmas.{le_true}
use Rattle.control_core.proofs.StayLemmas.{none_passes}
use Rattle.engine_core.specs.Protected.{HasFrom, KeepsFrom}
use Rattle.engine_core.proofs.protected.FromLemmas.{keeps_appended, keeps_extended, keeps_itself, keeps_on, keeps_purged, keeps_restarted, keeps_stopped}

-- ---- what the desk allows beside an open replay

-- while no replay gives the recording, this one is of another
pub other_recording : (d : DeskState) (id n : ℤ) (replay : OpenReplay) → not (is_replayed d id) ≡ true → open_replay_in d n ≡ Some replay → int_eq replay.recording id ≡ false
unfolding is_replay_of
other_recording d id n replay none found =
    each_found replay_number (λ (r : OpenReplay). is_replay_of id r ≡ false) n d.callers.replays replay (none_passes (is_replay_of id) d.callers.replays none) found

pub removal_unread : (d : DeskState) (id : ℤ) → Allows d (commands.PurgeRecording id) → not (is_replayed d id) ≡ true
removal_unread d id allows = passes_at (command_tests d (commands.PurgeRecording id)) before_replays (MaxRecordings ∷ MaxReplays ∷ NeedCompact ∷ HistoryFull ∷ []) ActiveReplay allows

-- a replay of the recording that does not go on below a position goes on at it or past it
goes_on_past : (id position : ℤ) (replay : OpenReplay) → is_replay_before id position replay ≡ false → replay.recording ≡ id → position ≤ℤ replay.next
unfolding is_replay_before
goes_on_past id position replay before same = by (int_le position replay.next) refl
  where
    by : (b : Bool) → int_le position replay.next ≡ b → position ≤ℤ replay.next
    by true is = le_true position replay.next is
    by false is =
        let here : int_eq replay.recording id ≡ true = (Decides-int_eq replay.recording id).1 same in
        let told : (int_eq replay.recording id && not (int_le position replay.next)) ≡ true = rw (here, is) refl in absurd (true≢false (sym told ∙ before))

purge_past : (d : DeskState) (id position n : ℤ) (replay : OpenReplay) → Allows d (commands.PurgeSegments id position) → open_replay_in d n ≡ Some replay → replay.recording ≡ id → position ≤ℤ replay.next
purge_past d id position n replay allows found same =
    let none = none_passes (is_replay_before id position) d.callers.replays (purge_unread d id position allows) in
    goes_on_past id position replay (each_found replay_number (λ (r : OpenReplay). is_replay_before id position r ≡ false) n d.callers.replays replay none found) same

-- ---- what a command leaves

abbrev pub KeptIn : ℤ → Recording → Option Recording → Type 0
KeptIn p r found = IsSomeAnd found (KeepsFrom p r)

-- the recording is changed, or stays
either_kept : (p : ℤ) (x y : Recording) (b : Bool) → x.descriptor.start_position ≤ℤ p → KeepsFrom p x y → KeepsFrom p x (cond b y x)
either_kept p x y true low k = k
either_kept p x y false low k = keeps_itself p x low

-- that of another id stays
other_kept : (p : ℤ) (x y : Recording) (b : Bool) → b ≡ false → x.descriptor.start_position ≤ℤ p → KeepsFrom p x (cond b y x)
other_kept p x y true is low = absurd (true≢false is)
other_kept p x y false is low = keeps_itself p x low

other_there : (p : ℤ) (x : Recording) (b : Bool) → b ≡ false → x.descriptor.start_position ≤ℤ p → KeptIn p x (cond b None (Some x))
other_there p x true is low = absurd (true≢false is)
other_there p x false is low = keeps_itself p x low

purge_kept : (b : BookState) (d : DeskState) (other position n : ℤ) (replay : OpenReplay) (x : Recording) → IsWell b.state → Accepts b (commands.PurgeSegments other position) → Allows d (commands.PurgeSegments other position)
    → open_replay_in d n ≡ Some replay → find id_of replay.recording b.state.recordings ≡ Some x → x.descriptor.start_position ≤ℤ replay.next
    → KeepsFrom replay.next x (cond (int_eq replay.recording other) (purged position x) x)
purge_kept b d other position n replay x well accepted allows found there low = by (int_eq replay.recording other) refl
  where
    by : (t : Bool) → int_eq replay.recording other ≡ t → KeepsFrom replay.next x (cond t (purged position x) x)
    by true is =
        let one : replay.recording ≡ other = (Decides-int_eq replay.recording other).0 is in
        let this : find id_of other b.state.recordings ≡ Some x = subst (λ (z : ℤ). find id_of z b.state.recordings ≡ Some x) one there in
        keeps_purged replay.next position x (each_found id_of IsKept replay.recording b.state.recordings x well.kept there) (base_of_purge b other position x accepted this) (purge_past d other position n replay allows found one)
    by false is = keeps_itself replay.next x low

left_kept : (b : BookState) (d : DeskState) (c : Command) (n : ℤ) (replay : OpenReplay) (x : Recording) → IsWell b.state → Accepts b c → Allows d c → open_replay_in d n ≡ Some replay → find id_of replay.recording b.state.recordings ≡ Some x
    → x.descriptor.start_position ≤ℤ replay.next → KeptIn replay.next x (left_of replay.recording c x)
left_kept b d (commands.Start f) n replay x well accepted allows found there low = keeps_itself replay.next x low
left_kept b d (Append other blocks) n replay x well accepted allows found there low = either_kept replay.next x (appended blocks x) (int_eq replay.recording other) low (keeps_appended replay.next x blocks low)
left_kept b d (commands.Stop other timestamp) n replay x well accepted allows found there low = either_kept replay.next x (stopped timestamp x) (int_eq replay.recording other) low (keeps_stopped replay.next timestamp x low)
left_kept b d (commands.Extend f) n replay x well accepted allows found there low = either_kept replay.next x (extended f.session_id x) (int_eq replay.recording f.recording) low (keeps_extended replay.next f.session_id x low)
left_kept b d (commands.Truncate other position) n replay x well accepted allows found there low =
    other_kept replay.next x (truncated position x) (int_eq replay.recording other) (other_recording d other n replay (truncate_unread d other position allows) found) low
left_kept b d (commands.PurgeSegments other position) n replay x well accepted allows found there low = purge_kept b d other position n replay x well accepted allows found there low
left_kept b d (commands.PurgeRecording other) n replay x well accepted allows found there low =
    other_there replay.next x (int_eq replay.recording other) (other_recording d other n replay (removal_unread d other allows) found) low
left_kept b d Restart n replay x well accepted allows found there low = keeps_restarted replay.next x low

-- what is kept of another recording
kept_on : (p : ℤ) (r x : Recording) (found : Option Recording) → KeepsFrom p r x → KeptIn p x found → KeptIn p r found
kept_on p r x None first next = absurd next
kept_on p r x (Some y) first next = keeps_on p r x y first next

-- an accepted command that the desk allows leaves the frames that an open replay reads
pub kept_after : (b : BookState) (d : DeskState) (c : Command) (n : ℤ) (replay : OpenReplay) (r : Recording) → IsWell b.state → Accepts b c → Allows d c → open_replay_in d n ≡ Some replay → HasFrom replay.next replay.recording r b.state
    → HasFrom replay.next replay.recording r (after b.state c)
kept_after b d c n replay r well accepted allows found has = by (find id_of replay.recording b.state.recordings) refl has
  where
    by : (o : Option Recording) → find id_of replay.recording b.state.recordings ≡ o → KeptIn replay.next r o → HasFrom replay.next replay.recording r (after b.state c)
    by None is has = absurd has
    by (Some x) is k =
        subst (KeptIn replay.next r) (sym (command_leaves b.state c well replay.recording x is))
        (kept_on replay.next r x (left_of replay.recording c x) k (left_kept b d c n replay x well accepted allows found is k.from))
