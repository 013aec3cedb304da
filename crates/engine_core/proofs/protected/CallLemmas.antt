-- What a call leaves of a recording that an open replay reads, also where a write fails.
use Rattle.std.proofs.Common.{◌≡◌, ◌∙◌, ◌≤ℤ◌, inl, inr, sym, ap, subst, ℤ, Option, Some, None, Result, Ok, Err}
use Rattle.engine_core.proofs.Words.{Archive, ArchiveEnds, CallEnds, DeviceFault, Event, IsConsistent, NoMemory, OpenReplay, Recording, Refusal, Reply, State, book_of, broken, find, id_of, open_replay_in, recording_at}
use Rattle.archive_model.specs.Acceptance.{BookState}
use Rattle.control_core.specs.Exact.{LeftByFault}
use Rattle.control_core.specs.Runs.{MayStand}
use Rattle.control_core.proofs.CallLemmas.{refused_unchanged}
use Rattle.control_core.proofs.MadeLemmas.{makes_asked}
use Rattle.control_core.proofs.RunLemmas.{same_doubt}
use Rattle.engine_core.specs.Protected.{HasFrom}
use Rattle.engine_core.proofs.protected.CommandLemmas.{KeptIn}
use Rattle.engine_core.proofs.protected.FromLemmas.{keeps_itself, keeps_later}
use Rattle.engine_core.proofs.protected.StepLemmas.{asked_has}

-- the archive's state keeps the frames of a recording from a position on, and so does the one in doubt
pub record Protects (p id : ℤ) (r : Recording) (a : Archive) : Type 0 where
  pub state : HasFrom p id r a.state
  pub doubt : (u : State) → a.doubt ≡ Some u → HasFrom p id r u

-- so does each state that may stand
pub may_stand : (p id : ℤ) (r : Recording) (a : Archive) (x : State) → Protects p id r a → MayStand a x → HasFrom p id r x
may_stand p id r a x protects (inl now) = subst (HasFrom p id r) (sym now) protects.state
may_stand p id r a x protects (inr doubt) = protects.doubt x doubt

-- from a later position on too
has_later : (p q id : ℤ) (r : Recording) (s : State) → p ≤ℤ q → HasFrom p id r s → HasFrom q id r s
has_later p q id r s low has = by (find id_of id s.recordings) has
  where
    by : (o : Option Recording) → KeptIn p r o → KeptIn q r o
    by None has = absurd has
    by (Some x) k = keeps_later p q r x low k

pub protects_later : (p q id : ℤ) (r : Recording) (a : Archive) → p ≤ℤ q → Protects p id r a → Protects q id r a
protects_later p q id r a low protects = record { state = has_later p q id r a.state low protects.state; doubt = λ u is. has_later p q id r u low (protects.doubt u is) }

-- it protects the recording as it is, while nothing is in doubt
pub protects_itself : (p id : ℤ) (r : Recording) (a : Archive) → recording_at a id ≡ Some r → r.descriptor.start_position ≤ℤ p → a.doubt ≡ None → Protects p id r a
protects_itself p id r a there low sure = record {
  state = subst (KeptIn p r) (sym there) (keeps_itself p r low);
  doubt = λ u is. absurd (let none : Some u ≡ None = sym is ∙ sure in cc);
}

module _ (n : ℤ) (replay : OpenReplay) (r : Recording) where
  abbrev pub Reads : Archive → Type 0
  Reads a = Protects replay.next replay.recording r a

  same_reads : (a b : Archive) → b ≡ a → Reads a → Reads b
  same_reads a b is reads = subst Reads (sym is) reads

  -- what an answered call makes of the state
  answered_has : (a : Archive) (event : Event) (reply : Reply) (b : Archive) → IsConsistent a → open_replay_in a.desk n ≡ Some replay → ArchiveEnds a event (Ok reply) b → HasFrom replay.next replay.recording r a.state
      → HasFrom replay.next replay.recording r b.state
  answered_has a event reply b consistent found ends has =
      let made = makes_asked a event reply b consistent ends in
      subst (HasFrom replay.next replay.recording r) (sym (ap (λ (k : BookState). k.state) made.book))
      (asked_has a event a.desk (book_of a) n replay r consistent.well made.accepted made.allowed found has)

  fault_reads : (a : Archive) (event : Event) (b : Archive) → IsConsistent a → open_replay_in a.desk n ≡ Some replay → LeftByFault a event b → Reads a → Reads b
  fault_reads a event b consistent found (inl (read, same)) reads = same_reads a b same reads
  fault_reads a event b consistent found (inr (writes, (u, (reply, (x, ends, made)), same))) reads =
      let made_now : HasFrom replay.next replay.recording r u = subst (HasFrom replay.next replay.recording r) made (answered_has a event reply x consistent found ends reads.state) in
      let there : Reads (broken u a) = record { state = reads.state; doubt = λ v is. (let known : Some u ≡ Some v = is in let one : u ≡ v = cc in subst (HasFrom replay.next replay.recording r) one made_now) } in
      same_reads (broken u a) b same there

  -- a call of a consistent archive protects what an open replay reads
  pub call_reads : (a : Archive) (event : Event) (outcome : Result Reply Refusal) (b : Archive) → IsConsistent a → open_replay_in a.desk n ≡ Some replay → CallEnds a event (Unit {0}) outcome b → Reads a → Reads b
  call_reads a event (Ok reply) b consistent found ends reads = record {
    state = answered_has a event reply b consistent found ends reads.state;
    doubt = λ u is. reads.doubt u (sym (same_doubt a event reply b ends) ∙ is);
  }
  call_reads a event (Err NoMemory) b consistent found ends reads = elim ends [
    | inl exact ↦ same_reads a b (refused_unchanged a event NoMemory b exact) reads
    | inr same ↦ same_reads a b same reads
  ]
  call_reads a event (Err DeviceFault) b consistent found ends reads = elim ends [
    | inl exact ↦ same_reads a b (refused_unchanged a event DeviceFault b exact) reads
    | inr out ↦ fault_reads a event b consistent found out.1 reads
  ]
  call_reads a event (Err refusal) b consistent found ends reads = elim ends [
    | inl exact ↦ same_reads a b (refused_unchanged a event refusal b exact) reads
    | inr out ↦ absurd out
  ]

-- the state after a call, also of a broken archive
pub call_has : (a : Archive) (event : Event) (outcome : Result Reply Refusal) (b : Archive) (n : ℤ) (replay : OpenReplay) (r : Recording) → IsConsistent a → CallEnds a event (Unit {0}) outcome b → open_replay_in a.desk n ≡ Some replay → recording_at a replay.recording ≡ Some r
    → r.descriptor.start_position ≤ℤ replay.next → HasFrom replay.next replay.recording r b.state
call_has a event outcome b n replay r consistent ends found there low = by outcome ends
  where
    here : HasFrom replay.next replay.recording r a.state
    here = subst (KeptIn replay.next r) (sym there) (keeps_itself replay.next r low)

    same : b.state ≡ a.state → HasFrom replay.next replay.recording r b.state
    same is = subst (HasFrom replay.next replay.recording r) (sym is) here

    same_state : b ≡ a → b.state ≡ a.state
    same_state is = ap (λ (x : Archive). x.state) is

    fault : LeftByFault a event b → b.state ≡ a.state
    fault (inl (read, is)) = same_state is
    fault (inr (writes, (u, makes, is))) = ap (λ (x : Archive). x.state) is

    by : (o : Result Reply Refusal) → CallEnds a event (Unit {0}) o b → HasFrom replay.next replay.recording r b.state
    by (Ok reply) ends = answered_has n replay r a event reply b consistent found ends here
    by (Err NoMemory) ends = elim ends [
      | inl exact ↦ same (same_state (refused_unchanged a event NoMemory b exact))
      | inr is ↦ same (same_state is)
    ]
    by (Err DeviceFault) ends = elim ends [
      | inl exact ↦ same (same_state (refused_unchanged a event DeviceFault b exact))
      | inr out ↦ same (fault out.1)
    ]
    by (Err refusal) ends = elim ends [
      | inl exact ↦ same (same_state (refused_unchanged a event refusal b exact))
      | inr out ↦ absurd out
    ]
