-- How a call ends that writes a recorder session's block.
use Rattle.std.proofs.Common.{◌≡◌, ◌≢◌, ◌∙◌, inr, sym, ap, subst, refl, ℕ, ℤ, pos, ◌+◌, ◌+ℤ◌, ◌≤ℤ◌, ◌++◌, true, false, true≢false, List, [], ◌∷◌, Option, Some, None, Result, Ok, Err, unsigned_abs, arith}
use Rattle.std.proofs.lemmas.Int.{ints}
use Rattle.std.proofs.lemmas.Bool.Decides.{Decides-int_eq}
use Rattle.std.specs.Ordering.{int_eq}
use Rattle.std.specs.Prelude.{IsSomeAnd}
use Rattle.engine_core.proofs.Words.{Archive, ArchiveEnds, AreEncodable, Block, CallEnded, CallEnds, ChangesFile, Content, Descriptor, DeskState, DeviceFault, Each, EndsAs, EndsEvent, EngineState, Event, Frame, HasBlocks, HasFailed, HoldsFrames, IsBlock, IsCrashConsistent, IsFromStart, IsKept, IsLayout, IsSound, KeepsDesk, Layout, Life, Moves, RecorderSession, Recording, Refusal, Registration, Reply, Stands, StandsBehind, State, StaysConsistent, Stepped, Written, archive_of, asked_of, base_of, broken, broken_desk, call_is_allowed, covered, each_found, end_position, file_of, find, found_number, frames_of, geometry_of, id_of, last_of, layout_of, publication_of, reads, recorded_position, recording_at, registration_of, session_in, session_number, told_of, with_block, write_decision, write_tests, written_to}
use Rattle.archive_model.specs.declared.reply.Reply.TheVariants.{Written as WrittenReply}
use Rattle.archive_model.specs.Register as register
use Rattle.control_core.specs.declared.event.Event.TheVariants as events
use Rattle.control_core.specs.Callers.{with_written}
use Rattle.control_core.specs.Changes.{after_write, written_of}
use Rattle.control_core.specs.Exact.{IsBlockOf, Leaves, span_of, written}
use Rattle.control_core.proofs.ConsistentLemmas.{consistent_call}
use Rattle.control_core.proofs.DeskLemmas.{not_same}
use Rattle.control_core.proofs.WriteLemmas.{blocks_follow, other_blocks, this_session, written_end}
use Rattle.engine_core.proofs.calls.Targets.{HasNoTarget, IsTarget}
use Rattle.engine_core.proofs.files.BlockLemmas.{blocks_encodable, stands_more}
use Rattle.engine_core.proofs.calls.EndedLemmas.{done, failed, no_doubt, same_bank, sound_consistent}
use Rattle.engine_core.proofs.calls.KnownLemmas.{IsKnown, begins_behind, known_recording, registered_of}
use Rattle.engine_core.proofs.calls.SettleCallLemmas.{answered_still, blank, no_fault}
use Rattle.control_core.specs.Turns.{RefusesWriting, extent_of}
use Rattle.engine_core.proofs.calls.WritingLemmas.{Lets, Other, each_other, from_start, is_refused, let_through, of_session, same_segment, span_is, span_to, stands_beside, target_layout, untargeted}

-- ---- a block that is of no session's recording is refused

no_block : (e : EngineState) (c : Content) (n : ℤ) (block : Block) → IsCrashConsistent e.life e.log (archive_of e c) → HasNoTarget e.desk n block → IsBlockOf (archive_of e c) (session_in e.desk n) block → ⊥
no_block e c n block was without = by (session_in e.desk n) refl
  where
    of : (s : RecorderSession) (o : Option Recording) → session_in e.desk n ≡ Some s → find id_of s.recording c.state.recordings ≡ o → IsSomeAnd o (λ r. IsBlock (geometry_of r.descriptor) (publication_of r.descriptor) block) → ⊥
    of s None found is block_of = block_of
    of s (Some r) found is block_of = without s (registration_of r) found (registered_of (archive_of e c) s.recording r was.archive.agrees is) block_of

    by : (o : Option RecorderSession) → session_in e.desk n ≡ o
        → IsBlockOf (archive_of e c) o block → ⊥
    by None found block_of = block_of
    by (Some s) found block_of = of s (find id_of s.recording c.state.recordings) found refl block_of

-- an archive without recordings has none that the block is of
no_blank : (e : EngineState) (o : Option RecorderSession) (block : Block)
    → IsBlockOf (archive_of e blank) o block → ⊥
no_blank e None block is = is
no_blank e (Some s) block is = is

pub write_untargeted : (e : EngineState) (n : ℤ) (block : Block) (w : Written) (outcome : Result Reply Refusal) → HasNoTarget e.desk n block → outcome ≡ write_decision e.desk n w false → EndsEvent e e (events.Write n block) outcome
write_untargeted e n block w outcome without is =
    let refused = is_refused e.desk n w (span_of block) in
    let told : Result Reply Refusal = Err refused.0 in
    subst (λ (o : Result Reply Refusal). EndsEvent e e (events.Write n block) o) (sym (is ∙ refused.1))
    (answered_still e (events.Write n block) told blank (same_bank e.log e.log refl) refl (λ sweep. absurd cc) (λ fault. no_fault (write_tests e.desk n w false) (WrittenReply w.last) (refused.1 ∙ fault))
    (ends blank (no_blank e (session_in e.desk n) block) refused.0 refused.2) (λ c was. ends c (no_block e c n block was without) refused.0 refused.2) (λ a. tt))
  where
    ends : (c : Content) → (IsBlockOf (archive_of e c) (session_in e.desk n) block → ⊥) → (refusal : Refusal) → write_decision e.desk n (span_of block) false ≡ Err refusal → ArchiveEnds (archive_of e c) (events.Write n block) (Err refusal) (archive_of e c)
    ends c none refusal decided =
        (false, none, subst (λ (o : Result Reply Refusal). Leaves (archive_of e c) (written (archive_of e c) n block) o (Err refusal) (archive_of e c)) (sym decided) (refl, refl))

-- ---- one of a session's recording

-- frames of the recording that were read in front of the block are read there still
abbrev pub FramesStay : Life → Life → Layout → Block → Type 0
FramesStay old new layout block = (from : ℕ) (frames : List Frame) → AreEncodable frames → HoldsFrames (reads old.now) layout from frames (unsigned_abs block.position) → HoldsFrames (reads new.now) layout from frames (unsigned_abs block.position)

module _ (old : EngineState) (n : ℤ) (block : Block) (layout : Layout) (end : ℤ) (at : IsTarget old.desk n block layout end) where
  abbrev event : Event
  event = events.Write n block

  -- it is, in an archive that has the recording
  is_of : (c : Content) (r : Recording) → recording_at (archive_of old c) at.session.recording ≡ Some r → at.registration.descriptor ≡ r.descriptor → IsBlockOf (archive_of old c) (session_in old.desk n) block
  is_of c r found same =
      let is_block : IsBlock (geometry_of r.descriptor) (publication_of r.descriptor) block = subst (λ (d : Descriptor). IsBlock (geometry_of d) (publication_of d) block) same at.is_block in
      subst (λ (o : Option RecorderSession). IsBlockOf (archive_of old c) o block) (sym at.found)
      (subst (λ (o : Option Recording). IsSomeAnd o (λ x. IsBlock (geometry_of x.descriptor) (publication_of x.descriptor) block)) (sym found) is_block)

  -- such an archive
  abbrev one : Recording
  one = record { descriptor = at.registration.descriptor; frames = [] }

  abbrev alone : Content
  alone = record { state = record { recordings = one ∷ []; next = pos 0 }; blocks = λ m. []; doubt = None }

  found_alone : recording_at (archive_of old alone) at.session.recording ≡ Some one
  found_alone =
      let number : register.id_of at.registration ≡ at.session.recording = found_number register.id_of at.session.recording old.desk.register.recordings at.registration at.known in
      let same : int_eq at.session.recording (id_of one) ≡ true = (Decides-int_eq at.session.recording (id_of one)).1 (sym number) in
      rw same refl

  of_alone : IsBlockOf (archive_of old alone) (session_in old.desk n) block
  of_alone = is_of alone one found_alone refl

  decided : (outcome : Result Reply Refusal) → outcome ≡ write_decision old.desk n (span_to block end) true → write_decision old.desk n (span_of block) true ≡ outcome
  decided outcome is = ap (λ (w : Written). write_decision old.desk n w true) (span_is old.desk n block layout end at) ∙ sym is

  refused_ends : (c : Content) (refusal : Refusal) → IsBlockOf (archive_of old c) (session_in old.desk n) block → Err refusal ≡ write_decision old.desk n (span_to block end) true → ArchiveEnds (archive_of old c) event (Err refusal) (archive_of old c)
  refused_ends c refusal block_of is =
      (true, block_of, subst (λ (o : Result Reply Refusal). Leaves (archive_of old c) (written (archive_of old c) n block) o (Err refusal) (archive_of old c)) (sym (decided (Err refusal) is)) (refl, refl))

  write_ends : (c : Content) (reply : Reply) → IsBlockOf (archive_of old c) (session_in old.desk n) block → Ok reply ≡ write_decision old.desk n (span_to block end) true → ArchiveEnds (archive_of old c) event (Ok reply) (written (archive_of old c) n block)
  write_ends c reply block_of is =
      (true, block_of, subst (λ (o : Result Reply Refusal). Leaves (archive_of old c) (written (archive_of old c) n block) o (Ok reply) (written (archive_of old c) n block)) (sym (decided (Ok reply) is)) (refl, refl))

  fault_ends : (c : Content) (reply : Reply) (faulted : Type 0) → IsBlockOf (archive_of old c) (session_in old.desk n) block → Ok reply ≡ write_decision old.desk n (span_to block end) true → faulted
      → CallEnds (archive_of old c) event faulted (Err DeviceFault) (broken c.state (archive_of old c))
  fault_ends c reply faulted block_of is cause = inr (cause, inr (refl, (c.state, (reply, (written (archive_of old c) n block, write_ends c reply block_of is, refl)), refl)))

  -- ---- of a crash-consistent archive

  module _ (c : Content) (was : IsCrashConsistent old.life old.log (archive_of old c)) where
    abbrev a : Archive
    a = archive_of old c

    known : IsKnown a at.session.recording at.registration
    known = known_recording a at.session.recording at.registration was.archive.agrees at.known

    abbrev r : Recording
    r = known.recording

    block_of : IsBlockOf a (session_in old.desk n) block
    block_of = is_of c r known.found (ap (λ (g : Registration). g.descriptor) known.is)

    layout_is : layout ≡ layout_of r.descriptor
    layout_is = at.layout_is ∙ ap (λ (g : Registration). layout_of g.descriptor) known.is

    id_is : layout.recording ≡ at.session.recording
    id_is = ap (λ (l : Layout). l.recording) layout_is ∙ found_number id_of at.session.recording a.state.recordings r known.found

    number_is : at.session.number ≡ n
    number_is = found_number session_number n old.desk.callers.sessions at.session at.found

    module _ (reply : Reply) (is : Ok reply ≡ write_decision old.desk n (span_to block end) true) where
      let_by : Lets old.desk at.session (span_to block end)
      let_by = let_through old.desk n block layout end at reply is

      has : HasBlocks a at.session at.session.written
      has = each_found session_number (λ x. HasBlocks a x x.written) n old.desk.callers.sessions at.session was.archive.blocks at.found

      -- what the session wrote before
      abbrev before : List Block
      before = a.blocks at.session.number

      goes_on : block.position ≡ written_to at.session.written (recorded_position r)
      goes_on = begins_behind old.desk at.session at.registration at.session.written (span_to block end) at.known refl let_by.goes_on ∙ ap (λ (g : Registration). written_to at.session.written g.recorded) known.is

      follows : block.position ≡ recorded_position r +ℤ pos (covered (frames_of before))
      follows = goes_on ∙ written_end a at.session r at.session.written known.found has

      kept : IsKept r
      kept = each_found id_of IsKept at.session.recording a.state.recordings r was.archive.well.kept known.found

      starts : unsigned_abs block.position ≡ last_of r + covered (frames_of before)
      starts =
          let whole : pos (last_of r) ≡ recorded_position r = omega (arith, ints, kept.start) in
          let at_end = follows in omega (arith, ints, at_end, whole)

      behind : recorded_position r ≤ℤ block.position
      behind = let at_end = follows in omega (arith, ints, at_end)

      -- in the segment where what is recorded ends
      base : base_of (layout_of r.descriptor) (unsigned_abs block.position) ≡ base_of (layout_of r.descriptor) (last_of r)
      unfolding base_of
      base =
          ap (λ (z : ℤ). base_of (layout_of r.descriptor) (unsigned_abs z)) goes_on
          ∙ subst (λ (g : Registration). register.base_of g.descriptor (unsigned_abs (written_to at.session.written g.recorded)) ≡ register.base_of g.descriptor (unsigned_abs g.recorded)) known.is (same_segment old.desk at.session at.registration at.known let_by.soon)

      encodable : AreEncodable (frames_of before)
      encodable = blocks_encodable (geometry_of r.descriptor) (publication_of r.descriptor) (recorded_position r) before (blocks_follow a at.session r at.session.written known.found has)

      stood : Stands (reads old.life.now) (file_of (layout_of r.descriptor) (last_of r)) r (frames_of before)
      stood = each_found session_number (StandsBehind (reads old.life.now) a) n a.desk.callers.sessions at.session was.stand at.found r known.found

      module _ (new : EngineState) (result : Result (Unit {0}) Refusal) (changes : ChangesFile (file_of layout (unsigned_abs block.position)) old.life new.life)
          (does : (s : State) (x : Recording) → IsSound old.life.now old.log s → find id_of layout.recording s.recordings ≡ Some x → layout ≡ layout_of x.descriptor → recorded_position x ≤ℤ block.position → Moves old.life new.life new.log s s result)
          (stays : FramesStay old.life new.life layout block) where
        moves : Moves old.life new.life new.log a.state a.state result
        moves =
            does a.state r (was.sound (no_doubt a was.archive let_by.works)) (ap (λ (id : ℤ). find id_of id a.state.recordings) id_is ∙ known.found) layout_is behind

        others : (b : Archive) (x : RecorderSession) → b.state ≡ a.state → ((m : ℤ) → m ≢ n → b.blocks m ≡ a.blocks m) → Other at.session x → StandsBehind (reads old.life.now) a x → StandsBehind (reads new.life.now) b x
        others b x state blocks other stands =
            stands_beside old.life new.life a b x layout (unsigned_abs block.position) changes (λ same. other.1 (same ∙ id_is)) state (blocks x.number (λ same. other.0 (same ∙ sym number_is))) stands

        -- what it wrote before is read still
        still : HoldsFrames (reads new.life.now) (layout_of r.descriptor) (last_of r) (frames_of before) (unsigned_abs block.position)
        still =
            subst (λ (l : Layout). HoldsFrames (reads new.life.now) l (last_of r) (frames_of before) (unsigned_abs block.position)) layout_is
            (stays (last_of r) (frames_of before) encodable
            (subst (λ (l : Layout). HoldsFrames (reads old.life.now) l (last_of r) (frames_of before) (unsigned_abs block.position)) (sym layout_is)
            (subst (HoldsFrames (reads old.life.now) (layout_of r.descriptor) (last_of r) (frames_of before)) (sym starts) stood.holds)))

        stands_still : Stands (reads new.life.now) (file_of (layout_of r.descriptor) (last_of r)) r (frames_of before)
        stands_still = record { holds = subst (HoldsFrames (reads new.life.now) (layout_of r.descriptor) (last_of r) (frames_of before)) starts still; lie = stood.lie }

        -- it failed
        stand_failing : Each (StandsBehind (reads new.life.now) a) a.desk.callers.sessions
        stand_failing =
            (each_other (StandsBehind (reads old.life.now) a) (StandsBehind (reads new.life.now) a) (λ x. x) n a.desk.callers.next_session at.session (λ x other stands. others a x refl (λ m differs. refl) other stands)
            (pos 0) a.desk.callers.sessions number_is at.keeps.seats.sessions.rising at.keeps.seats.sessions.apart at.found was.stand).1
            (λ x there.
            let same : r ≡ x = the_same r x (sym known.found ∙ there) in
            subst (λ (y : Recording). Stands (reads new.life.now) (file_of (layout_of y.descriptor) (last_of y)) y (frames_of before)) same
            stands_still)
          where
            the_same : (x y : Recording) → Some x ≡ Some y → x ≡ y
            the_same x y e = cc

        failing : new.desk ≡ broken_desk old.desk → HasFailed old.life new.life
            → CallEnded old new a (EndsAs old.life new.life event a (Err DeviceFault))
        failing desk cause =
            failed old new a a.state (EndsAs old.life new.life event a (Err DeviceFault)) was.archive moves.any_moment moves.frames stand_failing (λ obeys. was.boundaries (changes.obeyed obeys)) desk
            ((λ reading. fault_ends c reply (HasFailed old.life new.life) block_of is cause), tt)

        -- it succeeded
        elsewhere : (m : ℤ) → m ≢ n → (written a n block).blocks m ≡ a.blocks m
        elsewhere m differs = other_blocks n (a.blocks n ++ block ∷ []) a.blocks m (not_same n m (λ same. differs (sym same)))

        more : (written a n block).blocks at.session.number ≡ before ++ block ∷ []
        more = this_session n (a.blocks n ++ block ∷ []) a.blocks at.session.number number_is ∙ ap (λ (m : ℤ). a.blocks m ++ block ∷ []) (sym number_is)

        block_is_there : HoldsFrames (reads new.life.now) layout (unsigned_abs block.position) block.frames (unsigned_abs block.position + covered block.frames)
            → Stands (reads new.life.now) (file_of (layout_of r.descriptor) (last_of r)) r (frames_of (before ++ block ∷ []))
        block_is_there holds =
            let l : Layout = layout_of r.descriptor in
            let laid : IsLayout l = subst IsLayout layout_is (target_layout old.desk n block layout end at) in
            let from : IsFromStart l block.position = subst (λ (x : Layout). IsFromStart x block.position) layout_is (from_start old.desk n block layout end at reply is) in
            let here : HoldsFrames (reads new.life.now) l (unsigned_abs block.position) block.frames (unsigned_abs block.position + covered block.frames) =
            subst (λ (x : Layout). HoldsFrames (reads new.life.now) x (unsigned_abs block.position) block.frames (unsigned_abs block.position + covered block.frames)) layout_is holds in
            let is_block : IsBlock (geometry_of r.descriptor) (publication_of r.descriptor) block = subst (λ (g : Registration). IsBlock (geometry_of g.descriptor) (publication_of g.descriptor) block) known.is at.is_block in
            stands_more (reads new.life.now) r before block laid from (record { geometry = geometry_of r.descriptor; publication = publication_of r.descriptor; term = refl; is_block = is_block }) starts base stands_still here

        stand_written : HoldsFrames (reads new.life.now) layout (unsigned_abs block.position) block.frames (unsigned_abs block.position + covered block.frames)
            → Each (StandsBehind (reads new.life.now) (written a n block)) (written a n block).desk.callers.sessions
        stand_written holds =
            let b : Archive = written a n block in
            (each_other (StandsBehind (reads old.life.now) a) (StandsBehind (reads new.life.now) b) (with_written (Some (with_block (span_of block) (written_of (session_in old.desk n))))) n a.desk.callers.next_session at.session (λ x other stands. others b x refl elsewhere other stands)
            (pos 0) a.desk.callers.sessions number_is at.keeps.seats.sessions.rising at.keeps.seats.sessions.apart at.found was.stand).0
            (λ x there.
            let same : r ≡ x = the_same r x (sym known.found ∙ there) in
            subst (λ (y : Recording). Stands (reads new.life.now) (file_of (layout_of y.descriptor) (last_of y)) y (frames_of (b.blocks at.session.number))) same
            (subst (λ (bs : List Block). Stands (reads new.life.now) (file_of (layout_of r.descriptor) (last_of r)) r (frames_of bs)) (sym more) (block_is_there holds)))
          where
            the_same : (x y : Recording) → Some x ≡ Some y → x ≡ y
            the_same x y e = cc

        going : result ≡ Ok tt → new.desk ≡ after_write n (span_of block) old.desk → HoldsFrames (reads new.life.now) layout (unsigned_abs block.position) block.frames (unsigned_abs block.position + covered block.frames)
            → CallEnded old new a (EndsAs old.life new.life event a (Ok reply))
        going went desk holds =
            let b : Archive = written a n block in
            let rested : Moves old.life new.life new.log a.state a.state (Ok tt) = subst (Moves old.life new.life new.log a.state a.state) went moves in
            let stays : StaysConsistent a b = consistent_call a event (Ok reply) b was.archive (write_ends c reply block_of is) in
            done old new a b (EndsAs old.life new.life event a (Ok reply)) rested.any_moment
            (sound_consistent new.life new.log b rested.rests stays.consistent (stand_written holds) (λ obeys. stays.boundaries (was.boundaries (changes.obeyed obeys)))) desk
            ((λ reading. write_ends c reply block_of is), tt)

  -- ---- the call

  pub write_refuses : (refusal : Refusal) → Err refusal ≡ write_decision old.desk n (span_to block end) true → EndsEvent old old event (Err refusal)
  write_refuses refusal is =
      answered_still old event (Err refusal) alone (same_bank old.log old.log refl) refl (λ sweep. absurd cc) (λ fault. no_fault (write_tests old.desk n (span_to block end) true) (WrittenReply end) (sym is ∙ fault)) (refused_ends alone refusal of_alone is)
      (λ c was. refused_ends c refusal (block_of c was) is) (λ a. tt)

  module _ (new : EngineState) (reply : Reply) (is : Ok reply ≡ write_decision old.desk n (span_to block end) true) (result : Result (Unit {0}) Refusal) (changes : ChangesFile (file_of layout (unsigned_abs block.position)) old.life new.life)
      (does : (s : State) (x : Recording) → IsSound old.life.now old.log s → find id_of layout.recording s.recordings ≡ Some x → layout ≡ layout_of x.descriptor → recorded_position x ≤ℤ block.position → Moves old.life new.life new.log s s result)
      (stays : FramesStay old.life new.life layout block) (log : new.log ≡ old.log) where
    pub write_done : result ≡ Ok tt → new.desk ≡ after_write n (span_to block end) old.desk → HoldsFrames (reads new.life.now) layout (unsigned_abs block.position) block.frames (unsigned_abs block.position + covered block.frames)
        → EndsEvent old new event (Ok reply)
    write_done went desk holds =
        let same : new.desk ≡ after_write n (span_of block) old.desk = desk ∙ ap (λ (w : Written). after_write n w old.desk) (sym (span_is old.desk n block layout end at)) in
        record {
          goes_on = record { obeyed = changes.obeyed; faults = changes.faults };
          bank = same_bank old.log new.log log;
          cause = λ fault. absurd cc;
          machine = subst (λ (d : DeskState). Stepped old.desk (asked_of event) (told_of old.desk event (Ok reply)) d) (sym same)
              (call_is_allowed (archive_of old alone) event (Ok reply) (written (archive_of old alone) n block) (λ poll. absurd (true≢false (sym poll))) (write_ends alone reply of_alone is));
          kept = tt;
          swept = λ removed e. absurd cc;
          ended = λ c was cut. going c was reply is new result changes does stays went same holds;
        }

    pub write_fails : (told : Refusal) → told ≡ DeviceFault → HasFailed old.life new.life
        → new.desk ≡ broken_desk old.desk → EndsEvent old new event (Err told)
    write_fails told fault cause desk = subst (λ (x : Refusal). EndsEvent old new event (Err x)) (sym fault) (record {
      goes_on = record { obeyed = changes.obeyed; faults = changes.faults };
      bank = same_bank old.log new.log log;
      cause = λ e. cause;
      machine = subst (λ (d : DeskState). Stepped old.desk (asked_of event) (told_of old.desk event (Err DeviceFault)) d) (sym desk)
          (call_is_allowed (archive_of old alone) event (Err DeviceFault) (broken alone.state (archive_of old alone)) (λ poll. absurd (true≢false (sym poll))) (fault_ends alone reply (Unit {0}) of_alone is tt));
      kept = λ harmless. absurd (true≢false (sym (ap (λ (d : DeskState). d.is_broken) desk) ∙ (harmless refl).1 ∙ (let_through old.desk n block layout end at reply is).works));
      swept = λ removed e. absurd cc;
      ended = λ c was cut. failing c was reply is new result changes does stays desk cause;
    })

-- a block that is not written
pub write_refused : (e : EngineState) (n : ℤ) (block : Block) (refusal : Refusal) → KeepsDesk e.desk.register e.desk.callers → RefusesWriting e.desk n block refusal → EndsEvent e e (events.Write n block) (Err refusal)
write_refused e n block refusal keeps (true, of, decided) = let there = of_session e.desk n block keeps of in write_refuses e n block there.0 (end_position block) there.1 refusal (sym decided)
write_refused e n block refusal keeps (false, none, decided) = write_untargeted e n block (extent_of block) (Err refusal) (untargeted e.desk n block none) (sym decided)
