-- A recorder session writes a block: what is decided, what that says of the desk, and what the sessions wrote then.
use Rattle.std.proofs.Common.{◌≡◌, ◌≢◌, ◌∙◌, sym, ap, subst, refl, inl, inr, ℕ, ℤ, pos, ◌+◌, ◌*◌, ◌^◌, ◌+ℤ◌, ◌<ℤ◌, ◌≤ℤ◌, not, Bool, true, false, cond, true≢false, List, [], ◌∷◌, ◌++◌, Option, Some, None, Ok, Err, unsigned_abs, arith}
use Rattle.std.proofs.lemmas.Int.{ints}
use Rattle.std.proofs.lemmas.Bool.Decides.{Decides-int_eq, nat_tests}
use Rattle.std.specs.Prelude.{◌==◌, IsSomeAnd, is_some}
use Rattle.std.specs.Ordering.{int_eq}
use Rattle.engine_core.proofs.Words.{Archive, Block, ChangesFile, DeskState, Each, FileState, Frame, Geometry, IsAligned, IsBlock, IsFromStart, IsLayout, KeepsDesk, Layout, LiesBehind, Life, RecorderSession, Refusal, Registration, Reply, Stands, StandsBehind, Written, block_checks, change, checks, covered, each_found, end_position, file_of, find, first_checks, found_number, frames_of, geometry_of, held, id_of, is_of, last_checks, last_of, layout_of, passes, publication_of, reads, recording_at, registration_in, session_in, session_number, with_block, write_decision, write_tests, written_to}
use Rattle.frame_core.specs.declared.block.Publication.{Publication}
use Rattle.frame_core.specs.declared.refusal.Refusal.TheVariants.{ActiveReplay, BadBlock, BadExtension, Broken, HistoryFull, MaxRecordings, MaxReplays, NeedCompact, NeedSettle, StaleSession}
use Rattle.frame_core.specs.Block.{AreBlockOf, block_ids}
use Rattle.segment_store.proofs.StoredLemmas.{run_covers}
use Rattle.archive_model.specs.declared.reply.Reply.TheVariants.{Written as WrittenReply}
use Rattle.archive_model.specs.Keyed.{Rise}
use Rattle.archive_model.specs.Register as register
use Rattle.archive_model.proofs.StreamLemmas.{ends_in_stream}
use Rattle.control_core.specs.declared.turns.FoundWriting.{FoundWriting}
use Rattle.record_core.specs.Writing.{needs_settle}
use Rattle.control_core.specs.Exact.{span_of}
use Rattle.control_core.specs.Orderly.{stream_end}
use Rattle.control_core.specs.Seats.{AreApart}
use Rattle.control_core.specs.Turns.{AllowsWriting, IsOfSession, continues, is_waiting, part_of}
use Rattle.control_core.proofs.AllowedLemmas.{both, passes_at}
use Rattle.control_core.proofs.WriteLemmas.{span_ends}
use Rattle.engine_core.proofs.calls.Targets.{HasNoTarget, IsTarget}
use Rattle.engine_core.proofs.files.FrameLemmas.{apart}
use Rattle.engine_core.proofs.files.BlockLemmas.{block_aligned, block_some}
use Rattle.engine_core.proofs.calls.KnownLemmas.{begins_behind, block_behind, block_from_start, laid_found, layout_laid, written_behind}
use Rattle.engine_core.proofs.calls.SettleCallLemmas.{not_so}
use Rattle.engine_core.proofs.calls.StandLemmas.{frames_behind}

-- ---- where a block is written

-- a block that may be written has a target
pub target_is : (d : DeskState) (n : ℤ) (block : Block) (found : FoundWriting) (layout : Layout) → AllowsWriting d n block found → KeepsDesk d.register d.callers → layout ≡ layout_of found.writer.known.now.descriptor
    → IsTarget d n block layout (end_position block)
target_is d n block found layout allows keeps is = record {
  session = found.writer.found.session;
  registration = found.writer.known.now;
  found = allows.writer.found.session;
  known = allows.writer.known;
  is_block = allows.is_block;
  layout_is = is;
  end_is = refl;
  keeps = keeps;
}

-- one that is of its session's recording, too
pub of_session : (d : DeskState) (n : ℤ) (block : Block) → KeepsDesk d.register d.callers → IsOfSession d (session_in d n) block → (layout : Layout) × IsTarget d n block layout (end_position block)
of_session d n block keeps of = by (session_in d n) refl of
  where
    known : (s : RecorderSession) (o : Option Registration) → session_in d n ≡ Some s → registration_in d.register s.recording ≡ o → IsSomeAnd o (λ r. IsBlock (geometry_of r.descriptor) (publication_of r.descriptor) block)
        → (layout : Layout) × IsTarget d n block layout (end_position block)
    known s None found there of = absurd of
    known s (Some r) found there of = (layout_of r.descriptor, record { session = s; registration = r; found = found; known = there; is_block = of; layout_is = refl; end_is = refl; keeps = keeps })

    by : (o : Option RecorderSession) → session_in d n ≡ o → IsOfSession d o block → (layout : Layout) × IsTarget d n block layout (end_position block)
    by None found of = absurd of
    by (Some s) found of = known s (registration_in d.register s.recording) found refl of

-- and one that is not has none
pub untargeted : (d : DeskState) (n : ℤ) (block : Block) → (IsOfSession d (session_in d n) block → ⊥) → HasNoTarget d n block
untargeted d n block none s r session known is =
    none (subst (λ (o : Option RecorderSession). IsOfSession d o block) (sym session)
    (subst (λ (o : Option Registration). IsSomeAnd o (λ x. IsBlock (geometry_of x.descriptor) (publication_of x.descriptor) block)) (sym known) is))

-- ---- what is let through

-- a block that is let through goes on where its session writes, which has not to settle first, and no write has failed
pub record Lets (d : DeskState) (s : RecorderSession) (w : Written) : Type 0 where
  pub works : d.is_broken ≡ false
  pub goes_on : continues d (Some s) w ≡ true
  pub soon : is_waiting d (Some s) ≡ false

pub lets : (d : DeskState) (n : ℤ) (w : Written) (s : RecorderSession) (reply : Reply)
    → session_in d n ≡ Some s → write_decision d n w true ≡ Ok reply → Lets d s w
lets d n w s reply found is =
    let all : passes (write_tests d n w true) checks ≡ true = (held (write_tests d n w true) checks (WrittenReply w.last) reply is).0 in
    let soon : not (is_waiting d (session_in d n)) ≡ true = passes_at (write_tests d n w true) (first_checks ++ block_checks) (ActiveReplay ∷ MaxRecordings ∷ MaxReplays ∷ NeedCompact ∷ HistoryFull ∷ []) NeedSettle all in
    record {
      works = not_so d.is_broken (both (not d.is_broken) _ all).0;
      goes_on = subst (λ (o : Option RecorderSession). continues d o w ≡ true) found (passes_at (write_tests d n w true) (first_checks ++ BadExtension ∷ []) last_checks BadBlock all);
      soon = not_so (is_waiting d (Some s)) (subst (λ (o : Option RecorderSession). not (is_waiting d o) ≡ true) found soon);
    }

-- so it lies in the segment where what is recorded ends
pub same_segment : (d : DeskState) (s : RecorderSession) (r : Registration)
    → registration_in d.register s.recording ≡ Some r → is_waiting d (Some s) ≡ false
    → register.base_of r.descriptor (unsigned_abs (written_to s.written r.recorded)) ≡ register.base_of r.descriptor (unsigned_abs r.recorded)
same_segment d s r there soon =
    let test : not (register.base_of r.descriptor (unsigned_abs r.recorded) == register.base_of r.descriptor (unsigned_abs (written_to s.written r.recorded))) ≡ false =
    subst (λ (o : Option Registration). is_of o (λ known. needs_settle known.descriptor (part_of known s)) ≡ false) there soon in
    sym (grind (arith, nat_tests, test))

-- a block that is of no session's recording is refused, wherever it lies
pub is_refused : (d : DeskState) (n : ℤ) (v w : Written) → (refusal : Refusal) × (write_decision d n v false ≡ Err refusal) × (write_decision d n w false ≡ Err refusal)
is_refused d n v w = by d.is_broken (is_some (session_in d n)) refl refl
  where
    by : (b there : Bool) → d.is_broken ≡ b → is_some (session_in d n) ≡ there → (refusal : Refusal) × (write_decision d n v false ≡ Err refusal) × (write_decision d n w false ≡ Err refusal)
    by true there e f = (Broken, cc, cc)
    by false false e f = (StaleSession, cc, cc)
    by false true e f = (BadBlock, cc, cc)

-- ---- what the files and the desk are asked

-- a block ends in its stream
block_ends : (g : Geometry) (p : Publication) (frames : List Frame) (position : ℤ) → AreBlockOf g p frames position → (position +ℤ pos (covered frames)) ≤ℤ pos (2 ^ 31 * unsigned_abs g.term_length)
block_ends g p [] position is = absurd is
block_ends g p (f ∷ fs) position (at, encodable, inl pad) =
    let alone : covered fs ≡ 0 = ap covered pad.alone in
    ends_in_stream g f.term_id f.term_offset position (covered (f ∷ fs)) at (omega (arith, ints, pad.inside, alone))
block_ends g p (f ∷ fs) position (at, encodable, inr run) =
    let covers = run_covers (block_ids g p f) run.offset run.end (f ∷ fs) run.ends in
    let end : run.end ≡ run.offset + covered (f ∷ fs) = covers.0 in
    ends_in_stream g f.term_id f.term_offset position (covered (f ∷ fs)) at (omega (arith, ints, run.begins, end, run.inside))

abbrev pub span_to : Block → ℤ → Written
span_to block end = record { first = block.position; last = end }

module _ (d : DeskState) (n : ℤ) (block : Block) (layout : Layout) (end : ℤ) (at : IsTarget d n block layout end) where
  pub target_layout : IsLayout layout
  target_layout = subst IsLayout (sym at.layout_is) (layout_laid at.registration (laid_found d at.session.recording at.registration at.keeps (sym at.known)).laid_out)

  -- its end
  ends_inside : end_position block ≤ℤ stream_end at.registration
  ends_inside = block_ends (geometry_of at.registration.descriptor) (publication_of at.registration.descriptor) block.frames block.position at.is_block

  pub span_is : span_of block ≡ span_to block end
  span_is =
      let laid = laid_found d at.session.recording at.registration at.keeps (sym at.known) in
      ap (λ (z : ℤ). span_to block z) (span_ends block at.registration.descriptor.term_length laid.laid_out.layout.term ends_inside ∙ sym at.end_is)

  module _ (reply : Reply) (is : Ok reply ≡ write_decision d n (span_to block end) true) where
    pub let_through : Lets d at.session (span_to block end)
    let_through = lets d n (span_to block end) at.session reply at.found (sym is)

    pub from_start : IsFromStart layout block.position
    from_start = subst (λ (l : Layout). IsFromStart l block.position) (sym at.layout_is) (block_from_start d n at.session at.registration (span_to block end) at.keeps at.found at.known let_through.goes_on)

    pub behind_recorded : at.registration.recorded ≤ℤ block.position
    behind_recorded = block_behind d n at.session at.registration (span_to block end) at.keeps at.found at.known let_through.goes_on

    lies : (o : Option Written) → at.session.written ≡ o
        → LiesBehind (with_block (span_to block end) o) at.registration
    lies o has =
        let behind : at.registration.recorded ≤ℤ block.position = behind_recorded in
        let ends = ends_inside in
        let last = at.end_is in
        let geometry = geometry_of at.registration.descriptor in
        let publication = publication_of at.registration.descriptor in
        let some = block_some geometry publication block.frames block.position at.is_block in
        let term = (laid_found d at.session.recording at.registration at.keeps (sym at.known)).laid_out.layout.term in
        let aligned : IsAligned end = subst IsAligned (sym at.end_is) (block_aligned geometry publication block.frames block.position term at.is_block) in
        by o has behind (omega (arith, ints, last, some)) (omega (arith, ints, last, ends)) aligned
      where
        by : (o : Option Written) → at.session.written ≡ o → at.registration.recorded ≤ℤ block.position → block.position <ℤ end → end ≤ℤ stream_end at.registration → IsAligned end
            → LiesBehind (with_block (span_to block end) o) at.registration
        by None has behind forward inside aligned = record { behind = behind; forward = forward; in_stream = inside; aligned = aligned }
        by (Some v) has behind forward inside aligned =
            let was = written_behind d n at.session at.registration v at.keeps at.found at.known has in
            let here : block.position ≡ v.last = begins_behind d at.session at.registration (Some v) (span_to block end) at.known has let_through.goes_on in
            record { behind = was.behind; forward = omega (arith, ints, was.forward, here, forward); in_stream = inside; aligned = aligned }

    pub lies_behind : IsSomeAnd (session_in d n) (λ s. IsSomeAnd (registration_in d.register s.recording) (LiesBehind (with_block (span_to block end) s.written)))
    lies_behind =
        subst (λ (o : Option RecorderSession). IsSomeAnd o (λ s. IsSomeAnd (registration_in d.register s.recording) (LiesBehind (with_block (span_to block end) s.written)))) (sym at.found)
        (subst (λ (o : Option Registration). IsSomeAnd o (LiesBehind (with_block (span_to block end) at.session.written))) (sym at.known) (lies at.session.written refl))

-- ---- the other sessions

-- another session, which writes another recording
abbrev pub Other : RecorderSession → RecorderSession → Type 0
Other s x = (x.number ≢ s.number) × (x.recording ≢ s.recording)

module _ (P Q : RecorderSession → Type 0) (f : RecorderSession → RecorderSession) (n next : ℤ) (s : RecorderSession) (others : (x : RecorderSession) → Other s x → P x → Q x) where
  rest : (low : ℤ) (xs : List RecorderSession) → s.number <ℤ low → Rise session_number low xs next
      → Each (λ x. x.recording ≢ s.recording) xs → Each P xs → Each Q xs
  rest low [] less rising away all = tt
  rest low (x ∷ xs) less rising away all =
      let other : x.number ≢ s.number = λ same. omega (arith, ints, less, rising.0, same) in
      (others x (other, away.0) all.0, rest (x.number +ℤ pos 1) xs (omega (arith, ints, less, rising.0)) rising.1 away.1 all.1)

  -- what holds of the others, and of the session of a number, changed or not, holds of each
  pub each_other : (low : ℤ) (xs : List RecorderSession) → s.number ≡ n → Rise session_number low xs next → AreApart xs → find session_number n xs ≡ Some s → Each P xs
      → (Q (f s) → Each Q (change session_number n f xs)) × (Q s → Each Q xs)
  each_other low [] is rising away found all = absurd cc
  each_other low (x ∷ xs) is rising away found all =
      by (int_eq n x.number) refl found (λ there. each_other (x.number +ℤ pos 1) xs is rising.1 away.1 there all.1)
    where
      by : (b : Bool) → int_eq n x.number ≡ b → cond b (Some x) (find session_number n xs) ≡ Some s
          → (find session_number n xs ≡ Some s → (Q (f s) → Each Q (change session_number n f xs)) × (Q s → Each Q xs))
          → (Q (f s) → Each Q (cond b (f x ∷ xs) (x ∷ change session_number n f xs))) × (Q s → Each Q (x ∷ xs))
      by true e there later =
          let same : x ≡ s = cc in
          let less : s.number <ℤ (x.number +ℤ pos 1) = subst (λ (y : RecorderSession). y.number <ℤ (x.number +ℤ pos 1)) same (omega (arith, ints)) in
          let tail = rest (x.number +ℤ pos 1) xs less rising.1 (subst (λ (y : RecorderSession). Each (λ z. z.recording ≢ y.recording) xs) same away.0) all.1 in
          ((λ this. (subst (λ (y : RecorderSession). Q (f y)) (sym same) this, tail)), (λ this. (subst Q (sym same) this, tail)))
      by false e there later =
          let other : x.number ≢ s.number = λ same. true≢false (sym ((Decides-int_eq n x.number).1 (sym is ∙ sym same)) ∙ e) in
          let recording : s.recording ≢ x.recording = each_found session_number (λ z. z.recording ≢ x.recording) n xs s away.0 there in
          let here = others x (other, λ same. recording (sym same)) all.0 in
          let behind = later there in
          ((λ this. (here, behind.0 this)), (λ this. (here, behind.1 this)))

-- what another session wrote stands on where a file of a recording has changed
pub stands_beside : (old new : Life) (a b : Archive) (x : RecorderSession) (layout : Layout) (position : ℕ) → ChangesFile (file_of layout position) old new → x.recording ≢ layout.recording → b.state ≡ a.state → b.blocks x.number ≡ a.blocks x.number
    → StandsBehind (reads old.now) a x → StandsBehind (reads new.now) b x
stands_beside old new a b x layout position changes other state blocks stands r there =
    let found : recording_at a x.recording ≡ Some r = ap (λ s. find id_of x.recording s.recordings) (sym state) ∙ there in
    let was = stands r found in
    let l : Layout = layout_of r.descriptor in
    let differs : id_of r ≢ layout.recording = λ same. other (sym (found_number id_of x.recording a.state.recordings r found) ∙ same) in
    let here : Stands (reads new.now) (file_of l (last_of r)) r (frames_of (a.blocks x.number)) = record {
      holds = frames_behind (reads old.now) (reads new.now) l (frames_of (a.blocks x.number)) 0 (last_of r) (last_of r + covered (frames_of (a.blocks x.number))) (omega (arith))
          (λ p from. ap (λ (f : FileState). f.reads) (changes.others (file_of l p) (apart r layout p position differs))) was.holds;
      lie = was.lie;
    } in
    subst (λ (bs : List Block). Stands (reads new.now) (file_of l (last_of r)) r (frames_of bs)) (sym blocks) here
