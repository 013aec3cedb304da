-- An archive that is consistent still is after a block is written.
use Rattle.std.proofs.Common.{rules, arith, ◌≡◌, ◌≢◌, ◌+◌, ◌*◌, ◌^◌, ◌≤◌, ◌≤ℤ◌, int_le, unsigned_abs, ◌+ℤ◌, ◌&&◌, not, ℤ, pos, Bool, true, false, List, [], ◌∷◌, ◌++◌, append-nil, Option, Some, None, Ok, refl, sym, ap, subst, ◌∙◌, true≢false}
use Rattle.std.specs.Prelude.{IsSomeAnd, MatchBool, is_some, option_map}
use Rattle.std.specs.Ordering.{int_eq}
use Rattle.std.proofs.lemmas.Bool.Decides.{Decides-int_eq}
use Rattle.std.proofs.lemmas.Int.{ints}
use Rattle.std.proofs.Math.Pow.{pow_mono}
use Rattle.frame_core.specs.declared.block.Block.{Block}
use Rattle.frame_core.specs.declared.block.Publication.{Publication}
use Rattle.frame_core.specs.declared.geometry.Geometry.{Geometry}
use Rattle.frame_core.specs.Block.{IsBlock, covered, end_position}
use Rattle.frame_core.specs.Limits.{is_term_length}
use Rattle.frame_core.proofs.LimitsLemmas.{is_power}
use Rattle.archive_model.specs.declared.registration.Registration.{Registration}
use Rattle.archive_model.specs.declared.reply.Reply.{Reply}
use Rattle.archive_model.specs.Keyed.{find}
use Rattle.archive_model.specs.Register.{RegisterState, registration_in}
use Rattle.archive_model.specs.State.{Recording, geometry_of, id_of, publication_of, recorded_position, registration_of}
use Rattle.archive_model.specs.WellFormed.{IsKept}
use Rattle.archive_model.specs.Acceptance.{AreBlocksFrom, Continue}
use Rattle.archive_model.specs.Checks.{checks}
use Rattle.archive_model.specs.Commands.{frames_of, recorded_in}
use Rattle.archive_model.proofs.HistoriesLemmas.{blocks_contiguous, covered-append}
use Rattle.archive_model.proofs.StateLemmas.{each_found, found_registration}
use Rattle.archive_model.proofs.StreamLemmas.{frames_in_stream}
use Rattle.archive_model.proofs.WellLemmas.{both}
use Rattle.control_core.specs.declared.callers.RecorderSession.{RecorderSession}
use Rattle.control_core.specs.declared.callers.Written.{Written}
use Rattle.control_core.specs.Callers.{last_number, session_number, with_written, written_to}
use Rattle.control_core.specs.Changes.{next_position, recorded_of, with_block, written_of}
use Rattle.control_core.specs.Turns.{continues, is_waiting, session_in, write_decision, write_tests}
use Rattle.control_core.specs.Agreement.{Agrees}
use Rattle.control_core.specs.Exact.{Archive, IsBlockOf, recording_at, span_of, with_session_blocks, written}
use Rattle.control_core.specs.Consistent.{HasBlocks, IsConsistent, StaysConsistent, Wrote}
use Rattle.control_core.proofs.DecidedLemmas.{found_number, held}
use Rattle.control_core.proofs.DeskLemmas.{keeps_written, not_same}
use Rattle.control_core.proofs.StayLemmas.{blocks_stay, each_changed, none_before, same_recording}

-- a block that may be written: where what its session wrote ends
pub record MayWrite (a : Archive) (session : ℤ) (block : Block) : Type 0 where
  pub writer : RecorderSession
  pub found : session_in a.desk session ≡ Some writer
  pub recording : Recording
  pub there : recording_at a writer.recording ≡ Some recording
  pub is_block : IsBlock (geometry_of recording.descriptor) (publication_of recording.descriptor) block
  pub position : block.position ≡ written_to writer.written (recorded_position recording)

recorded_at : (a : Archive) (s : RecorderSession) (r : Recording) → Agrees a.desk a.state → recording_at a s.recording ≡ Some r → next_position a.desk s ≡ written_to s.written (recorded_position r)
recorded_at a s r agree there =
    let known : registration_in a.desk.register s.recording ≡ Some (registration_of r) =
    ap (λ (g : RegisterState). registration_in g s.recording) agree ∙ found_registration s.recording a.state.recordings ∙ ap (option_map registration_of) there in
    ap (λ (o : Option Registration). written_to s.written (recorded_of o)) known

may_write : (a : Archive) (session : ℤ) (block : Block) (found : Option RecorderSession) → IsConsistent a → session_in a.desk session ≡ found → continues a.desk found (span_of block) ≡ true → IsBlockOf a found block → MayWrite a session block
may_write a session block None consistent is at of = absurd of
may_write a session block (Some s) consistent is at of = by (recording_at a s.recording) refl of
  where
    by : (o : Option Recording) → recording_at a s.recording ≡ o → IsSomeAnd o (λ r. IsBlock (geometry_of r.descriptor) (publication_of r.descriptor) block) → MayWrite a session block
    by None e h = absurd h
    by (Some r) e h = record {
      writer = s;
      found = is;
      recording = r;
      there = e;
      is_block = h;
      position = (Decides-int_eq block.position (next_position a.desk s)).0 at ∙ recorded_at a s r consistent.agrees e;
    }

pub write_allowed : (a : Archive) (session : ℤ) (block : Block) (fits : Bool) (reply : Reply) → IsConsistent a → MatchBool fits (IsBlockOf a (session_in a.desk session) block) (IsBlockOf a (session_in a.desk session) block → ⊥)
    → write_decision a.desk session (span_of block) fits ≡ Ok reply → MayWrite a session block
write_allowed a session block fits reply consistent says e =
    let found = session_in a.desk session in
    let is = held (write_tests a.desk session (span_of block) fits) checks _ reply e in
    let placed_well : Bool = fits && continues a.desk found (span_of block) in
    let soon : Bool = not (is_waiting a.desk found) in
    let whole : (not a.desk.is_broken ≡ true) × ((is_some found && (placed_well && (soon && true))) ≡ true) = both is.0 in
    let there : (is_some found ≡ true) × ((placed_well && (soon && true)) ≡ true) = both whole.1 in
    let goes_on : (placed_well ≡ true) × ((soon && true) ≡ true) = both there.1 in
    let parts : (fits ≡ true) × (continues a.desk found (span_of block) ≡ true) = both goes_on.0 in
    let of : IsBlockOf a found block = subst (λ (t : Bool). MatchBool t (IsBlockOf a found block) (IsBlockOf a found block → ⊥)) parts.0 says in
    may_write a session block found consistent refl parts.1 of

pub this_session : (session : ℤ) (bs : List Block) (all : ℤ → List Block) (n : ℤ) → n ≡ session → with_session_blocks session bs all n ≡ bs
this_session session bs all n is = let same : int_eq n session ≡ true = (Decides-int_eq n session).1 is in rw same refl

pub other_blocks : (session : ℤ) (bs : List Block) (all : ℤ → List Block) (n : ℤ) → int_eq session n ≡ false → with_session_blocks session bs all n ≡ all n
other_blocks session bs all n other =
    let differs : n ≢ session = λ same. true≢false (sym ((Decides-int_eq session n).1 (sym same)) ∙ other) in
    let apart = not_same n session differs in rw apart refl

pub none_beside : (session : ℤ) (bs : List Block) (all : ℤ → List Block) (n : ℤ) (ss : List RecorderSession) (s : RecorderSession) → find session_number session ss ≡ Some s → find session_number n ss ≡ None → with_session_blocks session bs all n ≡ all n
none_beside session bs all n ss s found none = other_blocks session bs all n (by (int_eq session n) refl)
  where
    by : (b : Bool) → int_eq session n ≡ b → b ≡ false
    by true is =
        let same : session ≡ n = (Decides-int_eq session n).0 is in
        let clash : Some s ≡ None = sym found ∙ ap (λ (z : ℤ). find session_number z ss) same ∙ none in absurd cc
    by false is = refl

-- blocks that go on from a position, and one that begins where they end
blocks_more : (g : Geometry) (publication : Publication) (at : ℤ) (bs : List Block) (block : Block) → IsBlock g publication block → block.position ≡ at +ℤ pos (covered (frames_of bs)) → AreBlocksFrom g publication at bs → AreBlocksFrom g publication at (bs ++ block ∷ [])
blocks_more g publication at [] block is sum all = (is, (let same = sum in omega (arith, ints, same)), tt)
blocks_more g publication at (b ∷ bs) block is sum (first, here, rest) =
    let parts = covered-append b.frames (frames_of bs) in
    (first, here, blocks_more g publication (end_position b) bs block is (omega (arith, ints, sum, here, parts)) rest)

-- where what a session wrote ends
pub written_end : (a : Archive) (s : RecorderSession) (r : Recording) (o : Option Written) → recording_at a s.recording ≡ Some r → HasBlocks a s o → written_to o (recorded_position r) ≡ recorded_position r +ℤ pos (covered (frames_of (a.blocks s.number)))
written_end a s r None there has =
    let none : covered (frames_of (a.blocks s.number)) ≡ 0 = ap (λ (bs : List Block). covered (frames_of bs)) has in omega (arith, ints, none)
written_end a s r (Some w) there has = has.last ∙ ap (λ (o : Option Recording). recorded_in o +ℤ pos (covered (frames_of (a.blocks s.number)))) there

pub blocks_follow : (a : Archive) (s : RecorderSession) (r : Recording) (o : Option Written) → recording_at a s.recording ≡ Some r → HasBlocks a s o → AreBlocksFrom (geometry_of r.descriptor) (publication_of r.descriptor) (recorded_position r) (a.blocks s.number)
blocks_follow a s r None there has = subst (AreBlocksFrom (geometry_of r.descriptor) (publication_of r.descriptor) (recorded_position r)) (sym has) tt
blocks_follow a s r (Some w) there has = (subst (λ (o : Option Recording). IsSomeAnd o (λ x. Continue x (a.blocks s.number))) there has.follow).1

-- where what it wrote begins, with one block more
written_start : (a : Archive) (s : RecorderSession) (r : Recording) (o : Option Written) (block : Block) → recording_at a s.recording ≡ Some r → HasBlocks a s o → block.position ≡ written_to o (recorded_position r) → (with_block (span_of block) o).first ≡ recorded_position r
written_start a s r None block there has at = at
written_start a s r (Some w) block there has at = has.first ∙ ap recorded_in there

last_of_block : (o : Option Written) (w : Written) → (with_block w o).last ≡ w.last
last_of_block None w = refl
last_of_block (Some v) w = refl

not_none : (bs : List Block) (block : Block) → (bs ++ block ∷ []) ≢ []
not_none [] block e = cc
not_none (b ∷ bs) block e = cc

frames_more : (bs : List Block) (block : Block) → covered (frames_of (bs ++ block ∷ [])) ≡ covered (frames_of bs) + covered block.frames
frames_more [] block = let one : covered (frames_of (block ∷ [])) ≡ covered block.frames = ap covered (append-nil block.frames) in omega (arith, one)
frames_more (b ∷ bs) block =
    let whole = covered-append b.frames (frames_of (bs ++ block ∷ [])) in
    let parts = covered-append b.frames (frames_of bs) in
    let rest = frames_more bs block in omega (arith, whole, parts, rest)

-- a block that ends in its stream ends where it lies to
pub span_ends : (block : Block) (term : ℤ) → is_term_length term ≡ true → end_position block ≤ℤ pos (2 ^ 31 * unsigned_abs term) → (span_of block).last ≡ end_position block
span_ends block term is inside =
    let power = is_power term is in
    let most : 2 ^ power.0 ≤ 2 ^ 30 = pow_mono power.2 in
    let whole : unsigned_abs term ≡ 2 ^ power.0 = ap unsigned_abs power.3 in
    let low : end_position block ≤ℤ last_number = omega (arith, ints, inside, whole, most) in
    let test : int_le (end_position block) last_number ≡ true = search (rules, low) in
    rw test refl

-- what a session has written, with a block more
abbrev wrote_with : Archive → ℤ → Block → Written
wrote_with a session block = with_block (span_of block) (written_of (session_in a.desk session))

wrote_block : (a : Archive) (session : ℤ) (block : Block) (may : MayWrite a session block) → IsConsistent a → Wrote (written a session block) (with_written (Some (wrote_with a session block)) may.writer) (wrote_with a session block)
wrote_block a session block may consistent =
    let s = may.writer in
    let r = may.recording in
    let b = written a session block in
    let w : Written = with_block (span_of block) s.written in
    let same_span : w ≡ wrote_with a session block = ap (λ (o : Option RecorderSession). with_block (span_of block) (written_of o)) (sym may.found) in
    let number : s.number ≡ session = found_number session a.desk.callers.sessions s may.found in
    let has : HasBlocks a s s.written = each_found session_number (λ x. HasBlocks a x x.written) session a.desk.callers.sessions s consistent.blocks may.found in
    let more : b.blocks s.number ≡ a.blocks s.number ++ block ∷ [] = this_session session (a.blocks session ++ block ∷ []) a.blocks s.number number ∙ ap (λ (n : ℤ). a.blocks n ++ block ∷ []) (sym number) in
    let ends : block.position ≡ recorded_position r +ℤ pos (covered (frames_of (a.blocks s.number))) = may.position ∙ written_end a s r s.written may.there has in
    let next : Continue r (a.blocks s.number ++ block ∷ []) =
    (not_none (a.blocks s.number) block, blocks_more (geometry_of r.descriptor) (publication_of r.descriptor) (recorded_position r) (a.blocks s.number) block may.is_block ends (blocks_follow a s r s.written may.there has)) in
    let start : w.first ≡ recorded_position r = written_start a s r s.written block may.there has may.position in
    let frames = frames_more (a.blocks s.number) block in
    let kept : IsKept r = each_found id_of IsKept s.recording a.state.recordings r consistent.well.kept may.there in
    let g = geometry_of r.descriptor in
    let recorded : recorded_position r ≤ℤ pos (2 ^ 31 * unsigned_abs r.descriptor.term_length) = frames_in_stream g r.descriptor.start_position r.frames kept.contiguous kept.in_stream in
    let inside = frames_in_stream g (recorded_position r) (frames_of (a.blocks s.number ++ block ∷ [])) (blocks_contiguous g (publication_of r.descriptor) (recorded_position r) (a.blocks s.number ++ block ∷ []) next.1) recorded in
    let here : (span_of block).last ≡ end_position block = span_ends block r.descriptor.term_length kept.term (omega (arith, ints, inside, ends, frames)) in
    let last : w.last ≡ recorded_position r +ℤ pos (covered (frames_of (a.blocks s.number ++ block ∷ []))) = last_of_block s.written (span_of block) ∙ here ∙ (omega (arith, ints, ends, frames)) in
    subst (λ (v : Written). Wrote b (with_written (Some v) s) v) same_span (record {
      follow = subst (λ (o : Option Recording). IsSomeAnd o (λ x. Continue x (b.blocks s.number))) (sym may.there) (subst (Continue r) (sym more) next);
      first = subst (λ (o : Option Recording). w.first ≡ recorded_in o) (sym may.there) start;
      last = subst (λ (o : Option Recording). w.last ≡ recorded_in o +ℤ pos (covered (frames_of (b.blocks s.number)))) (sym may.there)
          (subst (λ (bs : List Block). w.last ≡ recorded_position r +ℤ pos (covered (frames_of bs))) (sym more) last);
    })

pub wrote : (a : Archive) (session : ℤ) (block : Block) → IsConsistent a → MayWrite a session block → StaysConsistent a (written a session block)
wrote a session block consistent may =
    let b = written a session block in
    let w = wrote_with a session block in
    let ss = a.desk.callers.sessions in
    let kept : IsConsistent b = record {
      agrees = consistent.agrees;
      well = consistent.well;
      seats = keeps_written a.desk.register a.desk.callers session (Some w) consistent.seats;
      blocks = each_changed session_number (λ s. HasBlocks a s s.written) (λ s. HasBlocks b s s.written) session (pos 0) a.desk.callers.next_session (with_written (Some w)) ss consistent.seats.sessions.rising
          (λ x found has.
          let same : may.writer ≡ x = (let one : Some may.writer ≡ Some x = sym may.found ∙ found in cc) in
          subst (λ (y : RecorderSession). Wrote b (with_written (Some w) y) w) same (wrote_block a session block may consistent))
          (λ x other has. blocks_stay a b x x.written (other_blocks session (a.blocks session ++ block ∷ []) a.blocks x.number other) (λ r found. same_recording a b x r found) has) consistent.blocks;
      unwritten = λ n none.
          let before : session_in a.desk n ≡ None = none_before session_number n session (with_written (Some w)) ss (λ x. refl) none in
          none_beside session (a.blocks session ++ block ∷ []) a.blocks n ss may.writer may.found before ∙ consistent.unwritten n before;
      broken = consistent.broken;
    } in
    record { consistent = kept; boundaries = λ at_all. at_all }
