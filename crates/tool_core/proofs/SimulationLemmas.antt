-- What one answerer answers another does too, where each of its calls does.
use Rattle.std.proofs.Common.{◌≡◌, ◌∙◌, ℕ, ℤ, Bool, List, [], ◌∷◌, take, drop, Option, Result, Ok, Err, refl, sym, subst, inl, inr}
use Rattle.frame_core.specs.declared.block.Block.{Block}
use Rattle.frame_core.specs.declared.geometry.Geometry.{Geometry}
use Rattle.frame_core.specs.declared.refusal.Refusal.{Refusal}
use Rattle.frame_core.specs.declared.refusal.Refusal.TheVariants.{BadLine}
use Rattle.archive_model.specs.declared.reply.Reply.{Reply}
use Rattle.archive_model.specs.declared.reply.Reply.TheVariants.{Bye}
use Rattle.merge_core.specs.Merge.{Merging}
use Rattle.control_core.specs.declared.event.Event.{Event}
use Rattle.control_core.specs.declared.event.Event.TheVariants as events
use Rattle.control_lines.specs.declared.line.Line.{Line}
use Rattle.control_lines.specs.declared.line.Line.TheVariants as lines
use Rattle.tool_core.specs.declared.state.ScriptState.{ScriptState}
use Rattle.tool_core.specs.InputLines.{kept}
use Rattle.tool_core.specs.Transcript.{AnswersAll, AnswersSome, LeftNear, Transcript, until_quit}
use Rattle.tool_core.specs.Merging.{MergeEnds}
use Rattle.tool_core.specs.Answering.{AnswersFirstLines, AnswersLines, Checkpointing, IsAnswer, LineIs, Prepares, ReadLineIs, Records, Replies, ThenSettles, Ways, WritesBytes, WritesRead, asked, asked_copies, quits}

-- ---- steps

module _ {S T : Type 0} (Good : S → Type 0) (Rel : S → T → Type 0) where
  -- What leads to a good value began at a good one; and from what belongs to that the other way leads to what belongs to its end.
  abbrev pub Follows : (S → S → Type 0) → (T → T → Type 0) → Type 0
  Follows P Q = (old new : S) → P old new → Good new → Good old × ((x : T) → Rel old x → (y : T) × Rel new y × Q x y)

  -- nothing has changed
  pub stays : (Q : T → T → Type 0) → ((x : T) → Q x x) → Follows (λ old new. new ≡ old) Q
  stays Q same old new is good = (subst Good is good, λ x rel. (x, subst (λ (s : S). Rel s x) (sym is) rel, same x))

-- ---- lines one after another

module _ {S T : Type 0} (Good : S → Type 0) (Rel : S → T → Type 0) (A : S → Option (List ℕ) → List ℕ → S → Type 0) (B : T → Option (List ℕ) → List ℕ → T → Type 0)
    (step : (line : Option (List ℕ)) (reply : List ℕ) → Follows Good Rel (λ s t. A s line reply t) (λ x y. B x line reply y)) where
  transcript_as : (lines : List (List ℕ)) (text : List ℕ) → Follows Good Rel (λ s t. Transcript A s lines text t) (λ x y. Transcript B x lines text y)
  transcript_as [] text old new (none, is) good = (subst Good is good, λ x rel. (x, subst (λ (s : S). Rel s x) (sym is) rel, (none, refl)))
  transcript_as (line ∷ lines) text old new (reply, mid, rest, answers, is, more) good =
      let later = transcript_as lines rest mid new more good in
      let first = step (kept line) reply old mid answers later.0 in
      (first.0, λ x rel. let m = first.1 x rel in let e = later.1 m.0 m.1 in (e.0, e.1, (reply, m.0, rest, m.2, is, e.2)))

  all_as : (ends : Option (List ℕ) → Bool) (lines : List (List ℕ)) (text : List ℕ) → Follows Good Rel (λ s t. AnswersAll s (λ u. u ≡ t) ends A lines text) (λ x y. AnswersAll x (λ u. u ≡ y) ends B lines text)
  all_as ends lines text old new (state, answers, same) good =
      let done = transcript_as (until_quit ends lines) text old new (subst (λ (u : S). Transcript A old (until_quit ends lines) text u) same answers) good in
      (done.0, λ x rel. let e = done.1 x rel in (e.0, e.1, (e.0, e.2, refl)))

  near_as : (start : S) (ends : Option (List ℕ) → Bool) (lines : List (List ℕ)) (old new : S) → LeftNear start (λ u. u ≡ new) ends A old lines → Good new
      → Good old × ((first x : T) → Rel old x → (y : T) × Rel new y × LeftNear first (λ u. u ≡ y) ends B x lines)
  near_as start ends [] old new same good = (subst Good (sym same) good, λ first x rel. (x, subst (λ (s : S). Rel s x) same rel, refl))
  near_as start ends (line ∷ lines) old new (inl same) good = (subst Good (sym same) good, λ first x rel. (x, subst (λ (s : S). Rel s x) same rel, inl refl))
  near_as start ends (line ∷ lines) old new (inr (reply, next, answers, same)) good =
      let done = step (kept line) reply old next answers (subst Good (sym same) good) in
      (done.0, λ first x rel. let e = done.1 x rel in (e.0, subst (λ (s : S). Rel s e.0) same e.1, inr (reply, e.0, e.2, refl)))

  some_as : (ends : Option (List ℕ) → Bool) (lines : List (List ℕ)) (text : List ℕ) → Follows Good Rel (λ s t. AnswersSome s (λ u. u ≡ t) ends A lines text) (λ x y. AnswersSome x (λ u. u ≡ y) ends B lines text)
  some_as ends lines text old new (n, state, answers, near) good =
      let later = near_as old ends (drop n (until_quit ends lines)) state new near good in
      let first = transcript_as (take n (until_quit ends lines)) text old state answers later.0 in
      (first.0, λ x rel. let m = first.1 x rel in let e = later.1 x m.0 m.1 in (e.0, e.1, (n, m.0, m.2, e.2)))

-- ---- two answerers

-- what is so of their archives is so of scripts, with one merge
abbrev pub GoodState : {A : Type 0} → (A → Type 0) → ScriptState A → Type 0
GoodState Good s = Good s.archive

abbrev pub RelState : {A B : Type 0} → (A → B → Type 0) → ScriptState A → ScriptState B → Type 0
RelState Rel s x = Rel s.archive x.archive × (x.merge ≡ s.merge)

abbrev pub OfStates : {A B : Type 0} → (A → Type 0) → (A → B → Type 0) → (ScriptState A → ScriptState A → Type 0) → (ScriptState B → ScriptState B → Type 0) → Type 0
OfStates Good Rel = Follows (GoodState Good) (RelState Rel)

module _ {A B : Type 0} (Good : A → Type 0) (Rel : A → B → Type 0) (ways : Ways A) (exact : Ways B) (checkpoints : Checkpointing A) (others : Checkpointing B) where
  -- what the one does the other does
  pub record EachFollows : Type 0 where
    pub terms : (session : ℤ) (answer : Result Geometry Refusal) → Follows Good Rel (λ old new. ways.terms session old answer new) (λ x y. exact.terms session x answer y)
    pub call : (event : Event) (outcome : Result Reply Refusal) → Follows Good Rel (λ old new. ways.call event old outcome new) (λ x y. exact.call event x outcome y)
    pub reopen : (outcome : Result Reply Refusal) → Follows Good Rel (λ old new. ways.reopen old outcome new) (λ x y. exact.reopen x outcome y)
    pub compact : (outcome : Result Reply Refusal) → Follows Good Rel (λ old new. ways.compact old outcome new) (λ x y. exact.compact x outcome y)
    pub before : Follows Good Rel checkpoints.before others.before
    pub offers : (a : A) (x : B) → Rel a x → others.offers x ≡ checkpoints.offers a

  module _ (each : EachFollows) where
    -- ---- a line

    writes_read : (session : ℤ) (read : Result Block Refusal) (outcome : Result Reply Refusal) → Follows Good Rel (λ old new. WritesRead ways session read old outcome new) (λ x y. WritesRead exact session read x outcome y)
    writes_read session (Ok block) outcome old new written good = each.call (events.Write session block) outcome old new written good
    writes_read session (Err refusal) outcome old new (is, same) good = stays Good Rel (λ x y. (outcome ≡ Err refusal) × (y ≡ x)) (λ x. (is, refl)) old new same good

    writes_bytes : (session : ℤ) (bytes : List ℕ) (outcome : Result Reply Refusal) → Follows Good Rel (λ old new. WritesBytes ways session bytes old outcome new) (λ x y. WritesBytes exact session bytes x outcome y)
    writes_bytes session bytes outcome old new (terms, read, mid, are, is, written) good =
        let later = writes_read session read outcome mid new written good in
        let first = each.terms session terms old mid are later.0 in
        (first.0, λ x rel. let m = first.1 x rel in let e = later.1 m.0 m.1 in (e.0, e.1, (terms, read, m.0, m.2, is, e.2)))

    then_settles : (session : ℤ) (wrote outcome : Result Reply Refusal) → Follows Good Rel (λ old new. ThenSettles ways session wrote old outcome new) (λ x y. ThenSettles exact session wrote x outcome y)
    then_settles session (Ok reply) outcome old new settled good = each.call (events.Settle session) outcome old new settled good
    then_settles session (Err refusal) outcome old new (is, same) good = stays Good Rel (λ x y. (outcome ≡ Err refusal) × (y ≡ x)) (λ x. (is, refl)) old new same good

    records : (session : ℤ) (bytes : List ℕ) (outcome : Result Reply Refusal) → Follows Good Rel (λ old new. Records ways session bytes old outcome new) (λ x y. Records exact session bytes x outcome y)
    records session bytes outcome old new (wrote, mid, written, settled) good =
        let later = then_settles session wrote outcome mid new settled good in
        let first = writes_bytes session bytes wrote old mid written later.0 in
        (first.0, λ x rel. let m = first.1 x rel in let e = later.1 m.0 m.1 in (e.0, e.1, (wrote, m.0, m.2, e.2)))

    of_archive : (P : A → A → Type 0) (Q : B → B → Type 0) → Follows Good Rel P Q
        → OfStates Good Rel (λ old new. P old.archive new.archive × (new.merge ≡ old.merge)) (λ x y. Q x.archive y.archive × (y.merge ≡ x.merge))
    of_archive P Q follows old new (made, merge) good =
        let done = follows old.archive new.archive made good in (
          done.0,
          λ x rel.
              let e = done.1 x.archive rel.0 in
              let y : ScriptState B = record { archive = e.0; merge = x.merge } in
              (y, (e.1, rel.1 ∙ sym merge), (e.2, refl)),
        )

    of_merge : (Made : Option Merging → Option Merging → Type 0) → OfStates Good Rel (λ old new. Made old.merge new.merge × (new.archive ≡ old.archive)) (λ x y. Made x.merge y.merge × (y.archive ≡ x.archive))
    of_merge Made old new (made, same) good = (
      subst Good same good,
      λ x rel.
          let y : ScriptState B = record { archive = x.archive; merge = new.merge } in
          (y, (subst (λ (a : A). Rel a x.archive) (sym same) rel.0, refl), (subst (λ (m : Option Merging). Made m new.merge) (sym rel.1) made, refl)),
    )

    stays_so : (answer outcome : Result Reply Refusal) → OfStates Good Rel (λ old new. (outcome ≡ answer) × (new ≡ old)) (λ x y. (outcome ≡ answer) × (y ≡ x))
    stays_so answer outcome old new (is, same) good = stays (GoodState Good) (RelState Rel) (λ x y. (outcome ≡ answer) × (y ≡ x)) (λ x. (is, refl)) old new same good

    line_is : (line : Line) (outcome : Result Reply Refusal) → OfStates Good Rel (λ old new. LineIs ways old line outcome new) (λ x y. LineIs exact x line outcome y)
    line_is (lines.Event event) outcome = of_archive (λ old new. ways.call event old outcome new) (λ x y. exact.call event x outcome y) (each.call event outcome)
    line_is (lines.Write session bytes) outcome =
        of_archive (λ old new. WritesBytes ways session bytes old outcome new) (λ x y. WritesBytes exact session bytes x outcome y) (writes_bytes session bytes outcome)
    line_is (lines.Block session bytes) outcome = of_archive (λ old new. Records ways session bytes old outcome new) (λ x y. Records exact session bytes x outcome y) (records session bytes outcome)
    line_is (lines.Follow fields) outcome = stays_so (Err BadLine) outcome
    line_is lines.Reopen outcome = of_archive (λ old new. ways.reopen old outcome new) (λ x y. exact.reopen x outcome y) (each.reopen outcome)
    line_is lines.Compact outcome = of_archive (λ old new. ways.compact old outcome new) (λ x y. exact.compact x outcome y) (each.compact outcome)
    line_is (lines.Merge line) outcome = of_merge (λ old new. MergeEnds old line outcome new)
    line_is lines.Quit outcome = stays_so (Ok Bye) outcome

    read_line_is : (line : Result Line Refusal) (outcome : Result Reply Refusal) → OfStates Good Rel (λ old new. ReadLineIs ways old line outcome new) (λ x y. ReadLineIs exact x line outcome y)
    read_line_is (Ok line) outcome = line_is line outcome
    read_line_is (Err refusal) outcome = stays_so (Err refusal) outcome

    is_answer : (takes : Bool) (line : Result Line Refusal) (outcome : Result Reply Refusal) → OfStates Good Rel (λ old new. IsAnswer ways takes old line outcome new) (λ x y. IsAnswer exact takes x line outcome y)
    is_answer takes line outcome old new (inl is) good =
        let done = read_line_is line outcome old new is good in
        (done.0, λ x rel. let e = done.1 x rel in (e.0, e.1, inl e.2))
    is_answer takes line outcome old new (inr (takes_it, want, same)) good =
        stays (GoodState Good) (RelState Rel) (λ x y. IsAnswer exact takes x line outcome y) (λ x. inr (takes_it, want, refl)) old new same good

    -- ---- lines one after another

    replies : (line : Option (List ℕ)) (text : List ℕ) → OfStates Good Rel (λ old new. Replies ways checkpoints old line text new) (λ x y. Replies exact others x line text y)
    replies line text old new (mid, prepared, (outcome, answer, is)) good =
        let later = is_answer (asked_copies line) (asked (checkpoints.offers mid.archive) line) outcome mid new answer good in
        let first = of_archive checkpoints.before others.before each.before old mid prepared later.0 in (
          first.0,
          λ x rel.
              let m = first.1 x rel in
              let e = later.1 m.0 m.1 in
              let asks = each.offers mid.archive m.0.archive m.1.0 in
              (e.0, e.1, (m.0, m.2, (outcome, subst (λ (o : Bool). IsAnswer exact (asked_copies line) m.0 (asked o line) outcome e.0) (sym asks) e.2, is))),
        )

    pub lines_as : (lines : List (List ℕ)) (text : List ℕ) → OfStates Good Rel (λ first last. AnswersLines ways checkpoints first last lines text) (λ x y. AnswersLines exact others x y lines text)
    lines_as lines text = all_as (GoodState Good) (RelState Rel) (Replies ways checkpoints) (Replies exact others) replies quits lines text

    pub first_lines_as : (lines : List (List ℕ)) (text : List ℕ) → OfStates Good Rel (λ first last. AnswersFirstLines ways checkpoints first last lines text) (λ x y. AnswersFirstLines exact others x y lines text)
    first_lines_as lines text = some_as (GoodState Good) (RelState Rel) (Replies ways checkpoints) (Replies exact others) replies quits lines text
