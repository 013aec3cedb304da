-- How far a script is: which lines of its input are answered by the text that the writer gained.
use Rattle.std.proofs.Common.{◌≡◌, ℕ, Bool, true, false, List, [], ◌∷◌, ◌++◌, length, take, drop, Option, Some, None, refl, sym, ap, subst, ◌∙◌, inl, inr, append_assoc}
use Rattle.std.proofs.lemmas.List.{append-nil}
use Rattle.std.specs.Io.KnownBytes.{Appends, Keeps, IsAtEnd}
use Rattle.std.proofs.KnownBytes.{Appends-nil, Appends-trans, Appends-kept}
use Rattle.std.specs.Prelude.{IfSome}
use Rattle.tool_core.specs.InputLines.{lines_of, kept, NextLine}
use Rattle.tool_core.specs.Transcript.{Transcript, until_quit, AnswersAll, AnswersSome, LeftNear, WritesText}

-- ---- lines up to the one that quits

-- none of the lines quits
abbrev pub NoneQuits : (Option (List ℕ) → Bool) → List (List ℕ) → Type 0
NoneQuits quits [] = Unit {0}
NoneQuits quits (line ∷ lines) = (quits (kept line) ≡ false) × NoneQuits quits lines

none_quits-more : (quits : Option (List ℕ) → Bool) (lines : List (List ℕ)) (line : List ℕ) → NoneQuits quits lines → quits (kept line) ≡ false → NoneQuits quits (lines ++ line ∷ [])
none_quits-more quits [] line none one = (one, tt)
none_quits-more quits (first ∷ lines) line none one = (none.0, none_quits-more quits lines line none.1 one)

-- where none of the first lines quits, they are all answered
until-append : (quits : Option (List ℕ) → Bool) (lines more : List (List ℕ)) → NoneQuits quits lines → until_quit quits (lines ++ more) ≡ lines ++ until_quit quits more
until-append quits [] more none = refl
until-append quits (line ∷ lines) more none = rw none.0 (ap (λ ls. line ∷ ls) (until-append quits lines more none.1))

-- the line that quits is the last
until-last : (quits : Option (List ℕ) → Bool) (lines more : List (List ℕ)) (line : List ℕ) → NoneQuits quits lines → quits (kept line) ≡ true → until_quit quits (lines ++ line ∷ more) ≡ lines ++ line ∷ []
until-last quits lines more line none quit = until-append quits lines (line ∷ more) none ∙ ap (λ ls. lines ++ ls) (rw quit refl)

-- the first lines are what they are, and so are the others
take-front : (lines more : List (List ℕ)) → take (length lines) (lines ++ more) ≡ lines
take-front [] more = refl
take-front (line ∷ lines) more = ap (λ ls. line ∷ ls) (take-front lines more)

drop-front : (lines more : List (List ℕ)) → drop (length lines) (lines ++ more) ≡ more
drop-front [] more = refl
drop-front (line ∷ lines) more = drop-front lines more

-- ---- one line more

module _ {S : Type 0} (Answers : S → Option (List ℕ) → List ℕ → S → Type 0) where
  transcript-more : (old : S) (lines : List (List ℕ)) (text : List ℕ) (mid : S) (line reply : List ℕ) (new : S) → Transcript Answers old lines text mid → Answers mid (kept line) reply new → Transcript Answers old (lines ++ line ∷ []) (text ++ reply) new
  transcript-more old [] text mid line reply new done more =
      let here : Answers old (kept line) reply new = subst (λ s. Answers s (kept line) reply new) done.1 more in
      (reply, new, [], here, ap (λ t. t ++ reply) done.0 ∙ sym (append-nil reply), (refl, refl))
  transcript-more old (first ∷ lines) text mid line reply new done more =
      let rest = transcript-more done.1 lines done.2 mid line reply new done.5 more in
      (done.0, done.1, done.2 ++ reply, done.3, ap (λ t. t ++ reply) done.4 ∙ append_assoc done.0 done.2 reply, rest)

module _ {S : Type 0} (start : S) (quits : Option (List ℕ) → Bool) (Answers : S → Option (List ℕ) → List ℕ → S → Type 0) where
  -- these lines of the bytes before are answered, and these bytes are left
  pub record HasAnswered (before now text : List ℕ) (state : S) : Type 0 where
    pub done : List (List ℕ)
    pub all : lines_of before ≡ done ++ lines_of now
    pub none : NoneQuits quits done
    pub answered : Transcript Answers start done text state

  -- the same, where the bytes are known
  abbrev pub SoFar : Option (List ℕ) → Option (List ℕ) → List ℕ → S → Type 0
  SoFar None now text state = Unit {0}
  SoFar (Some before) None text state = ⊥
  SoFar (Some before) (Some now) text state = HasAnswered before now text state

  -- how far a script is
  pub record Progress (before now contents written : Option (List ℕ)) (state : S) : Type 0 where
    pub text : List ℕ
    pub appended : Appends contents written text
    pub so_far : SoFar before now text state

  start_so_far : (before : Option (List ℕ)) → SoFar before before [] start
  start_so_far None = tt
  start_so_far (Some bytes) = record { done = []; all = refl; none = tt; answered = (refl, refl) }

  -- nothing is read and nothing answered
  pub progress-start : (before contents : Option (List ℕ)) → Progress before before contents contents start
  progress-start before contents = record { text = []; appended = Appends-nil contents; so_far = start_so_far before }

  more_so_far : (before now later : Option (List ℕ)) (text line reply : List ℕ) (state new : S) → SoFar before now text state → NextLine now later line → Answers state (kept line) reply new → quits (kept line) ≡ false → SoFar before later (text ++ reply) new
  more_so_far None now later text line reply state new so_far next answers goes_on = tt
  more_so_far (Some before) None later text line reply state new so_far next answers goes_on = absurd so_far
  more_so_far (Some before) (Some now) None text line reply state new so_far next answers goes_on = absurd next
  more_so_far (Some before) (Some now) (Some later) text line reply state new so_far next answers goes_on =
      record {
        done = so_far.done ++ line ∷ [];
        all = so_far.all ∙ ap (λ ls. so_far.done ++ ls) next ∙ sym (append_assoc so_far.done (line ∷ []) (lines_of later));
        none = none_quits-more quits so_far.done line so_far.none goes_on;
        answered = transcript-more Answers start so_far.done text state line reply new so_far.answered answers;
      }

  -- one more line is answered
  pub progress-more : (before now later contents written then : Option (List ℕ)) (line reply : List ℕ) (state new : S) → Progress before now contents written state → NextLine now later line → Appends written then reply → Answers state (kept line) reply new → quits (kept line) ≡ false → Progress before later contents then new
  progress-more before now later contents written then line reply state new progress next appended answers goes_on =
      record {
        text = progress.text ++ reply;
        appended = Appends-trans contents written then progress.text reply progress.appended appended;
        so_far = more_so_far before now later progress.text line reply state new progress.so_far next answers goes_on;
      }

  -- the writer stays as it was
  pub progress-kept : (before now contents written then : Option (List ℕ)) (state : S) → Progress before now contents written state → Keeps written then → Progress before now contents then state
  progress-kept before now contents written then state progress keeps =
      record { text = progress.text; appended = Appends-kept contents written then progress.text progress.appended keeps; so_far = progress.so_far }

  module _ (Left : S → Type 0) where
    abbrev pub All : List (List ℕ) → List ℕ → Type 0
    All = AnswersAll start Left quits Answers

    abbrev pub First : List (List ℕ) → List ℕ → Type 0
    First = AnswersSome start Left quits Answers

    last_all : (before now later : Option (List ℕ)) (text line reply : List ℕ) (state new : S) → SoFar before now text state → NextLine now later line → Answers state (kept line) reply new → quits (kept line) ≡ true → Left new → IfSome before (λ bytes. All (lines_of bytes) (text ++ reply))
    last_all None now later text line reply state new so_far next answers quit left = tt
    last_all (Some before) None later text line reply state new so_far next answers quit left = absurd so_far
    last_all (Some before) (Some now) None text line reply state new so_far next answers quit left = absurd next
    last_all (Some before) (Some now) (Some later) text line reply state new so_far next answers quit left =
        let lines : until_quit quits (lines_of before) ≡ so_far.done ++ line ∷ [] = ap (until_quit quits) (so_far.all ∙ ap (λ ls. so_far.done ++ ls) next) ∙ until-last quits so_far.done (lines_of later) line so_far.none quit in
        (new, subst (λ ls. Transcript Answers start ls (text ++ reply) new) (sym lines) (transcript-more Answers start so_far.done text state line reply new so_far.answered answers), left)

    -- the line that quits is answered
    pub progress-last : (before now later contents written then : Option (List ℕ)) (line reply : List ℕ) (state new : S) → Progress before now contents written state → NextLine now later line → Appends written then reply → Answers state (kept line) reply new → quits (kept line) ≡ true → Left new → WritesText before contents then All
    progress-last before now later contents written then line reply state new progress next appended answers quit left =
        record {
          text = progress.text ++ reply;
          appended = Appends-trans contents written then progress.text reply progress.appended appended;
          right = last_all before now later progress.text line reply state new progress.so_far next answers quit left;
        }

    end_all : (before now : Option (List ℕ)) (text : List ℕ) (state : S) → SoFar before now text state → IsAtEnd now → Left state → IfSome before (λ bytes. All (lines_of bytes) text)
    end_all None now text state so_far end left = tt
    end_all (Some before) None text state so_far end left = absurd so_far
    end_all (Some before) (Some now) text state so_far end left =
        let lines : until_quit quits (lines_of before) ≡ so_far.done =
        ap (until_quit quits) (so_far.all ∙ ap (λ bytes. so_far.done ++ lines_of bytes) end) ∙ until-append quits so_far.done [] so_far.none ∙ append-nil so_far.done in
        (state, subst (λ ls. Transcript Answers start ls text state) (sym lines) so_far.answered, left)

    -- the input is at its end
    pub progress-end : (before now contents written : Option (List ℕ)) (state : S) → Progress before now contents written state → IsAtEnd now → Left state → WritesText before contents written All
    progress-end before now contents written state progress end left =
        record { text = progress.text; appended = progress.appended; right = end_all before now progress.text state progress.so_far end left }

    -- what is left is the state, or the one after the next line that is to be read
    abbrev pub Near : Option (List ℕ) → S → Type 0
    Near now state = IfSome now (λ bytes. LeftNear start Left quits Answers state (until_quit quits (lines_of bytes)))

    left_near : (state : S) (lines : List (List ℕ)) → Left state → LeftNear start Left quits Answers state lines
    left_near state [] left = left
    left_near state (line ∷ lines) left = inl left

    pub near-here : (now : Option (List ℕ)) (state : S) → Left state → Near now state
    near-here None state left = tt
    near-here (Some now) state left = left_near state (until_quit quits (lines_of now)) left

    pub near-next : (now later : Option (List ℕ)) (line reply : List ℕ) (state new : S) → NextLine now later line → Answers state (kept line) reply new → Left new → Near now state
    near-next None later line reply state new next answers left = tt
    near-next (Some now) None line reply state new next answers left = absurd next
    near-next (Some now) (Some later) line reply state new next answers left =
        subst (λ ls. LeftNear start Left quits Answers state (until_quit quits ls)) (sym next) (inr (reply, new, answers, left))

    some_first : (before now : Option (List ℕ)) (text : List ℕ) (state : S) → SoFar before now text state → Near now state → IfSome before (λ bytes. First (lines_of bytes) text)
    some_first None now text state so_far near = tt
    some_first (Some before) None text state so_far near = absurd so_far
    some_first (Some before) (Some now) text state so_far near =
        let lines : until_quit quits (lines_of before) ≡ so_far.done ++ until_quit quits (lines_of now) = ap (until_quit quits) so_far.all ∙ until-append quits so_far.done (lines_of now) so_far.none in
        let front : take (length so_far.done) (until_quit quits (lines_of before)) ≡ so_far.done = ap (take (length so_far.done)) lines ∙ take-front so_far.done (until_quit quits (lines_of now)) in
        let behind : drop (length so_far.done) (until_quit quits (lines_of before)) ≡ until_quit quits (lines_of now) = ap (drop (length so_far.done)) lines ∙ drop-front so_far.done (until_quit quits (lines_of now)) in (
          length so_far.done,
          state,
          subst (λ ls. Transcript Answers start ls text state) (sym front) so_far.answered,
          subst (λ ls. LeftNear start Left quits Answers state ls) (sym behind) near,
        )

    -- the script ends early
    pub progress-early : (before now contents written : Option (List ℕ)) (state : S) → Progress before now contents written state → Near now state → WritesText before contents written First
    progress-early before now contents written state progress near =
        record { text = progress.text; appended = progress.appended; right = some_first before now progress.text state progress.so_far near }

    -- whatever was written
    pub progress-cut : (before now contents written : Option (List ℕ)) (state : S) → Progress before now contents written state → Near now state → IfSome before (λ bytes. (text : List ℕ) × First (lines_of bytes) text)
    progress-cut None now contents written state progress near = tt
    progress-cut (Some before) now contents written state progress near = (progress.text, some_first (Some before) now progress.text state progress.so_far near)
