-- Recordings verified one after another, and what is written of the answers.
use Rattle.std.proofs.Common.{◌≡◌, ◌∙◌, ◌≤◌, ◌+◌, ◌<◌, ◌++◌, refl, sym, ap, ap₂, subst, inl, inr, ℕ, suc, ℤ, Bool, true, false, List, [], ◌∷◌, length, take, get_or, Option, arith}
use Rattle.std.proofs.lemmas.List.{append-nil, length-take-le, take_all, take_more}
use Rattle.std.proofs.lemmas.List.Concat.{flat_map-append}
use Rattle.std.proofs.lemmas.List.Folds.{list_all-append}
use Rattle.std.proofs.KnownBytes.{Appends-nil, Appends-trans, Appends-kept}
use Rattle.std.specs.Io.KnownBytes.{Appends}
use Rattle.std.specs.List.{list_all}
use Rattle.std.specs.Prelude.{Result, Ok, Err, is_ok, ◌&&◌, if◌then◌else◌, pos}
use Rattle.frame_core.specs.declared.refusal.Refusal.{Refusal}
use Rattle.archive_model.specs.declared.reply.Reply.{Reply}
use Rattle.tool_core.specs.declared.fault.EarlyEnd.{EarlyEnd}
use Rattle.tool_core.specs.declared.fault.EarlyEnd.TheVariants as ends
use Rattle.archive_commands.specs.declared.reports.Verdict.{Verdict}
use Rattle.archive_commands.specs.declared.reports.Verdict.TheVariants.{Whole, Refused}
use Rattle.archive_commands.specs.Reports.{HasReported, HasReportedFirst, HasReportedOne, InTurn, InTurnAndOne, IsWrittenBefore, Verification, outcomes_text}
use Rattle.tool_core.specs.Answering.{FailsToAnswer, outcome_text}

and-true : (b : Bool) → (b && true) ≡ b
and-true true = refl
and-true false = refl

module _ {A : Type 0} (one : Verification A) where
  -- there are as many answers as recordings
  total : (old new : A) (ids : List ℤ) (outcomes : List (Result Reply Refusal)) → InTurn one old new ids outcomes → length outcomes ≡ length ids
  total old new [] [] turn = refl
  total old new (id ∷ ids) (o ∷ os) (mid, first, turn) = ap suc (total mid new ids os turn)
  total old new [] (o ∷ os) turn = absurd turn
  total old new (id ∷ ids) [] turn = absurd turn

  -- one more
  more : (old mid new : A) (ids : List ℤ) (outcomes : List (Result Reply Refusal)) (id : ℤ) (outcome : Result Reply Refusal) → InTurn one old mid ids outcomes → one mid id outcome new
      → InTurn one old new (ids ++ id ∷ []) (outcomes ++ outcome ∷ [])
  more old mid new [] [] id outcome is last = (new, subst (λ (a : A). one a id outcome new) is last, refl)
  more old mid new (i ∷ ids) (o ∷ os) id outcome (next, first, turn) last = (next, first, more next mid new ids os id outcome turn last)
  more old mid new [] (o ∷ os) id outcome turn last = absurd turn
  more old mid new (i ∷ ids) [] id outcome turn last = absurd turn

  -- ---- the loop

  -- the first so many recordings were verified, and the answers are written
  pub record HasCome (old now : A) (ids : List ℤ) (count : ℕ) (contents written : Option (List ℕ)) (is_whole : Bool) : Type 0 where
    pub outcomes : List (Result Reply Refusal)
    pub answers : InTurn one old now (take count ids) outcomes
    pub told : Appends contents written (outcomes_text outcomes)
    pub judged : is_whole ≡ list_all is_ok outcomes

  pub begun : (archive : A) (ids : List ℤ) (contents : Option (List ℕ)) → HasCome archive archive ids 0 contents contents true
  begun archive ids contents = record { outcomes = []; answers = refl; told = Appends-nil contents; judged = refl }

  pub next : (old mid new : A) (ids : List ℤ) (count : ℕ) (id : ℤ) (contents written final : Option (List ℕ)) (is_whole is_verified : Bool) → count < length ids → id ≡ get_or ids count (pos 0)
      → HasCome old mid ids count contents written is_whole → HasReportedOne one mid new id written final (Ok is_verified)
      → HasCome old new ids (count + 1) contents final (is_whole && is_verified)
  next old mid new ids count id contents written final is_whole is_verified lt is come last = record {
    outcomes = come.outcomes ++ last.outcome ∷ [];
    answers = subst (λ l. InTurn one old new l (come.outcomes ++ last.outcome ∷ [])) taken (more old mid new (take count ids) come.outcomes id last.outcome come.answers last.answer);
    told = subst (λ text. Appends contents final text) text (Appends-trans contents written final (outcomes_text come.outcomes) (outcome_text last.outcome) come.told last.told.0);
    judged = judged;
  }
    where
      taken : take count ids ++ id ∷ [] ≡ take (count + 1) ids
      taken = ap (λ (i : ℤ). take count ids ++ i ∷ []) is ∙ sym (take_more ids count (pos 0) lt)

      text : outcomes_text come.outcomes ++ outcome_text last.outcome ≡ outcomes_text (come.outcomes ++ last.outcome ∷ [])
      text = ap (λ l. outcomes_text come.outcomes ++ l) (sym (append-nil (outcome_text last.outcome))) ∙ sym (flat_map-append outcome_text come.outcomes (last.outcome ∷ []))

      judged : (is_whole && is_verified) ≡ list_all is_ok (come.outcomes ++ last.outcome ∷ [])
      judged = ap₂ (λ (a b : Bool). a && b) come.judged (last.told.1 ∙ sym (and-true (is_ok last.outcome))) ∙ sym (list_all-append is_ok come.outcomes (last.outcome ∷ []))

  -- all are verified
  pub at_end : (old new : A) (wanted ids : List ℤ) (count : ℕ) (contents written : Option (List ℕ)) (is_whole : Bool) (verdict : Verdict) → ids ≡ wanted → length ids ≤ count
      → HasCome old new ids count contents written is_whole → verdict ≡ (if is_whole then Whole else Refused) → HasReported (InTurn one) wanted old new contents written verdict
  at_end old new wanted ids count contents written is_whole verdict are all come judged = record {
    outcomes = come.outcomes;
    answers = subst (λ l. InTurn one old new l come.outcomes) (take_all count ids all ∙ are) come.answers;
    told = come.told;
    judged = judged ∙ ap (λ (b : Bool). if b then Whole else Refused) come.judged;
  }

  -- the answer to one was not written
  pub at_fault : (old mid new : A) (wanted ids : List ℤ) (count : ℕ) (id : ℤ) (contents written final : Option (List ℕ)) (is_whole : Bool) (end : EarlyEnd) → ids ≡ wanted → count < length ids
      → HasCome old mid ids count contents written is_whole → HasReportedOne one mid new id written final (Err end) → HasReportedFirst (InTurnAndOne one) wanted old new contents final end
  at_fault old mid new wanted ids count id contents written final is_whole end are lt come last = record {
    outcomes = come.outcomes;
    answers = (mid, subst (λ l. InTurn one old mid l come.outcomes) same come.answers, inr (id, last.outcome, last.answer));
    told = by end last.told;
  }
    where
      same : take count ids ≡ take (length come.outcomes) wanted
      same = ap (λ (n : ℕ). take n ids) (sym (total old mid (take count ids) come.outcomes come.answers ∙ length-take-le count ids (omega (arith, lt)))) ∙ ap (take (length come.outcomes)) are

      by : (end : EarlyEnd) → FailsToAnswer end written final → IsWrittenBefore end contents final (outcomes_text come.outcomes)
      by ends.Read told = absurd told
      by ends.Memory told = Appends-kept contents written final (outcomes_text come.outcomes) come.told told
      by ends.Write told = tt

  -- there is no list of ids
  pub at_start : (archive : A) (ids : List ℤ) (contents : Option (List ℕ)) → HasReportedFirst (InTurnAndOne one) ids archive archive contents contents ends.Memory
  at_start archive ids contents = record { outcomes = []; answers = (archive, refl, inl refl); told = Appends-nil contents }

  -- what is written of one answer
  pub told_one : (old new : A) (id : ℤ) (contents written : Option (List ℕ)) (outcome : Result Reply Refusal) → one old id outcome new → Appends contents written (outcome_text outcome)
      → (is_verified : Bool) → is_verified ≡ is_ok outcome → HasReportedOne one old new id contents written (Ok is_verified)
  told_one old new id contents written outcome answer told is_verified is = record { outcome = outcome; answer = answer; told = (told, is) }

  pub untold_one : (old new : A) (id : ℤ) (contents written : Option (List ℕ)) (outcome : Result Reply Refusal) (end : EarlyEnd) → one old id outcome new → FailsToAnswer end contents written
      → HasReportedOne one old new id contents written (Err end)
  untold_one old new id contents written outcome end answer fails = record { outcome = outcome; answer = answer; told = fails }
